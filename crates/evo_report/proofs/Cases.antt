-- Each rule broken, and its nearest neighbour that is permitted. The lines were worked out by hand.
use Rattle.std.proofs.Common.{◌≡◌, Bool, true, false, List, [], ◌∷◌, ◌++◌, Option, Some, None, codes, refl}
use Rattle.evo_tree.specs.declared.declaration.AttrKind.TheVariants as attr
use Rattle.evo_tree.specs.declared.declaration.ModifierKind.TheVariants as modifier
use Rattle.evo_tree.specs.declared.declaration.NominalKind.{NominalKind}
use Rattle.evo_tree.specs.declared.declaration.NominalKind.TheVariants as nominal
use Rattle.evo_resolved.specs.declared.resolved_type.RType.TheVariants as ty
use Rattle.evo_resolved.specs.declared.declaration.RDecl.{RDecl}
use Rattle.evo_resolved.specs.declared.declaration.RDeclKind.TheVariants as kind
use Rattle.evo_resolved.specs.declared.declaration.RRequirement.TheVariants as requirement
use Rattle.evo_resolved.specs.declared.declaration.Standing.{Standing}
use Rattle.evo_resolved.specs.declared.declaration.Standing.TheVariants as standing
use Rattle.evo_tree.specs.declared.declaration.Modifier.{Modifier}
use Rattle.evo_resolved.specs.declared.module.RDefault.{RDefault}
use Rattle.evo_resolved.specs.declared.module.RModule.{RModule}
use Rattle.evo_code.specs.Symbols.{Text}
use Rattle.evo_meaning.specs.Keys.{same_key, look_up}
use Rattle.evo_breaks.specs.Found as f
use Rattle.evo_breaks.specs.Conditions as c
use Rattle.evo_breaks.specs.Rules as r
use Rattle.evo_report.specs.Report.{line, report_text}
use Rattle.evo_report.proofs.Samples.{lib, key, top, top_function, inside, method, demand, int_key, int, bool, written, to, word, at, public, since, decl, function, plain, stored, computed, value, interface, simple, table, conforms}

unfoldable pub compared : RModule → RModule → Text
compared old new = report_text old.name new.name (r.broken_rules old new)

-- what an example opens
unfoldable pub rules : Text
unfolding compared line same_key look_up f.declared f.conformance_in f.declared_as f.is_gone c.components c.same_components c.is_layout_changed c.is_above c.is_ancestor c.is_closed c.is_overriding_changed c.is_broken r.first_rules r.last_rules r.has_namesake r.asks_more r.demands r.associations r.protocol_breaks r.side_round r.compared r.compared_by_kind r.compared_to r.is_tried r.declaration_breaks r.conformance_breaks r.header_breaks r.breaks_of r.broken_rules
rules = []

-- ---- removed

abbrev f_public : RDecl
f_public = decl (top_function (codes "f") []) standing.TopLevel [] public plain

e1 : compared (simple (f_public ∷ [])) (simple []) ≡ codes "E1 old Lib.f() new Lib: declaration removed\n"
unfolding rules
e1 = refl

e1_added : compared (simple []) (simple (f_public ∷ [])) ≡ []
unfolding rules
e1_added = refl

abbrev type : NominalKind → Text → RDecl
type k n = decl (top n) standing.TopLevel [] public (kind.Nominal k None [])

abbrev in_struct : Text → Standing
in_struct n = standing.Braces nominal.Struct (top n)

-- a member of an extension, named by its label; its side is the struct
e1_member : compared (simple (type nominal.Struct (codes "S") ∷ decl (method (codes "S") (codes "f") (codes "by" ∷ [])) (standing.Extension nominal.Struct (top (codes "S"))) [] public (function [] [] (int ∷ []) None) ∷ [])) (simple (type nominal.Struct (codes "S") ∷ [])) ≡ codes "E1 old Lib.S.f(by:) new Lib.S: declaration removed\n"
unfolding rules
e1_member = refl

-- of a type of another module; its side is the module
e1_foreign : compared (simple (decl (key lib (codes "Swift" ∷ codes "Int" ∷ []) (codes "f") (Some []) []) (standing.Extension nominal.Struct int_key) [] public plain ∷ [])) (simple []) ≡ codes "E1 old Lib:Swift.Int.f() new Lib: declaration removed\n"
unfolding rules
e1_foreign = refl

-- members of a type that is gone are not tried
e1_type : compared (simple (type nominal.Struct (codes "S") ∷ decl (method (codes "S") (codes "f") []) (in_struct (codes "S")) [] public plain ∷ [])) (simple []) ≡ codes "E1 old Lib.S new Lib: declaration removed\n"
unfolding rules
e1_type = refl

-- from the braces to an extension
e1_moved : compared (simple (type nominal.Struct (codes "S") ∷ decl (method (codes "S") (codes "f") []) (in_struct (codes "S")) [] public plain ∷ [])) (simple (type nominal.Struct (codes "S") ∷ decl (method (codes "S") (codes "f") []) (standing.Extension nominal.Struct (top (codes "S"))) [] public plain ∷ [])) ≡ []
unfolding rules
e1_moved = refl

-- ---- kinds and access

e2 : compared (simple (type nominal.Struct (codes "S") ∷ decl (method (codes "S") (codes "f") []) (in_struct (codes "S")) [] public plain ∷ [])) (simple (type nominal.Enum (codes "S") ∷ [])) ≡ codes "E2 old Lib.S new Lib.S: kind changed\n"
unfolding rules
e2 = refl

abbrev open_class : Text → RDecl
open_class n = decl (top n) standing.TopLevel [] (word modifier.Open ∷ []) (kind.Nominal nominal.Class None [])

e3 : compared (simple (open_class (codes "C") ∷ [])) (simple (type nominal.Class (codes "C") ∷ [])) ≡ codes "E3 old Lib.C new Lib.C: access lowered\n"
unfolding rules
e3 = refl

e3_raised : compared (simple (type nominal.Class (codes "C") ∷ [])) (simple (open_class (codes "C") ∷ [])) ≡ []
unfolding rules
e3_raised = refl

e3_usable : compared (simple (f_public ∷ [])) (simple (decl (top_function (codes "f") []) standing.TopLevel (at attr.UsableFromInline ∷ []) (word modifier.Internal ∷ []) plain ∷ [])) ≡ codes "E3 old Lib.f() new Lib.f(): access lowered\n"
unfolding rules
e3_usable = refl

e3_published : compared (simple (decl (top_function (codes "f") []) standing.TopLevel (at attr.UsableFromInline ∷ []) (word modifier.Internal ∷ []) plain ∷ [])) (simple (f_public ∷ [])) ≡ []
unfolding rules
e3_published = refl

-- ---- signatures

e4 : compared (simple (decl (top_function (codes "f") (codes "a" ∷ [])) standing.TopLevel [] public (function [] [] (int ∷ []) None) ∷ [])) (simple (decl (top_function (codes "f") (codes "a" ∷ [])) standing.TopLevel [] public (function [] [] (bool ∷ []) None) ∷ [])) ≡ codes "E4 old Lib.f(a:) new Lib.f(a:): signature changed\n"
unfolding rules
e4 = refl

e4_result : compared (simple (decl (top_function (codes "f") []) standing.TopLevel [] public (function [] [] [] (Some int)) ∷ [])) (simple (f_public ∷ [])) ≡ codes "E4 old Lib.f() new Lib.f(): signature changed\n"
unfolding rules
e4_result = refl

e4_static : compared (simple (type nominal.Struct (codes "S") ∷ decl (method (codes "S") (codes "f") []) (in_struct (codes "S")) [] public plain ∷ [])) (simple (type nominal.Struct (codes "S") ∷ decl (method (codes "S") (codes "f") []) (in_struct (codes "S")) [] (word modifier.Public ∷ word modifier.Static ∷ []) plain ∷ [])) ≡ codes "E4 old Lib.S.f() new Lib.S.f(): signature changed\n"
unfolding rules
e4_static = refl

abbrev protocol : Text → RDecl
protocol n = type nominal.Protocol n

-- a requirement of a generic parameter is gone; another name of the parameter is permitted
e4_requirement : compared (simple (protocol (codes "P") ∷ decl (top_function (codes "f") (codes "_" ∷ [])) standing.TopLevel [] public (function (codes "T" ∷ []) (requirement.Conforms (written (ty.Param 0)) (to (top (codes "P"))) ∷ []) (written (ty.Param 0) ∷ []) None) ∷ [])) (simple (protocol (codes "P") ∷ decl (top_function (codes "f") (codes "_" ∷ [])) standing.TopLevel [] public (function (codes "T" ∷ []) [] (written (ty.Param 0) ∷ []) None) ∷ [])) ≡ codes "E4 old Lib.f(_:) new Lib.f(_:): signature changed\n"
unfolding rules
e4_requirement = refl

e4_renamed : compared (simple (protocol (codes "P") ∷ decl (top_function (codes "f") (codes "_" ∷ [])) standing.TopLevel [] public (function (codes "T" ∷ []) (requirement.Conforms (written (ty.Param 0)) (to (top (codes "P"))) ∷ []) (written (ty.Param 0) ∷ []) None) ∷ [])) (simple (protocol (codes "P") ∷ decl (top_function (codes "f") (codes "_" ∷ [])) standing.TopLevel [] public (function (codes "U" ∷ []) (requirement.Conforms (written (ty.Param 0)) (to (top (codes "P"))) ∷ []) (written (ty.Param 0) ∷ []) None) ∷ [])) ≡ []
unfolding rules
e4_renamed = refl

-- ---- properties

abbrev of_s : RDecl → List RDecl
of_s d = type nominal.Struct (codes "S") ∷ d ∷ []

abbrev x_as : List RDecl
x_as = of_s (decl (inside (codes "S") (codes "x")) (in_struct (codes "S")) [] public (computed int true))

e5 : compared (simple x_as) (simple (of_s (decl (inside (codes "S") (codes "x")) (in_struct (codes "S")) [] public (computed bool true)))) ≡ codes "E5 old Lib.S.x new Lib.S.x: property changed\n"
unfolding rules
e5 = refl

e5_setter : compared (simple x_as) (simple (of_s (decl (inside (codes "S") (codes "x")) (in_struct (codes "S")) [] public (computed int false)))) ≡ codes "E5 old Lib.S.x new Lib.S.x: property changed\n"
unfolding rules
e5_setter = refl

e5_settable : compared (simple (of_s (decl (inside (codes "S") (codes "x")) (in_struct (codes "S")) [] public (computed int false)))) (simple x_as) ≡ []
unfolding rules
e5_settable = refl

-- ---- frozen types

abbrev frozen : NominalKind → Text → RDecl
frozen k n = decl (top n) standing.TopLevel (at attr.Frozen ∷ []) public (kind.Nominal k None [])

abbrev field : Text → RDecl
field n = decl (inside (codes "S") n) (in_struct (codes "S")) [] (word modifier.Private ∷ []) (stored int)

abbrev case : Text → List (Option Text) → RDecl
case n [] = decl (inside (codes "E") n) (standing.Braces nominal.Enum (top (codes "E"))) [] [] (kind.Case [])
case n (l ∷ ls) = decl (inside (codes "E") n) (standing.Braces nominal.Enum (top (codes "E"))) [] [] (kind.Case (value l int ∷ []))

e6 : compared (simple (frozen nominal.Struct (codes "S") ∷ [])) (simple (type nominal.Struct (codes "S") ∷ [])) ≡ codes "E6 old Lib.S new Lib.S: frozen changed\n"
unfolding rules
e6 = refl

-- an enum that is frozen, and loses a case: both are told
e6_e9 : compared (simple (type nominal.Enum (codes "E") ∷ case (codes "a") [] ∷ case (codes "b") [] ∷ [])) (simple (frozen nominal.Enum (codes "E") ∷ case (codes "a") [] ∷ [])) ≡ codes "E6 old Lib.E new Lib.E: frozen changed\nE9 old Lib.E.b new Lib.E: case removed or changed\n"
unfolding rules
e6_e9 = refl

e7 : compared (simple (frozen nominal.Struct (codes "S") ∷ field (codes "a") ∷ [])) (simple (frozen nominal.Struct (codes "S") ∷ field (codes "b") ∷ [])) ≡ codes "E7 old Lib.S new Lib.S: frozen storage changed\n"
unfolding rules
e7 = refl

e7_order : compared (simple (frozen nominal.Struct (codes "S") ∷ field (codes "a") ∷ field (codes "b") ∷ [])) (simple (frozen nominal.Struct (codes "S") ∷ field (codes "b") ∷ field (codes "a") ∷ [])) ≡ codes "E7 old Lib.S new Lib.S: frozen storage changed\n"
unfolding rules
e7_order = refl

-- a function between the stored properties changes no storage
e7_between : compared (simple (frozen nominal.Struct (codes "S") ∷ field (codes "a") ∷ field (codes "b") ∷ [])) (simple (frozen nominal.Struct (codes "S") ∷ field (codes "a") ∷ decl (method (codes "S") (codes "f") []) (in_struct (codes "S")) [] public plain ∷ field (codes "b") ∷ [])) ≡ []
unfolding rules
e7_between = refl

-- a field is added to a struct that is not frozen
e7_resilient : compared (simple (of_s (field (codes "a")))) (simple (type nominal.Struct (codes "S") ∷ field (codes "a") ∷ field (codes "b") ∷ [])) ≡ []
unfolding rules
e7_resilient = refl

e8 : compared (simple (frozen nominal.Enum (codes "E") ∷ case (codes "a") [] ∷ case (codes "b") [] ∷ [])) (simple (frozen nominal.Enum (codes "E") ∷ case (codes "b") [] ∷ case (codes "a") [] ∷ [])) ≡ codes "E8 old Lib.E new Lib.E: frozen cases changed\n"
unfolding rules
e8 = refl

e8_label : compared (simple (frozen nominal.Enum (codes "E") ∷ case (codes "a") (Some (codes "x") ∷ []) ∷ [])) (simple (frozen nominal.Enum (codes "E") ∷ case (codes "a") (None ∷ []) ∷ [])) ≡ codes "E8 old Lib.E new Lib.E: frozen cases changed\n"
unfolding rules
e8_label = refl

e9 : compared (simple (type nominal.Enum (codes "E") ∷ case (codes "a") (Some (codes "x") ∷ []) ∷ case (codes "b") [] ∷ [])) (simple (type nominal.Enum (codes "E") ∷ case (codes "a") (None ∷ []) ∷ [])) ≡ codes "E9 old Lib.E.a new Lib.E.a: case removed or changed\nE9 old Lib.E.b new Lib.E: case removed or changed\n"
unfolding rules
e9 = refl

e9_order : compared (simple (type nominal.Enum (codes "E") ∷ case (codes "a") [] ∷ case (codes "b") [] ∷ [])) (simple (type nominal.Enum (codes "E") ∷ case (codes "c") [] ∷ case (codes "b") [] ∷ case (codes "a") [] ∷ [])) ≡ []
unfolding rules
e9_order = refl

-- ---- classes

e10 : compared (simple (type nominal.Class (codes "C") ∷ [])) (simple (decl (top (codes "C")) standing.TopLevel [] (word modifier.Public ∷ word modifier.Final ∷ []) (kind.Nominal nominal.Class None []) ∷ [])) ≡ codes "E10 old Lib.C new Lib.C: finality of the class changed\n"
unfolding rules
e10 = refl

abbrev under : Text → Text → RDecl
under n up = decl (top n) standing.TopLevel [] (word modifier.Open ∷ []) (kind.Nominal nominal.Class (Some (to (top up))) [])

e11 : compared (simple (open_class (codes "C") ∷ under (codes "D") (codes "C") ∷ [])) (simple (open_class (codes "C") ∷ open_class (codes "D") ∷ [])) ≡ codes "E11 old Lib.D new Lib.D: superclass lost\n"
unfolding rules
e11 = refl

-- a class between
e11_between : compared (simple (open_class (codes "C") ∷ under (codes "D") (codes "C") ∷ [])) (simple (open_class (codes "C") ∷ under (codes "M") (codes "C") ∷ under (codes "D") (codes "M") ∷ [])) ≡ []
unfolding rules
e11_between = refl

abbrev in_class : List Modifier → RDecl
in_class ws = decl (method (codes "C") (codes "f") []) (standing.Braces nominal.Class (top (codes "C"))) [] ws plain

e12 : compared (simple (open_class (codes "C") ∷ in_class (word modifier.Open ∷ []) ∷ [])) (simple (open_class (codes "C") ∷ in_class public ∷ [])) ≡ codes "E12 old Lib.C.f() new Lib.C.f(): open or final changed\n"
unfolding rules
e12 = refl

e12_final : compared (simple (open_class (codes "C") ∷ in_class public ∷ [])) (simple (open_class (codes "C") ∷ in_class (word modifier.Public ∷ word modifier.Final ∷ []) ∷ [])) ≡ codes "E12 old Lib.C.f() new Lib.C.f(): open or final changed\n"
unfolding rules
e12_final = refl

-- what is final may move to an extension
e12_extension : compared (simple (open_class (codes "C") ∷ in_class (word modifier.Public ∷ word modifier.Final ∷ []) ∷ [])) (simple (open_class (codes "C") ∷ decl (method (codes "C") (codes "f") []) (standing.Extension nominal.Class (top (codes "C"))) [] public plain ∷ [])) ≡ []
unfolding rules
e12_extension = refl

-- ---- protocols

abbrev required : Text → RDecl
required n = decl (demand (codes "P") n) (standing.Braces nominal.Protocol (top (codes "P"))) [] [] (function [] [] [] None)

abbrev no_default : Text → RDefault
no_default n = record { requirement = demand (codes "P") n; member = None }

abbrev a_default : Text → RDefault
a_default n = record { requirement = demand (codes "P") n; member = Some (method (codes "P") n []) }

abbrev with_table : List RDecl → List RDefault → RModule
with_table ds xs = interface lib ds (table (codes "P") xs ∷ []) []

e13 : compared (simple (protocol (codes "P") ∷ required (codes "r") ∷ [])) (simple (protocol (codes "P") ∷ [])) ≡ codes "E13 old Lib.P.r() new Lib.P: requirement removed or changed\n"
unfolding rules
e13 = refl

e13_changed : compared (simple (protocol (codes "P") ∷ required (codes "r") ∷ [])) (simple (protocol (codes "P") ∷ decl (demand (codes "P") (codes "r")) (standing.Braces nominal.Protocol (top (codes "P"))) [] [] (function [] [] [] (Some int)) ∷ [])) ≡ codes "E13 old Lib.P.r() new Lib.P.r(): requirement removed or changed\n"
unfolding rules
e13_changed = refl

-- two of them, in the order of the new interface, around one that stays
e14 : compared (with_table (protocol (codes "P") ∷ required (codes "r") ∷ []) (no_default (codes "r") ∷ [])) (with_table (protocol (codes "P") ∷ required (codes "s") ∷ required (codes "r") ∷ required (codes "t") ∷ []) (no_default (codes "s") ∷ no_default (codes "r") ∷ no_default (codes "t") ∷ [])) ≡ codes "E14 old Lib.P new Lib.P.s(): requirement without default\nE14 old Lib.P new Lib.P.t(): requirement without default\n"
unfolding rules
e14 = refl

abbrev default_as : RDecl
default_as = decl (method (codes "P") (codes "s") []) (standing.Extension nominal.Protocol (top (codes "P"))) [] public plain

e14_default : compared (with_table (protocol (codes "P") ∷ []) []) (with_table (protocol (codes "P") ∷ required (codes "s") ∷ default_as ∷ []) (a_default (codes "s") ∷ [])) ≡ []
unfolding rules
e14_default = refl

-- a default that is not `public` does not serve
e14_usable : compared (with_table (protocol (codes "P") ∷ []) []) (with_table (protocol (codes "P") ∷ required (codes "s") ∷ decl (method (codes "P") (codes "s") []) (standing.Extension nominal.Protocol (top (codes "P"))) (at attr.UsableFromInline ∷ []) (word modifier.Internal ∷ []) plain ∷ []) (a_default (codes "s") ∷ [])) ≡ codes "E14 old Lib.P new Lib.P.s(): requirement without default\n"
unfolding rules
e14_usable = refl

-- of a new protocol nothing is tried
e14_new : compared (simple []) (with_table (protocol (codes "P") ∷ required (codes "s") ∷ []) (no_default (codes "s") ∷ [])) ≡ []
unfolding rules
e14_new = refl

abbrev associated : Text → List Text → Bool → RDecl
associated p [] true = decl (inside p (codes "A")) (standing.Braces nominal.Protocol (top p)) [] [] (kind.AssociatedType [] (Some int))
associated p [] false = decl (inside p (codes "A")) (standing.Braces nominal.Protocol (top p)) [] [] (kind.AssociatedType [] None)
associated p (q ∷ qs) true = decl (inside p (codes "A")) (standing.Braces nominal.Protocol (top p)) [] [] (kind.AssociatedType (to (top q) ∷ []) (Some int))
associated p (q ∷ qs) false = decl (inside p (codes "A")) (standing.Braces nominal.Protocol (top p)) [] [] (kind.AssociatedType (to (top q) ∷ []) None)

e15_gone : compared (simple (protocol (codes "P") ∷ associated (codes "P") [] false ∷ [])) (simple (protocol (codes "P") ∷ [])) ≡ codes "E15 old Lib.P.A new Lib.P: associated type changed\n"
unfolding rules
e15_gone = refl

e15_constrained : compared (simple (protocol (codes "Q") ∷ protocol (codes "P") ∷ associated (codes "P") [] false ∷ [])) (simple (protocol (codes "Q") ∷ protocol (codes "P") ∷ associated (codes "P") (codes "Q" ∷ []) false ∷ [])) ≡ codes "E15 old Lib.P.A new Lib.P.A: associated type changed\n"
unfolding rules
e15_constrained = refl

e15_default_lost : compared (simple (protocol (codes "P") ∷ associated (codes "P") [] true ∷ [])) (simple (protocol (codes "P") ∷ associated (codes "P") [] false ∷ [])) ≡ codes "E15 old Lib.P.A new Lib.P.A: associated type changed\n"
unfolding rules
e15_default_lost = refl

e15_new : compared (simple (protocol (codes "P") ∷ [])) (simple (protocol (codes "P") ∷ associated (codes "P") [] false ∷ [])) ≡ codes "E15 old Lib.P new Lib.P.A: associated type changed\n"
unfolding rules
e15_new = refl

e15_new_default : compared (simple (protocol (codes "P") ∷ [])) (simple (protocol (codes "P") ∷ associated (codes "P") [] true ∷ [])) ≡ []
unfolding rules
e15_new_default = refl

-- a new one with a default and a constraint: an associated type of another protocol has its name, or not
e15_namesake : compared (simple (protocol (codes "Q") ∷ associated (codes "Q") [] false ∷ protocol (codes "P") ∷ [])) (simple (protocol (codes "Q") ∷ associated (codes "Q") [] false ∷ protocol (codes "P") ∷ associated (codes "P") (codes "R" ∷ []) true ∷ [])) ≡ codes "E15 old Lib.P new Lib.P.A: associated type changed\n"
unfolding rules
e15_namesake = refl

e15_no_namesake : compared (simple (protocol (codes "Q") ∷ protocol (codes "P") ∷ [])) (simple (protocol (codes "Q") ∷ protocol (codes "P") ∷ associated (codes "P") (codes "R" ∷ []) true ∷ [])) ≡ []
unfolding rules
e15_no_namesake = refl

abbrev refines : List Text → RDecl
refines [] = protocol (codes "P")
refines (q ∷ []) = decl (top (codes "P")) standing.TopLevel [] public (kind.Nominal nominal.Protocol None (to (top q) ∷ []))
refines (q ∷ p ∷ ps) = decl (top (codes "P")) standing.TopLevel [] public (kind.Nominal nominal.Protocol None (to (top q) ∷ to (top p) ∷ []))

e16 : compared (simple (refines (codes "Q" ∷ []) ∷ [])) (simple (refines [] ∷ [])) ≡ codes "E16 old Lib.P new Lib.P: inherited protocols changed\n"
unfolding rules
e16 = refl

e16_order : compared (simple (refines (codes "Q" ∷ codes "R" ∷ []) ∷ [])) (simple (refines (codes "R" ∷ codes "Q" ∷ []) ∷ [])) ≡ []
unfolding rules
e16_order = refl

-- ---- conformances

abbrev extends : RDecl
extends = decl (top (codes "S")) standing.TopLevel [] [] (kind.Extension nominal.Struct (to (top (codes "S"))) (to (top (codes "P")) ∷ []))

abbrev adopts : RDecl
adopts = decl (top (codes "S")) standing.TopLevel [] public (kind.Nominal nominal.Struct None (to (top (codes "P")) ∷ []))

e17 : compared (interface lib (extends ∷ type nominal.Struct (codes "S") ∷ []) [] (conforms (top (codes "S")) (codes "P") [] ∷ [])) (simple (type nominal.Struct (codes "S") ∷ [])) ≡ codes "E17 old Lib.S:Lib.P new Lib.S: conformance removed or changed\n"
unfolding rules
e17 = refl

e17_foreign : compared (interface lib (decl int_key standing.TopLevel [] [] (kind.Extension nominal.Struct (to int_key) (to (top (codes "P")) ∷ [])) ∷ []) [] (conforms int_key (codes "P") [] ∷ [])) (simple []) ≡ codes "E17 old Lib:Swift.Int:Lib.P new Lib: conformance removed or changed\n"
unfolding rules
e17_foreign = refl

-- from an extension to the header of the type
e17_moved : compared (interface lib (extends ∷ type nominal.Struct (codes "S") ∷ []) [] (conforms (top (codes "S")) (codes "P") [] ∷ [])) (interface lib (adopts ∷ []) [] (conforms (top (codes "S")) (codes "P") [] ∷ [])) ≡ []
unfolding rules
e17_moved = refl

e17_type : compared (interface lib (adopts ∷ []) [] (conforms (top (codes "S")) (codes "P") (record { name = codes "A"; ty = ty.Named int_key } ∷ []) ∷ [])) (interface lib (adopts ∷ []) [] (conforms (top (codes "S")) (codes "P") (record { name = codes "A"; ty = ty.NoValue } ∷ []) ∷ [])) ≡ codes "E17 old Lib.S:Lib.P new Lib.S:Lib.P: conformance removed or changed\n"
unfolding rules
e17_type = refl

-- a further associated type
e17_more : compared (interface lib (adopts ∷ []) [] (conforms (top (codes "S")) (codes "P") [] ∷ [])) (interface lib (adopts ∷ []) [] (conforms (top (codes "S")) (codes "P") (record { name = codes "A"; ty = ty.Named int_key } ∷ []) ∷ [])) ≡ []
unfolding rules
e17_more = refl

-- ---- releases and names

e18 : compared (simple (f_public ∷ [])) (simple (decl (top_function (codes "f") []) standing.TopLevel (since 0 1 ∷ []) public plain ∷ [])) ≡ codes "E18 old Lib.f() new Lib.f(): introduced later\n"
unfolding rules
e18 = refl

-- of several releases the greatest counts
e18_greatest : compared (simple (decl (top_function (codes "f") []) standing.TopLevel (since 2 0 ∷ since 1 5 ∷ []) public plain ∷ [])) (simple (decl (top_function (codes "f") []) standing.TopLevel (since 2 0 ∷ []) public plain ∷ [])) ≡ []
unfolding rules
e18_greatest = refl

e19 : compared (simple (f_public ∷ [])) (interface (codes "Other") [] [] []) ≡ codes "E19 old Lib new Other: module name differs\n"
unfolding rules
e19 = refl
