-- Keys of members, of extensions, of overriding functions and initialisers, of requirements and of conformances.
use Rattle.std.proofs.Common.{◌≡◌, List, [], ◌∷◌, codes, Some, None, refl}
use Rattle.evo_base.specs.declared.key.Mark.TheVariants as mark
use Rattle.evo_tree.specs.declared.declaration.ModifierKind.TheVariants as modifier
use Rattle.evo_tree.specs.declared.declaration.ParameterLabel.TheVariants as label
use Rattle.evo_tree.specs.declared.declaration.NominalKind.TheVariants as nominal
use Rattle.evo_names.specs.Listed.{Within, top, braces, Entry, World, alone, declarations}
use Rattle.evo_names.specs.Seen.{is_seen}
use Rattle.evo_names.specs.Heads.{named, declaration_of, superclass, lineage, members, shown}
use Rattle.evo_names.specs.Keys.{declared_name, root_from, root_of, key_of, body_key, conformance_key, inherited_key, constraint_key, copy_key, getter_key}
use Rattle.evo_names.proofs.Samples.{type, declared, parameter, function, initialiser, stored, nominal_type, extending, in_extension_of, library, interface, client, key, lib, main}

-- open class A { public init() {}; open func f() { .. } }
-- open class B: A { public override init() { .. }; open override func f() { .. } }
in_a : Within
in_a = braces nominal.Class (codes "A")

in_b : Within
in_b = braces nominal.Class (codes "B")

in_d : Within
in_d = braces nominal.Class (codes "D")

f_of_a : Entry
f_of_a = declared in_a (modifier.Open ∷ []) (function (codes "f") [])

f_of_b : Entry
f_of_b = declared in_b (modifier.Open ∷ modifier.Override ∷ []) (function (codes "f") [])

init_of_b : Entry
init_of_b = declared in_b (modifier.Public ∷ modifier.Override ∷ []) (initialiser [])

f_of_d : Entry
f_of_d = declared in_d (modifier.Override ∷ []) (function (codes "f") [])

init_of_d : Entry
init_of_d = declared in_d (modifier.Internal ∷ modifier.Override ∷ []) (initialiser [])

classes : List Entry
classes = declared top (modifier.Open ∷ []) (nominal_type nominal.Class (codes "A") []) ∷ declared in_a (modifier.Public ∷ []) (initialiser []) ∷ f_of_a
    ∷ declared top (modifier.Open ∷ []) (nominal_type nominal.Class (codes "B") (type (codes "A") ∷ [])) ∷ init_of_b ∷ f_of_b ∷ []

-- class D: B { override init() { .. }; override func f() { .. } }
heir : World
heir = client (declared top (modifier.Internal ∷ []) (nominal_type nominal.Class (codes "D") (type (codes "B") ∷ [])) ∷ init_of_d ∷ f_of_d ∷ []) (interface classes)

classes_alone : World
classes_alone = alone (library classes)

-- a function has its labels, and its class and module before it
root : key_of (record { world = classes_alone; entry = f_of_a }) ≡ Some (key lib (lib ∷ codes "A" ∷ []) (codes "f") (Some []) [])
unfolding key_of declared_name f_of_a in_a classes_alone
root = refl

-- one that overrides has its root's key
override : key_of (record { world = classes_alone; entry = f_of_b }) ≡ Some (key lib (lib ∷ codes "A" ∷ []) (codes "f") (Some []) [])
unfolding key_of declared_name root_of root_from superclass lineage members declaration_of declarations named shown is_seen f_of_a f_of_b init_of_b in_a in_b classes classes_alone
override = refl

-- through two classes and out of the module
client_override : key_of (record { world = heir; entry = f_of_d }) ≡ Some (key lib (lib ∷ codes "A" ∷ []) (codes "f") (Some []) [])
unfolding key_of declared_name root_of root_from superclass lineage members declaration_of declarations named shown is_seen f_of_a f_of_b f_of_d init_of_b init_of_d in_a in_b in_d classes heir
client_override = refl

-- its body stands under its own class
override_body : body_key (record { world = heir; entry = f_of_d }) ≡ Some (key main (main ∷ codes "D" ∷ []) (codes "f") (Some []) (mark.Override ∷ []))
unfolding declared_name f_of_d init_of_d in_d heir
override_body = refl

-- an initialiser that overrides has a key of its own
override_initialiser : key_of (record { world = heir; entry = init_of_d }) ≡ Some (key main (main ∷ codes "D" ∷ []) (codes "init") (Some []) [])
unfolding key_of declared_name init_of_d f_of_d in_d heir
override_initialiser = refl

-- public protocol P { func id() -> Int }
-- extension P { public func name() -> Int { .. }; public func id() -> Int { .. } }
in_p : Within
in_p = braces nominal.Protocol (codes "P")

in_p_extension : Within
in_p_extension = in_extension_of (codes "P")

id_of_p : Entry
id_of_p = declared in_p [] (function (codes "id") [])

name_of_p : Entry
name_of_p = declared in_p_extension (modifier.Public ∷ []) (function (codes "name") [])

default_of_p : Entry
default_of_p = declared in_p_extension (modifier.Public ∷ []) (function (codes "id") [])

protocols : World
protocols = alone (library (declared top (modifier.Public ∷ []) (nominal_type nominal.Protocol (codes "P") []) ∷ id_of_p ∷ declared top [] (extending (codes "P") []) ∷ name_of_p ∷ default_of_p ∷ []))

requirement : key_of (record { world = protocols; entry = id_of_p }) ≡ Some (key lib (lib ∷ codes "P" ∷ []) (codes "id") (Some []) (mark.Requirement ∷ []))
unfolding key_of declared_name id_of_p in_p protocols
requirement = refl

-- the default of a requirement has no mark, so that the two keys differ
default : key_of (record { world = protocols; entry = default_of_p }) ≡ Some (key lib (lib ∷ codes "P" ∷ []) (codes "id") (Some []) [])
unfolding key_of declared_name named is_seen id_of_p name_of_p default_of_p in_p in_p_extension protocols
default = refl

extension_member : key_of (record { world = protocols; entry = name_of_p }) ≡ Some (key lib (lib ∷ codes "P" ∷ []) (codes "name") (Some []) [])
unfolding key_of declared_name named is_seen id_of_p name_of_p default_of_p in_p in_p_extension protocols
extension_member = refl

-- public struct S { public var x: Int; .. }, and in the client extension S { func twice(of a: Int, _ b: Int) -> Int { .. } }
in_s : Within
in_s = braces nominal.Struct (codes "S")

x_of_s : Entry
x_of_s = declared in_s (modifier.Public ∷ []) (stored (codes "x") (type (codes "Int")))

twice : Entry
twice = declared (in_extension_of (codes "S")) (modifier.Internal ∷ []) (function (codes "twice") (parameter (label.Written (record { place = record { line = 1; col = 1 }; text = codes "of" })) (codes "a") (type (codes "Int")) ∷ parameter label.Blank (codes "b") (type (codes "Int")) ∷ []))

extended : World
extended = client (declared top [] (extending (codes "S") []) ∷ twice ∷ []) (interface (declared top (modifier.Public ∷ []) (nominal_type nominal.Struct (codes "S") []) ∷ x_of_s ∷ []))

-- the client's member of a library's type: main:Lib.S.twice(of:_:)
client_member : key_of (record { world = extended; entry = twice }) ≡ Some (key main (lib ∷ codes "S" ∷ []) (codes "twice") (Some (codes "of" ∷ codes "_" ∷ [])) [])
unfolding key_of declared_name named is_seen twice x_of_s in_s extended
client_member = refl

-- an extension has the key of its type
extension_key : key_of (record { world = extended; entry = declared top [] (extending (codes "S") []) }) ≡ Some (key lib (lib ∷ []) (codes "S") None [])
unfolding key_of named is_seen twice x_of_s in_s extended
extension_key = refl

-- Lib.R:Lib.P
conformance : conformance_key lib (key lib (lib ∷ []) (codes "R") None []) (key lib (lib ∷ []) (codes "P") None []) ≡ key lib (lib ∷ []) (codes "R") None (mark.Conformance (record { «module» = lib; name = codes "P" }) ∷ [])
conformance = refl

-- Lib.P:Lib.Q#conformance
inherited_table : inherited_key (key lib (lib ∷ []) (codes "P") None []) (key lib (lib ∷ []) (codes "Q") None []) ≡ key lib (lib ∷ []) (codes "P") None (mark.Inherited (record { «module» = lib; name = codes "Q" }) ∷ [])
inherited_table = refl

-- Lib.P.A:Lib.Q#associated
constraint_table : constraint_key (key lib (lib ∷ codes "P" ∷ []) (codes "A") None []) (key lib (lib ∷ []) (codes "Q") None []) ≡ key lib (lib ∷ codes "P" ∷ []) (codes "A") None (mark.Associated (record { «module» = lib; name = codes "Q" }) ∷ [])
constraint_table = refl

-- Lib.S.x#get#copy
copied_getter : copy_key (getter_key (key lib (lib ∷ codes "S" ∷ []) (codes "x") None [])) ≡ key lib (lib ∷ codes "S" ∷ []) (codes "x") None (mark.Get ∷ mark.Copy ∷ [])
copied_getter = refl
