-- What types the forms of the language have.
use Rattle.std.proofs.Common.{◌≡◌, List, [], ◌∷◌, codes, Some, None, true, false, refl}
use Rattle.evo_base.specs.declared.key.Key.{Key}
use Rattle.evo_base.specs.declared.fault_kind.FaultKind.TheVariants as kind
use Rattle.evo_tree.specs.declared.declaration.ModifierKind.TheVariants as modifier
use Rattle.evo_tree.specs.declared.declaration.NominalKind.TheVariants as nominal
use Rattle.evo_tree.specs.declared.expression.InfixOperator.TheVariants as op
use Rattle.evo_tree.specs.declared.expression.PrefixOperator.TheVariants as sign
use Rattle.evo_tree.specs.declared.expression.Expr.{Expr}
use Rattle.evo_tree.specs.declared.expression.Expr.TheOpen as ex
use Rattle.evo_tree.specs.declared.statement.Stmt.TheOpen as st
use Rattle.evo_resolved.specs.declared.resolved_type.RType.{RType}
use Rattle.evo_resolved.specs.declared.resolved_type.RType.TheVariants as ty
use Rattle.evo_resolved.specs.declared.expression.Reach.TheVariants as reach
use Rattle.evo_names.specs.Listed.{Within, top, braces, Entry, World, Declaration, alone, declarations}
use Rattle.evo_names.specs.Seen.{is_seen}
use Rattle.evo_names.specs.Heads.{named, declaration_of, superclass, lineage, closure, members, shown, top_view}
use Rattle.evo_names.specs.Search.{declaration, nothing, candidates, found_member, member}
use Rattle.evo_names.specs.Typing.{int, bool, string, infix_type, prefix_type, ancestors, Converts, itself, upwards, chooser, chosen, implicit_member, expression_of, fatal_level, is_message_level, condition_of, is_printed}
use Rattle.evo_names.specs.Dispatch.{is_dispatched, reach_of}
use Rattle.evo_names.proofs.Samples.{type, declared, function, one_case, nominal_type, extending, in_extension_of, library, key, lib, origin, name}

-- open class A { open func f(); final func g(); static func s() }, extension A { func h() }, final class B: A { override func f(); func n() }, class C
in_a : Within
in_a = braces nominal.Class (codes "A")

in_b : Within
in_b = braces nominal.Class (codes "B")

open_function : Entry
open_function = declared in_a (modifier.Open ∷ []) (function (codes "f") [])

final_function : Entry
final_function = declared in_a (modifier.Final ∷ []) (function (codes "g") [])

static_function : Entry
static_function = declared in_a (modifier.Static ∷ []) (function (codes "s") [])

extension_function : Entry
extension_function = declared (in_extension_of (codes "A")) [] (function (codes "h") [])

overriding : Entry
overriding = declared in_b (modifier.Override ∷ []) (function (codes "f") [])

of_final_class : Entry
of_final_class = declared in_b [] (function (codes "n") [])

requirement : Entry
requirement = declared (braces nominal.Protocol (codes "P")) [] (function (codes "r") [])

case_a : Entry
case_a = declared (braces nominal.Enum (codes "E")) [] (one_case (codes "a"))

classes : World
classes = alone (library (declared top (modifier.Open ∷ []) (nominal_type nominal.Class (codes "A") []) ∷ open_function ∷ final_function ∷ static_function
    ∷ declared top [] (extending (codes "A") []) ∷ extension_function ∷ declared top (modifier.Final ∷ []) (nominal_type nominal.Class (codes "B") (type (codes "A") ∷ [])) ∷ overriding ∷ of_final_class
    ∷ declared top [] (nominal_type nominal.Class (codes "C") []) ∷ declared top [] (nominal_type nominal.Protocol (codes "P") []) ∷ requirement ∷ declared top [] (nominal_type nominal.Enum (codes "E") []) ∷ case_a ∷ []))

a_key : Key
a_key = key lib (lib ∷ []) (codes "A") None []

b_key : Key
b_key = key lib (lib ∷ []) (codes "B") None []

c_key : Key
c_key = key lib (lib ∷ []) (codes "C") None []

e_key : Key
e_key = key lib (lib ∷ []) (codes "E") None []

a : RType
a = ty.Named a_key

b : RType
b = ty.Named b_key

c : RType
c = ty.Named c_key

-- 1 + 2, "a" + "b", and not "a" + 1 or "a" - "b"
sum : infix_type classes op.Add int int ≡ Some int
unfolding infix_type
sum = refl

joined : infix_type classes op.Add string string ≡ Some string
unfolding infix_type
joined = refl

mixed : infix_type classes op.Add string int ≡ None
unfolding infix_type
mixed = refl

no_difference : infix_type classes op.Subtract string string ≡ None
unfolding infix_type
no_difference = refl

-- true == false, and not 1 == true; "a" < "b" is none
equal : infix_type classes op.Equal bool bool ≡ Some bool
unfolding infix_type
equal = refl

unequal_types : infix_type classes op.Equal int bool ≡ None
unfolding infix_type
unequal_types = refl

no_order : infix_type classes op.Less string string ≡ None
unfolding infix_type
no_order = refl

-- `===` takes classes alone, which need not be related
identical : infix_type classes op.Identical a c ≡ Some bool
unfolding infix_type classes declaration_of declarations a c a_key c_key open_function final_function static_function extension_function overriding of_final_class requirement case_a in_a in_b
identical = refl

not_identical : infix_type classes op.Identical a int ≡ None
unfolding infix_type classes declaration_of declarations a a_key open_function final_function static_function extension_function overriding of_final_class requirement case_a in_a in_b
not_identical = refl

negated : prefix_type sign.Not bool ≡ Some bool
unfolding prefix_type
negated = refl

-- a B may stand where an A is expected
up : Converts classes b a
unfolding a b a_key b_key classes ancestors lineage superclass declaration_of declarations named is_seen open_function final_function static_function extension_function overriding of_final_class requirement case_a in_a in_b
up = upwards refl refl

-- f<T>(_ n: Int, _ x: T, _ y: T) of (1, B(), A()): T is the type of the second argument
second : chosen 0 (int ∷ ty.Param 0 ∷ ty.Param 0 ∷ []) (int ∷ b ∷ a ∷ []) ≡ Some b
unfolding chosen chooser
second = refl

-- f<T>(_ x: T.A): no argument says what T is
none_chooses : chosen 0 (ty.Assoc 0 (codes "A" ∷ []) ∷ []) (int ∷ []) ≡ None
unfolding chosen chooser
none_chooses = refl

-- .a where an E is expected, and where nothing is
expected : implicit_member classes (top_view classes) (Some (record { named = Some e_key; protocols = [] })) (record { base = codes "a"; call = None; of_type = false }) ≡ declaration (record { world = classes; entry = case_a })
unfolding implicit_member member found_member candidates named members lineage superclass declaration_of declarations shown is_seen closure classes e_key case_a open_function final_function static_function extension_function overriding of_final_class requirement in_a in_b
expected = refl

unexpected : implicit_member classes (top_view classes) None (record { base = codes "a"; call = None; of_type = false }) ≡ nothing kind.WrongType
unfolding implicit_member
unexpected = refl

-- a call of fatalError() gives nothing back, and another expression does
fatal : fatal_level (ex.Name (name (codes "fatalError")) (Some [])) ≡ true
fatal = refl

not_fatal : fatal_level (ex.Integer origin 1) ≡ false
not_fatal = refl

lone : (e : Expr) → expression_of (st.Expr e) ≡ Some e
lone e = refl

-- print(1, "a", true); precondition(c, "why")
printed : is_printed (int ∷ string ∷ bool ∷ []) ≡ true
printed = refl

not_printed : is_printed (a ∷ []) ≡ false
unfolding a a_key
not_printed = refl

condition : (c : Expr) → condition_of ((None, c) ∷ []) ≡ Some c
condition c = refl

message : is_message_level (ex.String origin (codes "why")) ≡ true
message = refl

no_message : is_message_level (ex.Integer origin 1) ≡ false
no_message = refl

-- what an object's class decides
open_is_dispatched : reach_of (record { world = classes; entry = open_function }) ≡ reach.Dispatched
unfolding reach_of is_dispatched classes declaration_of declarations open_function final_function static_function extension_function overriding of_final_class requirement case_a in_a in_b
open_is_dispatched = refl

final_is_static : reach_of (record { world = classes; entry = final_function }) ≡ reach.Static
unfolding reach_of is_dispatched classes declaration_of declarations open_function final_function static_function extension_function overriding of_final_class requirement case_a in_a in_b
final_is_static = refl

static_is_static : reach_of (record { world = classes; entry = static_function }) ≡ reach.Static
unfolding reach_of is_dispatched classes declaration_of declarations open_function final_function static_function extension_function overriding of_final_class requirement case_a in_a in_b
static_is_static = refl

extension_is_static : reach_of (record { world = classes; entry = extension_function }) ≡ reach.Static
unfolding reach_of is_dispatched classes declaration_of declarations open_function final_function static_function extension_function overriding of_final_class requirement case_a in_a in_b
extension_is_static = refl

override_is_dispatched : reach_of (record { world = classes; entry = overriding }) ≡ reach.Dispatched
unfolding reach_of is_dispatched classes declaration_of declarations open_function final_function static_function extension_function overriding of_final_class requirement case_a in_a in_b
override_is_dispatched = refl

final_class_is_static : reach_of (record { world = classes; entry = of_final_class }) ≡ reach.Static
unfolding reach_of is_dispatched classes declaration_of declarations open_function final_function static_function extension_function overriding of_final_class requirement case_a in_a in_b
final_class_is_static = refl

requirement_is_witnessed : reach_of (record { world = classes; entry = requirement }) ≡ reach.Witness
unfolding reach_of requirement
requirement_is_witnessed = refl
