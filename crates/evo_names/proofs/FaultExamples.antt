-- Faults of names in headers, each with its place. The client of these texts begins with `import Lib`, and what follows stands in the second line and the third.
use Rattle.std.proofs.Common.{◌≡◌, ℕ, ◌<◌, ◌≤◌, List, [], ◌∷◌, ◌++◌, codes, Some, None, true, slice_get, length, refl, inr, lit≤, lit<}
use Rattle.evo_base.specs.declared.place.Place.{Place}
use Rattle.evo_base.specs.declared.fault_kind.FaultKind.TheVariants as kind
use Rattle.evo_tree.specs.declared.name.Identifier.{Identifier}
use Rattle.evo_tree.specs.declared.name.TypeName.{TypeName}
use Rattle.evo_tree.specs.declared.statement.Introducer.TheVariants as introducer
use Rattle.evo_tree.specs.declared.declaration.Accessors.TheVariants as accessors
use Rattle.evo_tree.specs.declared.declaration.ModifierKind.TheVariants as modifier
use Rattle.evo_tree.specs.declared.declaration.ParameterLabel.TheVariants as label
use Rattle.evo_tree.specs.declared.declaration.Parameter.{Parameter}
use Rattle.evo_tree.specs.declared.declaration.NominalKind.TheVariants as nominal
use Rattle.evo_tree.specs.declared.declaration.DeclKind.TheOpen as de
use Rattle.evo_names.specs.declared.declared_name.DeclaredName.{DeclaredName}
use Rattle.evo_tree.specs.declared.declaration.Payload.{Payload}
use Rattle.evo_tree.specs.declared.module.Form.TheVariants as form
use Rattle.evo_names.specs.Listed.{Text, Within, top, braces, extension, Kind, Entry, Listing, World, declarations}
use Rattle.evo_names.specs.Meets.{meets}
use Rattle.evo_names.specs.Seen.{is_seen}
use Rattle.evo_names.specs.Heads.{named, qualified, declaration_of, conformances, shown}
use Rattle.evo_names.specs.Keys.{declared_name, declared_names}
use Rattle.evo_names.specs.Written.{beginning}
use Rattle.evo_names.specs.Faults.{IsFault, meet, taken, alias, generics, conformance, foreign, «import», protocol, written, extended, parameters, generic_parameters, payload, seen_names, scope_of}
use Rattle.evo_names.proofs.Circles.{no_beginning}
use Rattle.evo_names.proofs.Samples.{place, header, type, nominal_type, function, stored, declared, interface, client, key, lib, main}

abbrev at : Place → Text → Identifier
at p n = record { place = p; text = n }

abbrev type_at : Place → Text → TypeName
type_at p n = record { place = p; names = n ∷ [] }

abbrev function_at : Place → Text → List Parameter → Kind
function_at p n ps = de.Function (at p n) (header ps) None

abbrev here : Within → Kind → Entry
here w k = declared w (modifier.Internal ∷ []) k

-- public protocol P { func r() -> Int }, public struct S { public var x: Int; .. ; public mutating func m() { .. } }
abbrev of_library : List Entry
of_library = declared top (modifier.Public ∷ []) (nominal_type nominal.Protocol (codes "P") []) ∷ declared (braces nominal.Protocol (codes "P")) [] (function (codes "r") [])
    ∷ declared top (modifier.Public ∷ []) (nominal_type nominal.Struct (codes "S") []) ∷ declared (braces nominal.Struct (codes "S")) (modifier.Public ∷ []) (function (codes "m") []) ∷ []

abbrev text : List Entry → World
text es = client es (interface of_library)

-- two declarations of a text meet
twice : (w : World) (p : Place) (i j : ℕ) (a b : DeclaredName) → length (seen_names w) ≤ j → i < j → slice_get (seen_names w ++ declared_names w) i ≡ Some a → slice_get (seen_names w ++ declared_names w) j ≡ Some b → meets a b ≡ true → p ≡ b.place → IsFault w kind.Twice p
twice w p i j a b from before first second met is = meet (record { i = i; j = j; from_start = from; before = before; meet = record { earlier = a; later = b; at_i = first; at_j = second; met = met }; place = is })

-- func f() { }
-- func f() { }
two_functions_text : World
two_functions_text = text (here top (function_at (place 2 6) (codes "f") []) ∷ here top (function_at (place 3 6) (codes "f") []) ∷ [])

two_functions : IsFault two_functions_text kind.Twice (place 3 6)
unfolding two_functions_text seen_names declared_names declared_name shown named is_seen
two_functions = twice _ _ 4 5 _ _ (lit≤ tt) (lit< tt) refl refl refl refl

-- struct X { var f: Int; func f() { } }: the property meets the function, and the struct's own initialiser stands between them and the struct
property_and_function_text : World
property_and_function_text = text (here top (nominal_type nominal.Struct (codes "X") []) ∷ here (braces nominal.Struct (codes "X")) (de.Property introducer.Var (at (place 2 16) (codes "f")) (type (codes "Int")) accessors.Stored) ∷ here (braces nominal.Struct (codes "X")) (function_at (place 2 29) (codes "f") []) ∷ [])

property_and_function : IsFault property_and_function_text kind.Twice (place 2 29)
unfolding property_and_function_text seen_names declared_names declared_name shown named is_seen
property_and_function = twice _ _ 6 7 _ _ (lit≤ tt) (lit< tt) refl refl refl refl

-- struct X { func f() { }; static func f() { } }
static_and_instance_text : World
static_and_instance_text = text (here top (nominal_type nominal.Struct (codes "X") []) ∷ here (braces nominal.Struct (codes "X")) (function_at (place 2 17) (codes "f") []) ∷ declared (braces nominal.Struct (codes "X")) (modifier.Internal ∷ modifier.Static ∷ []) (function_at (place 2 38) (codes "f") []) ∷ [])

static_and_instance : IsFault static_and_instance_text kind.Twice (place 2 38)
unfolding static_and_instance_text seen_names declared_names declared_name shown named is_seen
static_and_instance = twice _ _ 6 7 _ _ (lit≤ tt) (lit< tt) refl refl refl refl

-- enum X { case f; func f(a: Int) { } }
case_and_function_text : World
case_and_function_text = text (here top (nominal_type nominal.Enum (codes "X") []) ∷ declared (braces nominal.Enum (codes "X")) [] (de.Case (at (place 2 15) (codes "f")) []) ∷ here (braces nominal.Enum (codes "X")) (function_at (place 2 23) (codes "f") (record { place = place 2 25; label = label.Same; name = at (place 2 25) (codes "a"); type_name = type (codes "Int") } ∷ [])) ∷ [])

case_and_function : IsFault case_and_function_text kind.Twice (place 2 23)
unfolding case_and_function_text seen_names declared_names declared_name shown named is_seen
case_and_function = twice _ _ 5 6 _ _ (lit≤ tt) (lit< tt) refl refl refl refl

-- struct X { var a: Int }
-- extension X { init(a: Int) { self.init(a: a) } }: it meets the initialiser that the struct has without writing it
memberwise_again_text : World
memberwise_again_text = text (here top (nominal_type nominal.Struct (codes "X") []) ∷ here (braces nominal.Struct (codes "X")) (stored (codes "a") (type (codes "Int"))) ∷ declared top [] (de.Extension (type (codes "X")) [] []) ∷ record { within = extension (type (codes "X")); place = place 3 15; attrs = []; modifiers = []; kind = de.Initialiser (header (record { place = place 3 20; label = label.Same; name = at (place 3 20) (codes "a"); type_name = type (codes "Int") } ∷ [])) None } ∷ [])

memberwise_again : IsFault memberwise_again_text kind.Twice (place 3 15)
unfolding memberwise_again_text seen_names declared_names declared_name shown named is_seen
memberwise_again = twice _ _ 5 7 _ _ (lit≤ tt) (lit< tt) refl refl refl refl

-- extension S { func m() { } }: a client's member meets one that it sees in the library
library_member_again_text : World
library_member_again_text = text (declared top [] (de.Extension (type (codes "S")) [] []) ∷ here (extension (type (codes "S"))) (function_at (place 2 20) (codes "m") []) ∷ [])

library_member_again : IsFault library_member_again_text kind.Twice (place 2 20)
unfolding library_member_again_text seen_names declared_names declared_name shown named is_seen
library_member_again = twice _ _ 3 4 _ _ (lit≤ tt) (lit< tt) refl refl refl refl

-- func print() { }
taken_name_text : World
taken_name_text = text (here top (function_at (place 2 6) (codes "print") []) ∷ [])

taken_name : IsFault taken_name_text kind.Twice (place 2 6)
unfolding taken_name_text
taken_name = taken 0 _ refl refl refl refl

-- struct main { }
module_name_text : World
module_name_text = text (here top (de.Nominal nominal.Struct (at (place 2 8) (codes "main")) [] []) ∷ [])

module_name : IsFault module_name_text kind.Twice (place 2 8)
unfolding module_name_text
module_name = taken 0 _ refl refl refl refl

-- protocol X { }
-- struct Y: X, X { }
two_conformances_text : World
two_conformances_text = text (here top (nominal_type nominal.Protocol (codes "X") []) ∷ here top (de.Nominal nominal.Struct (at (place 3 8) (codes "Y")) (type_at (place 3 11) (codes "X") ∷ type_at (place 3 14) (codes "X") ∷ []) []) ∷ [])

two_conformances : IsFault two_conformances_text kind.Twice (place 3 14)
unfolding two_conformances_text declaration_of declarations named is_seen
two_conformances = conformance {k = key main (main ∷ []) (codes "Y") None []} {p = key main (main ∷ []) (codes "X") None []} {d = 1} {i = 0} {e = 1} {j = 1} refl (record { declaration = _; at = refl; of_type = refl; name = refl; protocol = refl }) (record { declaration = _; at = refl; of_type = refl; name = refl; protocol = refl }) (inr (refl, lit< tt))

-- func f(_ x: Foo) { }
unknown_type_text : World
unknown_type_text = text (here top (function_at (place 2 6) (codes "f") (record { place = place 2 8; label = label.Blank; name = at (place 2 10) (codes "x"); type_name = type_at (place 2 13) (codes "Foo") } ∷ [])) ∷ [])

unknown_type : IsFault unknown_type_text kind.Unknown (place 2 13)
unfolding unknown_type_text beginning scope_of named qualified is_seen
unknown_type = written 0 0 _ _ refl refl (λ met u m. no_beginning refl m)

-- func f(_ x: P) { }: a protocol is no type
protocol_as_type_text : World
protocol_as_type_text = text (here top (function_at (place 2 6) (codes "f") (record { place = place 2 8; label = label.Blank; name = at (place 2 10) (codes "x"); type_name = type_at (place 2 13) (codes "P") } ∷ [])) ∷ [])

protocol_as_type : IsFault protocol_as_type_text kind.Unknown (place 2 13)
unfolding protocol_as_type_text beginning scope_of named qualified is_seen
protocol_as_type = written 0 0 _ _ refl refl (λ met u m. no_beginning refl m)

-- func f<T: S>(_ x: T) { }: a struct is no protocol
struct_as_protocol_text : World
struct_as_protocol_text = text (here top (de.Function (at (place 2 6) (codes "f")) (record { generics = record { name = at (place 2 8) (codes "T"); protocols = type_at (place 2 11) (codes "S") ∷ [] } ∷ []; parameters = []; result = None; requirements = [] }) None) ∷ [])

struct_as_protocol : IsFault struct_as_protocol_text kind.Unknown (place 2 11)
unfolding struct_as_protocol_text named is_seen
struct_as_protocol = protocol 0 0 _ _ refl refl refl refl

-- extension Foo { }
unknown_extended_text : World
unknown_extended_text = text (declared top [] (de.Extension (type_at (place 2 11) (codes "Foo")) [] []) ∷ [])

unknown_extended : IsFault unknown_extended_text kind.Unknown (place 2 11)
unfolding unknown_extended_text named is_seen
unknown_extended = extended 0 _ refl refl refl

-- func f<A, B, C, D, E>(..) { }: the fifth one
fifth_parameter_text : World
fifth_parameter_text = text (here top (de.Function (at (place 2 6) (codes "f")) (record { generics = record { name = at (place 2 8) (codes "A"); protocols = [] } ∷ record { name = at (place 2 11) (codes "B"); protocols = [] } ∷ record { name = at (place 2 14) (codes "C"); protocols = [] } ∷ record { name = at (place 2 17) (codes "D"); protocols = [] } ∷ record { name = at (place 2 20) (codes "E"); protocols = [] } ∷ []; parameters = []; result = None; requirements = [] }) None) ∷ [])

fifth_parameter : IsFault fifth_parameter_text kind.TooMany (place 2 20)
unfolding fifth_parameter_text
fifth_parameter = generic_parameters 0 _ _ refl refl

-- struct X { typealias main = Int }: a `typealias` with the name of the module
alias_of_module_text : World
alias_of_module_text = text (here top (nominal_type nominal.Struct (codes "X") []) ∷ here (braces nominal.Struct (codes "X")) (de.TypeAlias (at (place 2 22) (codes "main")) (type (codes "Int"))) ∷ [])

alias_of_module : IsFault alias_of_module_text kind.Twice (place 2 22)
unfolding alias_of_module_text
alias_of_module = alias 1 _ refl refl refl refl

-- func f<T, T>() { }
generic_again_text : World
generic_again_text = text (here top (de.Function (at (place 2 6) (codes "f")) (record { generics = record { name = at (place 2 8) (codes "T"); protocols = [] } ∷ record { name = at (place 2 11) (codes "T"); protocols = [] } ∷ []; parameters = []; result = None; requirements = [] }) None) ∷ [])

generic_again : IsFault generic_again_text kind.Twice (place 2 11)
unfolding generic_again_text
generic_again = generics 0 0 1 _ _ _ refl refl refl (lit< tt) refl

-- the library has `public struct S: P { }`, and the client `extension S: P { }`
conforming : Listing
conforming = interface (declared top (modifier.Public ∷ []) (nominal_type nominal.Protocol (codes "P") []) ∷ declared top (modifier.Public ∷ []) (nominal_type nominal.Struct (codes "S") (type (codes "P") ∷ [])) ∷ [])

conforms_again_text : World
conforms_again_text = client (declared top [] (de.Extension (type_at (place 2 11) (codes "S")) (type_at (place 2 14) (codes "P") ∷ []) []) ∷ []) conforming

conforms_again : IsFault conforms_again_text kind.Twice (place 2 14)
unfolding conforms_again_text conforming declaration_of declarations conformances named is_seen
conforms_again = foreign {k = key lib (lib ∷ []) (codes "S") None []} {p = key lib (lib ∷ []) (codes "P") None []} {d = 0} {i = 0} conforming refl refl refl (record { declaration = _; at = refl; of_type = refl; name = refl; protocol = refl })

-- import Foo
unknown_import_text : World
unknown_import_text = record { own = record { form = form.Client; name = main; imports = at (place 1 8) (codes "Foo") ∷ []; entries = [] }; imported = Some (interface of_library) }

unknown_import : IsFault unknown_import_text kind.Unknown (place 1 8)
unfolding unknown_import_text
unknown_import = «import» _ 0 refl refl

-- sixteen of one kind, and another one
abbrev sixteen_and : {A : Type 0} → A → A → List A
sixteen_and x y = x ∷ x ∷ x ∷ x ∷ x ∷ x ∷ x ∷ x ∷ x ∷ x ∷ x ∷ x ∷ x ∷ x ∷ x ∷ x ∷ y ∷ []

abbrev blank : Place → Parameter
blank p = record { place = p; label = label.Blank; name = at p (codes "x"); type_name = type (codes "Int") }

-- func f(_ x: Int, ..) { }: the seventeenth parameter
many_parameters_text : World
many_parameters_text = text (here top (function_at (place 2 6) (codes "f") (sixteen_and (blank (place 2 8)) (blank (place 3 1)))) ∷ [])

many_parameters : IsFault many_parameters_text kind.TooMany (place 3 1)
unfolding many_parameters_text
many_parameters = parameters 0 _ _ _ refl refl refl

abbrev unlabelled : Place → Payload
unlabelled p = record { label = None; type_name = type_at p (codes "Int") }

-- enum X { case a(Int, ..) }: the seventeenth value
large_payload_text : World
large_payload_text = text (here top (nominal_type nominal.Enum (codes "X") []) ∷ declared (braces nominal.Enum (codes "X")) [] (de.Case (at (place 2 15) (codes "a")) (sixteen_and (unlabelled (place 2 17)) (unlabelled (place 3 1)))) ∷ [])

large_payload : IsFault large_payload_text kind.TooMany (place 3 1)
unfolding large_payload_text
large_payload = payload 1 _ _ refl refl refl
