-- What written types mean: chains, circles, defaults, `Self`, parameters, modules, and what is hidden.
use Rattle.std.proofs.Common.{◌≡◌, List, [], ◌∷◌, codes, Option, Some, None, refl}
use Rattle.evo_base.specs.declared.key.Key.{Key}
use Rattle.evo_tree.specs.declared.declaration.ModifierKind.TheVariants as modifier
use Rattle.evo_tree.specs.declared.declaration.NominalKind.TheVariants as nominal
use Rattle.evo_resolved.specs.declared.resolved_type.RType.{RType}
use Rattle.evo_resolved.specs.declared.resolved_type.RType.TheVariants as ty
use Rattle.evo_names.specs.Listed.{Text, Within, top, braces, Entry, World, alone, declarations}
use Rattle.evo_names.specs.Seen.{is_seen}
use Rattle.evo_names.specs.Heads.{type_key, named, qualified, declaration_of, superclass, lineage, closure, conformances, members, shown}
use Rattle.evo_names.specs.Keys.{declared_name}
use Rattle.evo_names.specs.Written.{Scope, Start, fixed, via, nowhere, in_type, in_protocol, view, beginning, type_member, associated_type, Means}
use Rattle.evo_names.proofs.Circles.{Turn, circle, at_once, through, one_behind}
use Rattle.evo_names.proofs.Samples.{type, declared, alias, associated, nominal_type, extending, in_extension_of, library, interface, client, key, lib}

int : RType
int = ty.Named (type_key (codes "Swift") (codes "Int"))

in_s : Within
in_s = braces nominal.Struct (codes "S")

s_key : Key
s_key = key lib (lib ∷ []) (codes "S") None []

-- struct S { typealias A = B; typealias B = Int; typealias C = D; typealias D = C }
aliases : World
aliases = alone (library (declared top (modifier.Public ∷ []) (nominal_type nominal.Struct (codes "S") [])
    ∷ declared in_s (modifier.Public ∷ []) (alias (codes "A") (type (codes "B"))) ∷ declared in_s (modifier.Public ∷ []) (alias (codes "B") (type (codes "Int")))
    ∷ declared in_s (modifier.Public ∷ []) (alias (codes "C") (type (codes "D"))) ∷ declared in_s (modifier.Public ∷ []) (alias (codes "D") (type (codes "C"))) ∷ []))

in_struct : Scope
in_struct = record { home = aliases; around = in_type s_key; generics = [] }

alias_key : Text → Key
alias_key n = key lib (lib ∷ codes "S" ∷ []) n None []

-- a chain of two
chain : Means aliases in_struct (codes "A" ∷ []) (alias_key (codes "A") ∷ alias_key (codes "B") ∷ []) int
unfolding beginning type_member associated_type named members lineage superclass declaration_of declarations shown is_seen declared_name conformances closure aliases in_struct alias_key s_key in_s int
chain = through (via (Some (alias_key (codes "A"))) in_struct (codes "B" ∷ [])) refl (through (via (Some (alias_key (codes "B"))) in_struct (codes "Int" ∷ [])) refl (at_once refl) refl) refl

-- a circle
data InCircle : Start → Type 0 where
  at_c : (a : Option Key) → InCircle (via a in_struct (codes "C" ∷ []))
  at_d : (a : Option Key) → InCircle (via a in_struct (codes "D" ∷ []))

round : (x : Start) → InCircle x → Turn aliases InCircle x
unfolding beginning type_member associated_type named members lineage superclass declaration_of declarations shown is_seen declared_name conformances closure aliases in_struct alias_key s_key in_s
round _ (at_c a) = record { alias = a; scope = in_struct; names = codes "C" ∷ []; is = refl; next = via (Some (alias_key (codes "C"))) in_struct (codes "D" ∷ []); rest = []; begins = refl; stays = at_d _ }
round _ (at_d a) = record { alias = a; scope = in_struct; names = codes "D" ∷ []; is = refl; next = via (Some (alias_key (codes "D"))) in_struct (codes "C" ∷ []); rest = []; begins = refl; stays = at_c _ }

means_nothing : (met : List Key) (t : RType) → Means aliases in_struct (codes "C" ∷ []) met t → ⊥
means_nothing met t d = circle aliases InCircle round d (at_c None)

-- protocol P { associatedtype A = Int; associatedtype B }, struct X: P { .. }, and in extension R: P { typealias A = String }
in_p : Within
in_p = braces nominal.Protocol (codes "P")

p_key : Key
p_key = key lib (lib ∷ []) (codes "P") None []

x_key : Key
x_key = key lib (lib ∷ []) (codes "X") None []

r_alias : Entry
r_alias = declared (in_extension_of (codes "R")) (modifier.Public ∷ []) (alias (codes "A") (type (codes "String")))

conforming : World
conforming = alone (library (declared top (modifier.Public ∷ []) (nominal_type nominal.Protocol (codes "P") [])
    ∷ declared in_p [] (associated (codes "A") (Some (type (codes "Int")))) ∷ declared in_p [] (associated (codes "B") None)
    ∷ declared top (modifier.Public ∷ []) (nominal_type nominal.Struct (codes "X") (type (codes "P") ∷ []))
    ∷ declared top (modifier.Public ∷ []) (nominal_type nominal.Struct (codes "R") [])
    ∷ declared top [] (extending (codes "R") (type (codes "P") ∷ [])) ∷ r_alias ∷ []))

at_top : Scope
at_top = record { home = conforming; around = nowhere; generics = codes "T" ∷ [] }

in_default : Scope
in_default = record { home = conforming; around = in_protocol p_key (ty.Named x_key); generics = [] }

-- X.A is the default
default : Means conforming at_top (codes "X" ∷ codes "A" ∷ []) [] int
unfolding beginning type_member associated_type named members lineage superclass declaration_of declarations shown is_seen declared_name conformances closure conforming at_top in_default p_key x_key in_p r_alias int
default = one_behind (via None in_default (codes "Int" ∷ [])) refl refl (at_once refl) refl

-- R.A is what the type says
recorded : Means conforming at_top (codes "R" ∷ codes "A" ∷ []) (key lib (lib ∷ codes "R" ∷ []) (codes "A") None [] ∷ []) (ty.Named (type_key (codes "Swift") (codes "String")))
unfolding beginning type_member associated_type named members lineage superclass declaration_of declarations shown is_seen declared_name conformances closure conforming at_top p_key x_key in_p r_alias
recorded = one_behind (via (Some (key lib (lib ∷ codes "R" ∷ []) (codes "A") None [])) (record { home = conforming; around = in_type (key lib (lib ∷ []) (codes "R") None []); generics = [] }) (codes "String" ∷ [])) refl refl (at_once refl) refl

-- an associated type without a default, of a type without a `typealias`, is none
none : type_member conforming (view at_top) x_key (codes "B") ≡ None
unfolding type_member associated_type named members lineage superclass declaration_of declarations shown is_seen declared_name conformances closure conforming at_top p_key x_key in_p r_alias
none = refl

-- in the protocol, A is an associated type of the parameter 0, and the first generic parameter has the number 1
in_the_protocol : Scope
in_the_protocol = record { home = conforming; around = in_protocol p_key (ty.Param 0); generics = codes "T" ∷ [] }

associated_name : beginning conforming in_the_protocol (codes "A" ∷ []) ≡ Some (fixed (ty.Assoc 0 (codes "A" ∷ [])), [])
unfolding beginning named members lineage superclass declaration_of declarations shown is_seen declared_name conformances closure conforming in_the_protocol p_key x_key in_p r_alias
associated_name = refl

self : beginning conforming in_the_protocol (codes "Self" ∷ codes "A" ∷ []) ≡ Some (fixed (ty.Param 0), codes "A" ∷ [])
unfolding beginning named is_seen conforming in_the_protocol p_key x_key in_p r_alias
self = refl

parameter : beginning conforming in_the_protocol (codes "T" ∷ []) ≡ Some (fixed (ty.Param 1), [])
unfolding beginning named is_seen conforming in_the_protocol p_key x_key in_p r_alias
parameter = refl

-- elsewhere it has the number 0
parameter_at_top : beginning conforming at_top (codes "T" ∷ []) ≡ Some (fixed (ty.Param 0), [])
unfolding beginning named is_seen conforming at_top p_key x_key in_p r_alias
parameter_at_top = refl

-- a protocol is no type, and a name that is declared nowhere is none
protocol : beginning conforming at_top (codes "P" ∷ []) ≡ None
unfolding beginning named qualified is_seen conforming at_top p_key x_key in_p r_alias
protocol = refl

unknown : beginning conforming at_top (codes "Foo" ∷ []) ≡ None
unfolding beginning named qualified is_seen conforming at_top p_key x_key in_p r_alias
unknown = refl

-- behind the name of its module
qualified_name : beginning conforming at_top (codes "Lib" ∷ codes "X" ∷ []) ≡ Some (fixed (ty.Named x_key), [])
unfolding beginning named qualified is_seen conforming at_top p_key x_key in_p r_alias
qualified_name = refl

-- public struct S { }, @usableFromInline struct H { }, seen from a client
seen_by_client : Scope
seen_by_client = record { home = client [] (interface (declared top (modifier.Public ∷ []) (nominal_type nominal.Struct (codes "S") []) ∷ declared top (modifier.Internal ∷ []) (nominal_type nominal.Struct (codes "H") []) ∷ [])); around = nowhere; generics = [] }

seen : beginning (seen_by_client.home) seen_by_client (codes "S" ∷ []) ≡ Some (fixed (ty.Named s_key), [])
unfolding beginning named is_seen seen_by_client s_key
seen = refl

hidden : beginning (seen_by_client.home) seen_by_client (codes "H" ∷ []) ≡ None
unfolding beginning named qualified is_seen seen_by_client
hidden = refl

hidden_in_module : beginning (seen_by_client.home) seen_by_client (codes "Lib" ∷ codes "H" ∷ []) ≡ None
unfolding beginning named qualified is_seen seen_by_client
hidden_in_module = refl

-- protocol P: Q, protocol Q: P: each is gone through once
round_protocols : World
round_protocols = alone (library (declared top (modifier.Public ∷ []) (nominal_type nominal.Protocol (codes "P") (type (codes "Q") ∷ [])) ∷ declared top (modifier.Public ∷ []) (nominal_type nominal.Protocol (codes "Q") (type (codes "P") ∷ [])) ∷ []))

each_once : closure round_protocols (p_key ∷ []) ≡ p_key ∷ key lib (lib ∷ []) (codes "Q") None [] ∷ []
unfolding closure declaration_of declarations named is_seen round_protocols p_key
each_once = refl
