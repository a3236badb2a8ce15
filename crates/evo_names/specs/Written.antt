-- What a written type means: the type to which its names lead, and the `typealias`es that they meet on the way. What leads to itself means nothing.
use Rattle.std.specs.Prelude.{◌≡◌, ℕ, ◌+◌, List, [], ◌∷◌, ◌++◌, filter, Option, Some, None, Bool, true, false, not, ◌&&◌, ◌||◌, codes, nat_lt, if◌then◌else◌}
use Rattle.std.specs.List.{list_any}
use Rattle.std.specs.Option.{option_map, option_or, option_and_then, option_map_or}
use Rattle.evo_base.specs.Names.{position_of}
use Rattle.evo_base.specs.declared.key.Key.{Key}
use Rattle.evo_tree.specs.declared.name.TypeName.{TypeName}
use Rattle.evo_tree.specs.declared.declaration.DeclKind.TheOpen as de
use Rattle.evo_resolved.specs.declared.resolved_type.RType.{RType}
use Rattle.evo_resolved.specs.declared.resolved_type.RType.TheVariants as ty
use Rattle.evo_names.specs.Listed.{Text, Kind, World, Declaration, list_of}
use Rattle.evo_names.specs.Meets.{same_name, same_names}
use Rattle.evo_names.specs.Seen.{Level, rank, lesser, is_public, public_level, written_level, Viewpoint}
use Rattle.evo_names.specs.Heads.{Head, named, qualified, is_protocol, first_some, declaration_of, lineage, closure, conformances, is_among, members, shown, sees}
use Rattle.evo_names.specs.Keys.{own_key}

-- ---- where a type is written

-- what stands round it: a type, or a protocol with what `Self` means in it
pub data Around : Type 0 where
  nowhere : Around
  in_type : Key → Around
  in_protocol : Key → RType → Around

pub record Scope : Type 0 where
  -- the module whose names it uses
  pub home : World
  pub around : Around
  pub generics : List Text

abbrev pub type_round : Around → Option Key
type_round nowhere = None
type_round (in_type k) = Some k
type_round (in_protocol k t) = Some k

abbrev pub view : Scope → Viewpoint
view s = record { «module» = s.home.own.name; type_round = type_round s.around }

-- in a protocol the parameter 0 is `Self`
abbrev pub first_number : Around → ℕ
first_number nowhere = 0
first_number (in_type k) = 0
first_number (in_protocol k t) = 1

-- where names begin
pub data Start : Type 0 where
  -- with a type
  fixed : RType → Start
  -- with what is written in another place: in a `typealias`, whose key is given, or in the default of an associated type
  via : Option Key → Scope → List Text → Start

-- ---- `typealias`es of types

abbrev pub written_in : World → Around → Option Key → TypeName → Start
written_in home around alias t = via alias (record { home = home; around = around; generics = [] }) t.names

abbrev pub alias_by : Declaration → Text → Around → Kind → Option Start
alias_by d n around (de.TypeAlias i t) = if same_name i.text n then Some (written_in d.world around (own_key d) t) else None
alias_by d n around k = None

abbrev pub if_true : {A : Type 0} → Bool → Option A → Option A
if_true true o = o
if_true false o = None

-- one that the type itself has, and that passes the test
abbrev pub alias_of : World → (Declaration → Bool) → Around → Key → Text → Option Start
alias_of w test around k n = first_some (λ (d : Declaration). if_true (test d) (alias_by d n around d.entry.kind)) (members w k)

-- the nearest one of a type and its ancestors
abbrev pub nearest_alias : World → (Declaration → Bool) → Key → Text → Option Start
nearest_alias w test k n = first_some (λ c. alias_of w test (in_type c) c n) (lineage w k)

-- ---- associated types

abbrev pub associated_by : Text → Kind → Option (Option TypeName)
associated_by n (de.AssociatedType i ts t) = if same_name i.text n then Some t else None
associated_by n k = None

-- an associated type that this protocol itself declares, with its default
abbrev pub associated_of : World → Key → Text → Option (Declaration × Option TypeName)
associated_of w p n = first_some (λ (d : Declaration). option_map (λ t. (d, t)) (associated_by n d.entry.kind)) (members w p)

abbrev pub is_some : {A : Type 0} → Option A → Bool
is_some None = false
is_some (Some x) = true

abbrev pub level_of : World → Key → Level
level_of w k = option_map_or (λ (d : Declaration). written_level d.entry) (declaration_of w k) public_level

abbrev pub seen_level : Declaration → Level
seen_level d = lesser (shown d).own (shown d).context

-- a conformance stands in the client where the type or the protocol does
abbrev pub is_own_conformance : World → Key → Key → Bool
is_own_conformance w k p = same_name k.module w.own.name || same_name p.module w.own.name

-- A `typealias` meets an associated type where it is at least as visible as the lesser of type and protocol, and where it is `open` or `public`, or stands in the module of the conformance.
abbrev pub may_meet : World → Key → Key → Declaration → Bool
may_meet w k p d = not (nat_lt (rank (seen_level d)) (rank (lesser (level_of w k) (level_of w p)))) && (not (is_own_conformance w k p) || same_name d.world.own.name w.own.name || is_public (seen_level d))

abbrev pub default_of : World → Key → Text → Key → Option Start
default_of w k n p = option_and_then (λ (a : Declaration × Option TypeName). option_map (written_in a.0.world (in_protocol p (ty.Named k)) None) a.1) (associated_of w p n)

-- those of these protocols, and of what they inherit, that have an associated type of this name, and to which the type is declared to conform
abbrev pub providers : World → List Key → Key → Text → List Key
providers w ps k n = filter (λ p. is_some (associated_of w p n) && is_among p (conformances w k)) (closure w ps)

-- An associated type of a named type by its declared conformances to those of these protocols, and of what they inherit, that have it: what one of them records comes first, else a default.
unfoldable pub associated_type : World → List Key → Key → Text → Option Start
associated_type w ps k n = option_or (first_some (λ p. nearest_alias w (may_meet w k p) k n) (providers w ps k n)) (first_some (default_of w k n) (providers w ps k n))

-- ---- members of types

-- what stands behind a type by its name: a `typealias` that is seen, else an associated type of any conformance
unfoldable pub type_member : World → Viewpoint → Key → Text → Option Start
type_member w v k n = option_or (nearest_alias w (sees v) k n) (associated_type w (conformances w k) k n)

-- a path behind a parameter stays as it is written
abbrev pub behind : World → Viewpoint → RType → Text → Option Start
behind w v (ty.Named k) n = type_member w v k n
behind w v (ty.Param i) n = Some (fixed (ty.Assoc i (n ∷ [])))
behind w v (ty.Assoc i ns) n = Some (fixed (ty.Assoc i (ns ++ n ∷ [])))
behind w v ty.NoValue n = None

-- ---- what a first name finds

-- an associated type of `Self`, where a protocol requires it
abbrev pub required : World → Key → RType → Text → Option Start
required w p (ty.Named k) n = associated_type w (p ∷ []) k n
required w p (ty.Param i) n = Some (fixed (ty.Assoc i (n ∷ [])))
required w p (ty.Assoc i ns) n = Some (fixed (ty.Assoc i (ns ++ n ∷ [])))
required w p ty.NoValue n = None

-- one protocol's associated types before its `typealias`es
abbrev pub protocol_member : World → Viewpoint → RType → Text → Key → Option Start
protocol_member w v self n p = option_or (option_and_then (λ (a : Declaration × Option TypeName). required w p self n) (associated_of w p n)) (alias_of w (sees v) (in_protocol p self) p n)

-- by what stands round it. Protocols are gone through one by one, a protocol before what it inherits.
abbrev pub found_around : World → Viewpoint → Around → Text → Option Start
found_around w v nowhere n = None
found_around w v (in_type k) n = type_member w v k n
found_around w v (in_protocol p self) n = if same_name n (codes "Self") then Some (fixed self) else first_some (protocol_member w v self n) (closure w (p ∷ []))

-- a protocol is no type
abbrev pub type_of_head : Head → Option Start
type_of_head h = if is_protocol h.kind then None else Some (fixed (ty.Named h.key))

abbrev pub generic : Scope → Text → Option Start
generic s n = option_map (λ i. fixed (ty.Param (first_number s.around + i))) (position_of n s.generics)

-- a generic parameter, else by what stands round it, else a type of the own module, of the import or of the language
abbrev pub found_plain : World → Scope → Text → Option Start
found_plain w s n = option_or (generic s n) (option_or (found_around w (view s) s.around n) (option_and_then type_of_head (named s.home n)))

abbrev pub module_free : World → Scope → Text → Bool
module_free w s n = not (is_some (option_or (generic s n) (found_around w (view s) s.around n))) && not (is_some (named s.home n))

abbrev pub found_qualified : World → Scope → Text → List Text → Option (Start × List Text)
found_qualified w s m [] = None
found_qualified w s m (n ∷ ns) = if module_free w s m then option_map (λ t. (t, ns)) (option_and_then type_of_head (qualified s.home m n)) else None

-- what names begin with, and the names behind it. The name of a module is one where the search finds nothing else of that name.
unfoldable pub beginning : World → Scope → List Text → Option (Start × List Text)
beginning w s [] = None
beginning w s (n ∷ ns) = option_or (option_map (λ t. (t, ns)) (found_plain w s n)) (found_qualified w s n ns)

-- ---- the `typealias`es that are met

-- a `typealias` is known by its module, its context and its name
abbrev pub same_alias : Key → Key → Bool
same_alias a b = same_name a.module b.module && (same_names a.context b.context && same_name a.base b.base)

abbrev pub is_met : Key → List Key → Bool
is_met k ks = list_any (λ x. same_alias k x) ks

-- behind these, where it is none of them
abbrev pub add_met : List Key → Key → List Key
add_met ks k = if is_met k ks then ks else ks ++ k ∷ []

-- these, and then each of the others that is not among them
abbrev pub joined : List Key → List Key → List Key
joined xs [] = xs
joined xs (y ∷ ys) = joined (add_met xs y) ys

-- ---- what names mean

-- From a start, names lead to a type, and meet these `typealias`es, each told once. Members of types are those that `w` has.
pub data Leads (w : World) : Viewpoint → Start → List Text → List Key → RType → Type 0 where
  whole : {v : Viewpoint} {t : RType} → Leads w v (fixed t) [] [] t
  -- a member of the type before it
  further : {v : Viewpoint} {t u : RType} {n : Text} {ns : List Text} {found : List Key} (x : Start) → behind w v t n ≡ Some x → Leads w v x ns found u → Leads w v (fixed t) (n ∷ ns) found u
  -- what is written in another place, and the names behind that
  elsewhere : {v : Viewpoint} {a : Option Key} {s : Scope} {ms ns : List Text} {met : List Key} {u : RType} (x : Start) (rest : List Text) (first later : List Key) (t : RType) → beginning w s ms ≡ Some (x, rest) → Leads w (view s) x rest first t → Leads w v (fixed t) ns later u → met ≡ joined (joined (list_of a) first) later → Leads w v (via a s ms) ns met u

-- what is written in a scope means a type
abbrev pub Means : World → Scope → List Text → List Key → RType → Type 0
Means w s ns met t = Leads w (view s) (via None s ns) [] met t
