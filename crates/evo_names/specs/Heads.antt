-- Types and protocols by their own names, and what stands above them.
use Rattle.std.specs.Prelude.{ℕ, zero, suc, ◌+◌, List, [], ◌∷◌, ◌++◌, filter, flat_map, length, Option, Some, None, Bool, true, false, not, ◌&&◌, ◌||◌, codes, if◌then◌else◌}
use Rattle.std.specs.List.{list_any}
use Rattle.std.specs.Option.{option_map, option_or, option_and_then, option_map_or}
use Rattle.evo_base.specs.declared.key.Key.{Key}
use Rattle.evo_tree.specs.declared.name.TypeName.{TypeName}
use Rattle.evo_tree.specs.declared.declaration.NominalKind.{NominalKind}
use Rattle.evo_tree.specs.declared.declaration.NominalKind.TheVariants as nominal
use Rattle.evo_tree.specs.declared.declaration.DeclKind.TheOpen as de
use Rattle.evo_names.specs.Listed.{Text, Within, top, braces, extension, Kind, Entry, Listing, World, Declaration, list_of, declarations}
use Rattle.evo_names.specs.Meets.{same_name}
use Rattle.evo_names.specs.Seen.{Level, public_level, Viewpoint, Shown, is_seen, written_level, same_type}

-- the first that gives something
abbrev pub first_some : {A B : Type 0} → (A → Option B) → List A → Option B
first_some f [] = None
first_some f (x ∷ xs) = option_or (f x) (first_some f xs)

abbrev pub type_key : Text → Text → Key
type_key m n = record { «module» = m; context = m ∷ []; base = n; labels = None; part = record { marks = [] } }

-- a type or protocol that a name finds
pub record Head : Type 0 where
  pub key : Key
  pub kind : NominalKind
  pub level : Level

-- ---- by their own names

abbrev pub top_shown : Text → Entry → Shown
top_shown m e = record { «module» = m; owner = None; own = written_level e; context = public_level }

abbrev pub head_by : Viewpoint → Text → Text → Entry → Kind → Option Head
head_by v m n e (de.Nominal k i ts ds) = if same_name i.text n && is_seen v (top_shown m e) then Some (record { key = type_key m n; kind = k; level = written_level e }) else None
head_by v m n e k = None

-- of two types of one name, which is a fault, the first one is meant
abbrev pub head_in : Viewpoint → Listing → Text → Option Head
head_in v m n = first_some (λ (e : Entry). head_by v m.name n e e.kind) m.entries

abbrev pub top_view : World → Viewpoint
top_view w = record { «module» = w.own.name; type_round = None }

abbrev pub is_language_type : Text → Bool
is_language_type n = same_name n (codes "Int") || same_name n (codes "Bool") || same_name n (codes "String")

abbrev pub language_type : Text → Option Head
language_type n = if is_language_type n then Some (record { key = type_key (codes "Swift") n; kind = nominal.Struct; level = public_level }) else None

-- the own module's, else what is seen of the import's, else the language's
unfoldable pub named : World → Text → Option Head
named w n = option_or (head_in (top_view w) w.own n) (option_or (option_and_then (λ m. head_in (top_view w) m n) w.imported) (language_type n))

abbrev pub import_named : World → Text → Option Listing
import_named w m = option_and_then (λ (i : Listing). if same_name i.name m then Some i else None) w.imported

-- behind the name of its module
unfoldable pub qualified : World → Text → Text → Option Head
qualified w m n = if same_name w.own.name m then head_in (top_view w) w.own n else option_or (option_and_then (λ i. head_in (top_view w) i n) (import_named w m)) (if same_name m (codes "Swift") then language_type n else None)

abbrev pub unless_some : {A B : Type 0} → Option A → Option B → Option B
unless_some None o = o
unless_some (Some a) o = None

-- what is named where a protocol, a superclass or what is extended stands
abbrev pub head_of : World → List Text → Option Head
head_of w [] = None
head_of w (n ∷ []) = named w n
head_of w (m ∷ n ∷ []) = unless_some (named w m) (qualified w m n)
head_of w (m ∷ n ∷ o ∷ rest) = None

abbrev pub is_protocol : NominalKind → Bool
is_protocol nominal.Protocol = true
is_protocol k = false

abbrev pub is_class : NominalKind → Bool
is_class nominal.Class = true
is_class k = false

abbrev pub protocol_named : World → TypeName → Option Key
protocol_named w t = option_and_then (λ (h : Head). if is_protocol h.kind then Some h.key else None) (head_of w t.names)

abbrev pub class_named : World → TypeName → Option Key
class_named w t = option_and_then (λ (h : Head). if is_class h.kind then Some h.key else None) (head_of w t.names)

-- the type or protocol that a declaration is a member of
abbrev pub owner_of : World → Within → Option Head
owner_of w top = None
owner_of w (braces k n) = head_in (top_view w) w.own n
owner_of w (extension t) = head_of w t.names

abbrev pub is_member_of : Key → Declaration → Bool
is_member_of k d = option_map_or (λ (h : Head). same_type h.key k) (owner_of d.world d.entry.within) false

-- ---- their declarations

abbrev pub declares : Key → Declaration → Kind → Bool
declares k d (de.Nominal kind i ts ds) = same_type (type_key d.world.own.name i.text) k
declares k d kind = false

abbrev pub extends : Key → Declaration → Kind → Bool
extends k d (de.Extension t ts ds) = option_map_or (λ (h : Head). same_type h.key k) (head_of d.world t.names) false
extends k d kind = false

abbrev pub inherit_list : Kind → List TypeName
inherit_list (de.Nominal k i ts ds) = ts
inherit_list (de.Extension t ts ds) = ts
inherit_list k = []

abbrev pub first_that : {A : Type 0} → (A → Bool) → List A → Option A
first_that p [] = None
first_that p (x ∷ xs) = if p x then Some x else first_that p xs

-- the declaration of a type or protocol
unfoldable pub declaration_of : World → Key → Option Declaration
declaration_of w k = first_that (λ (d : Declaration). declares k d d.entry.kind) (declarations w)

-- ---- classes

abbrev pub first_inherited : World → Kind → Option Key
first_inherited w (de.Nominal nominal.Class i (t ∷ ts) ds) = class_named w t
first_inherited w k = None

unfoldable pub superclass : World → Key → Option Key
superclass w k = option_and_then (λ (d : Declaration). first_inherited d.world d.entry.kind) (declaration_of w k)

-- this many classes at most, from a class upwards; the bound ends a circle
abbrev pub climb : ℕ → World → Key → List Key
climb zero w k = []
climb (suc n) w k = k ∷ option_map_or (λ u. climb n w u) (superclass w k) []

-- a type and its ancestors, the nearest first. No way upwards without a circle is longer than there are declarations.
unfoldable pub lineage : World → Key → List Key
lineage w k = climb (suc (length (declarations w))) w k

-- ---- protocols

-- the protocols that a declaration names behind its own name or the extended type
abbrev pub protocols_named : Declaration → List Key
protocols_named d = flat_map (λ t. list_of (protocol_named d.world t)) (inherit_list d.entry.kind)

abbrev pub inherited : World → Key → List Key
inherited w p = option_map_or protocols_named (declaration_of w p) []

abbrev pub is_among : Key → List Key → Bool
is_among k ks = list_any (λ x. same_type x k) ks

-- what is behind these protocols, each once, a protocol before what it inherits, in source order
abbrev pub reach : ℕ → World → List Key → List Key → List Key
reach zero w found ps = found
reach (suc n) w found [] = found
reach (suc n) w found (p ∷ ps) = if is_among p found then reach n w found ps else reach n w (found ++ p ∷ []) (inherited w p ++ ps)

-- protocols with all that they inherit. Each name behind a protocol's own name is gone through at most once.
unfoldable pub closure : World → List Key → List Key
closure w ps = reach (length ps + length (flat_map (λ (d : Declaration). inherit_list d.entry.kind) (declarations w))) w [] ps

-- ---- conformances and members

-- the protocols to which a type is declared to conform: in its own header, and in extensions of it
unfoldable pub conformances : World → Key → List Key
conformances w k = flat_map protocols_named (filter (λ (d : Declaration). declares k d d.entry.kind) (declarations w)) ++ flat_map protocols_named (filter (λ (d : Declaration). extends k d d.entry.kind) (declarations w))

abbrev pub in_braces : Within → Bool
in_braces (braces k n) = true
in_braces w = false

-- the members of a type or protocol: those in its braces, those in its own module's extensions, and those in a client's
unfoldable pub members : World → Key → List Declaration
members w k = filter (λ (d : Declaration). in_braces d.entry.within && is_member_of k d) (declarations w) ++ filter (λ (d : Declaration). not (in_braces d.entry.within) && is_member_of k d) (declarations w)

-- ---- what a declaration shows

-- requirements, associated types and cases have the access of what they stand in
abbrev pub has_own_access : Within → Kind → Bool
has_own_access (braces nominal.Protocol n) k = false
has_own_access w (de.Case i ps) = false
has_own_access w k = true

abbrev pub own_level : Entry → Level
own_level e = if has_own_access e.within e.kind then written_level e else public_level

unfoldable pub shown : Declaration → Shown
shown d = record {
  «module» = d.world.own.name;
  owner = option_map (λ (h : Head). h.key) (owner_of d.world d.entry.within);
  own = own_level d.entry;
  context = option_map_or (λ (h : Head). h.level) (owner_of d.world d.entry.within) public_level;
}

-- whether a declaration is seen from here
abbrev pub sees : Viewpoint → Declaration → Bool
sees v d = is_seen v (shown d)
