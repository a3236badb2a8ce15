-- What a name in a body finds: a declaration, or the kind of fault that says why nothing is found.
use Rattle.std.specs.Prelude.{ℕ, ◌+◌, List, [], ◌∷◌, ◌++◌, map, filter, flat_map, Option, Some, None, Bool, true, false, not, ◌&&◌, ◌||◌, codes, if◌then◌else◌}
use Rattle.std.specs.List.{list_any}
use Rattle.std.specs.Option.{option_map, option_or, option_and_then, option_map_or}
use Rattle.evo_base.specs.Names.{position_of}
use Rattle.evo_base.specs.declared.key.Key.{Key}
use Rattle.evo_base.specs.declared.fault_kind.FaultKind.{FaultKind}
use Rattle.evo_base.specs.declared.fault_kind.FaultKind.TheVariants as kind
use Rattle.evo_tree.specs.declared.declaration.NominalKind.TheVariants as nominal
use Rattle.evo_tree.specs.declared.declaration.DeclKind.TheOpen as de
use Rattle.evo_names.specs.declared.declared_name.Sort.{Sort}
use Rattle.evo_names.specs.declared.declared_name.Sort.TheVariants as sort
use Rattle.evo_names.specs.Listed.{Text, Kind, World, Entry, Declaration, own_declarations, imported_declarations, has_name, labels_of, sort_of, is_requirement, is_top, is_static, overrides, in_braces_of, memberwise_labels, is_stored}
use Rattle.evo_names.specs.Meets.{same_name, same_labels}
use Rattle.evo_names.specs.Seen.{Level, private_level, internal_level, is_private, written_level, Viewpoint, is_seen, same_type}
use Rattle.evo_names.specs.Heads.{Head, first_some, declaration_of, is_language_type, lineage, closure, members, owner_of, sees}

-- ---- what is sought

pub record Sought : Type 0 where
  pub base : Text
  -- the labels of a call
  pub call : Option (List Text)
  -- of a type, and not of one of its values: behind the type's name, or without a receiver in a static function
  pub of_type : Bool

abbrev pub same_bool : Bool → Bool → Bool
same_bool true b = b
same_bool false b = not b

abbrev pub is_call : Sought → Bool
is_call q = option_map_or (λ (labels : List Text). true) q.call false

-- at top level a function is of no type
abbrev pub of_same : Sought → Entry → Bool
of_same q e = is_top e.within || same_bool q.of_type (is_static e)

-- A call passes properties over, and seeks the labels of functions and initialisers together with their base; other names pass functions over. Cases belong to their type, and a type is found either way.
abbrev pub fits_sort : Sought → Entry → Sort → Bool
fits_sort q e sort.Function = same_labels (labels_of e.kind) q.call && of_same q e
fits_sort q e sort.Initialiser = same_labels (labels_of e.kind) q.call
fits_sort q e sort.Property = not (is_call q) && not q.of_type
fits_sort q e sort.Case = q.of_type
fits_sort q e sort.Type = true
fits_sort q e sort.Alias = true

-- What overrides is passed over: what is meant is its root, which stands above it.
abbrev pub fits : Sought → Entry → Bool
fits q e = has_name q.base e && not (overrides e) && fits_sort q e (sort_of e.kind)

-- what is hidden is passed over too
unfoldable pub candidates : Viewpoint → Sought → List Declaration → List Declaration
candidates v q ds = filter (λ (d : Declaration). fits q d.entry && sees v d) ds

-- ---- what is found

pub data Found : Type 0 where
  -- a local or a parameter, by its number
  local : ℕ → Found
  -- a generic parameter, by its number
  parameter : ℕ → Found
  declaration : Declaration → Found
  -- the initialiser that a struct has without writing it
  memberwise : Key → Found
  -- a type or a function of the language
  language : Text → Found
  nothing : FaultKind → Found

-- the first of a step. Two of one step meet, which is a fault of its own.
abbrev pub first_of : List Declaration → Option Found
first_of [] = None
first_of (d ∷ ds) = Some (declaration d)

-- two different ones are ambiguous
abbrev pub only_one : List Declaration → Option Found
only_one [] = None
only_one (d ∷ []) = Some (declaration d)
only_one (d ∷ e ∷ ds) = Some (nothing kind.Ambiguous)

-- ---- members

-- what a member is sought of: a named type, or a type that the signature requires to conform to these protocols
pub record Receiver : Type 0 where
  pub named : Option Key
  pub protocols : List Key

-- the members of a type, and then of each of its ancestors
abbrev pub class_steps : World → Receiver → List (List Declaration)
class_steps w r = option_map_or (λ k. map (members w) (lineage w k)) r.named []

abbrev pub protocol_step : World → Receiver → List Declaration
protocol_step w r = flat_map (members w) (closure w r.protocols)

abbrev pub requires : Declaration → Bool
requires d = is_requirement d.entry.within (sort_of d.entry.kind)

abbrev pub owner_key : Declaration → Option Key
owner_key d = option_map (λ (h : Head). h.key) (owner_of d.world d.entry.within)

abbrev pub same_owner : Declaration → Declaration → Bool
same_owner d e = option_map_or (λ k. option_map_or (λ l. same_type k l) (owner_key e) false) (owner_key d) false

-- an extension's member does not count where a requirement of its protocol is found too
abbrev pub uncovered : List Declaration → List Declaration
uncovered ds = filter (λ (d : Declaration). requires d || not (list_any (λ (r : Declaration). requires r && same_owner r d) ds)) ds

-- among the members of a type and its ancestors, then those of its protocols
unfoldable pub found_member : World → Viewpoint → Receiver → Sought → Option Found
found_member w v r q = option_or (first_some (λ ds. first_of (candidates v q ds)) (class_steps w r)) (only_one (uncovered (candidates v q (protocol_step w r))))

-- ---- why nothing is found

-- a function of this base that is seen
abbrev pub is_near : Viewpoint → Sought → Declaration → Bool
is_near v q d = has_name q.base d.entry && not (overrides d.entry) && option_map_or (λ (labels : List Text). of_same q d.entry) (labels_of d.entry.kind) false && sees v d

-- a call of other labels, a function where no call is, or no such name at all
abbrev pub fault_among : Viewpoint → Sought → List Declaration → FaultKind
fault_among v q ds = if list_any (is_near v q) ds then (if is_call q then kind.WrongLabels else kind.WrongType) else kind.NoSuchName

abbrev pub else_fault : Option Found → FaultKind → Found
else_fault o f = option_map_or (λ x. x) o (nothing f)

abbrev pub all_members : World → Receiver → List Declaration
all_members w r = flat_map (λ ds. ds) (class_steps w r) ++ protocol_step w r

-- a member behind a dot
unfoldable pub member : World → Viewpoint → Receiver → Sought → Found
member w v r q = else_fault (found_member w v r q) (fault_among v q (all_members w r))

-- ---- names without a receiver

-- where a name stands in a body
pub record Here : Type 0 where
  pub world : World
  pub view : Viewpoint
  -- parameters and locals by their numbers
  pub locals : List Text
  pub generics : List Text
  -- the type of `self`, or the one that a static function is of
  pub receiver : Option Receiver

-- the last of the locals that has the name
abbrev pub last_from : ℕ → Text → List Text → Option ℕ
last_from i n [] = None
last_from i n (x ∷ xs) = option_or (last_from (i + 1) n xs) (if same_name x n then Some i else None)

abbrev pub found_local : Here → Sought → Option Found
found_local h q = if is_call q then None else option_map local (last_from 0 q.base h.locals)

abbrev pub top_level : List Declaration → List Declaration
top_level ds = filter (λ (d : Declaration). is_top d.entry.within) ds

abbrev pub is_language_function : Text → Bool
is_language_function n = same_name n (codes "print") || same_name n (codes "precondition") || same_name n (codes "fatalError")

abbrev pub found_language : Sought → Option Found
found_language q = if is_language_type q.base || is_language_function q.base then Some (language q.base) else None

abbrev pub found_top : Here → Sought → Option Found
found_top h q = option_or (first_of (candidates h.view q (top_level (own_declarations h.world)))) (option_or (first_of (candidates h.view q (top_level (imported_declarations h.world)))) (found_language q))

abbrev pub found_inside : Here → Sought → Option Found
found_inside h q = option_or (found_local h q) (option_or (option_map parameter (position_of q.base h.generics)) (option_and_then (λ r. found_member h.world h.view r q) h.receiver))

abbrev pub all_names : Here → List Declaration
all_names h = option_map_or (all_members h.world) h.receiver [] ++ top_level (own_declarations h.world) ++ top_level (imported_declarations h.world)

-- locals and parameters, the members of the type of `self`, the own module's top level, what is seen of the library's, and the language's
unfoldable pub meaning : Here → Sought → Found
meaning h q = else_fault (option_or (found_inside h q) (found_top h q)) (fault_among h.view q (all_names h))

-- ---- initialisers

-- private where a stored property is
abbrev pub stored_level : Entry → Kind → Level
stored_level e (de.Property k i t a) = if is_stored a && is_private (written_level e) then private_level else internal_level
stored_level e k = internal_level

abbrev pub memberwise_level : List Entry → Level
memberwise_level es = if list_any (λ (e : Entry). is_private (stored_level e e.kind)) es then private_level else internal_level

-- the initialiser that a struct has without writing it, with these labels
abbrev pub memberwise_by : Viewpoint → Key → Option (List Text) → Declaration → Kind → Option Found
memberwise_by v k labels d (de.Nominal nominal.Struct i ts ds) = if same_labels (memberwise_labels d.world.own i.text) labels && is_seen v (record { «module» = d.world.own.name; owner = Some k; own = memberwise_level (in_braces_of d.world.own i.text); context = written_level d.entry }) then Some (memberwise k) else None
memberwise_by v k labels d kind = None

abbrev pub any_initialiser : Viewpoint → List Declaration → FaultKind
any_initialiser v ds = if list_any (λ (d : Declaration). has_name (codes "init") d.entry && sees v d) ds then kind.WrongLabels else kind.NoSuchName

-- an initialiser of a type by its labels: a written one, or a struct's own. Initialisers are not inherited.
unfoldable pub initialiser : World → Viewpoint → Key → List Text → Found
initialiser w v k labels = else_fault
    (option_or (first_of (candidates v (record { base = codes "init"; call = Some labels; of_type = true }) (members w k))) (option_and_then (λ (d : Declaration). memberwise_by v k (Some labels) d d.entry.kind) (declaration_of w k)))
    (any_initialiser v (members w k))
