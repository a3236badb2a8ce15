-- The texts by which declarations that may meet are found. That two texts are equal says nothing; what meets has equal ones.
use Rattle.std.specs.Prelude.{ℕ, List, [], ◌∷◌, ◌++◌, map, flat_map, Option, Some, None, Bool, true, false, ◌&&◌, nat_lt, slice_get, if◌then◌else◌}
use Rattle.std.specs.List.{list_any}
use Rattle.std.specs.Option.{option_map_or}
use Rattle.evo_declarations.specs.Groups.{numbers_of, IsGrouped}
use Rattle.evo_names.specs.declared.declared_name.Sort.{Sort}
use Rattle.evo_names.specs.declared.declared_name.Sort.TheVariants as sort
use Rattle.evo_names.specs.declared.declared_name.DeclaredName.{DeclaredName}
use Rattle.evo_names.specs.Listed.{Text}
use Rattle.evo_names.specs.Meets.{meets}
use Rattle.evo_meeting.specs.declared.buckets.Buckets.{Buckets}

abbrev pub ended : ℕ → Text → Text
ended end t = t ++ end ∷ []

-- its name, and where it stands
unfoldable pub spot_text : DeclaredName → Text
spot_text d = ended 46 d.base ++ flat_map (ended 46) d.context

abbrev pub labels_text : Option (List Text) → Text
labels_text None = []
labels_text (Some ls) = 58 ∷ flat_map (ended 58) ls

abbrev pub is_called : Sort → Bool
is_called sort.Function = true
is_called sort.Initialiser = true
is_called s = false

-- and, of what is called, its labels
unfoldable pub call_text : DeclaredName → Text
call_text d = if is_called d.sort then spot_text d ++ labels_text d.labels else spot_text d

-- the numbers of each text in a list of declarations
abbrev pub IsBucketed : List DeclaredName → Buckets → Type 0
IsBucketed names b = IsGrouped (map spot_text names) b.by_spot × IsGrouped (map call_text names) b.by_call

-- Those that may meet a declaration. What is called meets, of what is called, only what has its labels.
abbrev pub candidates_by : Bool → List DeclaredName → DeclaredName → List ℕ
candidates_by true names d = numbers_of (call_text d) (map call_text names) ++ numbers_of (spot_text d) (map call_text names)
candidates_by false names d = numbers_of (spot_text d) (map spot_text names)

unfoldable pub candidates : List DeclaredName → DeclaredName → List ℕ
candidates names d = candidates_by (is_called d.sort) names d

-- the declaration of this number comes before the number, and meets
abbrev pub met_at : List DeclaredName → ℕ → DeclaredName → ℕ → Bool
met_at names number d i = nat_lt i number && option_map_or (λ (a : DeclaredName). meets a d) (slice_get names i) false

-- one of these does
unfoldable pub met_among : List DeclaredName → ℕ → DeclaredName → List ℕ → Bool
met_among names number d numbers = list_any (met_at names number d) numbers
