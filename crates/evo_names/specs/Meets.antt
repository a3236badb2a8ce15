-- Which declarations meet, and the key of each by its name.
use Rattle.std.specs.Prelude.{◌≡◌, ℕ, ◌<◌, ◌≤◌, List, [], ◌∷◌, Option, Some, None, Bool, true, false, not, ◌&&◌, ◌||◌, if◌then◌else◌, IsTrue, slice_get}
use Rattle.std.specs.Str.{bytes_eq}
use Rattle.evo_base.specs.declared.place.Place.{Place}
use Rattle.evo_base.specs.declared.key.Key.{Key}
use Rattle.evo_base.specs.declared.key.Mark.{Mark}
use Rattle.evo_base.specs.declared.key.Mark.TheVariants as mark
use Rattle.evo_names.specs.declared.declared_name.Sort.{Sort}
use Rattle.evo_names.specs.declared.declared_name.Sort.TheVariants as sort
use Rattle.evo_names.specs.declared.declared_name.DeclaredName.{DeclaredName}
use Rattle.evo_names.specs.Listed.{Text, is_function}

-- ---- equal names

abbrev pub same_name : Text → Text → Bool
same_name a b = bytes_eq a b

abbrev pub same_names : List Text → List Text → Bool
same_names [] [] = true
same_names [] (y ∷ ys) = false
same_names (x ∷ xs) [] = false
same_names (x ∷ xs) (y ∷ ys) = same_name x y && same_names xs ys

abbrev pub same_labels : Option (List Text) → Option (List Text) → Bool
same_labels None None = true
same_labels None (Some ys) = false
same_labels (Some xs) None = false
same_labels (Some xs) (Some ys) = same_names xs ys

abbrev pub is_empty : List Text → Bool
is_empty [] = true
is_empty (x ∷ xs) = false

-- it is called, and has no labels
abbrev pub has_no_labels : Option (List Text) → Bool
has_no_labels None = false
has_no_labels (Some xs) = is_empty xs

-- ---- declarations that meet

-- the first is a requirement, and the second a member, not static, of an extension of its protocol in the same module
abbrev pub is_excused : DeclaredName → DeclaredName → Bool
is_excused a b = a.requirement && b.extends && not b.is_static && same_name a.module b.module

-- a property meets a function of its name without labels; a type or a case meets each function of its name
abbrev pub covers : Sort → DeclaredName → Bool
covers sort.Property b = is_function b.sort && has_no_labels b.labels
covers sort.Type b = is_function b.sort
covers sort.Case b = is_function b.sort
covers s b = false

abbrev pub clash : DeclaredName → DeclaredName → Bool
clash a b = if same_labels a.labels b.labels then not (is_excused a b) && not (is_excused b a) else covers a.sort b || covers b.sort a

-- they stand in one context, have one name, and may not both be there
abbrev pub meets : DeclaredName → DeclaredName → Bool
meets a b = same_name a.base b.base && same_names a.context b.context && clash a b

-- ---- keys

abbrev pub marks_of : Bool → List Mark
marks_of true = mark.Requirement ∷ []
marks_of false = []

-- the key of what overrides nothing
abbrev pub key_by_name : DeclaredName → Key
key_by_name s = record { «module» = s.module; context = s.context; base = s.base; labels = s.labels; part = record { marks = marks_of s.requirement } }

-- ---- lists of declarations

-- the declarations at two places meet
pub record MeetAt (names : List DeclaredName) (i j : ℕ) : Type 0 where
  pub earlier : DeclaredName
  pub later : DeclaredName
  pub at_i : slice_get names i ≡ Some earlier
  pub at_j : slice_get names j ≡ Some later
  pub met : IsTrue (meets earlier later)

-- from this number on, none meets an earlier one
abbrev pub NoneTwice : List DeclaredName → ℕ → Type 0
NoneTwice names start = (i j : ℕ) → start ≤ j → i < j → MeetAt names i j → ⊥

-- the name at this place meets an earlier one
pub record IsTwice (names : List DeclaredName) (start : ℕ) (p : Place) : Type 0 where
  pub i : ℕ
  pub j : ℕ
  pub from_start : start ≤ j
  pub before : i < j
  pub meet : MeetAt names i j
  pub place : p ≡ meet.later.place

-- a requirement stands in braces
abbrev pub IsFormed : DeclaredName → Type 0
IsFormed s = (s.requirement && s.extends) ≡ false
