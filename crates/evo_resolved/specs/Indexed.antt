-- An index over a list: for each text by which keys are sought the last item that has it, and for each item the one before it that has its text.
use Rattle.std.specs.Prelude.{◌≡◌, ℕ, ◌<◌, List, [], ◌∷◌, ◌++◌, Option, Some, None, slice_get, length, codes, if◌then◌else◌}
use Rattle.std.specs.Option.{option_and_then, option_map_or}
use Rattle.std.specs.Str.{bytes_eq}
use Rattle.evo_base.specs.Names.{position_of}
use Rattle.evo_base.specs.declared.key.Key.{Key}
use Rattle.evo_resolved.specs.declared.keyed.KeyIndex.{KeyIndex}

-- the text by which a key is sought: its base, and for an initialiser the name of its type
abbrev pub bucket : Key → List ℕ
bucket k = if bytes_eq k.base (codes "init") then option_map_or (λ name. name) (slice_get k.context 1) k.base else k.base

-- the last of the first n items with this text
abbrev pub IsLatest : {A : Type 0} → (A → Key) → List ℕ → List A → ℕ → Option ℕ → Type 0
IsLatest {A} own text items n None = (j : ℕ) (x : A) → j < n → slice_get items j ≡ Some x → bucket (own x) ≡ text → ⊥
IsLatest {A} own text items n (Some i) = (i < n) × ((x : A) → slice_get items i ≡ Some x → bucket (own x) ≡ text) × ((j : ℕ) (x : A) → i < j → j < n → slice_get items j ≡ Some x → bucket (own x) ≡ text → ⊥)

abbrev pub newest_of : KeyIndex → List ℕ → Option ℕ
newest_of ix text = option_and_then (slice_get ix.newest.items) (position_of text ix.names)

-- the index is one of the first n items
pub record Indexed {A : Type 0} (own : A → Key) (items : List A) (n : ℕ) (ix : KeyIndex) : Type 0 where
  pub count : length ix.newest.items ≡ length ix.names
  pub size : length ix.previous.items ≡ n
  pub newest : (text : List ℕ) → IsLatest own text items n (newest_of ix text)
  pub previous : (i : ℕ) (x : A) (o : Option ℕ) → slice_get items i ≡ Some x → slice_get ix.previous.items i ≡ Some o → IsLatest own (bucket (own x)) items i o

-- a further item with this text is indexed
pub record Added (old new : KeyIndex) (text : List ℕ) (number : ℕ) : Type 0 where
  pub count : length new.newest.items ≡ length new.names
  pub previous : new.previous.items ≡ old.previous.items ++ newest_of old text ∷ []
  pub here : newest_of new text ≡ Some number
  pub others : (t : List ℕ) → (t ≡ text → ⊥) → newest_of new t ≡ newest_of old t
