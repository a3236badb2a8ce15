-- What a key names in a list. Each item stands under a key of its own; an item that its key does not name, as an extension, is not found.
use Rattle.std.specs.Prelude.{◌≡◌, ℕ, List, Some, Bool, IsTrue, slice_get}
use Rattle.evo_base.specs.declared.key.Key.{Key}

-- it stands under the key, and is what the key names
abbrev pub Sought : {A : Type 0} → (A → Key) → (A → Bool) → Key → A → Type 0
Sought own is_named key x = IsTrue (is_named x) × (own x ≡ key)

-- it stands in the list, and the key names it
pub record IsFound {A : Type 0} (own : A → Key) (is_named : A → Bool) (items : List A) (key : Key) (x : A) : Type 0 where
  pub number : ℕ
  pub at : slice_get items number ≡ Some x
  pub sought : Sought own is_named key x
