-- The functions that a client copies.
use Rattle.std.specs.Prelude.{◌≡◌, ℕ, ◌+◌, List, [], ◌∷◌, ◌++◌, Some, None, IsSome, is_some, not, ◌&&◌, Bool, true, false, if◌then◌else◌, slice_get}
use Rattle.evo_base.specs.Names.{position_of}
use Rattle.evo_first_form.specs.declared.Print.{Print}
use Rattle.evo_first_form.specs.declared.Declaration.{Declaration}
use Rattle.evo_first_form.specs.Calls.{calls_of, calls_of_body}
use Rattle.evo_first_form.specs.Copies.{copied_body, is_copied}

module _ (declarations : List Declaration) where
  -- these copies, and one more where a call reaches it for the first time
  abbrev pub with_call : List (List ℕ) → List ℕ → List (List ℕ)
  with_call copies name = if is_copied declarations name && not (is_some (position_of name copies)) then copies ++ name ∷ [] else copies

  -- these copies, and those that some calls reach for the first time, in their order
  abbrev pub reached : List (List ℕ) → List (List ℕ) → List (List ℕ)
  reached copies [] = copies
  reached copies (name ∷ names) = reached (with_call copies name) names

  -- clients may copy each of these functions
  abbrev pub AreInlinable : List (List ℕ) → Type 0
  AreInlinable [] = Unit {0}
  AreInlinable (name ∷ names) = IsSome (copied_body declarations name) × AreInlinable names

  -- what reading the copy at a place makes of the copies, and whether there is one
  abbrev pub ReadsCopy : List (List ℕ) → ℕ → List (List ℕ) → Bool → Type 0
  ReadsCopy old place new false = (slice_get old place ≡ None) × (new ≡ old)
  ReadsCopy old place new true = (name : List ℕ) × (slice_get old place ≡ Some name) × (new ≡ reached old (calls_of_body (copied_body declarations name)))

  -- from these copies, of which so many are read, reading the others one after another leads to all
  pub data Spreads : ℕ → List (List ℕ) → List (List ℕ) → Type 0 where
    ends : {read : ℕ} {copies : List (List ℕ)} → slice_get copies read ≡ None → Spreads read copies copies
    reads : {read : ℕ} {copies all : List (List ℕ)} {name : List ℕ} → slice_get copies read ≡ Some name
        → Spreads (read + 1) (reached copies (calls_of_body (copied_body declarations name))) all → Spreads read copies all

-- The copies of a client: the functions that its code calls, or that a copy calls, and that clients copy, each once, in the
-- order in which they are first reached, breadth first.
abbrev pub AreCopies : List Declaration → List Print → List (List ℕ) → Type 0
AreCopies declarations prints copies = Spreads declarations 0 (reached declarations [] (calls_of prints)) copies
