-- What a rule says of tokens that are read, refused or nested too deeply: where each of these is, in the rule's own terms.
-- S is a rule by how much nesting it allows, d how much may open, and `opening` the tokens that open one.
use Rattle.std.specs.Prelude.{◌≡◌, ℕ, suc, ◌+◌, ◌≤◌, ◌<◌, Bool, true, List, length, drop, slice_range, Some, ◌⊎◌}
use Rattle.evo_combinators.specs.Rule.{IsViablePrefix}
use Rattle.evo_combinators.specs.Laws.{first, NoneGoes}

-- The tokens from `at` to before `end` spell the value with this nesting, and no spelling goes on with the next one.
pub record IsReadTo {T A : Type 0} (S : ℕ → List T → A → Type 0) (d : ℕ) (ts : List T) (at : ℕ) (x : A) (end : ℕ) : Type 0 where
  pub from : at ≤ end
  pub within : end ≤ length ts
  pub spells : S d (slice_range ts at end) x
  pub ends : end < length ts → NoneGoes S (slice_range ts at (end + 1))

-- Each opening token before this one is within the nesting: spellings of it go on there.
abbrev pub IsShallow : {T A : Type 0} → (T → Bool) → (ℕ → List T → A → Type 0) → ℕ → List T → ℕ → ℕ → Type 0
IsShallow {T} opening S d ts at end = (i : ℕ) (t : T) → at ≤ i → i < end → first (drop i ts) ≡ Some t → opening t ≡ true → IsViablePrefix (S d) (slice_range ts at (i + 1))

-- Spellings go on with the tokens before this one, none with it too, and none ends before it. No opening token before it is too deep.
pub record IsRefusedAt {T A : Type 0} (opening : T → Bool) (S : ℕ → List T → A → Type 0) (d : ℕ) (ts : List T) (at end : ℕ) : Type 0 where
  pub from : at ≤ end
  pub within : end ≤ length ts
  pub goes : (end ≡ at) ⊎ IsViablePrefix (S (suc d)) (slice_range ts at end)
  pub ends : end < length ts → NoneGoes S (slice_range ts at (end + 1))
  pub none : (m : ℕ) (x : A) → S m (slice_range ts at end) x → ⊥
  pub shallow : IsShallow opening S d ts at end

-- This is the first opening token with which spellings of one nesting more go on, and none of the allowed nesting does.
pub record IsDeepAt {T A : Type 0} (opening : T → Bool) (S : ℕ → List T → A → Type 0) (d : ℕ) (ts : List T) (at end : ℕ) : Type 0 where
  pub from : at ≤ end
  pub token : T
  pub is : first (drop end ts) ≡ Some token
  pub opens : opening token ≡ true
  pub goes : IsViablePrefix (S (suc d)) (slice_range ts at (end + 1))
  pub deep : IsViablePrefix (S d) (slice_range ts at (end + 1)) → ⊥
  pub shallow : IsShallow opening S d ts at end

-- the answers for tokens from `at` on exclude each other, and each has one place
pub record OneAnswer {T A : Type 0} (opening : T → Bool) (S : ℕ → List T → A → Type 0) (d : ℕ) (ts : List T) (at : ℕ) : Type 0 where
  pub read : (x y : A) (i j : ℕ) → IsReadTo S d ts at x i → IsReadTo S d ts at y j → (x ≡ y) × (i ≡ j)
  pub refused : (i j : ℕ) → IsRefusedAt opening S d ts at i → IsRefusedAt opening S d ts at j → i ≡ j
  pub deep : (i j : ℕ) → IsDeepAt opening S d ts at i → IsDeepAt opening S d ts at j → i ≡ j
  pub read_or_refused : (x : A) (i j : ℕ) → IsReadTo S d ts at x i → IsRefusedAt opening S d ts at j → ⊥
  pub read_or_deep : (x : A) (i j : ℕ) → IsReadTo S d ts at x i → IsDeepAt opening S d ts at j → ⊥
  pub refused_or_deep : (i j : ℕ) → IsRefusedAt opening S d ts at i → IsDeepAt opening S d ts at j → ⊥

-- ---- all tokens of a text

-- Spellings go on with the tokens before this one and none with it too, or it is the end and no spelling ends there. No opening token before it is too deep.
pub record IsRefusedIn {T A : Type 0} (opening : T → Bool) (S : ℕ → List T → A → Type 0) (d : ℕ) (ts : List T) (end : ℕ) : Type 0 where
  pub within : end ≤ length ts
  pub goes : (end ≡ 0) ⊎ IsViablePrefix (S (suc d)) (slice_range ts 0 end)
  pub ends : end < length ts → NoneGoes S (slice_range ts 0 (end + 1))
  pub none : end ≡ length ts → (m : ℕ) (x : A) → S m ts x → ⊥
  pub shallow : IsShallow opening S d ts 0 end

-- the answers for all tokens of a text exclude each other, and each has one place
pub record OneOutcome {T A : Type 0} (opening : T → Bool) (S : ℕ → List T → A → Type 0) (d : ℕ) (ts : List T) : Type 0 where
  pub spelled : (x y : A) → S d ts x → S d ts y → x ≡ y
  pub refused : (i j : ℕ) → IsRefusedIn opening S d ts i → IsRefusedIn opening S d ts j → i ≡ j
  pub deep : (i j : ℕ) → IsDeepAt opening S d ts 0 i → IsDeepAt opening S d ts 0 j → i ≡ j
  pub spelled_or_refused : (x : A) (i : ℕ) → S d ts x → IsRefusedIn opening S d ts i → ⊥
  pub spelled_or_deep : (x : A) (i : ℕ) → S d ts x → IsDeepAt opening S d ts 0 i → ⊥
  pub refused_or_deep : (i j : ℕ) → IsRefusedIn opening S d ts i → IsDeepAt opening S d ts 0 j → ⊥
