-- Modifiers in their order: the same of each kind, and nothing changes where they are put in order again.
use Rattle.std.proofs.Common.{◌≡◌, ℕ, ◌-◌, List, [], ◌∷◌, ◌++◌, ◌⊎◌, map, Bool, true, false, refl, sym, ◌∙◌, ap, ap₂, inl, inr, cond, append-nil}
use Rattle.std.specs.Prelude.{◌==◌}
use Rattle.std.specs.List.{filter, list_any}
use Rattle.std.proofs.lemmas.List.{map-append}
use Rattle.evo_base.specs.declared.place.Place.{Place}
use Rattle.evo_tree.specs.declared.declaration.ModifierKind.{ModifierKind}
use Rattle.evo_tree.specs.declared.declaration.ModifierKind.TheVariants as modifier
use Rattle.evo_tree.specs.declared.declaration.Modifier.{Modifier}
use Rattle.evo_tree.specs.Declarations.{modifier_number, has_modifier, modifier_rank, is_ranked, ordered_modifiers, with_access}
use Rattle.evo_tree.specs.Bare.{bare_modifier}
use Rattle.evo_round_trip.proofs.OrderedKinds.{some, AtMostOne, one_same, any_filter, any_map, map_filter, among_five}

abbrev pub number : Modifier → ℕ
number m = modifier_number m.kind

-- there is at most one of each
abbrev pub single : ℕ → Bool
single n = true

-- putting them in order keeps those of each kind
pub kept : (m : Modifier) (ms : List Modifier) → filter (λ x. number x == number m) (ordered_modifiers ms) ≡ filter (λ x. number x == number m) ms
unfolding ordered_modifiers
kept m ms = go m.kind
  where
    those : ℕ → List Modifier
    those n = filter (λ x. number x == n) ms

    first : (n : ℕ) → (((those n ++ []) ++ []) ++ []) ++ [] ≡ those n
    first n = simp append-nil

    go : (k : ModifierKind) → filter (λ x. number x == modifier_number k) (ordered_modifiers ms) ≡ filter (λ x. number x == modifier_number k) ms
    go modifier.Open = among_five number (λ k. k - 3) 0 ms ∙ first 0
    go modifier.Public = among_five number (λ k. k - 3) 1 ms ∙ first 1
    go modifier.Internal = among_five number (λ k. k - 3) 2 ms ∙ first 2
    go modifier.Private = among_five number (λ k. k - 3) 3 ms ∙ first 3
    go modifier.Final = among_five number (λ k. k - 3) 4 ms ∙ simp append-nil
    go modifier.Static = among_five number (λ k. k - 3) 5 ms ∙ simp append-nil
    go modifier.Override = among_five number (λ k. k - 3) 6 ms ∙ simp append-nil
    go modifier.Mutating = among_five number (λ k. k - 3) 7 ms ∙ refl

pub ordered_again : (ms : List Modifier) → ordered_modifiers (ordered_modifiers ms) ≡ ordered_modifiers ms
unfolding ordered_modifiers
ordered_again ms = ap₂ (λ a b. a ++ b) (ap₂ (λ a b. a ++ b) (ap₂ (λ a b. a ++ b) (ap₂ (λ a b. a ++ b) zeroth first) second) third) fourth
  where
    rank : Modifier → ℕ
    rank m = modifier_rank m.kind

    zeroth : filter (is_ranked 0) (ordered_modifiers ms) ≡ filter (is_ranked 0) ms
    zeroth = among_five (λ m. modifier_rank m.kind) (λ k. k) 0 ms ∙ simp append-nil

    first : filter (is_ranked 1) (ordered_modifiers ms) ≡ filter (is_ranked 1) ms
    first = among_five (λ m. modifier_rank m.kind) (λ k. k) 1 ms ∙ simp append-nil

    second : filter (is_ranked 2) (ordered_modifiers ms) ≡ filter (is_ranked 2) ms
    second = among_five (λ m. modifier_rank m.kind) (λ k. k) 2 ms ∙ simp append-nil

    third : filter (is_ranked 3) (ordered_modifiers ms) ≡ filter (is_ranked 3) ms
    third = among_five (λ m. modifier_rank m.kind) (λ k. k) 3 ms ∙ simp append-nil

    fourth : filter (is_ranked 4) (ordered_modifiers ms) ≡ filter (is_ranked 4) ms
    fourth = among_five (λ m. modifier_rank m.kind) (λ k. k) 4 ms ∙ refl

pub ordered_bare : (ms : List Modifier) → map bare_modifier (ordered_modifiers ms) ≡ ordered_modifiers (map bare_modifier ms)
unfolding ordered_modifiers
ordered_bare ms =
    map-append bare_modifier (((part 0 ++ part 1) ++ part 2) ++ part 3) (part 4) ∙ ap₂ (λ a b. a ++ b) (map-append bare_modifier ((part 0 ++ part 1) ++ part 2) (part 3) ∙ ap₂ (λ a b. a ++ b)
    (map-append bare_modifier (part 0 ++ part 1) (part 2) ∙ ap₂ (λ a b. a ++ b) (map-append bare_modifier (part 0) (part 1) ∙ ap₂ (λ a b. a ++ b) (here 0) (here 1)) (here 2)) (here 3)) (here 4)
  where
    part : ℕ → List Modifier
    part n = filter (is_ranked n) ms

    here : (n : ℕ) → map bare_modifier (filter (is_ranked n) ms) ≡ filter (is_ranked n) (map bare_modifier ms)
    here n = map_filter bare_modifier (is_ranked n) (is_ranked n) (λ m. refl) ms

-- whether there is one of a kind does not change
pub has_ordered : (k : ModifierKind) (ms : List Modifier) → has_modifier k (ordered_modifiers ms) ≡ has_modifier k ms
has_ordered k ms = any_filter (λ x. number x == modifier_number k) (ordered_modifiers ms) ∙ ap some (kept (record { place = record { line = 1; col = 1 }; kind = k }) ms) ∙ sym (any_filter (λ x. number x == modifier_number k) ms)

pub has_bare : (k : ModifierKind) (ms : List Modifier) → has_modifier k ms ≡ has_modifier k (map bare_modifier ms)
has_bare k ms = any_map bare_modifier (λ m. modifier_number m.kind == modifier_number k) (λ m. modifier_number m.kind == modifier_number k) (λ m. refl) ms

pub access_bare : (ms : List Modifier) → list_any (is_ranked 0) ms ≡ list_any (is_ranked 0) (map bare_modifier ms)
access_bare ms = any_map bare_modifier (is_ranked 0) (is_ranked 0) (λ m. refl) ms

pub one_ordered : (ms : List Modifier) → AtMostOne number single ms → AtMostOne number single (ordered_modifiers ms)
one_ordered ms one = one_same number single ms (ordered_modifiers ms) (λ m. kept m ms) one

-- ---- with an access

abbrev pub internal : Place → Modifier
internal p = record { place = p; kind = modifier.Internal }

-- an access is put before modifiers that have none, where there is to be one
pub access_cases : (b : Bool) (p : Place) (ms : List Modifier) →
    ((with_access b p ms ≡ ms) × (b ≡ true → list_any (is_ranked 0) ms ≡ true)) ⊎ ((with_access b p ms ≡ internal p ∷ ms) × (list_any (is_ranked 0) ms ≡ false))
access_cases false p ms = inl (refl, λ h. absurd (cc))
access_cases true p ms = go (list_any (is_ranked 0) ms) refl
  where
    go : (a : Bool) → list_any (is_ranked 0) ms ≡ a → ((with_access true p ms ≡ ms) × (true ≡ true → list_any (is_ranked 0) ms ≡ true)) ⊎ ((with_access true p ms ≡ internal p ∷ ms) × (list_any (is_ranked 0) ms ≡ false))
    go true e = inl (ap (λ z. cond z ms (internal p ∷ ms)) e, λ h. e)
    go false e = inr (ap (λ z. cond z ms (internal p ∷ ms)) e, e)

pub ordered_internal : (p : Place) (ms : List Modifier) → ordered_modifiers (internal p ∷ ordered_modifiers ms) ≡ internal p ∷ ordered_modifiers ms
unfolding ordered_modifiers
ordered_internal p ms = ap (λ z. internal p ∷ z) (ordered_again ms)
