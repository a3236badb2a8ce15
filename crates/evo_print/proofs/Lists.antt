-- What is left to print of a list.
use Rattle.std.proofs.Common.{◌≡◌, ℕ, zero, suc, ◌≤◌, List, [], ◌∷◌, ◌++◌, length, drop, map, refl, sym, ap, ◌∙◌, arith}
use Rattle.std.specs.List.{flat_map, join_by}
use Rattle.std.proofs.lemmas.List.{append-nil, drop_all}
use Rattle.std.proofs.lemmas.List.Folds.{flat_map-map}
use Rattle.evo_tree.specs.Canonical.{Text}

module _ {X : Type 0} (f : X → Text) where
  -- what is left from an index on, where a mark stands between each two parts
  abbrev pub left : Text → ℕ → List X → Text
  left mark zero xs = join_by f mark xs
  left mark (suc i) xs = flat_map (λ y. mark ++ f y) (drop (suc i) xs)

  -- nothing is left at the end
  left_none : (mark : Text) (xs : List X) (i : ℕ) → length xs ≤ i → left mark i xs ≡ []
  left_none mark [] zero le = refl
  left_none mark (x ∷ xs) zero le = absurd (omega arith)
  left_none mark xs (suc i) le = ap (flat_map (λ (y : X). mark ++ f y)) (drop_all (suc i) xs le)

  pub joined_end : (mark : Text) (xs : List X) (i : ℕ) (old now : Text) → length xs ≤ i → old ++ join_by f mark xs ≡ now ++ left mark i xs → now ≡ old ++ join_by f mark xs
  joined_end mark xs i old now le h = sym (h ∙ ap (λ (l : Text). now ++ l) (left_none mark xs i le) ∙ append-nil now)

-- texts of mapped lists
pub join_by-map : {X Y : Type 0} (f : Y → Text) (h : X → Y) (mark : Text) (xs : List X) → join_by f mark (map h xs) ≡ join_by (λ x. f (h x)) mark xs
join_by-map f h mark [] = refl
join_by-map {Y = Y} f h mark (x ∷ xs) = ap (λ (l : Text). f (h x) ++ l) (flat_map-map (λ (y : Y). mark ++ f y) h xs)
