-- What stands before an ending.
use Rattle.std.proofs.Common.{◌≡◌, ℕ, zero, suc, ◌+◌, ◌<◌, List, [], ◌∷◌, length, take, drop, Bool, true, false, Option, Some, None, refl, ap, ◌∙◌, arith}
use Rattle.std.specs.Prelude.{if◌then◌else◌}
use Rattle.std.specs.Option.{option_map}
use Rattle.std.specs.Str.{bytes_eq}
use Rattle.std.specs.Cmp.Lexicographic.{bytes_decides}
use Rattle.evo_execution.specs.Tables.{before}

unequal : (a b : List ℕ) → (length a ≡ length b → ⊥) → bytes_eq a b ≡ false
unequal a b h = at (bytes_eq a b) refl
  where
    at : (v : Bool) → bytes_eq a b ≡ v → v ≡ false
    at true q = absurd (h (ap length ((bytes_decides a b).0 q)))
    at false q = refl

abbrev put_before : ℕ → Option (List ℕ) → Option (List ℕ)
put_before b = option_map (λ (t : List ℕ). b ∷ t)

pub before-short : (e t : List ℕ) → length t < length e → before e t ≡ None
before-short e [] h = refl
before-short e (b ∷ bs) h =
    ap (λ v. if v then Some [] else put_before b (before e bs)) (unequal e (b ∷ bs) (λ q. omega arith))
    ∙ ap (put_before b) (before-short e bs (omega arith))

found-more : (v : Bool) (b : ℕ) (t : List ℕ) → put_before b (if v then Some t else None) ≡ (if v then Some (b ∷ t) else None)
found-more true b t = refl
found-more false b t = refl

pub before-at : (e t : List ℕ) (n : ℕ) (v : Bool) → 0 < length e → n + length e ≡ length t → bytes_eq e (drop n t) ≡ v → before e t ≡ (if v then Some (take n t) else None)
before-at e [] n v some len q = absurd (omega arith)
before-at e (b ∷ bs) zero v some len q =
    ap (λ v. if v then Some [] else put_before b (before e bs)) q
    ∙ (ap (λ t. if v then Some [] else put_before b t) (before-short e bs (omega arith)))
before-at e (b ∷ bs) (suc n) v some len q =
    ap (λ v. if v then Some [] else put_before b (before e bs)) (unequal e (b ∷ bs) (λ h. omega arith))
    ∙ (ap (put_before b) (before-at e bs n v some (omega arith) q) ∙ found-more v b (take n bs))
