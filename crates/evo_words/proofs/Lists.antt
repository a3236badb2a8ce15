-- Lists of six words.
use Rattle.std.proofs.Common.{◌≡◌, ℕ, ◌<◌, ◌≤◌, List, [], ◌∷◌, length, get_or, arith}

pub six_words : (xs : List (List ℕ)) (a b c d e f : List ℕ) → 6 ≤ length xs → length xs < 7 → a ≡ get_or xs 0 a → b ≡ get_or xs 1 b → c ≡ get_or xs 2 c → d ≡ get_or xs 3 d → e ≡ get_or xs 4 e → f ≡ get_or xs 5 f → xs ≡ a ∷ b ∷ c ∷ d ∷ e ∷ f ∷ []
six_words [] a b c d e f le lt p0 p1 p2 p3 p4 p5 = absurd (omega arith)
six_words (x ∷ []) a b c d e f le lt p0 p1 p2 p3 p4 p5 = absurd (omega arith)
six_words (x ∷ y ∷ []) a b c d e f le lt p0 p1 p2 p3 p4 p5 = absurd (omega arith)
six_words (x ∷ y ∷ z ∷ []) a b c d e f le lt p0 p1 p2 p3 p4 p5 = absurd (omega arith)
six_words (x ∷ y ∷ z ∷ u ∷ []) a b c d e f le lt p0 p1 p2 p3 p4 p5 = absurd (omega arith)
six_words (x ∷ y ∷ z ∷ u ∷ v ∷ []) a b c d e f le lt p0 p1 p2 p3 p4 p5 = absurd (omega arith)
six_words (x ∷ y ∷ z ∷ u ∷ v ∷ w ∷ []) a b c d e f le lt p0 p1 p2 p3 p4 p5 = cc
six_words (x ∷ y ∷ z ∷ u ∷ v ∷ w ∷ s ∷ xs) a b c d e f le lt p0 p1 p2 p3 p4 p5 = absurd (omega arith)
