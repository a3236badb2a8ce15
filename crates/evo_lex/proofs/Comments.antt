-- Steps through a nested comment.
use Rattle.std.proofs.Common.{◌≡◌, ℕ, zero, suc, ◌+◌, List, [], ◌∷◌, drop, Bool, true, false, refl}
use Rattle.std.specs.Prelude.{◌&&◌, ◌==◌}
use Rattle.evo_lex.specs.Front.{starts, comment_from}

and_false : (b : Bool) → (b && false) ≡ true → ⊥
and_false true e = absurd cc
and_false false e = absurd cc

pub closes : (n depth : ℕ) (rest : List ℕ) → starts 42 47 rest ≡ true → comment_from n (suc depth) rest ≡ comment_from (n + 2) depth (drop 2 rest)
closes n depth [] e = absurd cc
closes n depth (c ∷ []) e = absurd (and_false (c == 42) e)
closes n depth (c ∷ d ∷ text) e = rw e refl

pub opens : (n depth : ℕ) (rest : List ℕ) → starts 42 47 rest ≡ false → starts 47 42 rest ≡ true → comment_from n depth rest ≡ comment_from (n + 2) (suc depth) (drop 2 rest)
opens n depth [] close e = absurd cc
opens n depth (c ∷ []) close e = absurd (and_false (c == 47) e)
opens n zero (c ∷ d ∷ text) close e = rw (close, e) refl
opens n (suc depth) (c ∷ d ∷ text) close e = rw (close, e) refl

pub passes : (n depth : ℕ) (rest : List ℕ) → starts 42 47 rest ≡ false → starts 47 42 rest ≡ false → comment_from n depth rest ≡ comment_from (n + 1) depth (drop 1 rest)
passes n depth [] close other = refl
passes n depth (c ∷ []) close other = refl
passes n zero (c ∷ d ∷ text) close other = rw (close, other) refl
passes n (suc depth) (c ∷ d ∷ text) close other = rw (close, other) refl
