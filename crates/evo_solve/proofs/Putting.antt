-- Where a word is put among others.
use Rattle.std.proofs.Common.{◌≡◌, ℕ, zero, suc, ◌+◌, List, [], ◌∷◌, ◌++◌, length, take, drop, Some, slice_get, refl, sym, ◌∙◌, ap, add-one}
use Rattle.std.specs.declared.cmp.Ordering.{Ordering}
use Rattle.std.specs.declared.cmp.Ordering.TheVariants.{Less, Equal, Greater}
use Rattle.evo_solve.specs.declared.path.Word.{Word}
use Rattle.evo_solve.specs.Words.{put, word_order}
use Rattle.evo_solve.proofs.Lists.{take_at}

-- the first others come before the word
abbrev pub Passed : Word → List Word → ℕ → Type 0
Passed w ws i = put w ws ≡ take i ws ++ put w (drop i ws)

pub passed_none : (w : Word) (ws : List Word) → Passed w ws 0
passed_none w [] = refl
passed_none w (v ∷ vs) = refl

drop_at : (ws : List Word) (i : ℕ) (v : Word) → slice_get ws i ≡ Some v → drop i ws ≡ v ∷ drop (suc i) ws
drop_at [] i v e = absurd (cc e)
drop_at (w ∷ ws) zero v e = ap (λ z. z ∷ ws) (cc e)
drop_at (w ∷ ws) (suc i) v e = drop_at ws i v e

put_by : (w v : Word) (vs : List Word) (o : Ordering) → word_order w v ≡ o → put w (v ∷ vs) ≡ elim o [ Less ↦ w ∷ v ∷ vs | Equal ↦ v ∷ vs | Greater ↦ v ∷ put w vs ]
put_by w v vs o e = ap (λ o. elim o [ Less ↦ w ∷ v ∷ vs | Equal ↦ v ∷ vs | Greater ↦ v ∷ put w vs ]) e

append_one : (xs : List Word) (y : Word) (zs : List Word) → xs ++ y ∷ zs ≡ (xs ++ y ∷ []) ++ zs
append_one [] y zs = refl
append_one (x ∷ xs) y zs = ap (λ l. x ∷ l) (append_one xs y zs)

pub passed_more : (w : Word) (ws : List Word) (i : ℕ) (v : Word) → slice_get ws i ≡ Some v → word_order w v ≡ Greater → Passed w ws i → Passed w ws (i + 1)
passed_more w ws i v at e p = rw add-one (p ∙ ap (λ l. take i ws ++ put w l) (drop_at ws i v at) ∙ ap (λ l. take i ws ++ l) (put_by w v (drop (suc i) ws) Greater e) ∙ append_one (take i ws) v (put w (drop (suc i) ws)) ∙ ap (λ l. l ++ put w (drop (suc i) ws)) (sym (take_at ws i v at)))

pub put_here : (w : Word) (ws : List Word) (i : ℕ) (v : Word) → slice_get ws i ≡ Some v → word_order w v ≡ Less → Passed w ws i → put w ws ≡ take i ws ++ w ∷ drop i ws
put_here w ws i v at e p = p ∙ ap (λ l. take i ws ++ put w l) (drop_at ws i v at) ∙ ap (λ l. take i ws ++ l) (put_by w v (drop (suc i) ws) Less e) ∙ ap (λ l. take i ws ++ w ∷ l) (sym (drop_at ws i v at))

take_drop : (ws : List Word) (i : ℕ) → take i ws ++ drop i ws ≡ ws
take_drop [] zero = refl
take_drop [] (suc i) = refl
take_drop (w ∷ ws) zero = refl
take_drop (w ∷ ws) (suc i) = ap (λ l. w ∷ l) (take_drop ws i)

pub put_same : (w : Word) (ws : List Word) (i : ℕ) (v : Word) → slice_get ws i ≡ Some v → word_order w v ≡ Equal → Passed w ws i → put w ws ≡ ws
put_same w ws i v at e p = p ∙ ap (λ l. take i ws ++ put w l) (drop_at ws i v at) ∙ ap (λ l. take i ws ++ l) (put_by w v (drop (suc i) ws) Equal e) ∙ ap (λ l. take i ws ++ l) (sym (drop_at ws i v at)) ∙ take_drop ws i

drop_all : (ws : List Word) → drop (length ws) ws ≡ []
drop_all [] = refl
drop_all (w ∷ ws) = drop_all ws

pub put_last : (w : Word) (ws : List Word) (i : ℕ) → i ≡ length ws → Passed w ws i → put w ws ≡ take i ws ++ w ∷ drop i ws
put_last w ws i e p =
    let none : drop i ws ≡ [] = ap (λ k. drop k ws) e ∙ drop_all ws in
    p ∙ ap (λ l. take i ws ++ put w l) none ∙ ap (λ l. take i ws ++ w ∷ l) (sym none)
