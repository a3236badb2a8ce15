-- Lists with other elements from a place on, seen through a function of the elements.
use Rattle.std.proofs.Common.{◌≡◌, ℕ, zero, suc, ◌+◌, ◌-◌, ◌≤◌, true, List, [], ◌∷◌, ◌++◌, length, map, take, drop, refl, sym, ap, ◌∙◌, arith}
use Rattle.std.specs.Prelude.{slice_set, replicate, nat_le}
use Rattle.std.proofs.lemmas.Bool.{leb-true}
use Rattle.std.proofs.lemmas.List.{take-map, drop-map, map-append, length-map, length-take-le, length-drop}
use Rattle.evo_execution.specs.declared.end.MachineFault.TheVariants as fault
use Rattle.evo_execution.specs.Words.{Word, Answer, Got, and_then, provided, pack, unpack}
use Rattle.evo_execution.specs.Execution.{words_at, written_at}
use Rattle.evo_interpreter.specs.Words.{put_at}

pub map-put : {A B : Type 0} (f : A → B) (xs : List A) (at : ℕ) (new : List A) → map f (put_at xs at new) ≡ put_at (map f xs) at (map f new)
map-put f xs at new =
    map-append f (take at xs) (new ++ drop (at + length new) xs)
    ∙ (ap (λ t. map f (take at xs) ++ t) (map-append f new (drop (at + length new) xs))
    ∙ (ap (λ t. t ++ (map f new ++ map f (drop (at + length new) xs))) (sym (take-map f at xs))
    ∙ (ap (λ t. take at (map f xs) ++ (map f new ++ t)) (sym (drop-map f (at + length new) xs))
    ∙ ap (λ n. take at (map f xs) ++ (map f new ++ drop (at + n) (map f xs))) (sym (length-map new f)))))

pub set-put : {A : Type 0} (xs : List A) (at : ℕ) (x : A) → at + 1 ≤ length xs → slice_set xs at x ≡ put_at xs at (x ∷ [])
set-put [] at x h = absurd (omega arith)
set-put (y ∷ ys) zero x h = refl
set-put (y ∷ ys) (suc at) x h = ap (λ t. y ∷ t) (set-put ys at x (omega arith)) ∙ (let n : suc at + 1 ≡ suc (at + 1) = omega arith in ap (λ k. y ∷ (take at ys ++ (x ∷ drop k (y ∷ ys)))) (sym n))

pub replicate-more : {A : Type 0} (x : A) (n : ℕ) → replicate (n + 1) x ≡ replicate n x ++ x ∷ []
replicate-more x zero = refl
replicate-more x (suc n) = let m : suc n + 1 ≡ suc (n + 1) = omega arith in ap (λ k. replicate k x) m ∙ ap (λ t. x ∷ t) (replicate-more x n)

-- a part that lies inside, of a list that is seen through a function
pub words_at-inside : {A : Type 0} (f : A → Word) (ws : List Word) (xs : List A) (at n : ℕ) → ws ≡ map f xs → nat_le (at + n) (length ws) ≡ true → words_at ws at n ≡ Got (map f (take (at + n - at) (drop at xs)))
words_at-inside f ws xs at n same h =
    let inside : words_at ws at n ≡ Got (take n (drop at ws)) = ap (λ b. provided b fault.Range (take n (drop at ws))) h in
    let count : n ≡ at + n - at = omega arith in
    inside ∙ ap (λ t. Got t) (ap (λ k. take k (drop at ws)) count ∙ (ap (λ t. take (at + n - at) (drop at t)) same ∙ (ap (take (at + n - at)) (drop-map f at xs) ∙ take-map f (at + n - at) (drop at xs))))

pub unpack-pack : (ws : List Word) → unpack (pack ws) ≡ ws
unpack-pack [] = refl
unpack-pack (w ∷ ws) = ap (λ (t : List Word). w ∷ t) (unpack-pack ws)

length-part : {A : Type 0} (xs : List A) (at n : ℕ) → at + n ≤ length xs → length (take (at + n - at) (drop at xs)) ≡ n
length-part xs at n h = length-take-le (at + n - at) (drop at xs) (omega (arith, length-drop at xs)) ∙ omega arith

-- a part of a list, put into another, where both are seen through a function
pub given : {A : Type 0} (f : A → Word) (ws os : List Word) (xs ys new : List A) (from n to : ℕ) → ws ≡ map f xs → os ≡ map f ys → nat_le (from + n) (length ws) ≡ true → nat_le (to + n) (length os) ≡ true
    → new ≡ put_at ys to (take (from + n - from) (drop from xs)) → and_then (words_at ws from n) (written_at os to) ≡ Got (map f new)
given f ws os xs ys new from n to same others inside fits is =
    let part = take (from + n - from) (drop from xs) in
    let within : from + n ≤ length xs = let l = length-map xs f in let e : length ws ≡ length xs = ap length same ∙ l in omega (arith, e, leb-true (from + n) (length ws) inside) in
    let count : length (map f part) ≡ n = length-map part f ∙ length-part xs from n within in
    ap (λ (a : Answer (List Word)). and_then a (written_at os to)) (words_at-inside f ws xs from n same inside)
    ∙ (ap (λ k. provided (nat_le (to + k) (length os)) fault.Range (put_at os to (map f part))) count
    ∙ (ap (λ b. provided b fault.Range (put_at os to (map f part))) fits
    ∙ ap (λ (t : List Word). Got t) (ap (λ (l : List Word). put_at l to (map f part)) others ∙ (sym (map-put f ys to part) ∙ ap (map f) (sym is)))))
