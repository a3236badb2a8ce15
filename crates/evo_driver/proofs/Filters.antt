-- A list that is filtered from the left, and texts without a byte.
use Rattle.std.proofs.Common.{◌≡◌, ◌≢◌, ℕ, suc, ◌+◌, ◌<◌, Bool, true, false, List, [], ◌∷◌, length, drop, get_or, refl, sym, ◌∙◌, ap, arith, add-one, drop-cons}
use Rattle.std.specs.Prelude.{filter}
use Rattle.evo_iface.specs.Text.{Lacks}

-- a loop's next item
pub cut : {A : Type 0} (xs : List A) (i : ℕ) (x : A) → i < length xs → x ≡ get_or xs i x → drop i xs ≡ x ∷ drop (i + 1) xs
cut xs i x lt is =
    let first : drop i xs ≡ get_or xs i x ∷ drop (i + 1) xs = rw add-one (drop-cons xs i x lt) in
    first ∙ ap (λ y. y ∷ drop (i + 1) xs) (sym is)

-- a text that has the byte at no place
pub lacks : (byte : ℕ) (xs : List ℕ) → ((i : ℕ) → i < length xs → get_or xs i 0 ≢ byte) → Lacks byte xs
lacks byte [] none = tt
lacks byte (c ∷ cs) none = (none 0 (omega arith), lacks byte cs (λ i lt. none (suc i) (omega arith)))
