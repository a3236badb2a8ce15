-- How lists of names are compared from a place on.
use Rattle.std.proofs.Common.{◌≡◌, ℕ, zero, suc, ◌+◌, ◌<◌, ◌≤◌, List, [], ◌∷◌, length, drop, Some, slice_get, refl, sym, ◌∙◌, ap, arith, add-one}
use Rattle.std.specs.Ordering.{ordering_then}
use Rattle.std.specs.declared.cmp.Ordering.{Ordering}
use Rattle.std.specs.declared.cmp.Ordering.TheVariants.{Less, Equal, Greater}
use Rattle.evo_names.specs.Listed.{Text}
use Rattle.evo_solve.specs.Canonical.{name_order, names_order}

names_at : (a b : List Text) (i : ℕ) (x y : Text) → slice_get a i ≡ Some x → slice_get b i ≡ Some y → names_order (drop i a) (drop i b) ≡ ordering_then (name_order x y) (names_order (drop (suc i) a) (drop (suc i) b))
names_at [] b i x y p q = absurd (cc p)
names_at (v ∷ vs) [] i x y p q = absurd (cc q)
names_at (v ∷ vs) (w ∷ ws) zero x y p q = let e : v ≡ x = cc p in let f : w ≡ y = cc q in ap (λ z. ordering_then (name_order z w) (names_order vs ws)) e ∙ ap (λ z. ordering_then (name_order x z) (names_order vs ws)) f
names_at (v ∷ vs) (w ∷ ws) (suc i) x y p q = names_at vs ws i x y p q

-- where two names are equal, the rest decides
pub names_go_on : (a b : List Text) (i : ℕ) (x y : Text) → slice_get a i ≡ Some x → slice_get b i ≡ Some y → name_order x y ≡ Equal → names_order a b ≡ names_order (drop i a) (drop i b) → names_order a b ≡ names_order (drop (i + 1) a) (drop (i + 1) b)
names_go_on a b i x y p q e f = rw add-one (f ∙ names_at a b i x y p q ∙ ap (λ o. ordering_then o (names_order (drop (suc i) a) (drop (suc i) b))) e)

-- else they do
pub names_differ : (a b : List Text) (i : ℕ) (x y : Text) → slice_get a i ≡ Some x → slice_get b i ≡ Some y → (name_order x y ≡ Equal → ⊥) → names_order a b ≡ names_order (drop i a) (drop i b) → name_order x y ≡ names_order a b
names_differ a b i x y p q n f = go (name_order x y) refl
  where
    go : (o : Ordering) → name_order x y ≡ o → name_order x y ≡ names_order a b
    go Less e = e ∙ sym (f ∙ names_at a b i x y p q ∙ ap (λ o. ordering_then o (names_order (drop (suc i) a) (drop (suc i) b))) e)
    go Equal e = absurd (n e)
    go Greater e = e ∙ sym (f ∙ names_at a b i x y p q ∙ ap (λ o. ordering_then o (names_order (drop (suc i) a) (drop (suc i) b))) e)

drop_nil : (i : ℕ) → ◌≡◌ {A = List Text} (drop i []) []
drop_nil zero = refl
drop_nil (suc i) = refl

past : (a b : List Text) (i : ℕ) → i < length a → length b ≤ i → names_order (drop i a) (drop i b) ≡ Greater
past [] b i less more = absurd (omega arith)
past (v ∷ vs) [] zero less more = refl
past (v ∷ vs) (w ∷ ws) zero less more = absurd (omega arith)
past (v ∷ vs) [] (suc i) less more = ap (λ l. names_order (drop i vs) l) (sym (drop_nil i)) ∙ past vs [] i (omega arith) (omega arith)
past (v ∷ vs) (w ∷ ws) (suc i) less more = past vs ws i (omega arith) (omega arith)

pub names_past : (a b : List Text) (i : ℕ) → i < length a → length b ≤ i → names_order a b ≡ names_order (drop i a) (drop i b) → Greater ≡ names_order a b
names_past a b i less more f = sym (f ∙ past a b i less more)

shorter : (a b : List Text) (i : ℕ) → length a ≤ i → i < length b → names_order (drop i a) (drop i b) ≡ Less
shorter [] [] i more less = absurd (omega arith)
shorter [] (w ∷ ws) zero more less = refl
shorter [] (w ∷ ws) (suc i) more less = ap (λ l. names_order l (drop i ws)) (sym (drop_nil i)) ∙ shorter [] ws i (omega arith) (omega arith)
shorter (v ∷ vs) b zero more less = absurd (omega arith)
shorter (v ∷ vs) [] (suc i) more less = absurd (omega arith)
shorter (v ∷ vs) (w ∷ ws) (suc i) more less = shorter vs ws i (omega arith) (omega arith)

level : (a b : List Text) (i : ℕ) → length a ≤ i → length b ≤ i → names_order (drop i a) (drop i b) ≡ Equal
level [] [] i more less = nothing i
  where
    nothing : (i : ℕ) → names_order (drop i []) (drop i []) ≡ Equal
    nothing zero = refl
    nothing (suc i) = refl
level [] (w ∷ ws) zero more less = absurd (omega arith)
level [] (w ∷ ws) (suc i) more less = ap (λ l. names_order l (drop i ws)) (sym (drop_nil i)) ∙ level [] ws i (omega arith) (omega arith)
level (v ∷ vs) b zero more less = absurd (omega arith)
level (v ∷ vs) [] (suc i) more less = ap (λ l. names_order (drop i vs) l) (sym (drop_nil i)) ∙ level vs [] i (omega arith) (omega arith)
level (v ∷ vs) (w ∷ ws) (suc i) more less = level vs ws i (omega arith) (omega arith)

pub names_shorter : (a b : List Text) (i : ℕ) → length a ≤ i → i < length b → names_order a b ≡ names_order (drop i a) (drop i b) → Less ≡ names_order a b
names_shorter a b i more less f = sym (f ∙ shorter a b i more less)

pub names_level : (a b : List Text) (i : ℕ) → length a ≤ i → length b ≤ i → names_order a b ≡ names_order (drop i a) (drop i b) → Equal ≡ names_order a b
names_level a b i more less f = sym (f ∙ level a b i more less)
