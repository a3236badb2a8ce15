-- Tests of lists, pairs and options.
use Rattle.std.proofs.Common.{◌≡◌, ℕ, List, map, Bool, IsTrue, ◌↔◌, false, sym, ◌∙◌, ap, ap₂, ◌<◌, length, get_or, arith}
use Rattle.std.proofs.lemmas.List.{get_or-map, length-map}

abbrev pub Both : Bool → Bool → Bool → Type 0
Both r u v = IsTrue r ↔ (IsTrue u × IsTrue v)

-- what a test of two parts decides
pub and_iff : {P Q : Type 0} (r u v : Bool) → Both r u v → (IsTrue u ↔ P) → (IsTrue v ↔ Q) → IsTrue r ↔ (P × Q)
and_iff r u v both p q = (λ h. (p.0 (both.0 h).0, q.0 (both.0 h).1), λ w. both.1 (p.1 w.0, q.1 w.1))

pub iff_trans : {P Q R : Type 0} → (P ↔ Q) → (Q ↔ R) → P ↔ R
iff_trans p q = (λ h. q.0 (p.0 h), λ h. p.1 (q.1 h))

pub pair_iff : {A B : Type 0} (p q : A × B) → ((p.0 ≡ q.0) × (p.1 ≡ q.1)) ↔ (p ≡ q)
pair_iff p q = (λ h. ap₂ (λ a b. (a, b)) h.0 h.1, λ e. (ap (λ z. z.0) e, ap (λ z. z.1) e))

-- lists of different lengths
pub lengths_differ : {X Y : Type 0} (g : X → Y) (cs ds xs ys : List X) → xs ≡ cs → ys ≡ ds → (length xs ≡ length ys → ⊥) → IsTrue false ↔ (map g cs ≡ map g ds)
lengths_differ g cs ds xs ys isc isd differ =
    let never : IsTrue false → ⊥ = λ w. cc in
    let lengths : map g cs ≡ map g ds → length xs ≡ length ys = λ e. ap length isc ∙ sym (length-map cs g) ∙ ap length e ∙ length-map ds g ∙ ap length (sym isd) in
    (λ w. absurd (never w), λ e. absurd (differ (lengths e)))

-- lists that differ at a place
lists_differ : {X Y : Type 0} (g : X → Y) (xs ys : List X) (i : ℕ) (x y : X) → i < length xs → length xs ≡ length ys → x ≡ get_or xs i x → y ≡ get_or ys i y →
    (IsTrue false ↔ (g x ≡ g y)) → IsTrue false ↔ (map g xs ≡ map g ys)
lists_differ g xs ys i x y below_xs same isx isy h =
    let never : IsTrue false → ⊥ = λ w. cc in
    let below_ys : i < length ys = omega arith in
    let equal : map g xs ≡ map g ys → g x ≡ g y = λ e. ap g isx ∙ sym (get_or-map g xs i x (g x) below_xs) ∙ ap (λ l. get_or l i (g x)) e ∙ get_or-map g ys i y (g x) below_ys ∙ ap g (sym isy) in
    (λ w. absurd (never w), λ e. h.1 (equal e))

-- a test of equal lists
of_slices : {X Y : Type 0} (r : Bool) (g : X → Y) (cs ds xs ys : List X) → xs ≡ cs → ys ≡ ds → (IsTrue r ↔ (map g xs ≡ map g ys)) → IsTrue r ↔ (map g cs ≡ map g ds)
of_slices r g cs ds xs ys isc isd test = (λ w. ap (map g) (sym isc) ∙ test.0 w ∙ ap (map g) isd, λ e. test.1 (ap (map g) isc ∙ e ∙ ap (map g) (sym isd)))

pub slices_differ : {X Y : Type 0} (g : X → Y) (cs ds xs ys : List X) (i : ℕ) (x y : X) → xs ≡ cs → ys ≡ ds → i < length xs → length xs ≡ length ys → x ≡ get_or xs i x → y ≡ get_or ys i y →
    (IsTrue false ↔ (g x ≡ g y)) → IsTrue false ↔ (map g cs ≡ map g ds)
slices_differ g cs ds xs ys i x y isc isd below_xs same isx isy h = of_slices false g cs ds xs ys isc isd (lists_differ g xs ys i x y below_xs same isx isy h)
