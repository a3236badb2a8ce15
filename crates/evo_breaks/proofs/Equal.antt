-- Tests that are true exactly of equal things.
use Rattle.std.proofs.Common.{◌≡◌, ◌↔◌, Bool, true, false, ◌&&◌, List, [], ◌∷◌, IsTrue, refl, sym, subst, bytes_eq}
use Rattle.std.proofs.Math.Bool.{true≢false}
use Rattle.std.specs.Cmp.Lexicographic.{bytes_decides}
use Rattle.evo_base.specs.declared.key.Key.{Key}
use Rattle.evo_names.specs.Listed.{Text}
use Rattle.evo_names.specs.Meets.{same_names}
use Rattle.evo_meaning.specs.Keys.{same_key}
use Rattle.evo_meaning.proofs.SameKey.{left, right, one_key, same_key_refl}

-- two truth values that follow from each other
pub one_truth : (p q : Bool) → (p ≡ true → q ≡ true) → (q ≡ true → p ≡ true) → p ≡ q
one_truth true true f g = refl
one_truth false false f g = refl
one_truth true false f g = sym (f refl)
one_truth false true f g = g refl

pub key_test : (r : Bool) (a b : Key) → (IsTrue r ↔ (a ≡ b)) → r ≡ same_key a b
key_test r a b f = one_truth r (same_key a b) (λ e. subst (λ k. same_key a k ≡ true) (f.0 e) (same_key_refl a)) (λ e. f.1 (one_key a b e))

pub joined : {a b : Bool} → a ≡ true → b ≡ true → (a && b) ≡ true
joined {a} {b} e f = rw (e, f) refl

texts : (a b : List Text) → same_names a b ≡ true → a ≡ b
texts [] [] e = refl
texts [] (y ∷ ys) e = absurd (true≢false (sym e))
texts (x ∷ xs) [] e = absurd (true≢false (sym e))
texts (x ∷ xs) (y ∷ ys) e = rw ((bytes_decides x y).0 (left (bytes_eq x y) (same_names xs ys) e), texts xs ys (right (bytes_eq x y) (same_names xs ys) e)) refl

pub names_refl : (xs : List Text) → same_names xs xs ≡ true
names_refl [] = refl
names_refl (x ∷ xs) = joined ((bytes_decides x x).1 refl) (names_refl xs)

pub names_test : (r : Bool) (a b : List Text) → (IsTrue r ↔ (a ≡ b)) → r ≡ same_names a b
names_test r a b f = one_truth r (same_names a b) (λ e. subst (λ k. same_names a k ≡ true) (f.0 e) (names_refl a)) (λ e. f.1 (texts a b e))
