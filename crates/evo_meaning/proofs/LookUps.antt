-- A look-up gives what stands in the list under the key.
use Rattle.std.proofs.Common.{◌≡◌, ℕ, zero, suc, Bool, true, false, ◌&&◌, List, [], ◌∷◌, Option, Some, None, MatchOption, IsTrue, slice_get, if◌then◌else◌, refl, sym, ◌∙◌, subst}
use Rattle.std.proofs.Math.Bool.{true≢false}
use Rattle.evo_base.specs.declared.key.Key.{Key}
use Rattle.evo_resolved.specs.Found.{Sought, IsFound}
use Rattle.evo_resolved.specs.Named.{decl_key, is_declared, body_key, is_body, conformance_key, is_conformance}
use Rattle.evo_meaning.specs.Keys.{same_key, look_up}
use Rattle.evo_meaning.specs.Laws.{Finds, LookUpFinds}
use Rattle.evo_meaning.proofs.SameKey.{left, right, one_key, same_key_refl}

module _ {A : Type 0} (own : A → Key) (is_named : A → Bool) (key : Key) where
  abbrev None_in : List A → Type 0
  None_in items = (y : A) → IsFound own is_named items key y → ⊥

  tested : (x : A) → Sought own is_named key x → (is_named x && same_key (own x) key) ≡ true
  tested x s = both (is_named x) (same_key (own x) key) s.0 (subst (λ k. same_key (own x) k ≡ true) s.1 (same_key_refl (own x)))
    where
      both : (a b : Bool) → IsTrue a → b ≡ true → (a && b) ≡ true
      both true b h e = e
      both false b h e = h

  -- behind an item that is not the one
  behind : (x : A) (xs : List A) → (is_named x && same_key (own x) key) ≡ false → (o : Option A) → MatchOption o (None_in xs) (λ y. IsFound own is_named xs key y) → MatchOption o (None_in (x ∷ xs)) (λ y. IsFound own is_named (x ∷ xs) key y)
  behind x xs e (Some y) f = record { number = suc f.number; at = f.at; sought = f.sought }
  behind x xs e None none = λ y f. back y f.number f.at f.sought
    where
      back : (y : A) (n : ℕ) → slice_get (x ∷ xs) n ≡ Some y → Sought own is_named key y → ⊥
      back y zero is s = true≢false (sym (tested x (subst (λ (o : Option A). MatchOption o ⊥ (λ z. Sought own is_named key z)) (sym is) s)) ∙ e)
      back y (suc n) is s = none y (record { number = n; at = is; sought = s })

  here : (x : A) (xs : List A) (b : Bool) → (is_named x && same_key (own x) key) ≡ b → MatchOption (look_up own is_named xs key) (None_in xs) (λ y. IsFound own is_named xs key y) → MatchOption (if b then Some x else look_up own is_named xs key) (None_in (x ∷ xs)) (λ y. IsFound own is_named (x ∷ xs) key y)
  here x xs true e f = record { number = 0; at = refl; sought = (left (is_named x) (same_key (own x) key) e, one_key (own x) key (right (is_named x) (same_key (own x) key) e)) }
  here x xs false e f = behind x xs e (look_up own is_named xs key) f

  finds : (items : List A) → Finds own is_named items key
  unfolding look_up
  finds [] = λ y f. nowhere y f.number f.at
    where
      nowhere : (y : A) (n : ℕ) → slice_get [] n ≡ Some y → ⊥
      nowhere y n is = absurd cc
  finds (x ∷ xs) = here x xs (is_named x && same_key (own x) key) refl (finds xs)

pub look_up_finds : LookUpFinds
look_up_finds = record {
  declarations = λ items key. finds decl_key is_declared key items;
  bodies = λ items key. finds body_key is_body key items;
  conformances = λ items key. finds conformance_key is_conformance key items;
}
