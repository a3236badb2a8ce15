-- What is printed in several steps.
use Rattle.std.proofs.Common.{◌≡◌, ◌++◌, ℕ, zero, suc, ◌+◌, ◌∷◌, [], refl, sym, ◌∙◌, ap, append_assoc, add-one}
use Rattle.std.specs.Prelude.{OnOk, Result}
use Rattle.std.proofs.lemmas.Result.{on_ok_weaker}
use Rattle.evo_tree.specs.Canonical.{Text, indent}

pub two : (old a b m n : Text) → m ≡ old ++ a → n ≡ m ++ b → n ≡ old ++ (a ++ b)
two old a b m n p q = q ∙ ap (λ (l : Text). l ++ b) p ∙ append_assoc old a b

-- a text by another name
pub named : {T E : Type 0} (r : Result T E) (old new a whole : Text) → whole ≡ a → OnOk r (new ≡ old ++ a) → OnOk r (new ≡ old ++ whole)
named r old new a whole e h = on_ok_weaker r (λ (q : new ≡ old ++ a). q ∙ ap (λ (l : Text). old ++ l) (sym e)) h

-- two steps, of which the last call is the result
pub named2 : {T E : Type 0} (r : Result T E) (old a b m new whole : Text) → m ≡ old ++ a → whole ≡ a ++ b → OnOk r (new ≡ m ++ b) → OnOk r (new ≡ old ++ whole)
named2 r old a b m new whole p e h = named r old new (a ++ b) whole e (on_ok_weaker r (λ (q : new ≡ m ++ b). two old a b m new p q) h)

pub named3 : {T E : Type 0} (r : Result T E) (old a b c m n new whole : Text) → m ≡ old ++ a → n ≡ m ++ b → whole ≡ a ++ b ++ c → OnOk r (new ≡ n ++ c) → OnOk r (new ≡ old ++ whole)
named3 r old a b c m n new whole p q e h = named2 r old (a ++ b) c n new whole (two old a b m n p q) e h

pub named4 : {T E : Type 0} (r : Result T E) (old a b c d m n o new whole : Text) → m ≡ old ++ a → n ≡ m ++ b → o ≡ n ++ c → whole ≡ a ++ b ++ c ++ d → OnOk r (new ≡ o ++ d) → OnOk r (new ≡ old ++ whole)
named4 r old a b c d m n o new whole p q s e h = named3 r old (a ++ b) c d n o new whole (two old a b m n p q) s e h

pub named5 : {T E : Type 0} (r : Result T E) (old a b c d f m n o s new whole : Text) → m ≡ old ++ a → n ≡ m ++ b → o ≡ n ++ c → s ≡ o ++ d → whole ≡ a ++ b ++ c ++ d ++ f → OnOk r (new ≡ s ++ f) → OnOk r (new ≡ old ++ whole)
named5 r old a b c d f m n o s new whole p q u v e h = named4 r old (a ++ b) c d f n o s new whole (two old a b m n p q) u v e h

-- one level more
indent-suc : (d : ℕ) → indent (suc d) ≡ indent d ++ (32 ∷ 32 ∷ [])
indent-suc zero = refl
indent-suc (suc d) = ap (λ (l : Text). 32 ∷ 32 ∷ l) (indent-suc d)

pub indent_more : (d : ℕ) → indent (d + 1) ≡ indent d ++ (32 ∷ 32 ∷ [])
indent_more d = ap indent (add-one d) ∙ indent-suc d
