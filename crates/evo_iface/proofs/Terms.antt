-- The terms of bodies.
use Rattle.std.proofs.Common.{◌≡◌, ℕ, ◌<◌, ◌^◌, List, [], ◌∷◌, ◌++◌, sym, ◌∙◌, ap, subst, arith}
use Rattle.std.specs.Str.{IsUtf8}
use Rattle.std.specs.Fmt.{decimal}
use Rattle.std.proofs.lemmas.Fmt.{decimal_injective}
use Rattle.std.proofs.lemmas.List.{append_cancel_right}
use Rattle.std.proofs.lemmas.Str.{IsUtf8-append, IsUtf8-from_ascii}
use Rattle.std.proofs.lemmas.Str.Ascii.{IsAscii-cons, IsAscii-nil}
use Rattle.evo_first_form.specs.declared.Term.{Term}
use Rattle.evo_first_form.specs.declared.Term.TheVariants.{Integer, Call}
use Rattle.evo_iface.specs.Text.{Lacks, IsPlain, IsPlainTerm, term_text}
use Rattle.evo_iface.proofs.Fronts.{lacks-both, lacks-none, decimal_lacks, plain_decimal}

brackets_are_text : IsUtf8 (40 ∷ 41 ∷ [])
brackets_are_text = IsUtf8-from_ascii (40 ∷ 41 ∷ []) (IsAscii-cons 40 (41 ∷ []) (omega arith) (IsAscii-cons 41 [] (omega arith) IsAscii-nil))

-- a term's text ends with its line
pub plain_term : (t : Term) → IsPlainTerm t → IsPlain 10 (term_text t)
plain_term (Integer n) lt = plain_decimal 10 n (omega arith) lt
plain_term (Call name) plain = record {
  utf8 = IsUtf8-append name (40 ∷ 41 ∷ []) plain.utf8 brackets_are_text;
  lacks = lacks-both 10 name (40 ∷ 41 ∷ []) plain.lacks (omega arith, (omega arith, tt));
}

-- no decimal text is a call
pub no_number : (n : ℕ) (name : List ℕ) → n < 2 ^ 64 → decimal n ≡ name ++ 40 ∷ 41 ∷ [] → ⊥
no_number n name lt e = lacks-none 40 name (41 ∷ []) (subst (Lacks 40) e (decimal_lacks 40 n (omega arith) lt))

-- which term a call's text is
pub only_call : (text name : List ℕ) → text ≡ name ++ 40 ∷ 41 ∷ [] → (t : Term) → IsPlainTerm t → text ≡ term_text t → t ≡ Call name
only_call text name is (Integer n) lt e = absurd (no_number n name lt (sym e ∙ is))
only_call text name is (Call other) plain e = ap Call (append_cancel_right other name (40 ∷ 41 ∷ []) (sym e ∙ is))

-- which term an integer's text is
pub only_integer : (text : List ℕ) (n : ℕ) → text ≡ decimal n → n < 2 ^ 64 → (t : Term) → IsPlainTerm t → text ≡ term_text t → t ≡ Integer n
only_integer text n is lt (Integer m) small e = ap Integer (decimal_injective m n small lt (sym e ∙ is))
only_integer text n is lt (Call name) plain e = absurd (no_number n name lt (sym is ∙ e))

-- a text that is neither is no term
pub no_term : (text : List ℕ) → ((name : List ℕ) → text ≡ name ++ 40 ∷ 41 ∷ [] → ⊥) → ((n : ℕ) → n < 2 ^ 64 → text ≡ decimal n → ⊥) → (t : Term) → IsPlainTerm t → text ≡ term_text t → ⊥
no_term text none other (Integer n) lt e = other n lt e
no_term text none other (Call name) plain e = none name e
