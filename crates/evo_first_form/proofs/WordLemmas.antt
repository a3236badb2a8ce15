-- What the tests of words say.
use Rattle.std.proofs.Common.{◌≡◌, ℕ, Bool, true, false, List, refl, sym, ◌∙◌, rules, inl, inr, ◌⊎◌}
use Rattle.std.specs.Prelude.{◌||◌, ◌&&◌, ◌↔◌, not, codes, IsTrue}
use Rattle.std.specs.Str.{bytes_eq, IsUtf8, is_utf8}
use Rattle.std.proofs.lemmas.Slice.Eq.{bytes_eq-Decides}
use Rattle.std.proofs.lemmas.Str.{IsUtf8-from_is_utf8}
use Rattle.evo_base.specs.Keywords.{is_keyword}
use Rattle.evo_base.proofs.KeywordLemmas.{keyword_says, keyword_is}
use Rattle.evo_lex.specs.Identifier.{is_identifier}
use Rattle.evo_lex.proofs.Identifiers.{identifier_says, identifier_is}
use Rattle.evo_first_form.specs.Words.{is_name, IsName}

pub and_both : (a b : Bool) → (a && b) ≡ true → (a ≡ true) × (b ≡ true)
and_both true b e = (refl, e)
and_both false b e = absurd cc

pub both_and : (a b : Bool) → a ≡ true → b ≡ true → (a && b) ≡ true
both_and true b e e' = e'
both_and false b e e' = absurd cc

pub or_either : (a b : Bool) → (a || b) ≡ true → (a ≡ true) ⊎ (b ≡ true)
or_either true b e = inl refl
or_either false b e = inr e

pub not_true : (a : Bool) → not a ≡ true → a ≡ true → ⊥
not_true true e e' = absurd cc
not_true false e e' = absurd cc

pub true_not : (a : Bool) → (a ≡ true → ⊥) → not a ≡ true
true_not true none = absurd (none refl)
true_not false none = refl

pub or_left : (a b : Bool) → a ≡ true → (a || b) ≡ true
or_left true b e = refl
or_left false b e = absurd cc

pub or_right : (a b : Bool) → b ≡ true → (a || b) ≡ true
or_right true b e = refl
or_right false b e = e

pub name_says : (word : List ℕ) → is_name word ≡ true → IsName word
unfolding is_name
name_says word e =
    let outer = and_both (is_utf8 word && is_identifier word && not (is_keyword word)) (not (bytes_eq word (codes "_"))) e in
    let inner = and_both (is_utf8 word && is_identifier word) (not (is_keyword word)) outer.0 in
    let text = and_both (is_utf8 word) (is_identifier word) inner.0 in record {
      utf8 = text.0;
      identifier = identifier_says word text.1;
      no_keyword = λ k. not_true (is_keyword word) inner.1 (keyword_is word k);
      no_blank = λ same. not_true (bytes_eq word (codes "_")) outer.1 ((bytes_eq-Decides word (codes "_")).1 same);
    }

pub name_is : (word : List ℕ) → IsName word → is_name word ≡ true
unfolding is_name
name_is word n =
    both_and (is_utf8 word && is_identifier word && not (is_keyword word)) (not (bytes_eq word (codes "_")))
    (both_and (is_utf8 word && is_identifier word) (not (is_keyword word)) (both_and (is_utf8 word) (is_identifier word) n.utf8 (identifier_is word n.identifier)) (true_not (is_keyword word) (λ e. n.no_keyword (keyword_says word e))))
    (true_not (bytes_eq word (codes "_")) (λ e. n.no_blank ((bytes_eq-Decides word (codes "_")).0 e)))

-- a name is a text
pub name_text : (word : List ℕ) → is_name word ≡ true → IsUtf8 word
name_text word e = IsUtf8-from_is_utf8 word (name_says word e).utf8

-- the tests' results, as facts
true_is : (b : Bool) → IsTrue b → b ≡ true
true_is b t = search rules

is_true : (b : Bool) → b ≡ true → IsTrue b
is_true b e = search rules

pub name_iff : (word : List ℕ) (r : Bool) → r ≡ is_name word → IsTrue r ↔ IsName word
name_iff word r e = (λ t. name_says word (sym e ∙ true_is r t), λ k. is_true r (e ∙ name_is word k))
