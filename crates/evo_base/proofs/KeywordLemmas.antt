-- What a look through some words says.
use Rattle.std.proofs.Common.{◌≡◌, ℕ, zero, suc, Bool, true, false, List, [], ◌∷◌, refl, sym, ◌∙◌, arith, rules}
use Rattle.std.specs.Prelude.{◌||◌, ◌↔◌, IsTrue}
use Rattle.std.specs.List.{list_any, Contains}
use Rattle.std.specs.Str.{bytes_eq}
use Rattle.std.proofs.lemmas.Slice.Eq.{bytes_eq-Decides}
use Rattle.std.proofs.lemmas.Map.Views.{Contains-from_any}
use Rattle.evo_base.specs.Keywords.{keywords, is_keyword, IsKeyword}

or_left : (a b : Bool) → a ≡ true → (a || b) ≡ true
or_left true b e = refl
or_left false b e = absurd cc

or_right : (a b : Bool) → b ≡ true → (a || b) ≡ true
or_right true b e = refl
or_right false b e = e

-- the look finds a word that is among them, and no other
pub any_contains : (words : List (List ℕ)) (word : List ℕ) → list_any (λ k. bytes_eq k word) words ≡ true → Contains words word
any_contains words word e =
    Contains-from_any {eq = λ q k. bytes_eq k q} (λ x y e. sym ((bytes_eq-Decides y x).0 e)) word words e

pub contains_any : (words : List (List ℕ)) (word : List ℕ) → Contains words word → list_any (λ k. bytes_eq k word) words ≡ true
contains_any [] word (k, lt, e) = absurd (omega arith)
contains_any (w ∷ ws) word (zero, lt, e) = or_left (bytes_eq w word) _ ((bytes_eq-Decides w word).1 e)
contains_any (w ∷ ws) word (suc k, lt, e) = or_right (bytes_eq w word) _ (contains_any ws word (k, omega arith, e))

pub keyword_says : (word : List ℕ) → is_keyword word ≡ true → IsKeyword word
unfolding is_keyword
keyword_says word e = any_contains keywords word e

pub keyword_is : (word : List ℕ) → IsKeyword word → is_keyword word ≡ true
unfolding is_keyword
keyword_is word k = contains_any keywords word k

-- a test's result, as a fact
pub true_is : (b : Bool) → IsTrue b → b ≡ true
true_is b t = search rules

pub is_true : (b : Bool) → b ≡ true → IsTrue b
is_true b e = search rules

pub keyword_iff : (word : List ℕ) (r : Bool) → r ≡ is_keyword word → IsTrue r ↔ IsKeyword word
keyword_iff word r e = (λ t. keyword_says word (sym e ∙ true_is r t), λ k. is_true r (e ∙ keyword_is word k))
