-- Names of modules at the front of a text.
use Rattle.std.proofs.Common.{◌≡◌, ◌≢◌, ℕ, suc, ◌<◌, Bool, true, false, not, List, [], ◌∷◌, ◌++◌, take, drop, length, get_or, refl, sym, ◌∙◌, subst, arith}
use Rattle.std.specs.Prelude.{◌==◌}
use Rattle.std.specs.List.{prefix_len}
use Rattle.std.specs.Str.{IsUtf8}
use Rattle.evo_lex.specs.ModuleName.{IsModule}
use Rattle.evo_lex.proofs.ModuleNames.{no_space}
use Rattle.evo_heading.specs.Heading.{IsNamed}
use Rattle.evo_heading.proofs.Fronts.{Pass, front_is, rest_is, cut_once}

-- no space
abbrev pub is_other : ℕ → Bool
is_other c = not (c == 32)

other_passes : (c : ℕ) → c ≢ 32 → is_other c ≡ true
other_passes c ne = at (c == 32) refl
  where
    at : (v : Bool) → (c == 32) ≡ v → not (c == 32) ≡ true
    at true is = absurd (ne (grind arith))
    at false is = rw is refl

others_pass : (xs : List ℕ) → ((i : ℕ) → i < length xs → get_or xs i 0 ≢ 32) → Pass is_other xs
others_pass [] none = tt
others_pass (x ∷ xs) none = (other_passes x (none 0 (omega arith)), others_pass xs (λ i lt. none (suc i) (omega arith)))

-- a module's name has no space
name_passes : (name : List ℕ) → IsUtf8 name → IsModule name → Pass is_other name
name_passes name utf8 is = others_pass name (no_space name utf8 is)

-- a text begins with one name
pub named_once : (text a b r s : List ℕ) → IsNamed text a r → IsNamed text b s → (a ≡ b) × (r ≡ s)
named_once text a b r s of_a of_b =
    let cut = cut_once is_other a (32 ∷ r) b (32 ∷ s) (name_passes a of_a.utf8 of_a.is) refl (name_passes b of_b.utf8 of_b.is) refl (sym of_a.whole ∙ of_b.whole) in
    let rest : r ≡ s = let e = cut.1 in cc in
    (cut.0, rest)

-- the text is cut before its first space
module _ (text front rest : List ℕ) (n : ℕ) (n-is : n ≡ prefix_len is_other text) (front-is : front ≡ take n text) (rest-is : rest ≡ drop n text) where
  pub no_space_behind : ((more : List ℕ) → rest ≡ (32 ∷ []) ++ more → ⊥) → (name more : List ℕ) → IsNamed text name more → ⊥
  no_space_behind none name more is = none more (rest_is is_other text front rest n n-is front-is rest-is name (32 ∷ more) (name_passes name is.utf8 is.is) refl is.whole)

  name_is : (name more : List ℕ) → IsNamed text name more → name ≡ front
  name_is name more is = sym (front_is is_other text front rest n n-is front-is rest-is name (32 ∷ more) (name_passes name is.utf8 is.is) refl is.whole)

  pub no_text : (IsUtf8 front → ⊥) → (name more : List ℕ) → IsNamed text name more → ⊥
  no_text none name more is = none (subst IsUtf8 (name_is name more is) is.utf8)

  pub no_module : (IsModule front → ⊥) → (name more : List ℕ) → IsNamed text name more → ⊥
  no_module none name more is = none (subst IsModule (name_is name more is) is.is)
