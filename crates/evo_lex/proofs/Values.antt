-- Values of digits.
use Rattle.std.proofs.Common.{◌≡◌, ℕ, ◌*◌, ◌≤◌, List, [], ◌∷◌, Bool, true, false, None, refl, arith, rules, le_refl, le_trans}
use Rattle.std.specs.Prelude.{◌==◌, cond, nat_le}
use Rattle.evo_lex.specs.declared.class.Base.{Base}
use Rattle.evo_lex.specs.declared.class.Base.TheVariants as base
use Rattle.evo_lex.specs.Characters.{radix_of, with_digit, value_from}
use Rattle.evo_lex.specs.Front.{when}

scaled : (b : Base) (v : ℕ) → v ≤ v * radix_of b
scaled base.Binary v = omega arith
scaled base.Octal v = omega arith
scaled base.Decimal v = omega arith
scaled base.Hexadecimal v = omega arith

either : (underscore : Bool) (v w : ℕ) → v ≤ w → v ≤ cond underscore v w
either true v w le = le_refl v
either false v w le = le

step_least : (b : Base) (v c : ℕ) → v ≤ with_digit b v c
step_least b v c = let more = scaled b v in either (c == 95) v _ (omega arith)

-- further digits make no value less
pub value_least : (b : Base) (v : ℕ) (cs : List ℕ) → v ≤ value_from b v cs
value_least b v [] = le_refl v
value_least b v (c ∷ cs) = le_trans (step_least b v c) (value_least b (with_digit b v c) cs)

-- where a value is too large, a greater one is too
pub too_large : (v w m : ℕ) → v ≤ w → None ≡ when (nat_le v m) v → None ≡ when (nat_le w m) w
too_large v w m le none = go (nat_le v m) refl (nat_le w m) refl
  where
    go : (b : Bool) → nat_le v m ≡ b → (d : Bool) → nat_le w m ≡ d → None ≡ when (nat_le w m) w
    go true e d f = absurd (let g : None ≡ when true v = rw e at none in cc)
    go false e true f = absurd (grind (arith, rules))
    go false e false f = rw f refl
