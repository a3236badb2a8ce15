-- The readers of one nesting, as the code has them.
use Rattle.std.proofs.Common.{◌≡◌, ℕ, zero, suc, Bool, true, false, refl, ap}
use Rattle.evo_parse_expr.specs.Read.{unary, levels}
use Rattle.evo_parse_expr.specs.AtDepth.{unary_at, disjunction_level}
use Rattle.evo_parse_expr.specs.ReadsInner.{expr_of}

pub unary_is : (d : ℕ) → unary_at d ≡ unary d
unfolding unary
unary_is zero = refl
unary_is (suc d) = refl

pub whole_is : (d : ℕ) (whole : Bool) → whole ≡ true → disjunction_level (unary_at d) ≡ expr_of d whole
whole_is d true e = ap levels (unary_is d)
whole_is d false e = absurd (cc)

pub sign_is : (d : ℕ) (whole : Bool) → whole ≡ false → unary_at d ≡ expr_of d whole
sign_is d false e = unary_is d
sign_is d true e = absurd (cc)
