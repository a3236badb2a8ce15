-- The readers of one nesting, as the code has them.
use Rattle.std.specs.Prelude.{◌≡◌, ℕ, zero, suc, Bool, refl}
use Rattle.evo_parse_stmt.specs.Read.{stmt}
use Rattle.evo_parse_stmt.specs.AtDepth.{stmt_of}

pub stmt_is : (inits : Bool) (d : ℕ) → stmt_of inits d ≡ stmt inits d
unfolding stmt
stmt_is inits zero = refl
stmt_is inits (suc d) = refl
