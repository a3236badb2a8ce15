use Rattle.std.proofs.Common.{sym, subst}
use Rattle.evo_solve.specs.Ways.{IsNumber}
use Rattle.evo_solve.proofs.conforming.path_to.Goals as goal

pub returns-in_default : goal.returns-in_default
returns-in_default c = λ route path way. c.in_default.ensures way.last_number (subst (λ l. IsNumber l c.args.protocol.now way.last_number) (sym c.as_slice.ensures) way.last_is)
