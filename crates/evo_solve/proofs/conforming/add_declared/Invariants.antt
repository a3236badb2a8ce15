use Rattle.evo_solve.specs.Found.{Extended}
use Rattle.evo_solve.proofs.conforming.add_declared.Given as goal

abbrev pub invariant-loop-conformance : goal.invariant-loop-conformance
invariant-loop-conformance l = Extended l.classes l.protocols l.declared l.conformance-index l.fn.starts.items l.starts.items
