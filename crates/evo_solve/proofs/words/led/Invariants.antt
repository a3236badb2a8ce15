use Rattle.std.proofs.Common.{◌≡◌}
use Rattle.std.specs.Prelude.{filter}
use Rattle.evo_solve.specs.Words.{differs}
use Rattle.evo_solve.proofs.words.led.Given as goal

abbrev pub invariant-loop-word : goal.invariant-loop-word
invariant-loop-word l = l.rest.items ≡ filter (differs l.first) l.yielded
