use Rattle.std.proofs.Common.{◌≡◌}
use Rattle.std.specs.Prelude.{replicate}
use Rattle.evo_first_code.specs.Objects.{one_word}
use Rattle.evo_first_code.proofs.client.slots.Given as goal

abbrev pub invariant-loop-step : goal.invariant-loop-step
invariant-loop-step l = l.slots.items ≡ replicate l._step one_word
