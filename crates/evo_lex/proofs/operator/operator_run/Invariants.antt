use Rattle.std.proofs.Common.{◌≡◌, ◌+◌, drop}
use Rattle.evo_lex.specs.Front.{operator_run}
use Rattle.evo_lex.proofs.operator.operator_run.Given as goal

abbrev pub invariant-loop-i : goal.invariant-loop-i
invariant-loop-i l = operator_run l.text ≡ l.i + operator_run (drop l.i l.text)
