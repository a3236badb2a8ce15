use Rattle.std.proofs.Common.{◌≡◌, ◌+◌, drop}
use Rattle.evo_lex.specs.Characters.{run_of}
use Rattle.evo_lex.proofs.class.run_len.Given as goal

abbrev pub invariant-loop-i : goal.invariant-loop-i
invariant-loop-i l = run_of l.class l.text ≡ l.i + run_of l.class (drop l.i l.text)
