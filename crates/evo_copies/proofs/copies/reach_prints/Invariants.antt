use Rattle.std.proofs.Common.{◌≡◌, drop}
use Rattle.evo_first_form.specs.Calls.{calls_of}
use Rattle.evo_copies.specs.Reach.{reached}
use Rattle.evo_copies.proofs.copies.reach_prints.Given as goal

abbrev pub invariant-loop-print : goal.invariant-loop-print
invariant-loop-print l = reached l.view l.initial.copies (calls_of l.prints) ≡ reached l.view l.copies (calls_of (drop l.print-index l.prints))
