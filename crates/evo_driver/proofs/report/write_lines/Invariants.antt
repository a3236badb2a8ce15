use Rattle.std.proofs.Common.{drop, Result}
use Rattle.evo_first_form.specs.Rules.{removed_lines}
use Rattle.evo_driver.specs.declared.reply.ReplyError.{ReplyError}
use Rattle.evo_driver.specs.Top.{WritesAll}
use Rattle.evo_driver.proofs.report.write_lines.Given as goal

-- what writes the lines that are left from here writes all of them from where it began
abbrev pub invariant-loop-name : goal.invariant-loop-name
invariant-loop-name g l =
    (new : _) (r : Result (Unit {0}) ReplyError)
    → WritesAll (removed_lines l.library (drop l.name-index l.names)) (g.O.Sink.state l.out) (g.O.Sink.state new) r
    → WritesAll (removed_lines l.library l.names) (g.O.Sink.state l.initial.out) (g.O.Sink.state new) r
