use Rattle.std.proofs.Common.{◌≡◌, ◌++◌, drop, filter}
use Rattle.evo_report.specs.Report.{is_reported}
use Rattle.evo_report.proofs.lines.reported_marks.Given as goal

-- those that are copied, and those of the marks that are left
abbrev pub invariant-loop-mark : goal.invariant-loop-mark
invariant-loop-mark l = filter is_reported l.marks ≡ l.copies.items ++ filter is_reported (drop l.mark-index l.marks)
