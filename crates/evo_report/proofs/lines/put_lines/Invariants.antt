use Rattle.std.proofs.Common.{◌≡◌, ◌++◌, drop, flat_map, string_bytes}
use Rattle.evo_report.specs.Report.{line}
use Rattle.evo_report.proofs.lines.put_lines.Given as goal

-- the lines that are written, and those of the breaks that are left
abbrev pub invariant-loop-broken : goal.invariant-loop-broken
invariant-loop-broken l = string_bytes l.fn.out ++ flat_map (line l.old l.new) l.list ≡ string_bytes l.out ++ flat_map (line l.old l.new) (drop l.broken-index l.list)
