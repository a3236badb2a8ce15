use Rattle.std.proofs.Common.{◌≡◌, ◌++◌}
use Rattle.evo_tree.specs.Canonical.{indent}
use Rattle.evo_print.proofs.printer.Printer.put_indent.Given as goal

abbrev pub invariant-loop-level : goal.invariant-loop-level
invariant-loop-level l = l.self ≡ l.initial.self ++ indent l._level
