use Rattle.std.proofs.Common.{◌≡◌, drop, map}
use Rattle.evo_tree.specs.Terminals as spec
use Rattle.evo_parse_expr.proofs.terminal.terminal_in.Given as goal

abbrev pub invariant-loop-row : goal.invariant-loop-row
invariant-loop-row l = spec.terminal_in (map (λ row. (row.0.now, row.1)) l.table) l.text ≡ spec.terminal_in (map (λ row. (row.0.now, row.1)) (drop l.row-index l.table)) l.text
