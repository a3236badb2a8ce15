use Rattle.std.proofs.Common.{◌≡◌, ◌-◌}
use Rattle.evo_parse_stmt.specs.Read.{rest_of_path}
use Rattle.evo_parse_stmt.proofs.Paths.{PathAfter}
use Rattle.evo_parse_stmt.proofs.matching.rest_of_path.Given as goal

abbrev pub invariant-loop-turn : goal.invariant-loop-turn
invariant-loop-turn l = rest_of_path l.fn.head l.fn.second l.fn.tokens ≡ PathAfter l.place (l._turn-end - l._turn) l.names.items l.last l.tokens
