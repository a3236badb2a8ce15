use Rattle.std.proofs.Common.{◌≡◌, ◌++◌, drop}
use Rattle.evo_tree.specs.Pieces.{pieces_from}
use Rattle.evo_parse_expr.proofs.lexeme.lexemes.Given as goal

abbrev pub invariant-loop-i : goal.invariant-loop-i
invariant-loop-i l = l.found.items ++ pieces_from l.text l.last (drop l.i l.tokens) ≡ pieces_from l.text l.initial.last l.tokens
