use Rattle.std.proofs.Common.{◌≡◌, ◌-◌}
use Rattle.evo_combinators.proofs.TriesTurns.{TriesAfter}
use Rattle.evo_tree.specs.Statements.{no_longer_first}
use Rattle.evo_parse_stmt.specs.AtDepth.{statement_at, statements}
use Rattle.evo_parse_stmt.proofs.sequence.Statements.statements.Given as goal

abbrev pub invariant-loop-turn : goal.invariant-loop-turn
invariant-loop-turn g l = statements l.self.inits l.self.depth l.fn.first l.fn.tokens ≡ TriesAfter (statement_at l.self.inits l.self.depth) no_longer_first (l._turn-end - l._turn) l.found l.early l.tokens
