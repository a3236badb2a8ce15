use Rattle.std.proofs.Common.{◌≡◌, ◌-◌}
use Rattle.evo_combinators.proofs.TriesTurns.{TriesAfter}
use Rattle.evo_tree.specs.Statements.{is_last_clause}
use Rattle.evo_parse_stmt.specs.AtDepth.{clause_at, further_clauses}
use Rattle.evo_parse_stmt.proofs.sequence.Statements.further_clauses.Given as goal

abbrev pub invariant-loop-turn : goal.invariant-loop-turn
invariant-loop-turn g l = further_clauses l.self.inits l.self.depth l.fn.before l.fn.tokens ≡ TriesAfter (clause_at l.self.inits l.self.depth) is_last_clause (l._turn-end - l._turn) l.found l.ended l.tokens
