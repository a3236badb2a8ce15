use Rattle.std.proofs.Common.{◌≡◌, ◌-◌}
use Rattle.evo_combinators.proofs.TriesTurns.{TriesAfter}
use Rattle.evo_tree.specs.Statements.{is_last_branch}
use Rattle.evo_parse_stmt.specs.AtDepth.{else_at, further_branches}
use Rattle.evo_parse_stmt.proofs.sequence.Statements.further_branches.Given as goal

abbrev pub invariant-loop-turn : goal.invariant-loop-turn
invariant-loop-turn g l = further_branches l.self.inits l.self.depth l.fn.before l.fn.tokens ≡ TriesAfter (else_at l.self.inits l.self.depth) is_last_branch (l._turn-end - l._turn) l.found l.ended l.tokens
