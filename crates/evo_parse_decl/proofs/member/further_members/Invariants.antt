use Rattle.std.proofs.Common.{◌≡◌, ◌-◌, true}
use Rattle.evo_combinators.specs.Guard.{run}
use Rattle.evo_combinators.proofs.RunTurns.{RunAfter}
use Rattle.evo_parse_expr.specs.Read.{after}
use Rattle.evo_parse_decl.specs.Read.{goes_on, begins_member, next}
use Rattle.evo_parse_decl.specs.Closed.{member_at}
use Rattle.evo_parse_decl.proofs.member.further_members.Given as goal

abbrev pub invariant-loop-turn : goal.invariant-loop-turn
invariant-loop-turn l = after l.fn.first (run (λ _. goes_on (begins_member l.interface l.scope)) (λ _. next (member_at l.interface l.scope l.depth)) (λ u _. u) true) l.fn.tokens
    ≡ RunAfter (λ _. goes_on (begins_member l.interface l.scope)) (λ _. next (member_at l.interface l.scope l.depth)) (λ u _. u) (l._turn-end - l._turn) l.found.items true l.tokens
