use Rattle.std.proofs.Common.{◌≡◌, ◌-◌}
use Rattle.evo_combinators.specs.Reader.{with_front}
use Rattle.evo_combinators.specs.Attempt.{tries}
use Rattle.evo_combinators.proofs.TriesTurns.{TriesAfter}
use Rattle.evo_tree.specs.Modules.{after_part}
use Rattle.evo_parse_decl.specs.Closed.{block_at, stmt_at}
use Rattle.evo_parse_decl.specs.ReadModules.{part_at}
use Rattle.evo_parse.proofs.part.further_parts.Given as goal

abbrev pub invariant-loop-turn : goal.invariant-loop-turn
invariant-loop-turn l = with_front l.fn.before.items (tries (part_at block_at stmt_at l.form l.depth) after_part l.fn.spot l.fn.tokens)
    ≡ TriesAfter (part_at block_at stmt_at l.form l.depth) after_part (l._turn-end - l._turn) l.found.items l.at l.tokens
