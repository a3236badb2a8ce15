use Rattle.std.proofs.Common.{◌≡◌, ◌+◌, ◌-◌, ◌≤◌, drop, length}
use Rattle.evo_lex.specs.Front.{comment_from}
use Rattle.evo_lex.proofs.comment.comment_end.Given as goal

abbrev pub invariant-loop-read : goal.invariant-loop-read
invariant-loop-read l = record {
  within : l.read ≤ length l.text;
  shallow : l.depth ≤ l.read;
  rest : comment_from 2 0 l.text ≡ comment_from (l.read + 2) l.depth (drop l.read l.text);
}

abbrev pub decreases-loop-read : goal.decreases-loop-read
decreases-loop-read l = length l.text - l.read
