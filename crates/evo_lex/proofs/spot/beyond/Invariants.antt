use Rattle.std.proofs.Common.{◌≡◌, ◌+◌, ◌≤◌, drop}
use Rattle.evo_lex.specs.Tokenization.{beyond}
use Rattle.evo_lex.proofs.spot.beyond.Given as goal

abbrev pub invariant-loop-c : goal.invariant-loop-c
invariant-loop-c l = record {
  rest : beyond l.text l.fn.spot ≡ beyond (drop l.c-index l.text) l.reached;
  forward : l.fn.spot.at ≤ l.reached.at;
  line : l.reached.place.line ≤ l.reached.at + 1;
  column : l.reached.place.col ≤ l.reached.at + 1;
}
