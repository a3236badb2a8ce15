use Rattle.std.proofs.Common.{◌≡◌, drop, length}
use Rattle.std.specs.Str.{bytes_eq}
use Rattle.evo_lex.proofs.word.is_word.Given as goal

abbrev pub invariant-loop-i : goal.invariant-loop-i
invariant-loop-i l = record {
  lengths : length l.ascii ≡ length l.word;
  rest : bytes_eq l.ascii l.word ≡ bytes_eq (drop l.i l.ascii) (drop l.i l.word);
}
