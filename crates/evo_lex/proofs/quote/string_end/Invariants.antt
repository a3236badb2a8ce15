use Rattle.std.proofs.Common.{◌≡◌, ◌+◌, drop}
use Rattle.evo_lex.specs.Front.{string_from}
use Rattle.evo_lex.proofs.quote.string_end.Given as goal

abbrev pub invariant-loop-i : goal.invariant-loop-i
invariant-loop-i l = string_from 1 0 l.text ≡ string_from (l.i + 1) l.skip (drop l.i l.text)
