use Rattle.std.proofs.Common.{◌≡◌, ◌++◌, drop}
use Rattle.evo_lex.specs.Strings.{unescaped}
use Rattle.evo_lex.proofs.unescape.unescaped.Given as goal

abbrev pub invariant-loop-i : goal.invariant-loop-i
invariant-loop-i l = l.found.items ++ unescaped l.skip (drop l.i l.text) ≡ unescaped 0 l.text
