use Rattle.std.proofs.Common.{◌≡◌, ◌+◌, drop}
use Rattle.evo_lex.specs.Characters.{run_of}
use Rattle.evo_lex.specs.declared.class.Class.TheVariants.{Digits}
use Rattle.evo_lex.specs.declared.class.Base.TheVariants.{Hexadecimal}
use Rattle.evo_lex.proofs.unescape.hexadecimal_len.Given as goal

abbrev pub invariant-loop-i : goal.invariant-loop-i
invariant-loop-i l = run_of (Digits Hexadecimal) l.text ≡ l.i + run_of (Digits Hexadecimal) (drop l.i l.text)
