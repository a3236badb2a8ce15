use Rattle.std.proofs.Common.{◌≡◌, ◌++◌, drop, string_bytes}
use Rattle.evo_code.specs.Symbols.{marks_text}
use Rattle.evo_code.proofs.symbols.put_marks.Given as goal

abbrev pub invariant-loop-mark : goal.invariant-loop-mark
invariant-loop-mark l = string_bytes l.fn.out ++ marks_text l.marks ≡ string_bytes l.out ++ marks_text (drop l.mark-index l.marks)
