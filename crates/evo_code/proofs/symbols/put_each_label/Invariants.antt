use Rattle.std.proofs.Common.{◌≡◌, ◌++◌, drop, string_bytes}
use Rattle.evo_code.specs.Symbols.{each_label}
use Rattle.evo_code.proofs.symbols.put_each_label.Given as goal

abbrev pub invariant-loop-label : goal.invariant-loop-label
invariant-loop-label l = string_bytes l.fn.out ++ each_label l.labels ≡ string_bytes l.out ++ each_label (drop l.label-index l.labels)
