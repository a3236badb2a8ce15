use Rattle.std.proofs.Common.{◌≡◌, ◌++◌, drop, string_bytes}
use Rattle.evo_code.specs.Symbols.{context_text}
use Rattle.evo_code.proofs.symbols.put_context.Given as goal

abbrev pub invariant-loop-name : goal.invariant-loop-name
invariant-loop-name l = string_bytes l.fn.out ++ context_text l.context ≡ string_bytes l.out ++ context_text (drop l.name-index l.context)
