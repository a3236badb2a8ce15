use Rattle.std.proofs.Common.{◌≡◌, ◌++◌, drop}
use Rattle.evo_first_code.specs.Objects.{client_symbol, terms_code, slots_of}
use Rattle.evo_first_code.proofs.client.write_print.Given as goal

-- what is written so far and the code of the terms that are left
abbrev pub invariant-loop-i : goal.invariant-loop-i
invariant-loop-i l = record {
  code : l.initial.code.items ++ terms_code (client_symbol l.library l.view) 0 l.terms ≡ l.code.items ++ terms_code (client_symbol l.library l.view) l.i (drop l.i l.terms);
  slots : slots_of 0 l.terms ≡ l.slots.items ++ slots_of l.i (drop l.i l.terms);
}
