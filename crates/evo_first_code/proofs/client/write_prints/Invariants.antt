use Rattle.std.proofs.Common.{◌≡◌, ◌++◌, drop}
use Rattle.evo_first_code.specs.Objects.{client_symbol, prints_code}
use Rattle.evo_first_code.proofs.client.write_prints.Given as goal

abbrev pub invariant-loop-print : goal.invariant-loop-print
invariant-loop-print l = l.initial.code.items ++ prints_code (client_symbol l.library l.view) l.prints ≡ l.code.items ++ prints_code (client_symbol l.library l.view) (drop l.print-index l.prints)
