use Rattle.std.proofs.Common.{◌≡◌, map, drop}
use Rattle.evo_code.specs.Named.{number_from}
use Rattle.evo_code.proofs.named.number_named.Given as goal

abbrev pub invariant-loop-number : goal.invariant-loop-number
invariant-loop-number g l = number_from 0 (map g.T.Named.symbol l.items) l.symbol ≡ number_from l.number (map g.T.Named.symbol (drop l.number l.items)) l.symbol
