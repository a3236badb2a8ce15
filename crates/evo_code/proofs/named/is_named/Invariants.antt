use Rattle.std.proofs.Common.{◌≡◌, map, drop}
use Rattle.evo_code.specs.Named.{named}
use Rattle.evo_code.proofs.named.is_named.Given as goal

abbrev pub invariant-loop-item : goal.invariant-loop-item
invariant-loop-item g l = named (map g.T.Named.symbol l.items) l.symbol ≡ named (map g.T.Named.symbol (drop l.item-index l.items)) l.symbol
