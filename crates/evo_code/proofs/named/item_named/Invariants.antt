use Rattle.std.proofs.Common.{◌≡◌, drop}
use Rattle.evo_code.specs.Named.{item_named}
use Rattle.evo_code.proofs.named.item_named.Given as goal

abbrev pub invariant-loop-item : goal.invariant-loop-item
invariant-loop-item g l = item_named g.T.Named.symbol l.items l.symbol ≡ item_named g.T.Named.symbol (drop l.item-index l.items) l.symbol
