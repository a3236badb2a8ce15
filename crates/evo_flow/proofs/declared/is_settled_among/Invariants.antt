use Rattle.std.proofs.Common.{◌≡◌, drop}
use Rattle.std.specs.List.{list_any}
use Rattle.evo_flow.specs.Scenes.{is_settled}
use Rattle.evo_flow.proofs.declared.is_settled_among.Given as goal

abbrev pub invariant-loop-declaration : goal.invariant-loop-declaration
invariant-loop-declaration l = list_any (is_settled l.key l.all) l.declarations ≡ list_any (is_settled l.key l.all) (drop l.declaration-index l.declarations)
