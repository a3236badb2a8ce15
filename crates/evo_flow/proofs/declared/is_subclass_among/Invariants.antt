use Rattle.std.proofs.Common.{◌≡◌, drop}
use Rattle.std.specs.List.{list_any}
use Rattle.evo_flow.specs.Scenes.{is_subclass_by}
use Rattle.evo_flow.proofs.declared.is_subclass_among.Given as goal

abbrev pub invariant-loop-declaration : goal.invariant-loop-declaration
invariant-loop-declaration l = list_any (is_subclass_by l.key) l.declarations ≡ list_any (is_subclass_by l.key) (drop l.declaration-index l.declarations)
