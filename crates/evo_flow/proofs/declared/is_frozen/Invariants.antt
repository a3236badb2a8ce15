use Rattle.std.proofs.Common.{◌≡◌, drop}
use Rattle.std.specs.List.{list_any}
use Rattle.evo_flow.specs.Scenes.{says_frozen}
use Rattle.evo_flow.proofs.declared.is_frozen.Given as goal

abbrev pub invariant-loop-attr : goal.invariant-loop-attr
invariant-loop-attr l = list_any says_frozen l.attr-items ≡ list_any says_frozen (drop l.attr-index l.attr-items)
