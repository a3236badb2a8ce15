use Rattle.std.proofs.Common.{◌≡◌, ◌-◌}
use Rattle.evo_declarations.specs.Views.{key_of_type}
use Rattle.evo_names.specs.Heads.{climb}
use Rattle.evo_keys.specs.Bases.{world_with}
use Rattle.evo_keys.specs.Roots.{root_of_classes}
use Rattle.evo_keys.proofs.roots.nearest_root.Given as goal

abbrev pub invariant-loop-step : goal.invariant-loop-step
invariant-loop-step l = root_of_classes l.sought (world_with l.bases) (climb l.most (world_with l.bases) (key_of_type l.above)) ≡ root_of_classes l.sought (world_with l.bases) (climb (l.most - l._step) (world_with l.bases) (key_of_type l.class))
