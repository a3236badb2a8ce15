use Rattle.std.proofs.Common.{◌≡◌, ◌-◌, length}
use Rattle.evo_declarations.specs.Views.{key_of_type}
use Rattle.evo_declarations.specs.Worlds.{world_of}
use Rattle.evo_members.specs.Sought.{found_above, test_of}
use Rattle.evo_names.specs.Listed.{declarations}
use Rattle.evo_names.specs.Written.{nearest_alias}
use Rattle.evo_members.proofs.member.nearest_alias.Given as goal

abbrev pub invariant-loop-step : goal.invariant-loop-step
invariant-loop-step l = nearest_alias (world_of l.space.world) (test_of (world_of l.space.world) l.fn.sought.test) (key_of_type l.fn.key) l.fn.sought.name.now ≡ found_above (world_of l.space.world) (test_of (world_of l.space.world) l.fn.sought.test) l.fn.sought.name.now (length (declarations (world_of l.space.world)) - l._step) (key_of_type l.class)
