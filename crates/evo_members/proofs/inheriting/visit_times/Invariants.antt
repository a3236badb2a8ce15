use Rattle.evo_declarations.specs.Worlds.{world_of}
use Rattle.evo_members.specs.Inheriting.{IsVisited, keys_left}
use Rattle.evo_members.specs.Views.{keys_of}
use Rattle.evo_members.proofs.inheriting.visit_times.Given as goal

abbrev pub invariant-loop-step : goal.invariant-loop-step
invariant-loop-step l = IsVisited (world_of l.space.world) l._step (keys_of l.initial.found.items) (keys_left l.initial.left.items) (keys_of l.found.items) (keys_left l.left.items)
