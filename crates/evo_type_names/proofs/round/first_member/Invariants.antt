use Rattle.std.proofs.Common.{◌≡◌, drop}
use Rattle.evo_declarations.specs.Views.{view_of}
use Rattle.evo_declarations.specs.Worlds.{world_of}
use Rattle.evo_members.specs.Located.{self_of}
use Rattle.evo_members.specs.Views.{keys_of}
use Rattle.evo_type_names.specs.Round.{found_members}
use Rattle.evo_type_names.proofs.round.first_member.Given as goal

abbrev pub invariant-loop-protocol : goal.invariant-loop-protocol
invariant-loop-protocol l = found_members (world_of l.space.world) (view_of l.fn.view) (self_of l.fn.own) l.name (keys_of l.protocols) ≡ found_members (world_of l.space.world) (view_of l.fn.view) (self_of l.fn.own) l.name (keys_of (drop l.protocol-index l.protocols))
