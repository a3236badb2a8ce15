use Rattle.std.proofs.Common.{◌≡◌, drop}
use Rattle.evo_declarations.specs.Views.{key_of_type}
use Rattle.evo_declarations.specs.Worlds.{world_of}
use Rattle.evo_members.specs.Associated.{associated_if}
use Rattle.evo_members.specs.Sought.{by_number}
use Rattle.evo_names.specs.Listed.{declarations}
use Rattle.evo_names.specs.Heads.{first_some}
use Rattle.evo_members.proofs.associated.associated_in.Given as goal

abbrev pub invariant-loop-number : goal.invariant-loop-number
invariant-loop-number l = first_some (associated_if (key_of_type l.fn.protocol) l.name l.braces) (declarations (world_of l.space.world)) ≡ first_some (by_number (associated_if (key_of_type l.fn.protocol) l.name l.braces) (declarations (world_of l.space.world))) (drop l.number-index l.numbers)
