use Rattle.std.proofs.Common.{◌≡◌, drop}
use Rattle.evo_declarations.specs.Views.{key_of_type}
use Rattle.evo_declarations.specs.Worlds.{world_of}
use Rattle.evo_members.specs.Sought.{by_number, if_declares}
use Rattle.evo_names.specs.Listed.{declarations}
use Rattle.evo_names.specs.Heads.{declaration_of, first_some}
use Rattle.evo_members.proofs.lookup.declaration_of.Given as goal

abbrev pub invariant-loop-number : goal.invariant-loop-number
invariant-loop-number l = declaration_of (world_of l.space.world) (key_of_type l.fn.key) ≡ first_some (by_number (if_declares (key_of_type l.fn.key)) (declarations (world_of l.space.world))) (drop l.number-index l.numbers)
