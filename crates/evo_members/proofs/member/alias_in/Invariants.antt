use Rattle.std.proofs.Common.{◌≡◌, drop}
use Rattle.evo_declarations.specs.Views.{key_of_type}
use Rattle.evo_declarations.specs.Worlds.{world_of}
use Rattle.evo_members.specs.Located.{around_of}
use Rattle.evo_members.specs.Sought.{alias_if, by_number, first_alias, test_of}
use Rattle.evo_names.specs.Listed.{declarations}
use Rattle.evo_names.specs.Heads.{first_some}
use Rattle.evo_members.proofs.member.alias_in.Given as goal

abbrev pub invariant-loop-number : goal.invariant-loop-number
invariant-loop-number l = first_alias (world_of l.space.world) (test_of (world_of l.space.world) l.fn.sought.test) (around_of l.fn.around) (key_of_type l.fn.key) l.fn.sought.name.now l.braces ≡ first_some (by_number (alias_if (test_of (world_of l.space.world) l.fn.sought.test) (around_of l.fn.around) (key_of_type l.fn.key) l.fn.sought.name.now l.braces) (declarations (world_of l.space.world))) (drop l.number-index l.numbers)
