use Rattle.std.proofs.Common.{map, take}
use Rattle.evo_declarations.specs.Groups.{IsGrouped, IsEven}
use Rattle.evo_declarations.proofs.groups.groups_of.Given as goal

abbrev pub invariant-loop-number : goal.invariant-loop-number
invariant-loop-number l = IsEven l.found × IsGrouped (map (λ t. t.now) (take l.number l.texts)) l.found
