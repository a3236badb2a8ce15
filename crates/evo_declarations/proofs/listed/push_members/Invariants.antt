use Rattle.std.proofs.Common.{◌≡◌, ◌++◌, map, take}
use Rattle.evo_declarations.specs.Views.{entries_of, within_of}
use Rattle.evo_names.specs.Listed as names
use Rattle.evo_declarations.proofs.listed.push_members.Given as goal

abbrev pub invariant-loop-decl : goal.invariant-loop-decl
invariant-loop-decl l = entries_of l.found.items ≡ entries_of l.initial.found.items ++ map (names.entry (within_of l.within)) (take l.decl-index l.members)
