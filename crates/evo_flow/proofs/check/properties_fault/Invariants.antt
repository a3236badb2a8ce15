use Rattle.std.proofs.Common.{◌≡◌, drop, map}
use Rattle.std.specs.List.{filter}
use Rattle.evo_flow.specs.Scenes.{is_stored_of}
use Rattle.evo_flow.specs.Faults.{property}
use Rattle.evo_flow.specs.Verdict.{facts_fault}
use Rattle.evo_flow.proofs.check.properties_fault.Given as goal

abbrev pub invariant-loop-declaration : goal.invariant-loop-declaration
invariant-loop-declaration l = facts_fault l.block (map property (filter (is_stored_of l.key) l.declarations)) ≡ facts_fault l.block (map property (filter (is_stored_of l.key) (drop l.declaration-index l.declarations)))
