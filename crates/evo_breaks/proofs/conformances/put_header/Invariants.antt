use Rattle.std.proofs.Common.{◌≡◌, ◌++◌, drop, flat_map}
use Rattle.evo_resolved.specs.declared.declaration.RDecl.{RDecl}
use Rattle.evo_breaks.specs.Rules.{conformance_breaks}
use Rattle.evo_breaks.proofs.conformances.put_header.Given as goal

-- what is found, and what the conformances that are left break
abbrev pub invariant-loop-protocol : goal.invariant-loop-protocol
invariant-loop-protocol l = l.initial.found.items ++ flat_map (conformance_breaks l.old l.new l.decl.own) l.protocols ≡ l.found.items ++ flat_map (conformance_breaks l.old l.new l.decl.own) (drop l.protocol-index l.protocols)
