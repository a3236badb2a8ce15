use Rattle.std.proofs.Common.{◌≡◌, drop, flat_map}
use Rattle.evo_breaks.specs.Rules.{breaks_of}
use Rattle.evo_breaks.proofs.passing.all_pass.Given as goal

-- none is broken so far
abbrev pub invariant-loop-decl : goal.invariant-loop-decl
invariant-loop-decl l = flat_map (breaks_of l.old l.new) l.decls ≡ flat_map (breaks_of l.old l.new) (drop l.decl-index l.decls)
