use Rattle.std.proofs.Common.{◌≡◌, ◌++◌, drop, flat_map}
use Rattle.evo_breaks.specs.Rules.{breaks_of}
use Rattle.evo_breaks.proofs.tried.put_all.Given as goal

-- what is found, and what the declarations that are left break
abbrev pub invariant-loop-decl : goal.invariant-loop-decl
invariant-loop-decl l = l.initial.found.items ++ flat_map (breaks_of l.old l.new) l.decls ≡ l.found.items ++ flat_map (breaks_of l.old l.new) (drop l.decl-index l.decls)
