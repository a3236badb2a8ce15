use Rattle.std.proofs.Common.{◌≡◌, ◌++◌, drop, map, filter}
use Rattle.evo_resolved.specs.declared.declaration.RDecl.{RDecl}
use Rattle.evo_breaks.specs.declared.rule.Rule.TheVariants as rule
use Rattle.evo_breaks.specs.Rules.{between, asks_more}
use Rattle.evo_breaks.proofs.protocols.put_associations.Given as goal

-- what is found, and what the declarations that are left ask
abbrev pub invariant-loop-decl : goal.invariant-loop-decl
invariant-loop-decl l = l.initial.found.items ++ map (λ (a : RDecl). between rule.AssociatedTypeChanged l.protocol a.own) (filter (asks_more l.old l.protocol) l.decls) ≡ l.found.items ++ map (λ (a : RDecl). between rule.AssociatedTypeChanged l.protocol a.own) (filter (asks_more l.old l.protocol) (drop l.decl-index l.decls))
