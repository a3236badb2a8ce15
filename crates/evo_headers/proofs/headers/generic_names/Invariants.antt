use Rattle.std.proofs.Common.{◌≡◌, map, take}
use Rattle.evo_tree.specs.declared.declaration.GenericParameter.{GenericParameter}
use Rattle.evo_headers.proofs.headers.generic_names.Given as goal

abbrev pub invariant-loop-generic : goal.invariant-loop-generic
invariant-loop-generic l = l.found.items ≡ map (λ (g : GenericParameter). g.name.text) (take l.generic-index l.generics)
