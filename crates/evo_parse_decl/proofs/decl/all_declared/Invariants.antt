use Rattle.std.proofs.Common.{◌≡◌, map}
use Rattle.evo_tree.specs.Declarations.{declaration}
use Rattle.evo_parse_decl.proofs.decl.all_declared.Given as goal

abbrev pub invariant-loop-kind : goal.invariant-loop-kind
invariant-loop-kind l = l.found.items ≡ map (declaration l.scope l.attrs l.modifiers l.place) l.yielded
