use Rattle.std.proofs.Common.{◌≡◌, map, take}
use Rattle.evo_tree.specs.Bare.{bare_decl}
use Rattle.evo_tree_ops.proofs.same_declaration.+sames.Given as goal

abbrev pub invariant-same_decls-loop-i : goal.invariant-same_decls-loop-i
invariant-same_decls-loop-i l = map bare_decl (take l.i l.xs) ≡ map bare_decl (take l.i l.ys)
