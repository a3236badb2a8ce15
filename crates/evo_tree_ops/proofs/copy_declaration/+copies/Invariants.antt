use Rattle.std.proofs.Common.{◌≡◌, take}
use Rattle.evo_tree_ops.proofs.copy_declaration.+copies.Given as goal

abbrev pub invariant-copy_decls-loop-decl : goal.invariant-copy_decls-loop-decl
invariant-copy_decls-loop-decl l = l.copies ≡ take l.decl-index l.decl-items
