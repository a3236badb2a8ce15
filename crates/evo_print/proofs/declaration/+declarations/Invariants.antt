use Rattle.std.proofs.Common.{◌≡◌, ◌++◌, drop}
use Rattle.std.specs.List.{flat_map}
use Rattle.evo_tree.specs.Canonical.{decl_text}
use Rattle.evo_print.proofs.declaration.+declarations.Given as goal

-- what is printed and what is left
abbrev pub invariant-print_decls-loop-decl : goal.invariant-print_decls-loop-decl
invariant-print_decls-loop-decl l = l.initial.out ++ flat_map (λ x. decl_text x l.depth) l.decl-items ≡ l.out ++ flat_map (λ x. decl_text x l.depth) (drop l.decl-index l.decl-items)
