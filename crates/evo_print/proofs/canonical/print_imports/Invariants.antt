use Rattle.std.proofs.Common.{◌≡◌, ◌++◌, drop}
use Rattle.std.specs.List.{flat_map}
use Rattle.evo_tree.specs.Canonical.{import_text}
use Rattle.evo_print.proofs.canonical.print_imports.Given as goal

-- what is printed and what is left
abbrev pub invariant-loop-name : goal.invariant-loop-name
invariant-loop-name l = l.initial.out ++ flat_map import_text l.imports ≡ l.out ++ flat_map import_text (drop l.name-index l.imports)
