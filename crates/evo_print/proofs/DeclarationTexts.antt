-- The texts of members, by those of their parts.
use Rattle.std.proofs.Common.{◌≡◌, ℕ, ◌+◌, List, ◌++◌, map, codes, ap}
use Rattle.std.specs.List.{flat_map}
use Rattle.evo_tree.specs.declared.declaration.Decl.{Decl}
use Rattle.evo_tree.specs.Canonical.{Text, indent, braced, decl_text}
use Rattle.evo_print.proofs.StatementTexts.{braced_lines}

-- members in braces
pub members_text : (xs : List Decl) (d inner : ℕ) → inner ≡ d + 1 → codes " " ++ braced (map decl_text xs) d ≡ codes " {\n" ++ flat_map (λ x. decl_text x inner) xs ++ (indent d ++ codes "}")
members_text xs d inner is = ap (λ (l : Text). codes " " ++ l) (braced_lines decl_text xs d inner is)
