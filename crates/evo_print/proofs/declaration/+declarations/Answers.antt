use Rattle.std.proofs.Common.{◌++◌, codes, map}
use Rattle.std.specs.List.{flat_map}
use Rattle.evo_tree.specs.Canonical.{indent, braced, decl_text}
use Rattle.evo_print.proofs.Steps.{named3}
use Rattle.evo_print.proofs.DeclarationTexts.{members_text}
use Rattle.evo_print.proofs.declaration.+declarations.Goals as goal

pub print_members-returns : goal.print_members-returns
print_members-returns t c =
    let inner = c.in_ok-inner.inner in
    named3 c.close.result c.args.out.now (codes " {\n") (flat_map (λ x. decl_text x inner) c.args.items.now) (indent c.args.depth ++ codes "}")
    c.put.new.self c.print_decls.new.out c.close.new.self (codes " " ++ braced (map decl_text c.args.items.now) c.args.depth)
    c.in_ok-put.ensures c.in_ok-print_decls.ensures (members_text c.args.items.now c.args.depth inner c.in_ok-inner.ensures) c.close.ensures
