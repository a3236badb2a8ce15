use Rattle.std.proofs.Common.{codes, refl}
use Rattle.evo_tree.specs.Canonical.{head_text, release_text}
use Rattle.evo_print.proofs.Steps.{named5}
use Rattle.evo_print.proofs.canonical.print_head.Goals as goal

pub returns : goal.returns
unfolding head_text
returns c =
    named5 c.put-3.result c.args.out.now (codes "// swift-interface-format-version: 1.0\n// swevo-module: ") c.args.name.now (codes " ") (release_text c.args.release) (codes "\n")
    c.put.new.self c.print.new.out c.put-2.new.self c.print_release.new.out c.put-3.new.self (head_text c.args.name.now c.args.release)
    c.in_ok-put.ensures c.in_ok-print.ensures c.in_ok-put-2.ensures c.in_ok-print_release.ensures refl c.put-3.ensures
