use Rattle.std.proofs.Common.{◌++◌, ◌∷◌, [], List, ℕ, ap, sym, ◌∙◌}
use Rattle.evo_tree.specs.Canonical.{indent}
use Rattle.evo_print.proofs.Steps.{two, indent_more}
use Rattle.evo_print.proofs.printer.Printer.put_indent.Goals as goal

pub loop-level-preserved : goal.loop-level-preserved
loop-level-preserved c =
    two c.args.self.now (indent c.loop-level._level) (32 ∷ 32 ∷ []) c.loop-level.self c.put.new.self c.loop-level.invariant c.in_ok-put.ensures
    ∙ ap (λ (l : List ℕ). c.args.self.now ++ l) (sym (indent_more c.loop-level._level))
