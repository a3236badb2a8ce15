use Rattle.std.proofs.Common.{◌≡◌, List, [], ◌∷◌, ◌++◌, sym, ap, ◌∙◌, rules}
use Rattle.evo_tree.specs.declared.name.Identifier.{Identifier}
use Rattle.evo_tree.specs.declared.module.Item.{Item}
use Rattle.evo_parse.proofs.Loops.{imports_import, items_import, imports_items, items_items}
use Rattle.evo_parse.proofs.part.split.Goals as goal

pub loop-part-preserved-in-Continue-branch-2 : goal.loop-part-preserved-in-Continue-branch-2
loop-part-preserved-in-Continue-branch-2 c =
    let name = c.in-Import.name in
    let pushed : c.push.new.self.items ≡ c.loop-part.imports.items ++ name ∷ [] = search rules in (
      pushed ∙ ap (λ (l : List Identifier). l ++ name ∷ []) c.loop-part.invariant.0 ∙ sym (imports_import c.in-Some.part name c.in-Import.is c.loop-part.yielded),
      c.loop-part.invariant.1 ∙ sym (items_import c.in-Some.part name c.in-Import.is c.loop-part.yielded),
    )

pub loop-part-preserved : goal.loop-part-preserved
loop-part-preserved c =
    let more = c.in-Items.more in
    let appended : c.append.new.self.items ≡ c.loop-part.items.items ++ more = search rules in (
      c.loop-part.invariant.0 ∙ sym (imports_items c.in-Some.part more c.in-Items.is c.loop-part.yielded),
      appended ∙ ap (λ (l : List Item). l ++ more) c.loop-part.invariant.1 ∙ sym (items_items c.in-Some.part more c.in-Items.is c.loop-part.yielded),
    )
