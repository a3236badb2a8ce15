use Rattle.std.proofs.Common.{◌≡◌, ◌+◌, List, ◌∷◌, ◌++◌, drop, ap, ◌∙◌}
use Rattle.evo_first_form.specs.declared.Declaration.{Declaration}
use Rattle.evo_first_form.specs.Interface.{declared_names}
use Rattle.evo_base.proofs.Loops.{cut, inserted}
use Rattle.evo_iface.proofs.table.declared_table.Goals as goal

pub loop-declaration-preserved : goal.loop-declaration-preserved
loop-declaration-preserved c =
    let d = c.declaration-item.result in
    let rest = declared_names (drop (c.loop-declaration.declaration-index + 1) c.args.declarations.now) in
    let next : declared_names c.args.declarations.now ≡ c.loop-declaration.table ++ d.name ∷ rest =
    c.loop-declaration.invariant ∙ ap (λ (l : List Declaration). c.loop-declaration.table ++ declared_names l) (cut c.args.declarations.now c.loop-declaration.declaration-index d c.loop-declaration-test.true c.declaration-item.is) in
    inserted (declared_names c.args.declarations.now) c.loop-declaration.table c.insert.new.self d.name rest c.in_ok-_new._new c.requires next (rw c.as_slice.ensures.value at c.in_ok-_new.ensures.ok)
