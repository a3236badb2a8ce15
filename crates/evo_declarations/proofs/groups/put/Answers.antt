use Rattle.std.proofs.Common.{◌≡◌, ◌<◌, sym, refl, ◌∙◌}
use Rattle.evo_base.proofs.Names.{position_of-within}
use Rattle.evo_declarations.proofs.Grouping.{put_at, put_new, on_ok, inserted_new}
use Rattle.evo_declarations.proofs.groups.put.Goals as goal

pub push_at-requires : goal.push_at-requires
push_at-requires c = rw c.requires (position_of-within c.args.text.now c.args.found.now.texts c.in-Some.place (sym c.position.ensures.place ∙ c.in-Some.is))

pub returns-in-Some-clause-added : goal.returns-in-Some-clause-added
returns-in-Some-clause-added c = on_ok (λ is. put_at c.args.found.now _ c.args.text.now c.in-Some.place c.args.number c.requires (sym c.position.ensures.place ∙ c.in-Some.is) is (record { texts = c.args.found.now.texts; groups = c.push_at.new.groups }) refl refl) c.push_at.result c.push_at.ensures

pub returns-in_ok-insert-in-None-clause-added : goal.returns-in_ok-insert-in-None-clause-added
returns-in_ok-insert-in-None-clause-added c =
    let none = sym c.position.ensures.place ∙ c.in-None.is in
    on_ok (λ is. put_new c.args.found.now (record { texts = c.insert.new.self; groups = c.push_group.new.groups }) c.args.text.now c.args.number c.requires none (inserted_new _ _ _ _ none c.in_ok-insert-in-None.ensures.ok) is) c.push_group.result c.push_group.ensures
