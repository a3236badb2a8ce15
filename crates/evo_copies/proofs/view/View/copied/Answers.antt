use Rattle.std.proofs.Common.{rules, ◌≡◌, Some, None, length, ◌<◌, List, sym, ◌∙◌, ap}
use Rattle.evo_base.specs.Names.{position_of}
use Rattle.evo_first_form.specs.declared.Declaration.{Declaration}
use Rattle.evo_first_form.specs.Interface.{declared_names}
use Rattle.evo_first_form.specs.Copies.{copied_body}
use Rattle.evo_copies.proofs.Facts.{no_body, at_place, within}
use Rattle.evo_copies.proofs.view.View.copied.Goals as goal

pub returns-in_err-place : goal.returns-in_err-place
returns-in_err-place c =
    let none = no_body c.self.inside.declarations.now c.args.name.now (rw c.self.invariant at (sym c.position.ensures.place ∙ c.in_err-place.was)) in
    search rules

pub bounds-self-inside-place : goal.bounds-self-inside-place
bounds-self-inside-place c =
    let at : position_of c.args.name.now (declared_names c.self.inside.declarations.now) ≡ Some c.in_ok-place.place = rw c.self.invariant at (sym c.position.ensures.place ∙ c.in_ok-place.was) in
    within c.self.inside.declarations.now c.args.name.now c.in_ok-place.place at

pub offset_bounds-self-inside-place : goal.offset_bounds-self-inside-place
offset_bounds-self-inside-place c =
    let at : position_of c.args.name.now (declared_names c.self.inside.declarations.now) ≡ Some c.in_ok-place.place = rw c.self.invariant at (sym c.position.ensures.place ∙ c.in_ok-place.was) in
    let lt : c.in_ok-place.place < length c.self.inside.declarations.now = within c.self.inside.declarations.now c.args.name.now c.in_ok-place.place at in
    search rules

pub returns : goal.returns
returns c =
    let at : position_of c.args.name.now (declared_names c.self.inside.declarations.now) ≡ Some c.in_ok-place.place = rw c.self.invariant at (sym c.position.ensures.place ∙ c.in_ok-place.was) in
    let there = at_place c.self.inside.declarations.now c.args.name.now c.in_ok-place.place c.index-self-place.result at c.index-self-place.is in
    let body : c.index-self-place.result.body ≡ Some c.in_ok-body.body.now = search rules in
    let whole : c.args.self.now ≡ c.self.inside.declarations.now = search rules in
    (ap (λ (l : List Declaration). copied_body l c.args.name.now) whole ∙ there.0 ∙ body, ap (λ (d : Declaration). d.name) (sym c.index-self-place.is) ∙ there.1)

pub returns-in_err-body : goal.returns-in_err-body
returns-in_err-body c =
    let at : position_of c.args.name.now (declared_names c.self.inside.declarations.now) ≡ Some c.in_ok-place.place = rw c.self.invariant at (sym c.position.ensures.place ∙ c.in_ok-place.was) in
    let there = at_place c.self.inside.declarations.now c.args.name.now c.in_ok-place.place c.index-self-place.result at c.index-self-place.is in
    let body : c.index-self-place.result.body ≡ None = search rules in
    let none = there.0 ∙ body in
    search rules
