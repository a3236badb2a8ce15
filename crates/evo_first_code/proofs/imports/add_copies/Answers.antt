use Rattle.std.proofs.Common.{◌+◌, ◌++◌, List, ℕ, drop, sym, ◌∙◌, ap, append_assoc}
use Rattle.std.proofs.lemmas.List.{append-nil}
use Rattle.evo_code.specs.declared.object.Import.{Import}
use Rattle.evo_first_form.specs.Calls.{calls_of_body}
use Rattle.evo_first_form.specs.Copies.{copied_body, calls_of_copies}
use Rattle.evo_first_code.specs.Objects.{needed}
use Rattle.evo_first_code.proofs.Parts.{needed-append, next_name, none_left}
use Rattle.evo_first_code.proofs.imports.add_copies.Goals as goal

pub loop-place-preserved : goal.loop-place-preserved
loop-place-preserved c =
    let library = c.args.library.now in
    let view = c.args.view.now in
    let name = c.in-Some.name.now in
    let later = drop (c.loop-place.place + 1) c.args.copies.now in
    let next = next_name c.args.copies.now c.loop-place.place name (c.in-Some.ensures {u = tt}) in
    c.loop-place.invariant
    ∙ ap (λ (l : List (List ℕ)). c.loop-place.imports.items ++ needed library view (calls_of_copies view l)) next
    ∙ ap (λ (l : List Import). c.loop-place.imports.items ++ l) (needed-append library view (calls_of_body (copied_body view name)) (calls_of_copies view later))
    ∙ sym (append_assoc c.loop-place.imports.items (needed library view (calls_of_body (copied_body view name))) (needed library view (calls_of_copies view later)))
    ∙ ap (λ (l : List Import). l ++ needed library view (calls_of_copies view later)) (sym (c.in_ok-add_copy.ensures {u = tt}))

pub returns-in_default : goal.returns-in_default
returns-in_default c =
    let end = none_left c.args.copies.now c.loop-place.place (c.in_default.ensures {u = tt}) in
    sym (c.loop-place.invariant ∙ ap (λ (l : List (List ℕ)). c.loop-place.imports.items ++ needed c.args.library.now c.args.view.now (calls_of_copies c.args.view.now l)) end ∙ append-nil c.loop-place.imports.items)
