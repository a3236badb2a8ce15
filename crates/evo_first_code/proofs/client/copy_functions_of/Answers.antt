use Rattle.std.proofs.Common.{◌+◌, ◌++◌, [], List, ℕ, drop, sym, ◌∙◌, ap, append_assoc}
use Rattle.std.proofs.lemmas.List.{append-nil}
use Rattle.evo_code.specs.declared.object.Function.{Function}
use Rattle.evo_first_form.specs.Copies.{copied_body}
use Rattle.evo_first_code.specs.Objects.{copy_functions, with_copy}
use Rattle.evo_first_code.proofs.Parts.{copy-first, next_name, none_left}
use Rattle.evo_first_code.proofs.client.copy_functions_of.Goals as goal

pub loop-place-preserved : goal.loop-place-preserved
loop-place-preserved c =
    let library = c.args.library.now in
    let view = c.args.view.now in
    let name = c.in-Some.name.now in
    let rest = copy_functions library view (drop (c.loop-place.place + 1) c.args.copies.now) in
    let next = next_name c.args.copies.now c.loop-place.place name (c.in-Some.ensures {u = tt}) in
    c.loop-place.invariant
    ∙ ap (λ (l : List (List ℕ)). c.loop-place.functions.items ++ copy_functions library view l) next
    ∙ ap (λ (l : List Function). c.loop-place.functions.items ++ l) (copy-first library view name (copied_body view name) rest)
    ∙ sym (append_assoc c.loop-place.functions.items (with_copy library view name (copied_body view name) []) rest)
    ∙ ap (λ (l : List Function). l ++ rest) (sym (c.in_ok-add_copy.ensures {u = tt}))

pub returns-in_default : goal.returns-in_default
returns-in_default c =
    let end = none_left c.args.copies.now c.loop-place.place (c.in_default.ensures {u = tt}) in
    sym (c.loop-place.invariant ∙ ap (λ (l : List (List ℕ)). c.loop-place.functions.items ++ copy_functions c.args.library.now c.args.view.now l) end ∙ append-nil c.loop-place.functions.items)
