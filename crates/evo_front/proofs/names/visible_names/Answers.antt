use Rattle.std.proofs.Common.{◌≡◌, ◌+◌, ℕ, List, ◌∷◌, ◌++◌, drop, ap, ◌∙◌}
use Rattle.evo_first_form.specs.declared.Function.{Function}
use Rattle.evo_first_form.specs.Interface.{declared_names, declarations_of}
use Rattle.evo_base.proofs.Loops.{cut, inserted}
use Rattle.evo_front.proofs.Visible.{visible-cons}
use Rattle.evo_front.proofs.names.visible_names.Goals as goal

pub loop-function-preserved : goal.loop-function-preserved
loop-function-preserved c =
    let f = c.function-item.result in
    let more = drop (c.loop-function.function-index + 1) c.args.functions.now in
    let next : declared_names (declarations_of c.args.functions.now) ≡ c.loop-function.names ++ f.name ∷ declared_names (declarations_of more) =
    c.loop-function.invariant ∙ ap (λ (l : List Function). c.loop-function.names ++ declared_names (declarations_of l)) (cut c.args.functions.now c.loop-function.function-index f c.loop-function-test.true c.function-item.is) ∙ ap (λ (l : List (List ℕ)). c.loop-function.names ++ l) (visible-cons more f.access f.name f.body c.in_default.not-Internal) in
    inserted (declared_names (declarations_of c.args.functions.now)) c.loop-function.names c.insert.new.self f.name (declared_names (declarations_of more)) c.in_ok-_new._new c.requires next (rw c.as_slice.ensures.value at c.in_ok-_new.ensures.ok)
