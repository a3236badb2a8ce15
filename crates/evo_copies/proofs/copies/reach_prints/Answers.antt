use Rattle.std.proofs.Common.{◌≡◌, ◌+◌, List, drop, sym, ◌∙◌, ap}
use Rattle.evo_base.proofs.Loops.{cut}
use Rattle.evo_first_form.specs.declared.Print.{Print}
use Rattle.evo_first_form.specs.Calls.{calls_of, calls_of_terms}
use Rattle.evo_copies.specs.Reach.{reached}
use Rattle.evo_copies.proofs.Facts.{reached-append}
use Rattle.evo_copies.proofs.copies.reach_prints.Goals as goal

pub loop-print-preserved : goal.loop-print-preserved
loop-print-preserved c =
    let p = c.print-item.result in
    let rest = drop (c.loop-print.print-index + 1) c.args.prints.now in
    let next = cut c.args.prints.now c.loop-print.print-index p c.loop-print-test.true c.print-item.is in
    let here : c.reach_terms.new.copies ≡ reached c.args.view.now c.loop-print.copies (calls_of_terms p.terms) = rw c.as_slice.ensures at c.in_ok-reach_terms.ensures in
    c.loop-print.invariant
    ∙ ap (λ (l : List Print). reached c.args.view.now c.loop-print.copies (calls_of l)) next
    ∙ reached-append c.args.view.now c.loop-print.copies (calls_of_terms p.terms) (calls_of rest)
    ∙ ap (λ l. reached c.args.view.now l (calls_of rest)) (sym here)
