use Rattle.std.proofs.Common.{rules, true, false, ◌≡◌, ◌+◌, ◌++◌, drop, ap, sym, subst}
use Rattle.evo_first_form.specs.Calls.{calls_of, calls_of_terms}
use Rattle.evo_first_form.specs.Accepted.{AreKnown}
use Rattle.evo_base.proofs.Loops.{cut}
use Rattle.evo_front.proofs.Known.{known-both, known-front, known-back}
use Rattle.evo_front.proofs.client.knows_all.Goals as goal

pub returns-then-not-knows_terms : goal.returns-then-not-knows_terms
returns-then-not-knows_terms c all =
    let p = c.print-item.result in
    let rest = drop (c.loop-print.print-index + 1) c.args.prints.now in
    let next : calls_of (drop c.loop-print.print-index c.args.prints.now) ≡ calls_of_terms p.terms ++ calls_of rest =
    ap calls_of (cut c.args.prints.now c.loop-print.print-index p c.loop-print-test.true c.print-item.is) in
    let none : AreKnown c.args.functions.now (calls_of_terms p.terms) → ⊥ = let no : c.knows_terms.result ≡ false = search rules in rw c.as_slice.ensures at (rw no at c.knows_terms.ensures) in
    none (known-front c.args.functions.now (calls_of_terms p.terms) (calls_of rest) (subst (AreKnown c.args.functions.now) next (c.loop-print.invariant.rest all)))

pub loop-print-preserved : goal.loop-print-preserved
loop-print-preserved c =
    let p = c.print-item.result in
    let rest = drop (c.loop-print.print-index + 1) c.args.prints.now in
    let next : calls_of (drop c.loop-print.print-index c.args.prints.now) ≡ calls_of_terms p.terms ++ calls_of rest =
    ap calls_of (cut c.args.prints.now c.loop-print.print-index p c.loop-print-test.true c.print-item.is) in
    let known : AreKnown c.args.functions.now (calls_of_terms p.terms) = let yes : c.knows_terms.result ≡ true = search rules in rw c.as_slice.ensures at (rw yes at c.knows_terms.ensures) in
    record {
      whole = λ more. c.loop-print.invariant.whole (subst (AreKnown c.args.functions.now) (sym next) (known-both c.args.functions.now (calls_of_terms p.terms) (calls_of rest) known more));
      rest = λ all. known-back c.args.functions.now (calls_of_terms p.terms) (calls_of rest) (subst (AreKnown c.args.functions.now) next (c.loop-print.invariant.rest all));
    }
