use Rattle.std.proofs.Common.{rules, true, false, ◌≡◌, ◌+◌, ◌++◌, drop, ap, sym, subst}
use Rattle.evo_first_form.specs.Calls.{calls_of_term, calls_of_terms}
use Rattle.evo_first_form.specs.Accepted.{AreKnown}
use Rattle.evo_base.proofs.Loops.{cut}
use Rattle.evo_front.proofs.Known.{known-both, known-front, known-back}
use Rattle.evo_front.proofs.client.knows_terms.Goals as goal

pub returns-then-not-knows : goal.returns-then-not-knows
returns-then-not-knows c all =
    let t = c.term-item.result in
    let rest = drop (c.loop-term.term-index + 1) c.args.terms.now in
    let next : calls_of_terms (drop c.loop-term.term-index c.args.terms.now) ≡ calls_of_term t ++ calls_of_terms rest =
    ap calls_of_terms (cut c.args.terms.now c.loop-term.term-index t c.loop-term-test.true c.term-item.is) in
    let none : AreKnown c.args.functions.now (calls_of_term t) → ⊥ = let no : c.knows.result ≡ false = search rules in rw no at c.knows.ensures in
    none (known-front c.args.functions.now (calls_of_term t) (calls_of_terms rest) (subst (AreKnown c.args.functions.now) next (c.loop-term.invariant.rest all)))

pub loop-term-preserved : goal.loop-term-preserved
loop-term-preserved c =
    let t = c.term-item.result in
    let rest = drop (c.loop-term.term-index + 1) c.args.terms.now in
    let next : calls_of_terms (drop c.loop-term.term-index c.args.terms.now) ≡ calls_of_term t ++ calls_of_terms rest =
    ap calls_of_terms (cut c.args.terms.now c.loop-term.term-index t c.loop-term-test.true c.term-item.is) in
    let known : AreKnown c.args.functions.now (calls_of_term t) = let yes : c.knows.result ≡ true = search rules in rw yes at c.knows.ensures in
    record {
      whole = λ more. c.loop-term.invariant.whole (subst (AreKnown c.args.functions.now) (sym next) (known-both c.args.functions.now (calls_of_term t) (calls_of_terms rest) known more));
      rest = λ all. known-back c.args.functions.now (calls_of_term t) (calls_of_terms rest) (subst (AreKnown c.args.functions.now) next (c.loop-term.invariant.rest all));
    }
