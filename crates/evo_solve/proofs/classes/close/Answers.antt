use Rattle.std.proofs.Common.{◌≡◌, ℕ, ◌<◌, ◌≤◌, List, length, arith, refl, subst, sym, ◌∙◌}
use Rattle.evo_solve.specs.Universe.{Represented, total, rep}
use Rattle.evo_solve.proofs.Closing.{sum_falls, gap_merged, sides_in}
use Rattle.evo_solve.proofs.classes.close.Goals as goal

pub gap-requires-clause-sides : goal.gap-requires-clause-sides
gap-requires-clause-sides c = sides_in c.args.written.now c.args.nodes.now c.args.pairs.now (length c.args.written.now) c.requires.placing

pub loop-g-smaller-then-a-b : goal.loop-g-smaller-then-a-b
loop-g-smaller-then-a-b c =
    let reps : List ℕ = c.loop-g.reps in
    let g = c.in-Some.g in
    let less : rep reps g.one < rep reps g.other = c.if-a-b.true in
    let size = c.loop-g.invariant.size in
    let inside = c.in-Some.ensures.other_in in
    subst (λ l. total l < total reps) (sym c.merge.ensures) (sum_falls (rep reps g.other) (rep reps g.one) g.other reps less (omega arith) refl)

pub loop-g-preserved-then-a-b : goal.loop-g-preserved-then-a-b
loop-g-preserved-then-a-b c =
    let m = gap_merged c.args.written.now c.args.nodes.now c.args.pairs.now c.loop-g.reps c.requires.placing c.loop-g.invariant.sound c.in-Some.g c.in-Some.ensures c.loop-g.invariant.size in
    record { size = c.merge.auto.reps ∙ c.loop-g.invariant.size; sound = subst (Represented c.args.written.now c.args.nodes.now) (sym c.merge.ensures) m.1 }

pub loop-g-smaller : goal.loop-g-smaller
loop-g-smaller c =
    let reps : List ℕ = c.loop-g.reps in
    let g = c.in-Some.g in
    let more : rep reps g.other ≤ rep reps g.one = c.if-a-b.false in
    let differ : rep reps g.one ≡ rep reps g.other → ⊥ = c.in-Some.ensures.differ in
    let size = c.loop-g.invariant.size in
    let inside = c.in-Some.ensures.one_in in
    subst (λ l. total l < total reps) (sym c.merge-else-a-b.ensures) (sum_falls (rep reps g.one) (rep reps g.other) g.one reps (omega arith) (omega arith) refl)

pub loop-g-preserved : goal.loop-g-preserved
loop-g-preserved c =
    let m = gap_merged c.args.written.now c.args.nodes.now c.args.pairs.now c.loop-g.reps c.requires.placing c.loop-g.invariant.sound c.in-Some.g c.in-Some.ensures c.loop-g.invariant.size in
    record { size = c.merge-else-a-b.auto.reps ∙ c.loop-g.invariant.size; sound = subst (Represented c.args.written.now c.args.nodes.now) (sym c.merge-else-a-b.ensures) m.0 }
