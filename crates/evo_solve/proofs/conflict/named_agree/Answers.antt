use Rattle.std.proofs.Common.{◌≡◌, ℕ, ◌<◌, length, refl, sym, ◌∙◌, ap, subst, arith, Some, slice_get, ◌⊎◌, inl, inr}
use Rattle.std.proofs.lemmas.Option.{slice_get_read}
use Rattle.evo_solve.specs.declared.universe.Node.{Node}
use Rattle.evo_solve.specs.Universe.{Alike, rep}
use Rattle.evo_solve.proofs.Lists.{below_length}
use Rattle.evo_solve.proofs.Growing.{before_or_at}
use Rattle.evo_solve.proofs.Standing.{agree_couples, couple_apart}
use Rattle.evo_solve.proofs.conflict.named_agree.Goals as goal
use Rattle.evo_solve.proofs.conflict.named_agree.Goals.{else-reps-i-via-then-reps-i+else-not-are_alike, else-reps-i-via-else-reps-i}

pub returns-then-not-are_alike : goal.returns-then-not-are_alike
returns-then-not-are_alike c =
    let nodes = c.args.nodes.now in
    let at_x = slice_get_read nodes (length nodes) c.loop-i.i c.index-nodes-i.result refl (omega arith) c.index-nodes-i.is in
    let at_y = slice_get_read nodes (length nodes) c.loop-j.j c.index-nodes-j.result refl (omega arith) c.index-nodes-j.is in
    (λ e. absurd (cc e), λ agree. let a = c.are_alike.ensures.1 (couple_apart nodes c.args.reps.now c.loop-i.i c.loop-j.j c.index-nodes-i.result c.index-nodes-j.result at_x at_y c.if-reps-i.true agree) in cc (a, c.if-not-are_alike.true))

pub loop-j-preserved : goal.loop-j-preserved
loop-j-preserved c = λ m y less at same. go m y at same (before_or_at m c.loop-j.j less)
  where
    here : (y : Node) → slice_get c.args.nodes.now c.loop-j.j ≡ Some y → rep c.args.reps.now c.loop-i.i ≡ rep c.args.reps.now c.loop-j.j → Alike c.index-nodes-i.result y
    here y at same =
        let at_y = slice_get_read c.args.nodes.now (length c.args.nodes.now) c.loop-j.j c.index-nodes-j.result refl (omega arith) c.index-nodes-j.is in
        let is : c.index-nodes-j.result ≡ y = cc (at, at_y) in
        subst (Alike c.index-nodes-i.result) is (elim c.else-reps-i.branch [ else-reps-i-via-then-reps-i+else-not-are_alike w ↦ w.are_alike.ensures.0 w.if-not-are_alike.false | else-reps-i-via-else-reps-i w ↦ absurd (w.if-reps-i.false same) ])

    go : (m : ℕ) (y : Node) → slice_get c.args.nodes.now m ≡ Some y → rep c.args.reps.now c.loop-i.i ≡ rep c.args.reps.now m → (m < c.loop-j.j) ⊎ (m ≡ c.loop-j.j) → Alike c.index-nodes-i.result y
    go m y at same (inl less) = c.loop-j.invariant m y less at same
    go m y at same (inr e) = here y (subst (λ z. slice_get c.args.nodes.now z ≡ Some y) e at) (same ∙ ap (rep c.args.reps.now) e)

pub loop-i-preserved : goal.loop-i-preserved
loop-i-preserved c = λ k m x y less at_x at_y same. go k m x y at_x at_y same (before_or_at k c.loop-i.i less)
  where
    go : (k m : ℕ) (x y : Node) → slice_get c.args.nodes.now k ≡ Some x → slice_get c.args.nodes.now m ≡ Some y → rep c.args.reps.now k ≡ rep c.args.reps.now m → (k < c.loop-i.i) ⊎ (k ≡ c.loop-i.i) → Alike x y
    go k m x y at_x at_y same (inl less) = c.loop-i.invariant k m x y less at_x at_y same
    go k m x y at_x at_y same (inr e) =
        let at = slice_get_read c.args.nodes.now (length c.args.nodes.now) c.loop-i.i c.index-nodes-i.result refl (omega arith) c.index-nodes-i.is in
        let is : c.index-nodes-i.result ≡ x = (let a = subst (λ z. slice_get c.args.nodes.now z ≡ Some x) e at_x in cc (a, at)) in
        let less = below_length c.args.nodes.now m y at_y in
        subst (λ z. Alike z y) is (c.loop-j.invariant m y (omega arith) at_y (sym (ap (rep c.args.reps.now) e) ∙ same))

pub returns : goal.returns
returns c = (λ t. agree_couples c.args.nodes.now c.args.reps.now (λ k m x y at_x at_y same. let less = below_length c.args.nodes.now k x at_x in c.loop-i.invariant k m x y (omega arith) at_x at_y same), λ a. refl)
