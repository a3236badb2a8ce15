use Rattle.std.proofs.Common.{◌≡◌, ◌<◌, ◌+◌, MatchBool, length, sym, subst, arith}
use Rattle.evo_solve.specs.Search.{Rounded, nones}
use Rattle.evo_solve.proofs.Levels.{rounded_make, rounded_skip, nones_fall, still_fewer}
use Rattle.evo_solve.proofs.distance.round.Goals as goal
use Rattle.evo_solve.proofs.distance.round.Goals.{then-extend, else-extend}

pub loop-place-preserved : goal.loop-place-preserved
loop-place-preserved c =
    let g = c.args.classes.now in
    let ps = c.args.protocols.now in
    let old = c.args.distances.now.items in
    let cur = c.loop-place.distances.items in
    let new = c.extend.new.distances.items in
    let n = c.loop-place.place in
    let r = c.loop-place.invariant.rounded in
    let size = r.size in
    let inside : n < length cur = omega arith in
    elim c.if-extend.branch [
      | then-extend w ↦
          let e = w.if-extend.ensures.made in
          record {
            rounded = rounded_make g ps c.requires.range 0 0 c.requires.some c.args.far old cur new n r inside e.0 e.1 e.2;
            changed = subst (λ b. MatchBool b (nones new < nones old) (new ≡ old)) (sym w.changed-is) (still_fewer c.loop-place.changed old cur new c.loop-place.invariant.changed (nones_fall cur new n (c.args.far + 1) inside e.0 e.2));
          }
      | else-extend w ↦
          let e = w.if-extend.ensures.skipped in
          record {
            rounded = subst (λ l. Rounded g ps c.args.far old l (n + 1)) (sym e.0) (rounded_skip g ps c.requires.range 0 0 c.requires.some c.args.far old cur n r e.1);
            changed = subst (λ b. MatchBool b (nones new < nones old) (new ≡ old)) (sym w.changed-is) (subst (λ l. MatchBool c.loop-place.changed (nones l < nones old) (l ≡ old)) (sym e.0) c.loop-place.invariant.changed);
          }
    ]
