use Rattle.std.proofs.Common.{◌≡◌, inl, inr, Some, length, slice_get, refl, sym, subst, arith}
use Rattle.std.proofs.lemmas.Option.{slice_get_read}
use Rattle.evo_solve.specs.Search.{NearBy, at}
use Rattle.evo_solve.proofs.Lists.{below_length}
use Rattle.evo_solve.proofs.Growing.{before_or_at}
use Rattle.evo_solve.proofs.Levels.{place_in, moves_in, moves_one, near_here}
use Rattle.evo_solve.proofs.distance.nearest.Goals as goal

pub loop-j-preserved-in_default : goal.loop-j-preserved-in_default
loop-j-preserved-in_default c k less near = elim (before_or_at k c.loop-j.j less) [
  | inl l ↦ c.loop-j.invariant k l near
  | inr e ↦
      let read = slice_get_read c.subtables-steps.result.now (length c.subtables-steps.result.now) c.loop-j.j c.index-steps-j.result refl (omega arith) c.index-steps-j.is in
      let here = subst (λ l. slice_get l c.loop-j.j ≡ Some c.index-steps-j.result) c.subtables-steps.ensures read in
      near_here c.args.classes.now c.args.protocols.now c.requires.range c.args.distances.now c.args.class c.args.protocol c.args.far c.loop-j.j c.index-steps-j.result here (λ d move inside value. c.in_default.ensures d move) (subst (NearBy c.args.classes.now c.args.protocols.now c.args.distances.now c.args.class c.args.protocol c.args.far) e near)
]

pub is_far-requires : goal.is_far-requires
is_far-requires c = λ less. place_in c.args.classes.now c.args.protocols.now c.args.distances.now c.requires.size c.in-Some.next c.index-steps-j.result.protocol (moves_in c.args.classes.now c.args.protocols.now c.requires.range c.args.class c.in-Some.next c.index-steps-j.result c.requires.inside c.in-Some.ensures, less)

pub returns-then-is_far : goal.returns-then-is_far
returns-then-is_far c =
    let read = slice_get_read c.subtables-steps.result.now (length c.subtables-steps.result.now) c.loop-j.j c.index-steps-j.result refl (omega arith) c.index-steps-j.is in
    let here = subst (λ l. slice_get l c.loop-j.j ≡ Some c.index-steps-j.result) c.subtables-steps.ensures read in
    let far = c.is_far.ensures.0 c.if-is_far.true in
    record { subtable = c.index-steps-j.result; there = here; moves = c.in-Some.ensures; leads = refl; inside = far.0; far_off = far.1; first = c.loop-j.invariant }

pub loop-j-preserved : goal.loop-j-preserved
loop-j-preserved c k less near = elim (before_or_at k c.loop-j.j less) [
  | inl l ↦ c.loop-j.invariant k l near
  | inr e ↦
      let read = slice_get_read c.subtables-steps.result.now (length c.subtables-steps.result.now) c.loop-j.j c.index-steps-j.result refl (omega arith) c.index-steps-j.is in
      let here = subst (λ l. slice_get l c.loop-j.j ≡ Some c.index-steps-j.result) c.subtables-steps.ensures read in
      near_here c.args.classes.now c.args.protocols.now c.requires.range c.args.distances.now c.args.class c.args.protocol c.args.far c.loop-j.j c.index-steps-j.result here
      (λ d move inside value.
      let one = moves_one c.args.classes.now c.args.protocols.now c.requires.range c.args.class d c.in-Some.next c.index-steps-j.result move c.in-Some.ensures in
      let yes = c.is_far.ensures.1 (inside, subst (λ z. at c.args.distances.now (length c.args.protocols.now) z c.index-steps-j.result.protocol ≡ Some c.args.far) one value) in
      absurd (cc (yes, c.if-is_far.false)))
      (subst (NearBy c.args.classes.now c.args.protocols.now c.args.distances.now c.args.class c.args.protocol c.args.far) e near)
]

pub returns : goal.returns
returns c near =
    let less = below_length c.subtables-steps.result.now near.0 near.1 (subst (λ l. slice_get l near.0 ≡ Some near.1) (sym c.subtables-steps.ensures) near.3) in
    c.loop-j.invariant near.0 (omega arith) (near.1, near.2, near.3, near.4, near.5, near.6)
