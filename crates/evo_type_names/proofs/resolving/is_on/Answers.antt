use Rattle.std.proofs.Common.{◌≡◌, refl}
use Rattle.evo_members.specs.declared.located.Located.{Located}
use Rattle.evo_type_names.specs.Known.{is_place}
use Rattle.evo_type_names.proofs.Lists.{at_item, none_at_start, none_in_all, none_next, not_both}
use Rattle.evo_type_names.proofs.resolving.is_on.Goals as goal

pub loop-one-init : goal.loop-one-init
loop-one-init c = none_at_start (λ (o : Located). is_place o ≡ is_place c.args.located) c.args.stack.now

pub loop-one-preserved : goal.loop-one-preserved
loop-one-preserved c = none_next (λ (o : Located). is_place o ≡ is_place c.args.located) c.args.stack.now c.loop-one.one-index c.one-item.result (at_item c.args.stack.now c.loop-one.one-index c.one-item.result c.loop-one-test.true c.one-item.is) (λ same. not_both c.is_same_place.result c.if-is_same_place.false (c.is_same_place.ensures.1 same)) c.loop-one.invariant

pub returns-then-is_same_place : goal.returns-then-is_same_place
returns-then-is_same_place c = (λ t. record { number = c.loop-one.one-index; one = c.one-item.result; at = at_item c.args.stack.now c.loop-one.one-index c.one-item.result c.loop-one-test.true c.one-item.is; same = c.is_same_place.ensures.0 c.if-is_same_place.true }, λ on. refl)

pub returns : goal.returns
returns c = (λ t. absurd cc, λ on. absurd (none_in_all (λ (o : Located). is_place o ≡ is_place c.args.located) c.args.stack.now c.loop-one.one-index c.loop-one-test.false c.loop-one.invariant on.number on.one on.at on.same))
