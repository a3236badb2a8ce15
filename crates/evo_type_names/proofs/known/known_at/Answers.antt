use Rattle.std.specs.Prelude.{◌≡◌}
use Rattle.evo_type_names.specs.declared.known.Known.{Known}
use Rattle.evo_type_names.specs.Known.{is_place}
use Rattle.evo_type_names.proofs.Lists.{at_item, none_at_start, none_in_all, none_next, not_both}
use Rattle.evo_type_names.proofs.known.known_at.Goals as goal

pub loop-one-init : goal.loop-one-init
loop-one-init c = none_at_start (λ (k : Known). is_place k.located ≡ is_place c.args.located) c.args.known.now

pub loop-one-preserved : goal.loop-one-preserved
loop-one-preserved c = none_next (λ (k : Known). is_place k.located ≡ is_place c.args.located) c.args.known.now c.loop-one.one-index c.one-item.result (at_item c.args.known.now c.loop-one.one-index c.one-item.result c.loop-one-test.true c.one-item.is) (λ same. not_both c.is_same_place.result c.if-is_same_place.false (c.is_same_place.ensures.1 same)) c.loop-one.invariant

pub returns : goal.returns
returns c = none_in_all (λ (k : Known). is_place k.located ≡ is_place c.args.located) c.args.known.now c.loop-one.one-index c.loop-one-test.false c.loop-one.invariant
