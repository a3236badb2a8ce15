use Rattle.std.proofs.Common.{ap, ◌∙◌}
use Rattle.std.specs.List.{list_any}
use Rattle.evo_resolved.specs.declared.module.RDefault.{RDefault}
use Rattle.evo_breaks.specs.declared.rule.Rule.TheVariants as rule
use Rattle.evo_breaks.specs.Rules.{between, is_demanding, protocol_in, demands}
use Rattle.evo_breaks.proofs.Nothing.{none_passes_by}
use Rattle.evo_breaks.proofs.protocols.demands_nothing.Goals as goal

pub returns : goal.returns
unfolding demands
returns c = none_passes_by (λ (x : RDefault). between rule.RequirementWithoutDefault c.args.protocol.now x.requirement) (is_demanding c.args.old.now c.args.new.now) (protocol_in c.args.new.now.protocols c.args.protocol.now) _ (c.is_any_demanding.ensures ∙ ap (list_any (is_demanding c.args.old.now c.args.new.now)) (c.protocol_in-defaults.ensures ∙ ap (λ l. protocol_in l c.args.protocol.now) c.as_slice.ensures))
