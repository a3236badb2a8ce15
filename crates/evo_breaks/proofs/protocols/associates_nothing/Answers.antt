use Rattle.std.proofs.Common.{ap, ◌∙◌}
use Rattle.std.specs.List.{list_any}
use Rattle.evo_resolved.specs.declared.declaration.RDecl.{RDecl}
use Rattle.evo_breaks.specs.declared.rule.Rule.TheVariants as rule
use Rattle.evo_breaks.specs.Rules.{between, asks_more, associations}
use Rattle.evo_breaks.proofs.Nothing.{none_passes_by}
use Rattle.evo_breaks.proofs.protocols.associates_nothing.Goals as goal

pub returns : goal.returns
unfolding associations
returns c = none_passes_by (λ (a : RDecl). between rule.AssociatedTypeChanged c.args.protocol.now a.own) (asks_more c.args.old.now c.args.protocol.now) c.args.new.now.decls _ (c.does_any_ask_more.ensures ∙ ap (list_any (asks_more c.args.old.now c.args.protocol.now)) c.as_slice.ensures)
