use Rattle.std.proofs.Common.{ap, sym, ◌∙◌}
use Rattle.evo_declarations.specs.Views.{key_of_type, types_of}
use Rattle.evo_names.specs.Heads.{superclass}
use Rattle.evo_keys.specs.Bases.{world_with}
use Rattle.evo_keys.specs.Members.{found_member}
use Rattle.evo_keys.proofs.Rooting.{found_here, ended_here, goes_on, no_more}
use Rattle.evo_keys.proofs.roots.nearest_root.Goals as goal

pub returns-in-Some : goal.returns-in-Some
returns-in-Some c = sym (c.loop-step.invariant ∙ found_here c.args.sought (world_with c.args.bases) c.args.most c.loop-step._step (key_of_type c.loop-step.class) _ c.loop-step-test.true (sym c.root_of_class.ensures ∙ ap found_member c.in-Some.is))

pub returns-in_default-superclass : goal.returns-in_default-superclass
returns-in_default-superclass c = sym (c.loop-step.invariant ∙ ended_here c.args.sought (world_with c.args.bases) c.args.most c.loop-step._step (key_of_type c.loop-step.class) c.loop-step-test.true (sym c.root_of_class.ensures ∙ ap found_member c.in_default.is) (sym (c.superclass.ensures ∙ ap (λ w. superclass w (key_of_type c.loop-step.class)) c.world.ensures) ∙ ap types_of c.in_default-superclass.is))

pub loop-step-preserved : goal.loop-step-preserved
loop-step-preserved c = c.loop-step.invariant ∙ goes_on c.args.sought (world_with c.args.bases) c.args.most c.loop-step._step (key_of_type c.loop-step.class) (key_of_type c.in-Some-superclass.next) c.loop-step-test.true (sym c.root_of_class.ensures ∙ ap found_member c.in_default.is) (sym (c.superclass.ensures ∙ ap (λ w. superclass w (key_of_type c.loop-step.class)) c.world.ensures) ∙ ap types_of c.in-Some-superclass.is)

pub returns : goal.returns
returns c = sym (c.loop-step.invariant ∙ no_more c.args.sought (world_with c.args.bases) c.args.most c.loop-step._step (key_of_type c.loop-step.class) c.loop-step-test.false)
