use Rattle.std.proofs.Common.{◌∙◌, ◌++◌, ap, sym}
use Rattle.evo_members.specs.Views.{all_of}
use Rattle.evo_members.proofs.Everything.{own_are, map_all}
use Rattle.evo_members.proofs.declared.push_own.Goals as goal

pub returns : goal.returns
returns c = ap (all_of c.args.world) c.in_ok-push_from.ensures ∙ map_all c.args.world c.args.found.now.items _ ∙ ap (λ ds. all_of c.args.world c.args.found.now.items ++ ds) (sym (own_are c.args.world c.as_slice.result.now c.as_slice.ensures.value))
