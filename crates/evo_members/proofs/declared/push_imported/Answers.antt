use Rattle.std.proofs.Common.{◌∙◌, ◌++◌, ap, sym}
use Rattle.evo_members.specs.Views.{all_of}
use Rattle.evo_members.proofs.Everything.{imported_are, map_all}
use Rattle.evo_members.proofs.declared.push_imported.Goals as goal

pub returns-in_ok-push_from-in-Some : goal.returns-in_ok-push_from-in-Some
returns-in_ok-push_from-in-Some c = ap (all_of c.args.world) c.in_ok-push_from-in-Some.ensures ∙ map_all c.args.world c.args.found.now.items _ ∙ ap (λ ds. all_of c.args.world c.args.found.now.items ++ ds) (sym (imported_are c.args.world c.in-Some.names c.in-Some.is c.as_slice.result.now c.as_slice.ensures.value))
