use Rattle.std.proofs.Common.{◌∙◌, ◌∷◌, [], ap}
use Rattle.std.proofs.lemmas.List.{map-append}
use Rattle.evo_declarations.specs.Views.{view_of}
use Rattle.evo_declarations.specs.Worlds.{world_of}
use Rattle.evo_names.specs.Listed.{Text}
use Rattle.evo_type_names.specs.Known.{texts_of}
use denote.Bor.{Bor}
use Rattle.evo_type_names.proofs.Walks.{stepped_head}
use Rattle.evo_type_names.proofs.walk.step.Goals as goal

pub returns-in_ok-push-in-Parameter : goal.returns-in_ok-push-in-Parameter
returns-in_ok-push-in-Parameter c = stepped_head (world_of c.args.space.now.world) (view_of c.args.view) c.args.head.now c.in-Parameter.field-0 (texts_of c.args.path.now.items) (texts_of c.push.new.self.items) c.args.name.now _ c.in-Parameter.is (ap texts_of c.in_ok-push-in-Parameter.ensures.items ∙ map-append (λ (t : Bor Text). t.now) c.args.path.now.items (c.args.name ∷ []))
