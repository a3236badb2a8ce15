use Rattle.std.proofs.Common.{◌∙◌, ◌++◌, ◌∷◌, [], ap, refl, sym}
use Rattle.evo_resolved.specs.declared.resolved_type.RType.TheVariants as ty
use Rattle.evo_declarations.specs.Views.{key_of_type}
use Rattle.evo_declarations.specs.Worlds.{world_of}
use Rattle.evo_names.specs.Written.{fixed}
use Rattle.evo_type_names.specs.Known.{parameter_type, texts_of}
use Rattle.evo_type_names.specs.Starts.{start_view}
use Rattle.evo_type_names.proofs.Walks.{entered_start}
use Rattle.evo_type_names.proofs.walk.enter.Goals as goal

pub returns-in-Named : goal.returns-in-Named
returns-in-Named c = entered_start (world_of c.args.space.now.world) _ (ty.Named (key_of_type c.in-Named.key)) _ _ (ap (start_view (world_of c.args.space.now.world)) c.in-Named.is) refl

pub returns-in-Parameter : goal.returns-in-Parameter
returns-in-Parameter c = entered_start (world_of c.args.space.now.world) _ _ _ _ (ap (start_view (world_of c.args.space.now.world)) c.in-Parameter.is ∙ ap (λ ts. fixed (parameter_type c.in-Parameter.number (texts_of ts))) (sym c.clear.ensures.items)) refl

pub returns-in_ok-push-in-Member : goal.returns-in_ok-push-in-Member
returns-in_ok-push-in-Member c = entered_start (world_of c.args.space.now.world) _ _ _ _ (ap (start_view (world_of c.args.space.now.world)) c.in-Member.is ∙ ap (λ ts. fixed (parameter_type c.in-Member.number (texts_of ts))) (sym (c.in_ok-push-in-Member.ensures.items ∙ ap (λ xs. xs ++ c.in-Member.name ∷ []) c.clear-in-Member.ensures.items))) refl
