use Rattle.std.proofs.Common.{◌≡◌, ◌++◌, ap, sym, ◌∙◌, length}
use Rattle.std.proofs.lemmas.List.{length-map}
use Rattle.evo_declarations.specs.Worlds.{world_of}
use Rattle.evo_meeting.specs.Spots.{spot_view, spot_views}
use Rattle.evo_name_faults.specs.Conformances.{imported_names, own_names}
use Rattle.evo_name_faults.proofs.SecondConformances.{answered_ok}
use Rattle.evo_name_faults.proofs.second.second_conformance.Goals as goal

pub returns : goal.returns
returns c =
    let first : spot_views c.push_imported_names.new.spots.items ≡ imported_names (world_of c.args.world) = c.in_ok-push_imported_names.ensures ∙ ap (λ s. spot_views s ++ imported_names (world_of c.args.world)) c.new-names.ensures.items in
    let counted : c.len-start.result ≡ length c.push_imported_names.new.spots.items = search in
    answered_ok (world_of c.args.world) _ c.len-start.result c.first_twice.result
    (ap spot_views c.as_slice.ensures.value ∙ c.in_ok-push_own_names.ensures ∙ ap (λ names. names ++ own_names (world_of c.args.world)) first)
    (counted ∙ sym (length-map _ spot_view) ∙ ap length first)
    c.first_twice.ensures
