-- What borrowed names of declarations stand for.
use Rattle.std.specs.Prelude.{List, [], ◌∷◌, map, Option, Some, None}
use Rattle.std.specs.Option.{option_map}
use Rattle.evo_names.specs.declared.declared_name.DeclaredName.{DeclaredName}
use Rattle.evo_names.specs.Listed.{Text}
use Rattle.evo_meeting.specs.declared.spot.Context.{Context}
use Rattle.evo_meeting.specs.declared.spot.Context.TheVariants as context
use Rattle.evo_meeting.specs.declared.spot.Spot.{Spot}

abbrev pub context_of : Context → List Text
context_of (context.Module m) = m.now ∷ []
context_of (context.Type t) = t.module.now ∷ t.base.now ∷ []

abbrev pub spot_view : Spot → DeclaredName
spot_view s = record {
  place = s.place;
  «module» = s.module.now;
  context = context_of s.context;
  base = s.base.now;
  labels = option_map (λ v. map (λ t. t.now) v.items) s.labels;
  sort = s.sort;
  requirement = s.requirement;
  extends = s.extends;
  is_static = s.is_static;
  overrides = s.overrides;
}

abbrev pub spot_views : List Spot → List DeclaredName
spot_views spots = map spot_view spots
