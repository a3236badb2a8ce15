-- What borrowed declarations stand for, with their names.
use Rattle.std.specs.Prelude.{List, ◌∷◌, [], flat_map, Option, Some, None, codes, false}
use Rattle.std.specs.Option.{option_map}
use Rattle.evo_tree.specs.declared.name.Identifier.{Identifier}
use Rattle.evo_declarations.specs.declared.listed.Listed.{Listed}
use Rattle.evo_declarations.specs.declared.world.World.{World}
use Rattle.evo_declarations.specs.Views.{entry_view}
use Rattle.evo_declarations.specs.Worlds.{world_of}
use Rattle.evo_names.specs.declared.declared_name.DeclaredName.{DeclaredName}
use Rattle.evo_names.specs.declared.declared_name.Sort.TheVariants as sort
use Rattle.evo_names.specs.Listed as names
use Rattle.evo_names.specs.Listed.{Text, Declaration}
use Rattle.evo_names.specs.Keys.{names_by}
use Rattle.evo_meeting.specs.declared.spot.Context.{Context}
use Rattle.evo_meeting.specs.Spots.{context_of}

abbrev pub context_view : Option Context → Option (List Text)
context_view o = option_map context_of o

abbrev pub declaration_view : World → Listed → Declaration
declaration_view w l = record { world = world_of w; entry = entry_view l }

abbrev pub names_at : World → Listed → List DeclaredName
names_at w l = names_by (declaration_view w l)

abbrev pub names_of : World → List Listed → List DeclaredName
names_of w ls = flat_map (names_at w) ls

-- the initialiser that a struct of this name has without writing it
abbrev pub memberwise_name : names.World → Identifier → List Text → DeclaredName
memberwise_name w i labels = record {
  place = i.place;
  «module» = w.own.name;
  context = w.own.name ∷ i.text ∷ [];
  base = codes "init";
  labels = Some labels;
  sort = sort.Initialiser;
  requirement = false;
  extends = false;
  is_static = false;
  overrides = false;
}

abbrev pub memberwise_view : names.World → Identifier → Option DeclaredName
memberwise_view w i = option_map (memberwise_name w i) (names.memberwise_labels w.own i.text)
