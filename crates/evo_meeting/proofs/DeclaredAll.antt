-- The names of borrowed declarations are those of the module.
use Rattle.std.proofs.Common.{◌≡◌, List, [], ◌∷◌, ◌++◌, map, flat_map, refl, ap, sym}
use Rattle.evo_declarations.specs.declared.listed.Listed.{Listed}
use Rattle.evo_declarations.specs.declared.world.World.{World}
use Rattle.evo_declarations.specs.Views.{entries_of}
use Rattle.evo_declarations.specs.Worlds.{world_of}
use Rattle.evo_names.specs.declared.declared_name.DeclaredName.{DeclaredName}
use Rattle.evo_names.specs.Listed.{Entry, Declaration}
use Rattle.evo_names.specs.Keys.{names_by, declared_names}
use Rattle.evo_meeting.specs.DeclaredNames.{names_at, names_of}

all_names : (w : World) (ls : List Listed) → names_of w ls ≡ flat_map names_by (map (λ (e : Entry). let d : Declaration = record { world = world_of w; entry = e } in d) (entries_of ls))
all_names w [] = refl
all_names w (l ∷ ls) = ap (λ (n : List DeclaredName). names_at w l ++ n) (all_names w ls)

pub names_are : (w : World) → names_of w w.own.now.listing.entries.items ≡ declared_names (world_of w)
unfolding declared_names
names_are w = all_names w w.own.now.listing.entries.items
