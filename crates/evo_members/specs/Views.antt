-- What borrowed declarations stand for in the list of all that a module sees.
use Rattle.std.specs.Prelude.{List, map}
use Rattle.evo_base.specs.declared.key.Key.{Key}
use Rattle.evo_declarations.specs.declared.listed.Listed.{Listed}
use Rattle.evo_declarations.specs.declared.type_id.TypeId.{TypeId}
use Rattle.evo_declarations.specs.declared.world.World.{World}
use Rattle.evo_declarations.specs.declared.world.Home.{Home}
use Rattle.evo_declarations.specs.Views.{entry_view, key_of_type}
use Rattle.evo_declarations.specs.Worlds.{home_of}
use Rattle.evo_members.specs.declared.declared.Declared.{Declared}
use Rattle.evo_names.specs.Listed.{Declaration}

abbrev pub in_home : Home → Listed → Declared
in_home h l = record { home = h; listed = l }

abbrev pub declared_of : World → Declared → Declaration
declared_of w d = record { world = home_of w d.home; entry = entry_view d.listed }

abbrev pub all_of : World → List Declared → List Declaration
all_of w ds = map (declared_of w) ds

abbrev pub keys_of : List TypeId → List Key
keys_of ts = map key_of_type ts
