-- What modules stand for in the definitions.
use Rattle.std.specs.Prelude.{Option, Some, None}
use Rattle.std.specs.Option.{option_map}
use Rattle.evo_declarations.specs.declared.names.Names.{Names}
use Rattle.evo_declarations.specs.declared.world.World.{World}
use Rattle.evo_declarations.specs.declared.world.Home.{Home}
use Rattle.evo_declarations.specs.declared.world.Home.TheVariants as home
use Rattle.evo_declarations.specs.Views.{listing_view}
use Rattle.evo_names.specs.Listed as names

abbrev pub module_view : Names → names.Listing
module_view n = listing_view n.listing

abbrev pub module_world : Names → names.World
module_world n = names.alone (module_view n)

abbrev pub world_of : World → names.World
world_of w = record { own = module_view w.own.now; imported = option_map (λ m. module_view m.now) w.imported }

-- what is round what stands in an import, or in the module itself: an interface sees itself alone
abbrev pub home_in : names.World → Option names.Listing → Home → names.World
home_in w i home.Own = w
home_in w (Some m) home.Imported = names.alone m
home_in w None home.Imported = w

-- the module round a declaration
abbrev pub home_of : World → Home → names.World
home_of w h = home_in (world_of w) (world_of w).imported h
