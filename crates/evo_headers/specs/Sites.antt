-- What a place in which types are written stands for.
use Rattle.std.specs.Prelude.{◌≡◌}
use Rattle.evo_declarations.specs.Worlds.{world_of}
use Rattle.evo_declarations.specs.declared.listed.Listed.{Listed}
use Rattle.evo_declarations.specs.Views.{entry_view}
use Rattle.evo_names.specs.Listed.{World, Declaration}
use Rattle.evo_names.specs.Resolved.{declared_in}
use Rattle.evo_names.specs.Written.{Scope}
use Rattle.evo_type_names.specs.Known.{AllKnown}
use Rattle.evo_type_names.specs.Starts.{scope_of}
use Rattle.evo_headers.specs.declared.site.Site.{Site}

abbrev pub site_world : Site → World
site_world s = world_of s.space.now.world

abbrev pub site_scope : Site → Scope
site_scope s = scope_of s.space.now.world s.scope

-- it stands in the module itself, and what is known there is true
pub record IsOwn (s : Site) : Type 0 where
  pub own : (site_scope s).home ≡ site_world s
  pub known : AllKnown (site_world s) s.known.now

-- a declaration of the module itself
abbrev pub declaration_at : Site → Listed → Declaration
declaration_at s l = declared_in (site_world s) (entry_view l)
