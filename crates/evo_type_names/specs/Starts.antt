-- What borrowed scopes and starts stand for.
use Rattle.std.specs.Prelude.{List, [], ◌∷◌, Option, map}
use Rattle.evo_base.specs.declared.key.Key.{Key}
use Rattle.evo_tree.specs.declared.declaration.GenericParameter.{GenericParameter}
use Rattle.evo_resolved.specs.declared.resolved_type.RType.TheVariants as ty
use Rattle.evo_declarations.specs.declared.world.World.{World}
use Rattle.evo_declarations.specs.Views.{key_of_type}
use Rattle.evo_declarations.specs.Worlds.{home_of}
use Rattle.evo_members.specs.declared.located.Around.{Around}
use Rattle.evo_members.specs.Located.{around_of, start_of}
use Rattle.evo_names.specs.Listed as names
use Rattle.evo_names.specs.Listed.{Text}
use Rattle.evo_names.specs.Written as written
use Rattle.evo_names.specs.Written.{fixed}
use Rattle.evo_type_names.specs.declared.scope.Scope.{Scope}
use Rattle.evo_type_names.specs.declared.start.Start.{Start}
use Rattle.evo_type_names.specs.declared.start.Start.TheVariants as start

abbrev pub generic_names : List GenericParameter → List Text
generic_names gs = map (λ (g : GenericParameter). g.name.text) gs

abbrev pub round_of : Around → Option Key
round_of a = written.type_round (around_of a)

abbrev pub scope_of : World → Scope → written.Scope
scope_of w s = record { home = home_of w s.home; around = around_of s.around; generics = generic_names s.generics.now }

abbrev pub start_view : names.World → Start → written.Start
start_view w (start.Named t) = fixed (ty.Named (key_of_type t))
start_view w (start.Parameter i) = fixed (ty.Param i)
start_view w (start.Member i n) = fixed (ty.Assoc i (n.now ∷ []))
start_view w (start.Written l) = start_of w l
