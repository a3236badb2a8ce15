-- What is written in declarations of the list.
use Rattle.std.specs.Prelude.{ℕ, Option, Some, None, slice_get}
use Rattle.std.specs.Option.{option_map, option_map_or}
use Rattle.evo_tree.specs.declared.name.TypeName.{TypeName}
use Rattle.evo_tree.specs.declared.declaration.DeclKind.TheOpen as de
use Rattle.evo_resolved.specs.declared.resolved_type.RType.{RType}
use Rattle.evo_resolved.specs.declared.resolved_type.RType.TheVariants as ty
use Rattle.evo_declarations.specs.Views.{key_of_type}
use Rattle.evo_members.specs.declared.located.SelfType.{SelfType}
use Rattle.evo_members.specs.declared.located.SelfType.TheVariants as self
use Rattle.evo_members.specs.declared.located.Around.{Around}
use Rattle.evo_members.specs.declared.located.Around.TheVariants as around
use Rattle.evo_members.specs.declared.located.Located.{Located}
use Rattle.evo_names.specs.Listed.{Kind, World, Declaration, declarations}
use Rattle.evo_names.specs.Keys.{own_key}
use Rattle.evo_names.specs.Written as written
use Rattle.evo_names.specs.Written.{Start, fixed, written_in}

abbrev pub self_of : SelfType → RType
self_of (self.Named t) = ty.Named (key_of_type t)
self_of self.Parameter = ty.Param 0

abbrev pub around_of : Around → written.Around
around_of around.Nowhere = written.nowhere
around_of (around.InType t) = written.in_type (key_of_type t)
around_of (around.InProtocol p s) = written.in_protocol (key_of_type p) (self_of s)

-- where nothing is written, no type
abbrev pub default_start : Declaration → written.Around → Option TypeName → Start
default_start d a None = fixed ty.NoValue
default_start d a (Some t) = written_in d.world a None t

-- what a `typealias` or an associated type has written
abbrev pub start_by : Declaration → written.Around → Kind → Start
start_by d a (de.TypeAlias i t) = written_in d.world a (own_key d) t
start_by d a (de.AssociatedType i ts t) = default_start d a t
start_by d a k = fixed ty.NoValue

abbrev pub start_in : written.Around → Declaration → Start
start_in a d = start_by d a d.entry.kind

abbrev pub start_at : World → written.Around → ℕ → Start
start_at w a i = option_map_or (start_in a) (slice_get (declarations w) i) (fixed ty.NoValue)

unfoldable pub start_of : World → Located → Start
start_of w l = start_at w (around_of l.around) l.number

abbrev pub starts_of : World → written.Around → Option ℕ → Option Start
starts_of w a o = option_map (start_at w a) o
