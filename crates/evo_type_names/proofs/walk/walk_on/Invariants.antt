use Rattle.std.proofs.Common.{drop}
use Rattle.evo_declarations.specs.Views.{view_of}
use Rattle.evo_declarations.specs.Worlds.{world_of}
use Rattle.evo_names.specs.Written.{fixed}
use Rattle.evo_type_names.specs.Aliases.{alias_keys}
use Rattle.evo_type_names.specs.Known.{texts_of, type_view}
use Rattle.evo_type_names.proofs.Walks.{Onward}
use Rattle.evo_type_names.proofs.walk.walk_on.Given as goal

abbrev pub invariant-loop-name : goal.invariant-loop-name
invariant-loop-name l = Onward (world_of l.space.world) (view_of l.fn.view) (fixed (type_view l.initial.head (texts_of l.initial.path.items))) l.names (alias_keys l.initial.aliases.items) (alias_keys l.aliases.items) (type_view l.head (texts_of l.path.items)) (drop l.name-index l.names)
