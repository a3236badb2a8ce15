-- How a use of a declaration comes to a body: by the class of an object, by a conformance, or always to the same one.
use Rattle.std.specs.Prelude.{List, Option, Bool, true, false, not, ◌&&◌, ◌||◌, if◌then◌else◌}
use Rattle.std.specs.Option.{option_map_or}
use Rattle.evo_base.specs.declared.key.Key.{Key}
use Rattle.evo_tree.specs.Declarations.{has_modifier}
use Rattle.evo_tree.specs.declared.declaration.Modifier.{Modifier}
use Rattle.evo_tree.specs.declared.declaration.ModifierKind.TheVariants as modifier
use Rattle.evo_tree.specs.declared.declaration.NominalKind.TheVariants as nominal
use Rattle.evo_resolved.specs.declared.expression.Reach.{Reach}
use Rattle.evo_resolved.specs.declared.expression.Reach.TheVariants as reach
use Rattle.evo_names.specs.Listed.{Within, braces, World, Declaration, sort_of, is_function, is_requirement}
use Rattle.evo_names.specs.Heads.{type_key, declaration_of}

-- A function of a class that is not final may be overridden. One that overrides is decided by its root, whatever its own class is.
abbrev pub may_be_overridden : List Modifier → List Modifier → Bool
may_be_overridden own of_class = not (has_modifier modifier.Static own) && not (has_modifier modifier.Final own) && (has_modifier modifier.Override own || not (has_modifier modifier.Final of_class))

abbrev pub in_class : World → Within → List Modifier → Bool
in_class w (braces nominal.Class n) own = option_map_or (λ (c : Declaration). may_be_overridden own c.entry.modifiers) (declaration_of w (type_key w.own.name n)) false
in_class w within own = false

-- the object's class decides which body a call runs; members of a class's extensions are final
unfoldable pub is_dispatched : Declaration → Bool
is_dispatched d = is_function (sort_of d.entry.kind) && in_class d.world d.entry.within d.entry.modifiers

-- a requirement is called through the conformance, and a member of a protocol's extension is not
unfoldable pub reach_of : Declaration → Reach
reach_of d = if is_requirement d.entry.within (sort_of d.entry.kind) then reach.Witness else if is_dispatched d then reach.Dispatched else reach.Static
