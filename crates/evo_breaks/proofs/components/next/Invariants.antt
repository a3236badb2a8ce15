use Rattle.std.proofs.Common.{◌≡◌, ◌≤◌, length, filter}
use Rattle.evo_breaks.specs.Conditions.{is_component_of}
use Rattle.evo_breaks.proofs.components.next.Given as goal

-- none so far
abbrev pub invariant-seek : goal.invariant-seek
invariant-seek l = (filter (is_component_of l.key) l.decls ≡ filter (is_component_of l.key) l.rest) × (length l.rest ≤ length l.decls)

abbrev pub decreases-seek : goal.decreases-seek
decreases-seek l = length l.rest
