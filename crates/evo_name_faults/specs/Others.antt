-- The faults of names that need what a client sees of the import, or what written types mean.
use Rattle.std.specs.Prelude.{◌≡◌, ℕ, ◌<◌, ◌≤◌, List, ◌++◌, length, Some}
use Rattle.evo_base.specs.declared.place.Place.{Place}
use Rattle.evo_base.specs.declared.key.Key.{Key}
use Rattle.evo_base.specs.declared.fault_kind.FaultKind.{FaultKind}
use Rattle.evo_tree.specs.declared.name.TypeName.{TypeName}
use Rattle.evo_tree.specs.declared.module.SourceFault.{SourceFault}
use Rattle.evo_resolved.specs.declared.resolved_type.RType.{RType}
use Rattle.evo_names.specs.Listed.{World, Declaration, own_declarations}
use Rattle.evo_names.specs.Meets.{MeetAt}
use Rattle.evo_names.specs.Keys.{declared_names}
use Rattle.evo_names.specs.Written.{Means}
use Rattle.evo_names.specs.Faults.{At, IsFault, scope_of, seen_names, types_of}

-- it is a fault of the names of a module
abbrev pub IsFaultAt : World → SourceFault → Type 0
IsFaultAt w f = IsFault w f.kind f.place

-- A declaration of the module meets one that a client sees of the import, or a written type means nothing.
pub data IsOther (w : World) : Place → Type 0 where
  meet : (i j : ℕ) → i < length (seen_names w) → length (seen_names w) ≤ j → (m : MeetAt (seen_names w ++ declared_names w) i j) → IsOther w m.later.place
  written : (i j : ℕ) (d : Declaration) (t : TypeName) → At (own_declarations w) i d → At (types_of d.entry.kind) j t → ((met : List Key) (u : RType) → Means w (scope_of d) t.names met u → ⊥) → IsOther w t.place

-- each fault is one of those
abbrev pub OnlyOthers : World → Type 0
OnlyOthers w = (k : FaultKind) (p : Place) → IsFault w k p → IsOther w p
