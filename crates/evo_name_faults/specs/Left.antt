-- The faults of names that no declaration tells by itself with what names find.
use Rattle.std.specs.Prelude.{◌≡◌, ℕ, List, ◌++◌, length, Some, None, IsTrue}
use Rattle.evo_base.specs.declared.place.Place.{Place}
use Rattle.evo_base.specs.declared.key.Key.{Key}
use Rattle.evo_base.specs.declared.fault_kind.FaultKind.{FaultKind}
use Rattle.evo_tree.specs.declared.name.TypeName.{TypeName}
use Rattle.evo_resolved.specs.declared.resolved_type.RType.{RType}
use Rattle.evo_names.specs.Listed.{Listing, World, Declaration, own_declarations}
use Rattle.evo_names.specs.Meets.{IsTwice}
use Rattle.evo_names.specs.Heads.{conformances, is_among}
use Rattle.evo_names.specs.Keys.{declared_names}
use Rattle.evo_names.specs.Written.{Means}
use Rattle.evo_names.specs.Faults.{At, Before, Conforms, IsFault, is_type_key, scope_of, seen_names, types_of}

-- Two declarations meet, a conformance is there twice, or a written type means nothing.
pub data IsLeft (w : World) : Place → Type 0 where
  meet : {p : Place} → IsTwice (seen_names w ++ declared_names w) (length (seen_names w)) p → IsLeft w p
  conformance : {k p : Key} {d i e j : ℕ} {t u : TypeName} → IsTrue (is_type_key w k) → Conforms w k p d i t → Conforms w k p e j u → Before d i e j → IsLeft w u.place
  foreign : {k p : Key} {d i : ℕ} {t : TypeName} (m : Listing) → w.imported ≡ Some m → IsTrue (is_type_key w k) → IsTrue (is_among p (conformances (record { own = m; imported = None }) k)) → Conforms w k p d i t → IsLeft w t.place
  written : (i j : ℕ) (d : Declaration) (t : TypeName) → At (own_declarations w) i d → At (types_of d.entry.kind) j t → ((met : List Key) (u : RType) → Means w (scope_of d) t.names met u → ⊥) → IsLeft w t.place

-- each fault is one of those
abbrev pub OnlyLeft : World → Type 0
OnlyLeft w = (k : FaultKind) (p : Place) → IsFault w k p → IsLeft w p
