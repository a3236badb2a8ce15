-- A conformance that is there twice.
use Rattle.std.specs.Prelude.{◌≡◌, ℕ, IsTrue, Some, None}
use Rattle.evo_base.specs.declared.place.Place.{Place}
use Rattle.evo_base.specs.declared.key.Key.{Key}
use Rattle.evo_tree.specs.declared.name.TypeName.{TypeName}
use Rattle.evo_names.specs.Listed.{Listing, World}
use Rattle.evo_names.specs.Heads.{conformances, is_among}
use Rattle.evo_names.specs.Faults.{Before, Conforms, is_type_key}

-- it is the second one of the module's own, or the import has it too
pub data IsSecond (w : World) : Place → Type 0 where
  conformance : {k p : Key} {d i e j : ℕ} {t u : TypeName} → IsTrue (is_type_key w k) → Conforms w k p d i t → Conforms w k p e j u → Before d i e j → IsSecond w u.place
  foreign : {k p : Key} {d i : ℕ} {t : TypeName} (m : Listing) → w.imported ≡ Some m → IsTrue (is_type_key w k) → IsTrue (is_among p (conformances (record { own = m; imported = None }) k)) → Conforms w k p d i t → IsSecond w t.place

abbrev pub NoneSecond : World → Type 0
NoneSecond w = (p : Place) → IsSecond w p → ⊥
