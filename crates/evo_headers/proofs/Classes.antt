-- The first name behind a class's own.
use Rattle.std.proofs.Common.{◌≡◌, ◌<◌, ◌≤◌, List, [], ◌∷◌, length, get_or, Option, Some, None, refl, sym, ap, subst, arith}
use Rattle.evo_base.specs.declared.key.Key.{Key}
use Rattle.evo_tree.specs.declared.name.TypeName.{TypeName}
use Rattle.evo_tree.specs.declared.declaration.NominalKind.{NominalKind}
use Rattle.evo_tree.specs.declared.declaration.NominalKind.TheVariants as nominal
use Rattle.evo_names.specs.Listed.{World}
use Rattle.evo_names.specs.Heads.{class_named}
use Rattle.evo_names.specs.Resolved.{Both, neither, each, IsReference, parted}

pub none_written : (w : World) (ts : List TypeName) → length ts < 1 → Both (IsReference (class_named w)) (parted w nominal.Class ts).0 None
none_written w [] lt = neither
none_written w (t ∷ ts) lt = absurd (omega arith)

first_some : (w : World) (x : TypeName) (ts : List TypeName) (k : Key) → class_named w x ≡ Some k → (parted w nominal.Class (x ∷ ts)).0 ≡ Some x
first_some w x ts k e = rw e refl

first_none : (w : World) (x : TypeName) (ts : List TypeName) → class_named w x ≡ None → (parted w nominal.Class (x ∷ ts)).0 ≡ None
first_none w x ts e = rw e refl

pub a_class : (w : World) (ts : List TypeName) (t : TypeName) (k : Key) → 1 ≤ length ts → t ≡ get_or ts 0 t → class_named w t ≡ Some k → Both (IsReference (class_named w)) (parted w nominal.Class ts).0 (Some (record { place = t.place; key = k }))
a_class w [] t k le e f = absurd (omega arith)
a_class w (x ∷ ts) t k le e f = subst (λ (o : Option TypeName). Both (IsReference (class_named w)) o (Some (record { place = t.place; key = k }))) (sym (first_some w x ts k (subst (λ (y : TypeName). class_named w y ≡ Some k) e f))) (each (record { place = ap (λ (y : TypeName). y.place) e; key = subst (λ (y : TypeName). class_named w y ≡ Some k) e f }))

pub no_class : (w : World) (ts : List TypeName) (t : TypeName) → 1 ≤ length ts → t ≡ get_or ts 0 t → class_named w t ≡ None → Both (IsReference (class_named w)) (parted w nominal.Class ts).0 None
no_class w [] t le e f = absurd (omega arith)
no_class w (x ∷ ts) t le e f = subst (λ (o : Option TypeName). Both (IsReference (class_named w)) o None) (sym (first_none w x ts (subst (λ (y : TypeName). class_named w y ≡ None) e f))) neither

pub of_others : (w : World) (k : NominalKind) (ts : List TypeName) → (k ≡ nominal.Class → ⊥) → Both (IsReference (class_named w)) (parted w k ts).0 None
of_others w nominal.Class ts f = absurd (f refl)
of_others w nominal.Struct ts f = neither
of_others w nominal.Enum ts f = neither
of_others w nominal.Protocol ts f = neither
