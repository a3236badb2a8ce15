-- What a key finds is what the look-up gives, where a key has one declaration.
use Rattle.std.proofs.Common.{◌≡◌, Bool, List, Option, Some, None, MatchOption, IsTrue, refl, ap}
use Rattle.evo_base.specs.declared.key.Key.{Key}
use Rattle.evo_resolved.specs.declared.declaration.RDecl.{RDecl}
use Rattle.evo_resolved.specs.declared.module.RConformance.{RConformance}
use Rattle.evo_resolved.specs.declared.module.RModule.{RModule}
use Rattle.evo_resolved.specs.Found.{IsFound}
use Rattle.evo_resolved.specs.Named.{decl_key, is_declared, conformance_key, is_conformance}
use Rattle.evo_meaning.specs.Keys.{look_up}
use Rattle.evo_meaning.specs.Laws.{Finds}
use Rattle.evo_meaning.proofs.LookUps.{look_up_finds}
use Rattle.evo_breaks.specs.Found.{HasOneForEachKey, declared, conformance_in}

module _ {A : Type 0} (own : A → Key) (is_named : A → Bool) (items : List A) (key : Key) where
  with_one : (o : Option A) (x : A) → ((y : A) → IsFound own is_named items key y → y ≡ x) → IsFound own is_named items key x → MatchOption o ((y : A) → IsFound own is_named items key y → ⊥) (λ y. IsFound own is_named items key y) → o ≡ Some x
  with_one None x one f g = absurd (g x f)
  with_one (Some y) x one f g = ap Some (one y g)

  with_none : (o : Option A) → ((y : A) → IsFound own is_named items key y → ⊥) → MatchOption o ((y : A) → IsFound own is_named items key y → ⊥) (λ y. IsFound own is_named items key y) → o ≡ None
  with_none None none g = refl
  with_none (Some y) none g = absurd (none y g)

pub declared_some : (m : RModule) (k : Key) (d : RDecl) → HasOneForEachKey m → IsFound decl_key is_declared m.decls k d → declared m k ≡ Some d
unfolding declared
declared_some m k d one f = with_one decl_key is_declared m.decls k (look_up decl_key is_declared m.decls k) d (λ y g. one.declarations k y d g f) f (look_up_finds.declarations m.decls k)

pub declared_none : (m : RModule) (k : Key) → ((y : RDecl) → IsFound decl_key is_declared m.decls k y → ⊥) → declared m k ≡ None
unfolding declared
declared_none m k none = with_none decl_key is_declared m.decls k (look_up decl_key is_declared m.decls k) none (look_up_finds.declarations m.decls k)

pub conformance_some : (m : RModule) (k : Key) (d : RConformance) → HasOneForEachKey m → IsFound conformance_key is_conformance m.conformances k d → conformance_in m k ≡ Some d
unfolding conformance_in
conformance_some m k d one f = with_one conformance_key is_conformance m.conformances k (look_up conformance_key is_conformance m.conformances k) d (λ y g. one.conformances k y d g f) f (look_up_finds.conformances m.conformances k)

pub conformance_none : (m : RModule) (k : Key) → ((y : RConformance) → IsFound conformance_key is_conformance m.conformances k y → ⊥) → conformance_in m k ≡ None
unfolding conformance_in
conformance_none m k none = with_none conformance_key is_conformance m.conformances k (look_up conformance_key is_conformance m.conformances k) none (look_up_finds.conformances m.conformances k)
