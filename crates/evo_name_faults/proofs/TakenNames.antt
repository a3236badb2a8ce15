-- A taken name that is answered is a fault, and where none is answered there is none.
use Rattle.std.proofs.Common.{◌≡◌, ℕ, zero, suc, ◌<◌, List, [], ◌∷◌, Bool, true, false, Option, Some, None, slice_get, IsTrue, refl, sym, ap, ◌∙◌, ◌⊎◌, inl, inr, subst, arith, if◌then◌else◌}
use Rattle.std.specs.Option.{option_or}
use Rattle.std.proofs.lemmas.Slice.Eq.{bytes_eq-Decides}
use Rattle.evo_base.specs.declared.place.Place.{Place}
use Rattle.evo_base.specs.declared.fault_kind.FaultKind.TheVariants as kind
use Rattle.evo_tree.specs.declared.declaration.GenericParameter.{GenericParameter}
use Rattle.evo_names.specs.Listed.{Text, Entry, World, Declaration, own_declarations, name_of, generics_of, is_top}
use Rattle.evo_names.specs.Meets.{same_name}
use Rattle.evo_names.specs.Heads.{first_some}
use Rattle.evo_names.specs.Faults.{IsFault, taken, alias, generic, generics, is_module, is_taken, is_alias}
use Rattle.evo_name_faults.specs.Twice.{taken_in, alias_in, module_generic, module_generics, named_as, named_again, again_in, generics_in, twice_in, taken_name}
use Rattle.evo_name_faults.proofs.Firsts.{is_true, true_is, or_some, or_none_first, or_none_rest, no_some, Found, found, nowhere, at_of, entry_of, Passing, passing, passes, passes_at, if_some, if_true}

-- ---- generic parameters

some_place : (b : Bool) (q p : Place) → (if b then Some q else None) ≡ Some p → (b ≡ true) × (q ≡ p)
some_place true q p e = (refl, cc)
some_place false q p e = absurd cc

place_at : (b : Bool) (q : Place) → b ≡ true → (if b then Some q else None) ≡ Some q
place_at b q e = ap (λ (x : Bool). if x then Some q else None) e

-- two of one name
record Again (gs : List GenericParameter) (p : Place) : Type 0 where
  first : ℕ
  second : ℕ
  earlier : GenericParameter
  later : GenericParameter
  at_first : slice_get gs first ≡ Some earlier
  at_second : slice_get gs second ≡ Some later
  order : first < second
  same : earlier.name.text ≡ later.name.text
  place : later.name.place ≡ p

again_here : (g : GenericParameter) (gs : List GenericParameter) (p : Place) → Found (named_as g) gs p → Again (g ∷ gs) p
again_here g gs p f =
    let told = some_place (same_name g.name.text f.item.name.text) f.item.name.place p f.here in
    record { first = 0; second = suc f.number; earlier = g; later = f.item; at_first = refl; at_second = f.at; order = omega arith; same = (bytes_eq-Decides g.name.text f.item.name.text).0 told.0; place = told.1 }

again_later : (g : GenericParameter) (gs : List GenericParameter) (p : Place) → Again gs p → Again (g ∷ gs) p
again_later g gs p a = let less = a.order in record { first = suc a.first; second = suc a.second; earlier = a.earlier; later = a.later; at_first = a.at_first; at_second = a.at_second; order = omega arith; same = a.same; place = a.place }

again_some : (gs : List GenericParameter) (p : Place) → again_in gs ≡ Some p → Again gs p
again_some [] p e = absurd cc
again_some (g ∷ gs) p e = by (or_some (named_again g gs) (again_in gs) p e) (again_some gs p)
  where
    by : (named_again g gs ≡ Some p) ⊎ (again_in gs ≡ Some p) → (again_in gs ≡ Some p → Again gs p) → Again (g ∷ gs) p
    by (inl f) rest = again_here g gs p (found (named_as g) gs p f)
    by (inr f) rest = again_later g gs p (rest f)

named_as_same : (g h : GenericParameter) → g.name.text ≡ h.name.text → named_as g h ≡ Some h.name.place
named_as_same g h e = place_at (same_name g.name.text h.name.text) h.name.place ((bytes_eq-Decides g.name.text h.name.text).1 e)

again_none : (gs : List GenericParameter) (j k : ℕ) (g h : GenericParameter) → again_in gs ≡ None → slice_get gs j ≡ Some g → slice_get gs k ≡ Some h → j < k → g.name.text ≡ h.name.text → ⊥
again_none [] j k g h none at_j at_k less same = absurd cc
again_none (x ∷ xs) j zero g h none at_j at_k less same = absurd (omega arith)
again_none (x ∷ xs) zero (suc k) g h none at_j at_k less same =
    let is : x ≡ g = cc in
    let missing = nowhere (named_as x) xs h k (or_none_first (named_again x xs) (again_in xs) none) at_k in
    no_some (named_as x h) h.name.place (named_as_same x h (ap (λ (y : GenericParameter). y.name.text) is ∙ same)) missing
again_none (x ∷ xs) (suc j) (suc k) g h none at_j at_k less same = again_none xs j k g h (or_none_rest (named_again x xs) (again_in xs) none) at_j at_k (omega arith) same

-- ---- what is answered

module _ (w : World) where
  of_generics : (i : ℕ) (d : Declaration) (p : Place) → slice_get (own_declarations w) i ≡ Some d → generics_in w (generics_of d.entry.kind) ≡ Some p → IsFault w kind.Twice p
  of_generics i d p at e = by (or_some (module_generics w (generics_of d.entry.kind)) (again_in (generics_of d.entry.kind)) p e)
    where
      by : (module_generics w (generics_of d.entry.kind) ≡ Some p) ⊎ (again_in (generics_of d.entry.kind) ≡ Some p) → IsFault w kind.Twice p
      by (inl f) =
          let one = found (module_generic w) (generics_of d.entry.kind) p f in
          let told = some_place (is_module w one.item.name.text) one.item.name.place p one.here in
          subst (IsFault w kind.Twice) told.1 (generic i one.number d one.item at one.at (true_is (is_module w one.item.name.text) told.0))
      by (inr f) =
          let a = again_some (generics_of d.entry.kind) p f in
          subst (IsFault w kind.Twice) a.place (generics i a.first a.second d a.earlier a.later at a.at_first a.at_second a.order a.same)

  of_taken : (i : ℕ) (d : Declaration) (p : Place) → slice_get (own_declarations w) i ≡ Some d → taken_in w d.entry ≡ Some p → IsFault w kind.Twice p
  of_taken i d p at e =
      let told = if_some (is_top d.entry.within) (passing (is_taken w) (name_of d.entry)) p e in
      let n = passes (is_taken w) (name_of d.entry) p told.1 in
      taken i d at (true_is (is_top d.entry.within) told.0) n.is (true_is (is_taken w n.text) n.passed)

  of_alias : (i : ℕ) (d : Declaration) (p : Place) → slice_get (own_declarations w) i ≡ Some d → alias_in w d.entry ≡ Some p → IsFault w kind.Twice p
  of_alias i d p at e =
      let told = if_some (is_alias d.entry.kind) (passing (is_module w) (name_of d.entry)) p e in
      let n = passes (is_module w) (name_of d.entry) p told.1 in
      alias i d at (true_is (is_alias d.entry.kind) told.0) n.is (true_is (is_module w n.text) n.passed)

  of_entry : (i : ℕ) (d : Declaration) (p : Place) → slice_get (own_declarations w) i ≡ Some d → twice_in w d.entry ≡ Some p → IsFault w kind.Twice p
  of_entry i d p at e = by (or_some (taken_in w d.entry) (option_or (alias_in w d.entry) (generics_in w (generics_of d.entry.kind))) p e)
    where
      rest : (alias_in w d.entry ≡ Some p) ⊎ (generics_in w (generics_of d.entry.kind) ≡ Some p) → IsFault w kind.Twice p
      rest (inl f) = of_alias i d p at f
      rest (inr f) = of_generics i d p at f

      by : (taken_in w d.entry ≡ Some p) ⊎ (option_or (alias_in w d.entry) (generics_in w (generics_of d.entry.kind)) ≡ Some p) → IsFault w kind.Twice p
      by (inl f) = of_taken i d p at f
      by (inr f) = rest (or_some (alias_in w d.entry) (generics_in w (generics_of d.entry.kind)) p f)

  pub taken_some : (p : Place) → taken_name w ≡ Some p → IsFault w kind.Twice p
  unfolding taken_name
  taken_some p e =
      let one = found (twice_in w) w.own.entries p e in
      of_entry one.number (record { world = w; entry = one.item }) p (at_of w one.number one.item one.at) one.here

-- ---- where none is answered

pub record NoneTaken (w : World) : Type 0 where
  pub top : (i : ℕ) (d : Declaration) (p : Place) (n : Text) → slice_get (own_declarations w) i ≡ Some d → IsTrue (is_top d.entry.within) → name_of d.entry ≡ Some (p, n) → IsTrue (is_taken w n) → ⊥
  pub aliases : (i : ℕ) (d : Declaration) (p : Place) (n : Text) → slice_get (own_declarations w) i ≡ Some d → IsTrue (is_alias d.entry.kind) → name_of d.entry ≡ Some (p, n) → IsTrue (is_module w n) → ⊥
  pub modules : (i j : ℕ) (d : Declaration) (g : GenericParameter) → slice_get (own_declarations w) i ≡ Some d → slice_get (generics_of d.entry.kind) j ≡ Some g → IsTrue (is_module w g.name.text) → ⊥
  pub again : (i j k : ℕ) (d : Declaration) (g h : GenericParameter) → slice_get (own_declarations w) i ≡ Some d → slice_get (generics_of d.entry.kind) j ≡ Some g → slice_get (generics_of d.entry.kind) k ≡ Some h → j < k → g.name.text ≡ h.name.text → ⊥

module _ (w : World) (each : (i : ℕ) (d : Declaration) → slice_get (own_declarations w) i ≡ Some d → twice_in w d.entry ≡ None) where
  no_taken : (i : ℕ) (d : Declaration) → slice_get (own_declarations w) i ≡ Some d → taken_in w d.entry ≡ None
  no_taken i d at = or_none_first (taken_in w d.entry) (option_or (alias_in w d.entry) (generics_in w (generics_of d.entry.kind))) (each i d at)

  others : (i : ℕ) (d : Declaration) → slice_get (own_declarations w) i ≡ Some d → option_or (alias_in w d.entry) (generics_in w (generics_of d.entry.kind)) ≡ None
  others i d at = or_none_rest (taken_in w d.entry) (option_or (alias_in w d.entry) (generics_in w (generics_of d.entry.kind))) (each i d at)

  no_alias : (i : ℕ) (d : Declaration) → slice_get (own_declarations w) i ≡ Some d → alias_in w d.entry ≡ None
  no_alias i d at = or_none_first (alias_in w d.entry) (generics_in w (generics_of d.entry.kind)) (others i d at)

  no_generics : (i : ℕ) (d : Declaration) → slice_get (own_declarations w) i ≡ Some d → generics_in w (generics_of d.entry.kind) ≡ None
  no_generics i d at = or_none_rest (alias_in w d.entry) (generics_in w (generics_of d.entry.kind)) (others i d at)

  none_by : NoneTaken w
  none_by = record {
    top = λ i d p n at is named test. no_some (taken_in w d.entry) p (if_true (is_top d.entry.within) (passing (is_taken w) (name_of d.entry)) (is_true (is_top d.entry.within) is) ∙ passes_at (is_taken w) (name_of d.entry) p n named (is_true (is_taken w n) test)) (no_taken i d at);
    aliases = λ i d p n at is named test. no_some (alias_in w d.entry) p (if_true (is_alias d.entry.kind) (passing (is_module w) (name_of d.entry)) (is_true (is_alias d.entry.kind) is) ∙ passes_at (is_module w) (name_of d.entry) p n named (is_true (is_module w n) test)) (no_alias i d at);
    modules = λ i j d g at at_g test. no_some (module_generic w g) g.name.place (place_at (is_module w g.name.text) g.name.place (is_true (is_module w g.name.text) test)) (nowhere (module_generic w) (generics_of d.entry.kind) g j (or_none_first (module_generics w (generics_of d.entry.kind)) (again_in (generics_of d.entry.kind)) (no_generics i d at)) at_g);
    again = λ i j k d g h at at_g at_h less same. again_none (generics_of d.entry.kind) j k g h (or_none_rest (module_generics w (generics_of d.entry.kind)) (again_in (generics_of d.entry.kind)) (no_generics i d at)) at_g at_h less same;
  }

pub taken_none : (w : World) → taken_name w ≡ None → NoneTaken w
unfolding taken_name
taken_none w e = none_by w (λ i d at. nowhere (twice_in w) w.own.entries d.entry i e (entry_of w i d at))
