-- A name that is answered as none is a fault, and where none is answered there is none.
use Rattle.std.proofs.Common.{◌≡◌, ℕ, zero, suc, List, [], ◌∷◌, ◌++◌, map, flat_map, Bool, true, false, Option, Some, None, slice_get, IsTrue, refl, sym, ap, ◌∙◌, ◌⊎◌, inl, inr, subst, if◌then◌else◌}
use Rattle.std.specs.Option.{option_or, option_map_or}
use Rattle.evo_base.specs.declared.key.Key.{Key}
use Rattle.evo_base.specs.declared.place.Place.{Place}
use Rattle.evo_base.specs.declared.fault_kind.FaultKind.TheVariants as kind
use Rattle.evo_tree.specs.declared.name.Identifier.{Identifier}
use Rattle.evo_tree.specs.declared.name.TypeName.{TypeName}
use Rattle.evo_tree.specs.declared.declaration.GenericParameter.{GenericParameter}
use Rattle.evo_tree.specs.declared.declaration.Requirement.{Requirement}
use Rattle.evo_tree.specs.declared.declaration.Header.{Header}
use Rattle.evo_tree.specs.declared.declaration.NominalKind.{NominalKind}
use Rattle.evo_tree.specs.declared.declaration.NominalKind.TheVariants as nominal
use Rattle.evo_tree.specs.declared.declaration.Decl.{Decl}
use Rattle.evo_tree.specs.declared.declaration.DeclKind.TheOpen as de
use Rattle.evo_names.specs.Listed.{Kind, Entry, World, Declaration, own_declarations}
use Rattle.evo_names.specs.Heads.{Head, first_some, head_of, class_named}
use Rattle.evo_names.specs.Faults.{IsFault, extended, protocol, is_imported, names_protocol, is_superclass, protocols_of, header_protocols, requirement_protocols}
use Rattle.evo_names.specs.Faults as faults
use Rattle.evo_name_faults.specs.Unknown.{import_in, unless_head, extended_in, no_protocol, no_protocols, names_class, behind_class, in_generics, in_requirement, in_requirements, in_header, in_nominal, protocol_in, unknown_in, unknown_import, unknown_name}
use Rattle.evo_name_faults.proofs.Firsts.{or_some, or_none_first, or_none_rest, no_some, Found, found, nowhere, at_of, entry_of}

-- ---- places

unless_place : (b : Bool) (q p : Place) → (if b then None else Some q) ≡ Some p → (b ≡ false) × (q ≡ p)
unless_place true q p e = absurd cc
unless_place false q p e = (refl, cc)

unless_at : (b : Bool) (q : Place) → b ≡ false → (if b then None else Some q) ≡ Some q
unless_at b q e = ap (λ (x : Bool). if x then None else Some q) e

-- ---- the first in lists of lists

or_assoc : {B : Type 0} (o p q : Option B) → option_or (option_or o p) q ≡ option_or o (option_or p q)
or_assoc (Some x) p q = refl
or_assoc None p q = refl

first_append : {A B : Type 0} (f : A → Option B) (xs ys : List A) → first_some f (xs ++ ys) ≡ option_or (first_some f xs) (first_some f ys)
first_append f [] ys = refl
first_append f (x ∷ xs) ys = ap (option_or (f x)) (first_append f xs ys) ∙ sym (or_assoc (f x) (first_some f xs) (first_some f ys))

first_flat : {A B C : Type 0} (f : B → Option C) (g : A → List B) (xs : List A) → first_some f (flat_map g xs) ≡ first_some (λ x. first_some f (g x)) xs
first_flat f g [] = refl
first_flat f g (x ∷ xs) = first_append f (g x) (flat_map g xs) ∙ ap (option_or (first_some f (g x))) (first_flat f g xs)

header_first : (w : World) (h : Header) → in_header w h ≡ no_protocols w (header_protocols h)
header_first w h =
    sym (first_append (no_protocol w) (flat_map (λ (g : GenericParameter). g.protocols) h.generics) (flat_map requirement_protocols h.requirements)
    ∙ ap (λ o. option_or o (first_some (no_protocol w) (flat_map requirement_protocols h.requirements))) (first_flat (no_protocol w) (λ (g : GenericParameter). g.protocols) h.generics)
    ∙ ap (option_or (in_generics w h.generics)) (first_flat (no_protocol w) requirement_protocols h.requirements))

-- ---- a protocol's name

-- it stands at this number, is none, and may not be a superclass
record Wrong (w : World) (k : Kind) (p : Place) : Type 0 where
  number : ℕ
  name : TypeName
  at : slice_get (protocols_of k) number ≡ Some name
  none : names_protocol w name ≡ false
  no_class : is_superclass w k number name ≡ false
  place : name.place ≡ p

-- none does
record NoWrong (w : World) (k : Kind) : Type 0 where
  each : (j : ℕ) (t : TypeName) → slice_get (protocols_of k) j ≡ Some t → names_protocol w t ≡ false → is_superclass w k j t ≡ false → ⊥

module _ (w : World) where
  wrong_in : (k : Kind) (p : Place) → ((j : ℕ) (t : TypeName) → is_superclass w k j t ≡ false) → no_protocols w (protocols_of k) ≡ Some p → Wrong w k p
  wrong_in k p plain e =
      let one = found (no_protocol w) (protocols_of k) p e in
      let told = unless_place (names_protocol w one.item) one.item.place p one.here in
      record { number = one.number; name = one.item; at = one.at; none = told.0; no_class = plain one.number one.item; place = told.1 }

  no_wrong_in : (k : Kind) → no_protocols w (protocols_of k) ≡ None → NoWrong w k
  no_wrong_in k e = record { each = λ j t at none super. no_some (no_protocol w t) t.place (unless_at (names_protocol w t) t.place none) (nowhere (no_protocol w) (protocols_of k) t j e at) }

  class_first : (t : TypeName) (p : Place) (o : Option Key) → class_named w t ≡ o → option_map_or (λ (k : Key). None) o (no_protocol w t) ≡ Some p → (option_map_or (λ (k : Key). true) o false ≡ false) × (no_protocol w t ≡ Some p)
  class_first t p (Some k) is e = absurd cc
  class_first t p None is e = (refl, e)

  wrong_class : (i : Identifier) (ts : List TypeName) (ds : List Decl) (p : Place) → behind_class w ts ≡ Some p → Wrong w (de.Nominal nominal.Class i ts ds) p
  wrong_class i [] ds p e = absurd cc
  wrong_class i (t ∷ ts) ds p e = by (or_some (names_class w t) (no_protocols w ts) p e)
    where
      by : (names_class w t ≡ Some p) ⊎ (no_protocols w ts ≡ Some p) → Wrong w (de.Nominal nominal.Class i (t ∷ ts) ds) p
      by (inl f) =
          let both = class_first t p (class_named w t) refl f in
          let told = unless_place (names_protocol w t) t.place p both.1 in
          record { number = 0; name = t; at = refl; none = told.0; no_class = both.0; place = told.1 }
      by (inr f) =
          let one = found (no_protocol w) ts p f in
          let told = unless_place (names_protocol w one.item) one.item.place p one.here in
          record { number = suc one.number; name = one.item; at = one.at; none = told.0; no_class = refl; place = told.1 }

  class_none : (t : TypeName) (o : Option Key) → option_map_or (λ (k : Key). None) o (no_protocol w t) ≡ None → option_map_or (λ (k : Key). true) o false ≡ false → no_protocol w t ≡ None
  class_none t (Some k) e f = absurd cc
  class_none t None e f = e

  no_wrong_class : (i : Identifier) (ts : List TypeName) (ds : List Decl) → behind_class w ts ≡ None → NoWrong w (de.Nominal nominal.Class i ts ds)
  no_wrong_class i ts ds e = record { each = by ts e }
    where
      by : (ts : List TypeName) → behind_class w ts ≡ None → (j : ℕ) (t : TypeName) → slice_get ts j ≡ Some t → names_protocol w t ≡ false → is_superclass w (de.Nominal nominal.Class i ts ds) j t ≡ false → ⊥
      by [] e j t at none super = absurd cc
      by (x ∷ xs) e zero t at none super =
          let same : x ≡ t = cc in
          let first = class_none t (class_named w t) (subst (λ (y : TypeName). names_class w y ≡ None) same (or_none_first (names_class w x) (no_protocols w xs) e)) super in
          no_some (no_protocol w t) t.place (unless_at (names_protocol w t) t.place none) first
      by (x ∷ xs) e (suc j) t at none super =
          no_some (no_protocol w t) t.place (unless_at (names_protocol w t) t.place none) (nowhere (no_protocol w) xs t j (or_none_rest (names_class w x) (no_protocols w xs) e) at)

  wrong_nominal : (k : NominalKind) (i : Identifier) (ts : List TypeName) (ds : List Decl) (p : Place) → in_nominal w k ts ≡ Some p → Wrong w (de.Nominal k i ts ds) p
  wrong_nominal nominal.Struct i ts ds p e = wrong_in (de.Nominal nominal.Struct i ts ds) p (λ j t. refl) e
  wrong_nominal nominal.Enum i ts ds p e = wrong_in (de.Nominal nominal.Enum i ts ds) p (λ j t. refl) e
  wrong_nominal nominal.Class i ts ds p e = wrong_class i ts ds p e
  wrong_nominal nominal.Protocol i ts ds p e = wrong_in (de.Nominal nominal.Protocol i ts ds) p (λ j t. refl) e

  wrong : (k : Kind) (p : Place) → protocol_in w k ≡ Some p → Wrong w k p
  wrong (de.Function i h b) p e = wrong_in (de.Function i h b) p (λ j t. refl) (sym (header_first w h) ∙ e)
  wrong (de.Initialiser h b) p e = wrong_in (de.Initialiser h b) p (λ j t. refl) (sym (header_first w h) ∙ e)
  wrong (de.Property k i t a) p e = absurd cc
  wrong (de.TypeAlias i t) p e = absurd cc
  wrong (de.AssociatedType i ts t) p e = wrong_in (de.AssociatedType i ts t) p (λ j t. refl) e
  wrong (de.Case i ps) p e = absurd cc
  wrong (de.Nominal k i ts ds) p e = wrong_nominal k i ts ds p e
  wrong (de.Extension t ts ds) p e = wrong_in (de.Extension t ts ds) p (λ j t. refl) e

  nothing : (k : Kind) → protocols_of k ≡ [] → NoWrong w k
  nothing k e = record { each = λ j t at none super. (let there = ap (λ (l : List TypeName). slice_get l j) (sym e) ∙ at in absurd cc) }

  no_wrong_nominal : (k : NominalKind) (i : Identifier) (ts : List TypeName) (ds : List Decl) → in_nominal w k ts ≡ None → NoWrong w (de.Nominal k i ts ds)
  no_wrong_nominal nominal.Struct i ts ds e = no_wrong_in (de.Nominal nominal.Struct i ts ds) e
  no_wrong_nominal nominal.Enum i ts ds e = no_wrong_in (de.Nominal nominal.Enum i ts ds) e
  no_wrong_nominal nominal.Class i ts ds e = no_wrong_class i ts ds e
  no_wrong_nominal nominal.Protocol i ts ds e = no_wrong_in (de.Nominal nominal.Protocol i ts ds) e

  no_wrong : (k : Kind) → protocol_in w k ≡ None → NoWrong w k
  no_wrong (de.Function i h b) e = no_wrong_in (de.Function i h b) (sym (header_first w h) ∙ e)
  no_wrong (de.Initialiser h b) e = no_wrong_in (de.Initialiser h b) (sym (header_first w h) ∙ e)
  no_wrong (de.Property k i t a) e = nothing (de.Property k i t a) refl
  no_wrong (de.TypeAlias i t) e = nothing (de.TypeAlias i t) refl
  no_wrong (de.AssociatedType i ts t) e = no_wrong_in (de.AssociatedType i ts t) e
  no_wrong (de.Case i ps) e = nothing (de.Case i ps) refl
  no_wrong (de.Nominal k i ts ds) e = no_wrong_nominal k i ts ds e
  no_wrong (de.Extension t ts ds) e = no_wrong_in (de.Extension t ts ds) e

  -- ---- what is extended

  extended_by : (i : ℕ) (d : Declaration) (p : Place) (k : Kind) → slice_get (own_declarations w) i ≡ Some d → d.entry.kind ≡ k → extended_in w k ≡ Some p → IsFault w kind.Unknown p
  extended_by i d p (de.Extension t ts ds) at is e = by (head_of w t.names) refl e
    where
      by : (o : Option Head) → head_of w t.names ≡ o → unless_head o t.place ≡ Some p → IsFault w kind.Unknown p
      by None none e = let same : t.place ≡ p = cc in subst (IsFault w kind.Unknown) same (extended i d at is none)
      by (Some h) none e = absurd cc
  extended_by i d p (de.Function n h b) at is e = absurd cc
  extended_by i d p (de.Initialiser h b) at is e = absurd cc
  extended_by i d p (de.Property k n t a) at is e = absurd cc
  extended_by i d p (de.TypeAlias n t) at is e = absurd cc
  extended_by i d p (de.AssociatedType n ts t) at is e = absurd cc
  extended_by i d p (de.Case n ps) at is e = absurd cc
  extended_by i d p (de.Nominal k n ts ds) at is e = absurd cc

  of_protocol : (i : ℕ) (d : Declaration) (p : Place) → slice_get (own_declarations w) i ≡ Some d → protocol_in w d.entry.kind ≡ Some p → IsFault w kind.Unknown p
  of_protocol i d p at e =
      let one = wrong d.entry.kind p e in
      subst (IsFault w kind.Unknown) one.place (protocol i one.number d one.name at one.at one.none one.no_class)

  of_entry : (i : ℕ) (d : Declaration) (p : Place) → slice_get (own_declarations w) i ≡ Some d → unknown_in w d.entry ≡ Some p → IsFault w kind.Unknown p
  of_entry i d p at e = by (or_some (extended_in w d.entry.kind) (protocol_in w d.entry.kind) p e)
    where
      by : (extended_in w d.entry.kind ≡ Some p) ⊎ (protocol_in w d.entry.kind ≡ Some p) → IsFault w kind.Unknown p
      by (inl f) = extended_by i d p d.entry.kind at refl f
      by (inr f) = of_protocol i d p at f

  pub unknown_some : (p : Place) → unknown_name w ≡ Some p → IsFault w kind.Unknown p
  unfolding unknown_name
  unknown_some p e = by (or_some (unknown_import w) (first_some (unknown_in w) w.own.entries) p e)
    where
      by : (unknown_import w ≡ Some p) ⊎ (first_some (unknown_in w) w.own.entries ≡ Some p) → IsFault w kind.Unknown p
      by (inl f) =
          let one = found (import_in w) w.own.imports p f in
          let told = unless_place (is_imported w one.item.text) one.item.place p one.here in
          subst (IsFault w kind.Unknown) told.1 (faults.«import» one.item one.number one.at told.0)
      by (inr f) =
          let one = found (unknown_in w) w.own.entries p f in
          of_entry one.number (record { world = w; entry = one.item }) p (at_of w one.number one.item one.at) one.here

-- ---- where none is answered

pub record NoneUnknown (w : World) : Type 0 where
  pub imports : (i : Identifier) (j : ℕ) → slice_get w.own.imports j ≡ Some i → is_imported w i.text ≡ false → ⊥
  pub extensions : (t : TypeName) (ts : List TypeName) (ds : List Decl) (i : ℕ) (d : Declaration) → slice_get (own_declarations w) i ≡ Some d → d.entry.kind ≡ de.Extension t ts ds → head_of w t.names ≡ None → ⊥
  pub protocols : (i j : ℕ) (d : Declaration) (t : TypeName) → slice_get (own_declarations w) i ≡ Some d → slice_get (protocols_of d.entry.kind) j ≡ Some t → names_protocol w t ≡ false → is_superclass w d.entry.kind j t ≡ false → ⊥

module _ (w : World) (each : (i : ℕ) (d : Declaration) → slice_get (own_declarations w) i ≡ Some d → unknown_in w d.entry ≡ None) (imports : unknown_import w ≡ None) where
  no_extended : (i : ℕ) (d : Declaration) → slice_get (own_declarations w) i ≡ Some d → extended_in w d.entry.kind ≡ None
  no_extended i d at = or_none_first (extended_in w d.entry.kind) (protocol_in w d.entry.kind) (each i d at)

  no_protocol_at : (i : ℕ) (d : Declaration) → slice_get (own_declarations w) i ≡ Some d → protocol_in w d.entry.kind ≡ None
  no_protocol_at i d at = or_none_rest (extended_in w d.entry.kind) (protocol_in w d.entry.kind) (each i d at)

  none_by : NoneUnknown w
  none_by = record {
    imports = λ i j at test. no_some (import_in w i) i.place (unless_at (is_imported w i.text) i.place test) (nowhere (import_in w) w.own.imports i j imports at);
    extensions = λ t ts ds i d at is none. no_some (extended_in w d.entry.kind) t.place (ap (extended_in w) is ∙ ap (λ (o : Option Head). unless_head o t.place) none) (no_extended i d at);
    protocols = λ i j d t at at_t none super. (no_wrong w d.entry.kind (no_protocol_at i d at)).each j t at_t none super;
  }

pub unknown_none : (w : World) → unknown_name w ≡ None → NoneUnknown w
unfolding unknown_name
unknown_none w e = none_by w (λ i d at. nowhere (unknown_in w) w.own.entries d.entry i (or_none_rest (unknown_import w) (first_some (unknown_in w) w.own.entries) e) (entry_of w i d at)) (or_none_first (unknown_import w) (first_some (unknown_in w) w.own.entries) e)
