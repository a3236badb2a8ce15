-- `typealias`es of types, as they are sought among all declarations.
use Rattle.std.proofs.Common.{◌≡◌, ℕ, suc, [], map, filter, Option, Some, None, Bool, true, false, ◌&&◌, refl, sym, ap, ap₂, ◌∙◌, if◌then◌else◌}
use Rattle.std.specs.Option.{option_map_or, option_or, option_and_then}
use Rattle.std.specs.Str.{bytes_eq}
use Rattle.evo_base.specs.declared.key.Key.{Key}
use Rattle.evo_tree.specs.declared.declaration.DeclKind.TheOpen as de
use Rattle.evo_declarations.specs.Groups.{numbers_of}
use Rattle.evo_declarations.proofs.ByGroup.{by_group}
use Rattle.evo_members.specs.Texts.{alias_of as text_of, base_of, alias_text}
use Rattle.evo_members.specs.Located.{start_by, start_in}
use Rattle.evo_members.specs.Sought.{by_number, if_declares, stands, is_alias_named, is_sought, alias_if, first_alias, above}
use Rattle.evo_names.specs.Listed.{Text, Kind, World, Declaration, declarations}
use Rattle.evo_names.specs.Heads.{declaration_of, declares, first_some, members, superclass, climb}
use Rattle.evo_names.specs.Written as written
use Rattle.evo_names.specs.Written.{Start, fixed, alias_by, if_true}
use Rattle.evo_names.specs.Meets.{same_name}
use Rattle.evo_resolved.specs.declared.resolved_type.RType.TheVariants as ty
use Rattle.evo_members.proofs.Groups.{that_some, first_append, first_filter, same_first}
use Rattle.evo_members.proofs.Bases.{no_same, other_declares}

-- ---- the declaration of a type

not_then : {A : Type 0} (b : Bool) (x : A) → b ≡ false → (if b then Some x else None) ≡ None
not_then true x e = absurd cc
not_then false x e = refl

pub declaration_group : (w : World) (k : Key) → declaration_of w k ≡ first_some (by_number (if_declares k) (declarations w)) (numbers_of k.base (map base_of (declarations w)))
unfolding declaration_of
declaration_group w k =
    that_some (λ (d : Declaration). declares k d d.entry.kind) (declarations w)
    ∙ by_group (if_declares k) base_of k.base (λ d e. not_then (declares k d d.entry.kind) d (other_declares k d d.entry.kind e)) (declarations w)

-- ---- one number

module _ (passes : Declaration → Bool) (a : written.Around) (k : Key) (n : Text) (b : Bool) where
  pub taken : (o : Option Declaration) → option_map_or (is_sought passes k n b) o false ≡ true → option_and_then (alias_if passes a k n b) o ≡ Some (option_map_or (start_in a) o (fixed ty.NoValue))
  taken None e = absurd cc
  taken (Some d) e = ap (λ (t : Bool). if t then Some (start_in a d) else None) e

  pub untaken : (o : Option Declaration) → option_map_or (is_sought passes k n b) o false ≡ false → option_and_then (alias_if passes a k n b) o ≡ None
  untaken None e = refl
  untaken (Some d) e = ap (λ (t : Bool). if t then Some (start_in a d) else None) e

  other_kind : (d : Declaration) (kind : Kind) → bytes_eq n (alias_text kind) ≡ false → is_alias_named n kind ≡ false
  other_kind d (de.TypeAlias i t) e = no_same i.text n e
  other_kind d kind e = refl

  other_alias : (d : Declaration) → bytes_eq n (text_of d) ≡ false → alias_if passes a k n b d ≡ None
  other_alias d e = ap (λ (t : Bool). if t && (stands b k d && passes d) then Some (start_in a d) else None) (other_kind d d.entry.kind e)

  pub alias_group : (w : World) → first_alias w passes a k n b ≡ first_some (by_number (alias_if passes a k n b) (declarations w)) (numbers_of n (map text_of (declarations w)))
  alias_group w = by_group (alias_if passes a k n b) text_of n other_alias (declarations w)

-- ---- members

untested : {A : Type 0} (p t : Bool) → (if p then if_true t None else None) ≡ (let o : Option A = None in o)
untested true true = refl
untested true false = refl
untested false t = refl

tested : {A : Type 0} (s p t : Bool) (x : A) → (if p then if_true t (if s then Some x else None) else None) ≡ (if s && (p && t) then Some x else None)
tested true true true x = refl
tested true true false x = refl
tested true false t x = refl
tested false true true x = refl
tested false true false x = refl
tested false false t x = refl

module _ (passes : Declaration → Bool) (a : written.Around) (n : Text) where
  by_kind : (d : Declaration) (kind : Kind) (p t : Bool) → (if p then if_true t (alias_by d n a kind) else None) ≡ (if is_alias_named n kind && (p && t) then Some (start_by d a kind) else None)
  by_kind d (de.TypeAlias i t) p q = tested (same_name i.text n) p q (start_by d a (de.TypeAlias i t))
  by_kind d (de.Function i h b) p t = untested p t
  by_kind d (de.Initialiser h b) p t = untested p t
  by_kind d (de.Property k i t x) p q = untested p q
  by_kind d (de.AssociatedType i ts t) p q = untested p q
  by_kind d (de.Case i ps) p t = untested p t
  by_kind d (de.Nominal k i ts ds) p t = untested p t
  by_kind d (de.Extension t ts ds) p q = untested p q

  at_member : (b : Bool) (k : Key) (d : Declaration) → (if stands b k d then if_true (passes d) (alias_by d n a d.entry.kind) else None) ≡ alias_if passes a k n b d
  at_member b k d = by_kind d d.entry.kind (stands b k d) (passes d)

  pub both_aliases : (w : World) (k : Key) → written.alias_of w passes a k n ≡ option_or (first_alias w passes a k n true) (first_alias w passes a k n false)
  unfolding members
  both_aliases w k =
      let f : Declaration → Option Start = λ d. if_true (passes d) (alias_by d n a d.entry.kind) in
      first_append f (filter (stands true k) (declarations w)) (filter (stands false k) (declarations w))
      ∙ ap₂ option_or
      (first_filter f (stands true k) (declarations w) ∙ same_first (at_member true k) (declarations w))
      (first_filter f (stands false k) (declarations w) ∙ same_first (at_member false k) (declarations w))

pub in_front : {A : Type 0} (all front back : Option A) (x : A) → all ≡ option_or front back → Some x ≡ front → Some x ≡ all
in_front all front back x both is = ap (λ o. option_or o back) is ∙ sym both

pub behind_front : {A : Type 0} (all front back result : Option A) → all ≡ option_or front back → None ≡ front → result ≡ back → result ≡ all
behind_front all front back result both is rest = rest ∙ ap (λ o. option_or o back) is ∙ sym both

-- ---- the nearest

module _ {B : Type 0} (f : Key → Option B) (w : World) where
  pushed_in : (n : ℕ) (o : Option Key) → first_some f (option_map_or (λ u. climb n w u) o []) ≡ option_map_or (λ u. first_some f (climb n w u)) o None
  pushed_in n None = refl
  pushed_in n (Some u) = refl

  pub climbed : (n : ℕ) (k : Key) → first_some f (climb (suc n) w k) ≡ option_or (f k) (above f n w k)
  climbed n k = ap (option_or (f k)) (pushed_in n (superclass w k))

  pub above_none : (n : ℕ) (k : Key) → superclass w k ≡ None → above f n w k ≡ None
  above_none n k e = ap (λ (o : Option Key). option_map_or (λ u. first_some f (climb n w u)) o None) e

  pub above_some : (n : ℕ) (k u : Key) → superclass w k ≡ Some u → above f (suc n) w k ≡ option_or (f u) (above f n w u)
  above_some n k u e = ap (λ (o : Option Key). option_map_or (λ v. first_some f (climb (suc n) w v)) o None) e ∙ climbed n u

  no_climb : (o : Option Key) → option_map_or (λ u. first_some f (climb 0 w u)) o None ≡ None
  no_climb None = refl
  no_climb (Some u) = refl

  pub above_zero : (k : Key) → above f 0 w k ≡ None
  above_zero k = no_climb (superclass w k)
