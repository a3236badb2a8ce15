-- Associated types of protocols, as they are sought among all declarations.
use Rattle.std.proofs.Common.{◌≡◌, ℕ, List, [], ◌∷◌, ◌++◌, map, filter, flat_map, Option, Some, None, slice_get, Bool, true, false, ◌&&◌, refl, sym, ap, ap₂, ◌∙◌, if◌then◌else◌}
use Rattle.std.specs.Option.{option_map, option_map_or, option_or, option_and_then}
use Rattle.std.specs.Str.{bytes_eq}
use Rattle.evo_base.specs.declared.key.Key.{Key}
use Rattle.evo_tree.specs.declared.name.TypeName.{TypeName}
use Rattle.evo_tree.specs.declared.declaration.DeclKind.TheOpen as de
use Rattle.evo_resolved.specs.declared.resolved_type.RType.TheVariants as ty
use Rattle.evo_declarations.specs.Groups.{numbers_of}
use Rattle.evo_declarations.proofs.ByGroup.{by_group}
use Rattle.evo_members.specs.Texts.{alias_of as text_of, alias_text}
use Rattle.evo_members.specs.Located.{start_at, start_by, start_in, default_start}
use Rattle.evo_members.specs.Sought.{by_number, stands}
use Rattle.evo_members.specs.Associated.{IsAssociated, IsFirst, is_named, is_associated, number_associated, associated_if, default_in, default_at, with_default, defaulted, provider_if}
use Rattle.evo_names.specs.Listed.{Text, Kind, World, Declaration, declarations}
use Rattle.evo_names.specs.Meets.{same_name}
use Rattle.evo_names.specs.Heads.{first_some, members, is_among, closure, conformances}
use Rattle.evo_names.specs.Written.{Start, fixed, associated_by, associated_of, default_of, is_some, written_in, in_protocol, providers}
use Rattle.evo_members.proofs.Groups.{first_append, first_filter, same_first}
use Rattle.evo_members.proofs.Bases.{no_same}

module _ (p : Key) (n : Text) (b : Bool) where
  other_kind : (kind : Kind) → bytes_eq n (alias_text kind) ≡ false → is_named n kind ≡ false
  other_kind (de.AssociatedType i ts t) e = no_same i.text n e
  other_kind kind e = refl

  other_associated : (d : Declaration) → bytes_eq n (text_of d) ≡ false → associated_if p n b d ≡ None
  other_associated d e = ap (λ (t : Bool). if t && stands b p d then Some (defaulted d) else None) (other_kind d.entry.kind e)

  pub associated_group : (w : World) → first_some (associated_if p n b) (declarations w) ≡ first_some (by_number (associated_if p n b) (declarations w)) (numbers_of n (map text_of (declarations w)))
  associated_group w = by_group (associated_if p n b) text_of n other_associated (declarations w)

  pub taken : (o : Option Declaration) → option_map_or (is_associated p n b) o false ≡ true → option_and_then (associated_if p n b) o ≡ option_map defaulted o
  taken None e = refl
  taken (Some d) e = ap (λ (t : Bool). if t then Some (defaulted d) else None) e

  pub untaken : (o : Option Declaration) → option_map_or (is_associated p n b) o false ≡ false → option_and_then (associated_if p n b) o ≡ None
  untaken None e = refl
  untaken (Some d) e = ap (λ (t : Bool). if t then Some (defaulted d) else None) e

  found_some : (o : Option Declaration) → option_map_or (is_associated p n b) o false ≡ true → is_some (option_map defaulted o) ≡ true
  found_some None e = absurd cc
  found_some (Some d) e = refl

  pub first_some_is : (w : World) (i : ℕ) → number_associated w p n b i ≡ true → is_some (with_default w i) ≡ true
  first_some_is w i e = found_some (slice_get (declarations w) i) e

-- ---- members of a protocol

abbrev paired : Declaration → Option TypeName → Declaration × Option TypeName
paired d t = (d, t)

untested : (d : Declaration) (s : Bool) → (if s then option_map (paired d) None else None) ≡ None
untested d true = refl
untested d false = refl

tested : (d : Declaration) (t : Option TypeName) (s q : Bool) → (if s then option_map (paired d) (if q then Some t else None) else None) ≡ (if q && s then Some (paired d t) else None)
tested d t true true = refl
tested d t true false = refl
tested d t false true = refl
tested d t false false = refl

module _ (p : Key) (n : Text) where
  by_kind : (d : Declaration) (kind : Kind) (s : Bool) → (if s then option_map (paired d) (associated_by n kind) else None) ≡ (if is_named n kind && s then Some (paired d (default_in kind)) else None)
  by_kind d (de.AssociatedType i ts t) s = tested d t s (same_name i.text n)
  by_kind d (de.TypeAlias i t) s = untested d s
  by_kind d (de.Function i h b) s = untested d s
  by_kind d (de.Initialiser h b) s = untested d s
  by_kind d (de.Property k i t x) s = untested d s
  by_kind d (de.Case i ps) s = untested d s
  by_kind d (de.Nominal k i ts ds) s = untested d s
  by_kind d (de.Extension t ts ds) s = untested d s

  at_member : (b : Bool) (d : Declaration) → (if stands b p d then option_map (paired d) (associated_by n d.entry.kind) else None) ≡ associated_if p n b d
  at_member b d = by_kind d d.entry.kind (stands b p d)

  pub both_associated : (w : World) → associated_of w p n ≡ option_or (first_some (associated_if p n true) (declarations w)) (first_some (associated_if p n false) (declarations w))
  unfolding members
  both_associated w =
      let f : Declaration → Option (Declaration × Option TypeName) = λ d. option_map (paired d) (associated_by n d.entry.kind) in
      first_append f (filter (stands true p) (declarations w)) (filter (stands false p) (declarations w))
      ∙ ap₂ option_or
      (first_filter f (stands true p) (declarations w) ∙ same_first (at_member true) (declarations w))
      (first_filter f (stands false p) (declarations w) ∙ same_first (at_member false) (declarations w))

  first_is : (w : World) (i : ℕ) (o q : Option (Declaration × Option TypeName)) → associated_of w p n ≡ option_or o q → o ≡ with_default w i → is_some (with_default w i) ≡ true → IsAssociated w p n (Some i)
  first_is w i None q both is some = absurd (let e : is_some (with_default w i) ≡ false = ap is_some (sym is) in cc)
  first_is w i (Some x) q both is some = (ap is_some (both ∙ is) ∙ some, both ∙ is)

  pub in_braces_is : (w : World) (i : ℕ) → IsFirst w p n true (Some i) → IsAssociated w p n (Some i)
  in_braces_is w i first = first_is w i _ _ (both_associated w) (first.1 ∙ taken p n true (slice_get (declarations w) i) first.0) (first_some_is p n true w i first.0)

  pub in_extensions_is : (w : World) (o : Option ℕ) → IsFirst w p n true None → IsFirst w p n false o → IsAssociated w p n o
  in_extensions_is w None none also = both_associated w ∙ ap₂ option_or none also
  in_extensions_is w (Some i) none first =
      let both : associated_of w p n ≡ option_or None (first_some (associated_if p n false) (declarations w)) = both_associated w ∙ ap (λ (o : Option (Declaration × Option TypeName)). option_or o (first_some (associated_if p n false) (declarations w))) none in
      let is = both ∙ first.1 ∙ taken p n false (slice_get (declarations w) i) first.0 in
      (ap is_some is ∙ first_some_is p n false w i first.0, is)

-- ---- defaults

module _ (w : World) (k p : Key) where
  kind_default : (d : Declaration) (kind : Kind) (t : TypeName) → default_in kind ≡ Some t → start_by d (in_protocol p (ty.Named k)) kind ≡ written_in d.world (in_protocol p (ty.Named k)) None t
  kind_default d (de.AssociatedType i ts u) t e = ap (default_start d (in_protocol p (ty.Named k))) e
  kind_default d (de.TypeAlias i t) u e = absurd cc
  kind_default d (de.Function i h b) t e = absurd cc
  kind_default d (de.Initialiser h b) t e = absurd cc
  kind_default d (de.Property k i t x) u e = absurd cc
  kind_default d (de.Case i ps) t e = absurd cc
  kind_default d (de.Nominal k i ts ds) t e = absurd cc
  kind_default d (de.Extension t ts ds) u e = absurd cc

  abbrev written_default : Option (Declaration × Option TypeName) → Option Start
  written_default o = option_and_then (λ (a : Declaration × Option TypeName). option_map (written_in a.0.world (in_protocol p (ty.Named k)) None) a.1) o

  some_by : (d : Declaration) (o : Option TypeName) → default_in d.entry.kind ≡ o → is_some o ≡ true → Some (start_in (in_protocol p (ty.Named k)) d) ≡ option_map (written_in d.world (in_protocol p (ty.Named k)) None) o
  some_by d None is e = absurd cc
  some_by d (Some t) is e = ap (λ (s : Start). Some s) (kind_default d d.entry.kind t is)

  some_at : (o : Option Declaration) → option_map_or (λ (d : Declaration). is_some (default_in d.entry.kind)) o false ≡ true → Some (option_map_or (start_in (in_protocol p (ty.Named k))) o (fixed ty.NoValue)) ≡ written_default (option_map defaulted o)
  some_at None e = absurd cc
  some_at (Some d) e = some_by d (default_in d.entry.kind) refl e

  none_by : (d : Declaration) (o : Option TypeName) → is_some o ≡ false → option_map (written_in d.world (in_protocol p (ty.Named k)) None) o ≡ None
  none_by d None e = refl
  none_by d (Some t) e = absurd cc

  none_at : (o : Option Declaration) → option_map_or (λ (d : Declaration). is_some (default_in d.entry.kind)) o false ≡ false → written_default (option_map defaulted o) ≡ None
  none_at None e = refl
  none_at (Some d) e = none_by d (default_in d.entry.kind) e

  pub default_some : (n : Text) (i : ℕ) → IsAssociated w p n (Some i) → default_at w i ≡ true → Some (start_at w (in_protocol p (ty.Named k)) i) ≡ default_of w k n p
  default_some n i is e = some_at (slice_get (declarations w) i) e ∙ ap written_default (sym is.1)

  pub default_none : (n : Text) (i : ℕ) → IsAssociated w p n (Some i) → default_at w i ≡ false → None ≡ default_of w k n p
  default_none n i is e = sym (ap written_default is.1 ∙ none_at (slice_get (declarations w) i) e)

  pub no_default : (n : Text) → IsAssociated w p n None → None ≡ default_of w k n p
  no_default n is = sym (ap written_default is)

-- ---- those that have it

provided : (w : World) (ks : List Key) (n : Text) (p : Key) (ps : List Key) (b : Bool) → (is_some (associated_of w p n) && is_among p ks) ≡ b → flat_map (provider_if w ks n) ps ≡ filter (λ q. is_some (associated_of w q n) && is_among q ks) ps → (if b then p ∷ [] else []) ++ flat_map (provider_if w ks n) ps ≡ (if b then p ∷ filter (λ q. is_some (associated_of w q n) && is_among q ks) ps else filter (λ q. is_some (associated_of w q n) && is_among q ks) ps)
provided w ks n p ps true is rest = ap (λ l. p ∷ l) rest
provided w ks n p ps false is rest = rest

all_provided : (w : World) (ks : List Key) (n : Text) (ps : List Key) → flat_map (provider_if w ks n) ps ≡ filter (λ q. is_some (associated_of w q n) && is_among q ks) ps
all_provided w ks n [] = refl
all_provided w ks n (p ∷ ps) = provided w ks n p ps (is_some (associated_of w p n) && is_among p ks) refl (all_provided w ks n ps)

pub providers_are : (w : World) (ps : List Key) (k : Key) (n : Text) (reached declared found : List Key) → reached ≡ closure w ps → declared ≡ conformances w k → found ≡ flat_map (provider_if w declared n) reached → found ≡ providers w ps k n
providers_are w ps k n reached declared found one two is =
    is ∙ ap₂ (λ (ks qs : List Key). flat_map (provider_if w ks n) qs) two one ∙ all_provided w (conformances w k) n (closure w ps)
