-- Where no `typealias` and no associated type has a name, no member of any type is found by it.
use Rattle.std.proofs.Common.{◌≡◌, ℕ, List, [], ◌∷◌, map, filter, Option, Some, None, Bool, true, false, ◌&&◌, refl, sym, ap, ap₂, ◌∙◌, if◌then◌else◌}
use Rattle.std.specs.Option.{option_and_then, option_or}
use Rattle.evo_base.specs.declared.key.Key.{Key}
use Rattle.evo_tree.specs.declared.name.TypeName.{TypeName}
use Rattle.evo_resolved.specs.declared.resolved_type.RType.{RType}
use Rattle.evo_declarations.specs.Groups.{numbers_of}
use Rattle.evo_members.specs.Texts.{alias_of as text_of}
use Rattle.evo_members.specs.Sought.{alias_if, by_number, first_alias}
use Rattle.evo_members.specs.Associated.{associated_if}
use Rattle.evo_names.specs.Listed.{Text, World, Declaration, declarations}
use Rattle.evo_names.specs.Seen.{Viewpoint}
use Rattle.evo_names.specs.Heads.{closure, conformances, first_some, is_among, lineage, sees}
use Rattle.evo_names.specs.Written as written
use Rattle.evo_names.specs.Written.{Around, Start, alias_of, associated_of, associated_type, default_of, is_some, may_meet, nearest_alias, protocol_member, providers, required, type_member}
use Rattle.evo_members.proofs.Members.{alias_group, both_aliases}
use Rattle.evo_members.proofs.AssociatedTypes.{associated_group, both_associated}

pub first_none : {A B : Type 0} (f : A → Option B) → ((x : A) → f x ≡ None) → (xs : List A) → first_some f xs ≡ None
first_none f none [] = refl
first_none f none (x ∷ xs) = ap (λ o. option_or o (first_some f xs)) (none x) ∙ first_none f none xs

filter_none : {A : Type 0} (p : A → Bool) → ((x : A) → p x ≡ false) → (xs : List A) → filter p xs ≡ []
filter_none p none [] = refl
filter_none p none (x ∷ xs) = ap (λ (b : Bool). if b then x ∷ filter p xs else filter p xs) (none x) ∙ filter_none p none xs

module _ (w : World) (n : Text) (nothing : numbers_of n (map text_of (declarations w)) ≡ []) where
  no_first : (passes : Declaration → Bool) (a : Around) (k : Key) (b : Bool) → first_alias w passes a k n b ≡ None
  no_first passes a k b = alias_group passes a k n b w ∙ ap (first_some (by_number (alias_if passes a k n b) (declarations w))) nothing

  pub no_alias : (passes : Declaration → Bool) (a : Around) (k : Key) → alias_of w passes a k n ≡ None
  no_alias passes a k = both_aliases passes a n w k ∙ ap₂ option_or (no_first passes a k true) (no_first passes a k false)

  no_nearest : (passes : Declaration → Bool) (k : Key) → nearest_alias w passes k n ≡ None
  no_nearest passes k = first_none (λ c. alias_of w passes (written.in_type c) c n) (λ c. no_alias passes (written.in_type c) c) (lineage w k)

  no_associated_in : (p : Key) (b : Bool) → first_some (associated_if p n b) (declarations w) ≡ None
  no_associated_in p b = associated_group p n b w ∙ ap (first_some (by_number (associated_if p n b) (declarations w))) nothing

  pub no_associated : (p : Key) → associated_of w p n ≡ None
  no_associated p = both_associated p n w ∙ ap₂ option_or (no_associated_in p true) (no_associated_in p false)

  no_providers : (ps : List Key) (k : Key) → providers w ps k n ≡ []
  no_providers ps k = filter_none (λ p. is_some (associated_of w p n) && is_among p (conformances w k)) (λ p. ap (λ (o : Option (Declaration × Option TypeName)). is_some o && is_among p (conformances w k)) (no_associated p)) (closure w ps)

  no_type : (ps : List Key) (k : Key) → associated_type w ps k n ≡ None
  unfolding associated_type
  no_type ps k = ap (λ (qs : List Key). option_or (first_some (λ p. nearest_alias w (may_meet w k p) k n) qs) (first_some (default_of w k n) qs)) (no_providers ps k)

  pub no_member : (v : Viewpoint) (k : Key) → None ≡ type_member w v k n
  unfolding type_member
  no_member v k = sym (ap₂ option_or (no_nearest (sees v) k) (no_type (conformances w k) k))

  pub no_protocol_member : (v : Viewpoint) (self : RType) (p : Key) → protocol_member w v self n p ≡ None
  no_protocol_member v self p = ap₂ option_or (ap (option_and_then (λ (a : Declaration × Option TypeName). required w p self n)) (no_associated p)) (no_alias (sees v) (written.in_protocol p self) p)

  pub no_members : (v : Viewpoint) (self : RType) (ps : List Key) → None ≡ first_some (protocol_member w v self n) ps
  no_members v self ps = sym (first_none (protocol_member w v self n) (no_protocol_member v self) ps)
