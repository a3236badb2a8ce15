-- An interface breaks no rule against itself.
use Rattle.std.proofs.Common.{◌≡◌, ℕ, zero, suc, Bool, true, false, not, ◌&&◌, ◌||◌, ◌==◌, ltb, List, [], ◌∷◌, ◌++◌, map, filter, flat_map, slice_get, length, Option, Some, None, IsTrue, refl, sym, ap, ◌∙◌, subst, if◌then◌else◌, bytes_eq, lt_irrefl, ltb-true}
use Rattle.std.specs.List.{list_any, list_all}
use Rattle.std.specs.Option.{option_map_or, option_and_then}
use Rattle.std.proofs.lemmas.Bool.{eq-eqb}
use Rattle.std.proofs.Math.Bool.{true≢false}
use Rattle.std.specs.Cmp.Lexicographic.{bytes_decides}
use Rattle.evo_base.specs.declared.place.Release.{Release}
use Rattle.evo_base.specs.declared.key.Key.{Key}
use Rattle.evo_tree.specs.declared.declaration.Attr.{Attr}
use Rattle.evo_tree.specs.declared.declaration.ModifierKind.TheVariants as modifier
use Rattle.evo_tree.specs.declared.declaration.NominalKind.{NominalKind}
use Rattle.evo_tree.specs.declared.declaration.NominalKind.TheVariants as nominal
use Rattle.evo_tree.specs.Declarations.{has_modifier}
use Rattle.evo_resolved.specs.declared.resolved_type.RType.{RType}
use Rattle.evo_resolved.specs.declared.resolved_type.RType.TheVariants as ty
use Rattle.evo_resolved.specs.declared.resolved_type.RTypeName.{RTypeName}
use Rattle.evo_resolved.specs.declared.resolved_type.RReference.{RReference}
use Rattle.evo_resolved.specs.declared.declaration.RDecl.{RDecl}
use Rattle.evo_resolved.specs.declared.declaration.RDeclKind.{RDeclKind}
use Rattle.evo_resolved.specs.declared.declaration.RDeclKind.TheVariants as kind
use Rattle.evo_resolved.specs.declared.declaration.RHeader.{RHeader}
use Rattle.evo_resolved.specs.declared.declaration.RPayload.{RPayload}
use Rattle.evo_resolved.specs.declared.declaration.RRequirement.{RRequirement}
use Rattle.evo_resolved.specs.declared.declaration.RRequirement.TheVariants as requirement
use Rattle.evo_resolved.specs.declared.declaration.Standing.{Standing}
use Rattle.evo_resolved.specs.declared.module.RConformance.{RConformance}
use Rattle.evo_resolved.specs.declared.module.RDefault.{RDefault}
use Rattle.evo_resolved.specs.declared.module.RProtocol.{RProtocol}
use Rattle.evo_resolved.specs.declared.module.RTypeWitness.{RTypeWitness}
use Rattle.evo_resolved.specs.declared.module.RModule.{RModule}
use Rattle.evo_resolved.specs.Found.{IsFound}
use Rattle.evo_resolved.specs.Named.{decl_key, is_declared, conformance_key, is_conformance}
use Rattle.evo_meaning.specs.Keys.{same_key}
use Rattle.evo_meaning.proofs.SameKey.{left, same_key_refl}
use Rattle.evo_breaks.specs.declared.sort.Sort.{Sort}
use Rattle.evo_breaks.specs.declared.sort.Sort.TheVariants as sort
use Rattle.evo_breaks.specs.declared.rule.Rule.{Rule}
use Rattle.evo_breaks.specs.declared.rule.Rule.TheVariants as rule
use Rattle.evo_breaks.specs.declared.rule.Break.{Break}
use Rattle.evo_breaks.specs.Words.{is_lost, differs, is_open, is_public, is_usable, is_final, is_static, is_mutating, is_frozen, is_later, release_of, is_after, is_introduced_later}
use Rattle.evo_breaks.specs.Same.{same_list, is_within, same_set, same_type, same_written, same_reference, same_requirement, same_result, same_label}
use Rattle.evo_breaks.specs.Found.{owner_of, is_demanded, sort_by, sort_of, same_sort, if_sort, declared, declared_as, conformance_in, type_in, is_same_type_kind, same_kind, is_gone, is_with_gone}
use Rattle.evo_breaks.specs.Conditions as c
use Rattle.evo_breaks.specs.Rules.{first_rules, last_rules, between, broken_by, protocol_in, has_public_default, is_demanding, is_associated, has_namesake, asks_more_by, asks_more, demands, associations, protocol_breaks, removal_rule, removed, compared, compared_by_kind, is_nominal, compared_to, is_tried_as, is_tried, declaration_breaks, conforms_to, conformance_of, is_conformance_to, same_witness, keeps_types, compared_conformance, conformance_breaks, header_breaks, breaks_of, all_breaks, module_break, broken_rules}
use Rattle.evo_breaks.specs.Laws.{In, here, there, IsConsistent, KeepsItself}
use Rattle.evo_breaks.proofs.Equal.{joined, names_refl}
use Rattle.evo_breaks.proofs.Finding.{declared_some, conformance_some}

-- ---- truth values

lost_self : (a : Bool) → is_lost a a ≡ false
lost_self true = refl
lost_self false = refl

differs_self : (a : Bool) → differs a a ≡ false
differs_self true = refl
differs_self false = refl

and_false : (a b : Bool) → b ≡ false → (a && b) ≡ false
and_false true b e = e
and_false false b e = refl

or_two : (a b : Bool) → a ≡ false → b ≡ false → (a || b) ≡ false
or_two a b e f = ap (λ z. z || b) e ∙ f

not_false : (a : Bool) → a ≡ true → not a ≡ false
not_false a e = ap not e

bytes_self : (x : List ℕ) → bytes_eq x x ≡ true
bytes_self x = (bytes_decides x x).1 refl

number_self : (n : ℕ) → (n == n) ≡ true
number_self n = eq-eqb n n refl

ltb_self : (n : ℕ) → ltb n n ≡ false
ltb_self n = at (ltb n n) refl
  where
    at : (b : Bool) → ltb n n ≡ b → b ≡ false
    at true e = absurd (lt_irrefl _ (ltb-true n n e))
    at false e = refl

-- ---- lists

every_in : {A : Type 0} (p : A → Bool) (l : List A) → ((x : A) → In x l → p x ≡ true) → list_all p l ≡ true
every_in p [] h = refl
every_in p (x ∷ xs) h = joined (h x here) (every_in p xs (λ y i. h y (there i)))

some_in : {A : Type 0} (p : A → Bool) {x : A} {l : List A} → In x l → p x ≡ true → list_any p l ≡ true
some_in p (here {x = x} {xs = xs}) e = ap (λ z. z || list_any p xs) e
some_in p (there {y = y} {xs = xs} i) e = at (p y) (some_in p i e)
  where
    at : (b : Bool) → list_any p xs ≡ true → (b || list_any p xs) ≡ true
    at true e = refl
    at false e = e

none_in : {A : Type 0} (p : A → Bool) (l : List A) → ((x : A) → In x l → p x ≡ false) → list_any p l ≡ false
none_in p [] h = refl
none_in p (x ∷ xs) h = or_two (p x) (list_any p xs) (h x here) (none_in p xs (λ y i. h y (there i)))

not_all : {A : Type 0} (p : A → Bool) {x : A} {l : List A} → In x l → p x ≡ false → list_all p l ≡ false
not_all p (here {x = x} {xs = xs}) e = ap (λ z. z && list_all p xs) e
not_all p (there {y = y} {xs = xs} i) e = and_false (p y) (list_all p xs) (not_all p i e)

list_self : {A : Type 0} (f : A → A → Bool) → ((x : A) → f x x ≡ true) → (l : List A) → same_list f l l ≡ true
list_self f h [] = refl
list_self f h (x ∷ xs) = joined (h x) (list_self f h xs)

within_self : {A : Type 0} (f : A → A → Bool) → ((x : A) → f x x ≡ true) → (l : List A) → is_within f l l ≡ true
within_self f h l = every_in (λ x. list_any (λ y. f x y) l) l (λ x i. some_in (λ y. f x y) i (h x))

set_self : {A : Type 0} (f : A → A → Bool) → ((x : A) → f x x ≡ true) → (l : List A) → same_set f l l ≡ true
set_self f h l = joined (within_self f h l) (within_self f h l)

filter_none : {A : Type 0} (p : A → Bool) (l : List A) → ((x : A) → In x l → p x ≡ false) → filter p l ≡ []
filter_none p [] h = refl
filter_none p (x ∷ xs) h = ap (λ b. if b then x ∷ filter p xs else filter p xs) (h x here) ∙ filter_none p xs (λ y i. h y (there i))

each_none : {A B : Type 0} (f : A → List B) (l : List A) → ((x : A) → In x l → f x ≡ []) → flat_map f l ≡ []
each_none f [] h = refl
each_none f (x ∷ xs) h = ap (λ z. z ++ flat_map f xs) (h x here) ∙ each_none f xs (λ y i. h y (there i))

number_in : {A : Type 0} {x : A} {l : List A} → In x l → ℕ
number_in here = zero
number_in (there i) = suc (number_in i)

got_in : {A : Type 0} {x : A} {l : List A} (i : In x l) → slice_get l (number_in i) ≡ Some x
unfolding number_in
got_in here = refl
got_in (there i) = got_in i

-- ---- each thing is the same as itself

type_self : (t : RType) → same_type t t ≡ true
type_self (ty.Named k) = same_key_refl k
type_self (ty.Param n) = number_self n
type_self (ty.Assoc n xs) = joined (number_self n) (names_refl xs)
type_self ty.NoValue = refl

written_self : (t : RTypeName) → same_written t t ≡ true
written_self t = type_self t.ty

reference_self : (r : RReference) → same_reference r r ≡ true
reference_self r = same_key_refl r.key

requirement_self : (r : RRequirement) → same_requirement r r ≡ true
requirement_self (requirement.Conforms a p) = joined (written_self a) (reference_self p)
requirement_self (requirement.Same a p b) = joined (written_self a) (written_self b)

result_self : (o : Option RTypeName) → same_result o o ≡ true
result_self None = refl
result_self (Some t) = written_self t

label_self : (o : Option (List ℕ)) → same_label o o ≡ true
label_self None = refl
label_self (Some x) = bytes_self x

header_self : (h : RHeader) → c.same_header h h ≡ true
header_self h = joined (joined (joined (number_self (length h.signature.generics)) (set_self same_requirement requirement_self h.signature.requirements)) (list_self c.same_parameter (λ p. written_self p.written) h.parameters)) (result_self h.result)

value_self : (p : RPayload) → c.same_value p p ≡ true
value_self p = joined (label_self p.label) (written_self p.written)

-- ---- conditions

access_self : (d : RDecl) → c.is_access_lowered d d ≡ false
access_self d = or_two _ _ (or_two _ _ (lost_self (is_public d)) (lost_self (is_usable d))) (and_false (c.is_class d.kind) (is_lost (is_open d) (is_open d)) (lost_self (is_open d)))

other_self : (k : RDeclKind) → c.is_other_header k k ≡ false
other_self (kind.Function h) = not_false (c.same_header h h) (header_self h)
other_self (kind.Initialiser h) = not_false (c.same_header h h) (header_self h)
other_self (kind.Property i t k) = refl
other_self (kind.TypeAlias t) = refl
other_self (kind.AssociatedType ps t) = refl
other_self (kind.Case ps) = refl
other_self (kind.Nominal n u ps) = refl
other_self (kind.Extension n t ps) = refl

signature_self : (d : RDecl) → c.is_signature_changed d d ≡ false
signature_self d = and_false (c.is_called d.kind) _ (or_two _ _ (or_two _ _ (other_self d.kind) (differs_self (is_static d))) (differs_self (is_mutating d)))

property_self : (k : RDeclKind) → c.is_property_changed_by k k ≡ false
property_self (kind.Property i t k) = or_two _ _ (not_false (same_written t t) (written_self t)) (lost_self (c.is_settable i k))
property_self (kind.Function h) = refl
property_self (kind.Initialiser h) = refl
property_self (kind.TypeAlias t) = refl
property_self (kind.AssociatedType ps t) = refl
property_self (kind.Case ps) = refl
property_self (kind.Nominal n u ps) = refl
property_self (kind.Extension n t ps) = refl

content_self : (k : RDeclKind) → c.is_component k ≡ true → c.same_content k k ≡ true
content_self (kind.Property i t k) e = written_self t
content_self (kind.Case ps) e = list_self c.same_value value_self ps
content_self (kind.Function h) e = absurd cc
content_self (kind.Initialiser h) e = absurd cc
content_self (kind.TypeAlias t) e = absurd cc
content_self (kind.AssociatedType ps t) e = absurd cc
content_self (kind.Nominal n u ps) e = absurd cc
content_self (kind.Extension n t ps) e = absurd cc

component_self : (d : RDecl) → c.is_component d.kind ≡ true → c.same_component d d ≡ true
component_self d e = joined (bytes_self d.key.base) (content_self d.kind e)

components_self : (k : Key) (l : List RDecl) → same_list c.same_component (filter (c.is_component_of k) l) (filter (c.is_component_of k) l) ≡ true
components_self k [] = refl
components_self k (d ∷ ds) = at (c.is_component_of k d) refl (components_self k ds)
  where
    at : (b : Bool) → c.is_component_of k d ≡ b → same_list c.same_component (filter (c.is_component_of k) ds) (filter (c.is_component_of k) ds) ≡ true → same_list c.same_component (if b then d ∷ filter (c.is_component_of k) ds else filter (c.is_component_of k) ds) (if b then d ∷ filter (c.is_component_of k) ds else filter (c.is_component_of k) ds) ≡ true
    at true e rest = joined (component_self d (left (c.is_component d.kind) (c.is_owned_by k (owner_of d)) e)) rest
    at false e rest = rest

layout_self : (m : RModule) (d : RDecl) → c.is_layout_changed m m d d ≡ false
unfolding c.is_layout_changed c.same_components c.components
layout_self m d = and_false (c.are_frozen d d) _ (not_false _ (components_self d.own m.decls))

setter_self : (k : RDeclKind) → c.same_setter k k ≡ true
setter_self (kind.Property i t k) = ap not (differs_self (c.is_settable i k))
setter_self (kind.Function h) = refl
setter_self (kind.Initialiser h) = refl
setter_self (kind.TypeAlias t) = refl
setter_self (kind.AssociatedType ps t) = refl
setter_self (kind.Case ps) = refl
setter_self (kind.Nominal n u ps) = refl
setter_self (kind.Extension n t ps) = refl

demand_self : (d : RDecl) → c.is_requirement_changed d d ≡ false
demand_self d = or_two _ _ (or_two _ _ (signature_self d) (property_self d.kind)) (not_false (c.same_setter d.kind d.kind) (setter_self d.kind))

inheritance_self : (d : RDecl) → c.is_inheritance_changed d d ≡ false
inheritance_self d = and_false (c.is_protocol d.kind) _ (not_false _ (set_self same_reference reference_self (c.inherited_by d.kind)))

overriding_self : (m : RModule) (d : RDecl) → c.is_overriding_changed m m d d ≡ false
unfolding c.is_overriding_changed
overriding_self m d = and_false _ _ (or_two _ _ (lost_self (is_open d)) (differs_self (c.is_closed m d)))

later_self : (r : Release) → is_later r r ≡ false
later_self r = or_two _ _ (ltb_self r.major) (and_false (r.major == r.major) (ltb r.minor r.minor) (ltb_self r.minor))

introduced_self : (attrs : List Attr) → is_introduced_later attrs attrs ≡ false
introduced_self attrs = none_in (λ (a : Attr). is_after attrs (release_of a.kind)) attrs (λ a i. and_false _ _ (not_all (λ (b : Attr). is_later (release_of a.kind) (release_of b.kind)) i (later_self (release_of a.kind))))

-- ---- by the sort

no_member : (b : Bool) (s : Sort) → (if b then sort.Requirement else sort.Member) ≡ s → (sort.Requirement ≡ s → ⊥) → (sort.Member ≡ s → ⊥) → ⊥
no_member true s e f g = f e
no_member false s e f g = g e

no_function : (o b : Bool) (s : Sort) → (if o then sort.Untried else if b then sort.Requirement else sort.Member) ≡ s → (sort.Untried ≡ s → ⊥) → (sort.Requirement ≡ s → ⊥) → (sort.Member ≡ s → ⊥) → ⊥
no_function true b s e u f g = u e
no_function false b s e u f g = no_member b s e f g

payload_self : (s : Standing) (o : Bool) (k : RDeclKind) → sort_by s o k ≡ sort.Case → c.same_payload k k ≡ true
payload_self s o (kind.Case ps) e = list_self c.same_value value_self ps
payload_self s o (kind.Function h) e = absurd (no_function o (is_demanded s) sort.Case e (λ x. cc) (λ x. cc) (λ x. cc))
payload_self s o (kind.Initialiser h) e = absurd (no_member (is_demanded s) sort.Case e (λ x. cc) (λ x. cc))
payload_self s o (kind.Property i t k) e = absurd (no_member (is_demanded s) sort.Case e (λ x. cc) (λ x. cc))
payload_self s o (kind.TypeAlias t) e = absurd cc
payload_self s o (kind.AssociatedType ps t) e = absurd cc
payload_self s o (kind.Nominal n u ps) e = absurd cc
payload_self s o (kind.Extension n t ps) e = absurd cc

association_self : (s : Standing) (o : Bool) (k : RDeclKind) → sort_by s o k ≡ sort.AssociatedType → c.is_association_changed k k ≡ false
association_self s o (kind.AssociatedType ps t) e = or_two _ _ (not_false _ (set_self same_reference reference_self ps)) (lost_self (c.is_there t))
association_self s o (kind.Function h) e = absurd (no_function o (is_demanded s) sort.AssociatedType e (λ x. cc) (λ x. cc) (λ x. cc))
association_self s o (kind.Initialiser h) e = absurd (no_member (is_demanded s) sort.AssociatedType e (λ x. cc) (λ x. cc))
association_self s o (kind.Property i t k) e = absurd (no_member (is_demanded s) sort.AssociatedType e (λ x. cc) (λ x. cc))
association_self s o (kind.TypeAlias t) e = absurd cc
association_self s o (kind.Case ps) e = absurd cc
association_self s o (kind.Nominal n u ps) e = absurd cc
association_self s o (kind.Extension n t ps) e = absurd cc

kind_self : (n : NominalKind) → same_kind n n ≡ true
kind_self nominal.Struct = refl
kind_self nominal.Enum = refl
kind_self nominal.Class = refl
kind_self nominal.Protocol = refl

type_kind_self : (s : Standing) (o : Bool) (k : RDeclKind) → sort_by s o k ≡ sort.Nominal → is_same_type_kind k k ≡ true
type_kind_self s o (kind.Nominal n u ps) e = kind_self n
type_kind_self s o (kind.Function h) e = absurd (no_function o (is_demanded s) sort.Nominal e (λ x. cc) (λ x. cc) (λ x. cc))
type_kind_self s o (kind.Initialiser h) e = absurd (no_member (is_demanded s) sort.Nominal e (λ x. cc) (λ x. cc))
type_kind_self s o (kind.Property i t k) e = absurd (no_member (is_demanded s) sort.Nominal e (λ x. cc) (λ x. cc))
type_kind_self s o (kind.TypeAlias t) e = absurd cc
type_kind_self s o (kind.AssociatedType ps t) e = absurd cc
type_kind_self s o (kind.Case ps) e = absurd cc
type_kind_self s o (kind.Extension n t ps) e = absurd cc

-- an extension is never tried
declared_by : (s : Standing) (o : Bool) (k : RDeclKind) → (sort_by s o k ≡ sort.Untried → ⊥) → (d : RDecl) → d.kind ≡ k → IsTrue (is_declared d)
declared_by s o (kind.Extension n t ps) tried d e = absurd (tried refl)
declared_by s o (kind.Function h) tried d e = rw e refl
declared_by s o (kind.Initialiser h) tried d e = rw e refl
declared_by s o (kind.Property i t k) tried d e = rw e refl
declared_by s o (kind.TypeAlias t) tried d e = rw e refl
declared_by s o (kind.AssociatedType ps t) tried d e = rw e refl
declared_by s o (kind.Case ps) tried d e = rw e refl
declared_by s o (kind.Nominal n u ps) tried d e = rw e refl

sort_self : (s : Sort) → same_sort s s ≡ true
sort_self sort.Nominal = refl
sort_self sort.Member = refl
sort_self sort.Requirement = refl
sort_self sort.AssociatedType = refl
sort_self sort.Case = refl
sort_self sort.Untried = refl

module _ (m : RModule) (fine : IsConsistent m) where
  found_self : (d : RDecl) → In d m.decls → (sort_of d ≡ sort.Untried → ⊥) → declared_as (sort_of d) m d.own ≡ Some d
  unfolding declared_as
  found_self d i tried =
      ap (if_sort (sort_of d)) (declared_some m d.own d fine.keys (record { number = number_in i; at = got_in i; sought = (declared_by d.standing (has_modifier modifier.Override d.modifiers) d.kind tried d refl, refl) }))
      ∙ ap (λ b. if b then Some d else None) (sort_self (sort_of d))

  -- ---- protocols

  protocol_is : (ps : List RProtocol) (k : Key) (x : RDefault) → ((p : RProtocol) → In p ps → In p m.protocols) → In x (protocol_in ps k) → c.is_there (declared_as sort.Requirement m x.requirement) ≡ true
  protocol_is [] k x all i = elim i [ ]
  protocol_is (p ∷ ps) k x all i = at (same_key p.key k) i (λ j. protocol_is ps k x (λ q l. all q (there l)) j)
    where
      at : (b : Bool) → In x (if b then p.defaults else protocol_in ps k) → (In x (protocol_in ps k) → c.is_there (declared_as sort.Requirement m x.requirement) ≡ true) → c.is_there (declared_as sort.Requirement m x.requirement) ≡ true
      at true i rest = fine.requirements p x (all p here) i
      at false i rest = rest i

  demands_self : (k : Key) → demands m m k ≡ []
  unfolding demands
  demands_self k = ap (map (λ (x : RDefault). between rule.RequirementWithoutDefault k x.requirement)) (filter_none (is_demanding m m) (protocol_in m.protocols k) (λ x i. ap (λ b. not b && not (has_public_default m x)) (protocol_is m.protocols k x (λ p j. j) i)))

  associated_sort : (a : RDecl) → is_associated a.kind ≡ true → sort_of a ≡ sort.AssociatedType
  associated_sort a e = by a.standing (has_modifier modifier.Override a.modifiers) a.kind e
    where
      by : (s : Standing) (o : Bool) (k : RDeclKind) → is_associated k ≡ true → sort_by s o k ≡ sort.AssociatedType
      by s o (kind.AssociatedType ps t) e = refl
      by s o (kind.Function h) e = absurd cc
      by s o (kind.Initialiser h) e = absurd cc
      by s o (kind.Property i t k) e = absurd cc
      by s o (kind.TypeAlias t) e = absurd cc
      by s o (kind.Case ps) e = absurd cc
      by s o (kind.Nominal n u ps) e = absurd cc
      by s o (kind.Extension n t ps) e = absurd cc

  not_untried : (s : Sort) → s ≡ sort.AssociatedType → s ≡ sort.Untried → ⊥
  not_untried s e f = absurd cc

  associations_self : (k : Key) → associations m m k ≡ []
  unfolding associations asks_more
  associations_self k = ap (map (λ (a : RDecl). between rule.AssociatedTypeChanged k a.own)) (filter_none (asks_more m k) m.decls (λ a i. at a i (is_associated a.kind) refl))
    where
      at : (a : RDecl) → In a m.decls → (b : Bool) → is_associated a.kind ≡ b → (((b && c.is_owned_by k (owner_of a)) && not (c.is_there (declared_as sort.AssociatedType m a.own))) && asks_more_by (has_namesake m k a) a.kind) ≡ false
      at a i false e = refl
      at a i true e =
          let s = associated_sort a e in
          let f = subst (λ z. declared_as z m a.own ≡ Some a) s (found_self a i (not_untried (sort_of a) s)) in
          ap (λ o. (c.is_owned_by k (owner_of a) && not (c.is_there o)) && asks_more_by (has_namesake m k a) a.kind) f
          ∙ ap (λ b. b && asks_more_by (has_namesake m k a) a.kind) (and_false (c.is_owned_by k (owner_of a)) false refl)

  protocol_self : (d : RDecl) → protocol_breaks m m d ≡ []
  unfolding protocol_breaks
  protocol_self d = at (c.is_protocol d.kind)
    where
      at : (b : Bool) → (if b then demands m m d.own ++ associations m m d.own else []) ≡ []
      at true = ap (λ l. l ++ associations m m d.own) (demands_self d.own) ∙ associations_self d.own
      at false = refl

  -- ---- declarations

  superclass_self : (d : RDecl) → type_in m d.own ≡ Some d → c.is_superclass_lost m d ≡ false
  unfolding c.is_ancestor c.is_above
  superclass_self d found = at (c.superclass_by d.kind) refl
    where
      here_up : c.superclass_in m d.own ≡ c.superclass_by d.kind
      here_up = ap (option_and_then (λ (x : RDecl). c.superclass_by x.kind)) found

      at : (o : Option Key) → c.superclass_by d.kind ≡ o → option_map_or (λ up. not (c.is_ancestor m up d.own)) o false ≡ false
      at None e = refl
      at (Some up) e = not_false _ (ap (λ z. c.is_above (suc (length m.decls)) m z up) (here_up ∙ e) ∙ ap (λ b. b || c.is_above (length m.decls) m (c.superclass_in m up) up) (same_key_refl up))

  step : (r : Rule) (rs : List Rule) (d : RDecl) → c.is_broken r m m d d ≡ false → broken_by rs m m d d ≡ [] → broken_by (r ∷ rs) m m d d ≡ []
  step r rs d e f = ap (λ b. if b then between r d.own d.own ∷ broken_by rs m m d d else broken_by rs m m d d) e ∙ f

  first_self : (s : Sort) (d : RDecl) → sort_of d ≡ s → declared_as s m d.own ≡ Some d → broken_by (first_rules s) m m d d ≡ []
  unfolding first_rules c.is_broken
  first_self sort.Nominal d is f =
      step rule.AccessLowered (rule.FrozenChanged ∷ rule.FrozenStorageChanged ∷ rule.FrozenCasesChanged ∷ rule.ClassFinalityChanged ∷ rule.SuperclassLost ∷ []) d (access_self d)
      (step rule.FrozenChanged (rule.FrozenStorageChanged ∷ rule.FrozenCasesChanged ∷ rule.ClassFinalityChanged ∷ rule.SuperclassLost ∷ []) d (differs_self (is_frozen d))
      (step rule.FrozenStorageChanged (rule.FrozenCasesChanged ∷ rule.ClassFinalityChanged ∷ rule.SuperclassLost ∷ []) d (and_false (c.is_struct d.kind) _ (layout_self m d))
      (step rule.FrozenCasesChanged (rule.ClassFinalityChanged ∷ rule.SuperclassLost ∷ []) d (and_false (c.is_enum d.kind) _ (layout_self m d))
      (step rule.ClassFinalityChanged (rule.SuperclassLost ∷ []) d (and_false (c.is_class d.kind) _ (differs_self (is_final d)))
      (step rule.SuperclassLost [] d (superclass_self d f) refl)))))
  first_self sort.Member d is f =
      step rule.AccessLowered (rule.SignatureChanged ∷ rule.PropertyChanged ∷ rule.OpenOrFinalChanged ∷ rule.IntroducedLater ∷ []) d (access_self d)
      (step rule.SignatureChanged (rule.PropertyChanged ∷ rule.OpenOrFinalChanged ∷ rule.IntroducedLater ∷ []) d (signature_self d)
      (step rule.PropertyChanged (rule.OpenOrFinalChanged ∷ rule.IntroducedLater ∷ []) d (property_self d.kind)
      (step rule.OpenOrFinalChanged (rule.IntroducedLater ∷ []) d (overriding_self m d)
      (step rule.IntroducedLater [] d (introduced_self d.attrs) refl))))
  first_self sort.Requirement d is f = step rule.RequirementChanged [] d (demand_self d) refl
  first_self sort.AssociatedType d is f =
      step rule.AssociatedTypeChanged (rule.IntroducedLater ∷ []) d (association_self d.standing (has_modifier modifier.Override d.modifiers) d.kind is)
      (step rule.IntroducedLater [] d (introduced_self d.attrs) refl)
  first_self sort.Case d is f = step rule.CaseChanged [] d (not_false _ (payload_self d.standing (has_modifier modifier.Override d.modifiers) d.kind is)) refl
  first_self sort.Untried d is f = refl

  last_self : (s : Sort) (d : RDecl) → broken_by (last_rules s) m m d d ≡ []
  unfolding last_rules c.is_broken
  last_self sort.Nominal d =
      step rule.InheritedProtocolsChanged (rule.IntroducedLater ∷ []) d (inheritance_self d)
      (step rule.IntroducedLater [] d (introduced_self d.attrs) refl)
  last_self sort.Member d = refl
  last_self sort.Requirement d = refl
  last_self sort.AssociatedType d = refl
  last_self sort.Case d = refl
  last_self sort.Untried d = refl

  compared_self : (d : RDecl) → declared_as (sort_of d) m d.own ≡ Some d → compared m m d d ≡ []
  unfolding compared
  compared_self d f =
      ap (λ l. (l ++ protocol_breaks m m d) ++ broken_by (last_rules (sort_of d)) m m d d) (first_self (sort_of d) d refl f)
      ∙ ap (λ l. l ++ broken_by (last_rules (sort_of d)) m m d d) (protocol_self d)
      ∙ last_self (sort_of d) d

  by_kind_self : (d : RDecl) → sort_of d ≡ sort.Nominal → declared_as (sort_of d) m d.own ≡ Some d → compared_by_kind m m d d ≡ []
  unfolding compared_by_kind c.is_broken
  by_kind_self d is f = ap (λ b. if b then between rule.KindChanged d.own d.own ∷ [] else compared m m d d) (not_false _ (type_kind_self d.standing (has_modifier modifier.Override d.modifiers) d.kind is)) ∙ compared_self d f

  to_self : (d : RDecl) → declared_as (sort_of d) m d.own ≡ Some d → compared_to m m d (Some d) ≡ []
  unfolding compared_to
  to_self d f = at (sort_of d) refl
    where
      at : (s : Sort) → sort_of d ≡ s → (if is_nominal s then compared_by_kind m m d d else compared m m d d) ≡ []
      at sort.Nominal is = by_kind_self d is f
      at sort.Member is = compared_self d f
      at sort.Requirement is = compared_self d f
      at sort.AssociatedType is = compared_self d f
      at sort.Case is = compared_self d f
      at sort.Untried is = compared_self d f

  not_tried : (d : RDecl) → is_tried m m d ≡ true → sort_of d ≡ sort.Untried → ⊥
  unfolding is_tried
  not_tried d t s = true≢false (sym t ∙ ap (λ z. is_tried_as z m m d && not (is_with_gone m m (owner_of d))) s)

  declaration_self : (d : RDecl) → In d m.decls → declaration_breaks m m d ≡ []
  unfolding declaration_breaks
  declaration_self d i = at (is_tried m m d) refl
    where
      at : (b : Bool) → is_tried m m d ≡ b → (if b then compared_to m m d (declared_as (sort_of d) m d.own) else []) ≡ []
      at false e = refl
      at true e = let f = found_self d i (not_tried d e) in ap (compared_to m m d) f ∙ to_self d f

  -- ---- conformances

  witnesses_self : (a : RConformance) → keeps_types a a ≡ true
  witnesses_self a = every_in (λ (x : RTypeWitness). list_any (λ y. same_witness x y) a.types) a.types (λ x i. some_in (λ (y : RTypeWitness). same_witness x y) i (joined (bytes_self x.name) (type_self x.ty)))

  conformance_is : (cs : List RConformance) (k p : Key) (a : RConformance) → conformance_of cs k p ≡ Some a → In a cs
  conformance_is [] k p a e = absurd cc
  conformance_is (x ∷ xs) k p a e = at (is_conformance_to k p x) e (conformance_is xs k p a)
    where
      is_some : {u v : RConformance} → Some u ≡ Some v → u ≡ v
      is_some e = cc

      at : (b : Bool) → (if b then Some x else conformance_of xs k p) ≡ Some a → (conformance_of xs k p ≡ Some a → In a xs) → In a (x ∷ xs)
      at true e rest = subst (λ z. In z (x ∷ xs)) (is_some e) here
      at false e rest = there (rest e)

  conformance_self : (k : Key) (p : RReference) → conformance_breaks m m k p ≡ []
  unfolding conformance_breaks
  conformance_self k p = at (conformance_of m.conformances k p.key) refl
    where
      compared : (a : RConformance) → In a m.conformances → compared_conformance m a (conformance_in m a.key) ≡ []
      compared a i =
          ap (compared_conformance m a) (conformance_some m a.key a fine.keys (record { number = number_in i; at = got_in i; sought = (refl, refl) }))
          ∙ ap (λ b. if b then [] else between rule.ConformanceChanged a.key a.key ∷ []) (witnesses_self a)

      at : (o : Option RConformance) → conformance_of m.conformances k p.key ≡ o → option_map_or (λ (a : RConformance). compared_conformance m a (conformance_in m a.key)) o [] ≡ []
      at None e = refl
      at (Some a) e = compared a (conformance_is m.conformances k p.key a e)

  header_all : (d : RDecl) → header_breaks m m d ≡ []
  unfolding header_breaks
  header_all d = at (is_gone m m d.own)
    where
      at : (b : Bool) → (if b then [] else flat_map (conformance_breaks m m d.own) (conforms_to d.kind)) ≡ []
      at true = refl
      at false = each_none (conformance_breaks m m d.own) (conforms_to d.kind) (λ p i. conformance_self d.own p)

  one_self : (d : RDecl) → In d m.decls → breaks_of m m d ≡ []
  unfolding breaks_of
  one_self d i = ap (λ l. l ++ header_breaks m m d) (declaration_self d i) ∙ header_all d

  all_self : broken_rules m m ≡ []
  unfolding broken_rules
  all_self = ap (λ b. if b then all_breaks m m else module_break ∷ []) (bytes_self m.name) ∙ each_none (breaks_of m m) m.decls one_self

pub keeps_itself : KeepsItself
keeps_itself m fine = all_self m fine
