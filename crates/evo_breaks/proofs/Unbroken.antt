-- Where no rule is broken, none is broken by any declaration.
use Rattle.std.proofs.Common.{◌≡◌, Bool, true, false, not, ◌&&◌, List, [], ◌∷◌, ◌++◌, flat_map, Option, Some, None, refl, sym, ap, ◌∙◌, subst, if◌then◌else◌, bytes_eq}
use Rattle.std.proofs.Math.Bool.{true≢false}
use Rattle.evo_base.specs.declared.key.Key.{Key}
use Rattle.evo_resolved.specs.declared.declaration.RDecl.{RDecl}
use Rattle.evo_resolved.specs.declared.declaration.RDeclKind.{RDeclKind}
use Rattle.evo_resolved.specs.declared.resolved_type.RReference.{RReference}
use Rattle.evo_resolved.specs.declared.module.RModule.{RModule}
use Rattle.evo_resolved.specs.Named.{decl_key, is_declared}
use Rattle.evo_meaning.specs.Keys.{same_key, look_up}
use Rattle.evo_meaning.proofs.SameKey.{left, right, one_key}
use Rattle.evo_breaks.specs.declared.sort.Sort.{Sort}
use Rattle.evo_breaks.specs.declared.sort.Sort.TheVariants as sort
use Rattle.evo_breaks.specs.declared.rule.Rule.TheVariants as rule
use Rattle.evo_breaks.specs.Found.{owner_of, sort_of, same_sort, if_sort, declared, declared_as, type_in, is_same_type_kind, is_gone_as, is_gone, is_with_gone}
use Rattle.evo_breaks.specs.Conditions.{is_broken}
use Rattle.evo_breaks.specs.Rules.{between, is_nominal, compared, compared_by_kind, compared_to, is_tried_as, is_tried, declaration_breaks, conforms_to, conformance_breaks, header_breaks, breaks_of, all_breaks, module_break, broken_rules}
use Rattle.evo_breaks.specs.Laws.{In, here, there, HasTypesAtTop, IsUnbroken, EachUnbroken}
use Rattle.evo_breaks.proofs.Nothing.{left_nil, right_nil}

-- one of a list of which nothing is made
pub each_nil : {A B : Type 0} (f : A → List B) {x : A} {l : List A} → In x l → flat_map f l ≡ [] → f x ≡ []
each_nil f (here {x = x} {xs = xs}) e = left_nil (f x) (flat_map f xs) e
each_nil f (there {y = y} {xs = xs} i) e = each_nil f i (right_nil (f y) (flat_map f xs) e)

-- what is looked up is in the list, and has the key
pub looked_up : (l : List RDecl) (k : Key) (d : RDecl) → look_up decl_key is_declared l k ≡ Some d → In d l × (d.own ≡ k)
unfolding look_up
looked_up [] k d e = absurd cc
looked_up (x ∷ xs) k d e = at (is_declared x && same_key x.own k) refl e (looked_up xs k d)
  where
    is_some : {a b : RDecl} → Some a ≡ Some b → a ≡ b
    is_some e = cc

    at : (b : Bool) → (is_declared x && same_key x.own k) ≡ b → (if b then Some x else look_up decl_key is_declared xs k) ≡ Some d → (look_up decl_key is_declared xs k ≡ Some d → In d xs × (d.own ≡ k)) → In d (x ∷ xs) × (d.own ≡ k)
    at true t e rec = (subst (λ z. In z (x ∷ xs)) (is_some e) here, subst (λ z. z.own ≡ k) (is_some e) (one_key x.own k (right (is_declared x) (same_key x.own k) t)))
    at false t e rec = let r = rec e in (there r.0, r.1)

is_sort : (a b : Sort) → same_sort a b ≡ true → a ≡ b
is_sort sort.Nominal sort.Nominal e = refl
is_sort sort.Member sort.Member e = refl
is_sort sort.Requirement sort.Requirement e = refl
is_sort sort.AssociatedType sort.AssociatedType e = refl
is_sort sort.Case sort.Case e = refl
is_sort sort.Untried sort.Untried e = refl
is_sort sort.Nominal sort.Member e = cc
is_sort sort.Nominal sort.Requirement e = cc
is_sort sort.Nominal sort.AssociatedType e = cc
is_sort sort.Nominal sort.Case e = cc
is_sort sort.Nominal sort.Untried e = cc
is_sort sort.Member sort.Nominal e = cc
is_sort sort.Member sort.Requirement e = cc
is_sort sort.Member sort.AssociatedType e = cc
is_sort sort.Member sort.Case e = cc
is_sort sort.Member sort.Untried e = cc
is_sort sort.Requirement sort.Nominal e = cc
is_sort sort.Requirement sort.Member e = cc
is_sort sort.Requirement sort.AssociatedType e = cc
is_sort sort.Requirement sort.Case e = cc
is_sort sort.Requirement sort.Untried e = cc
is_sort sort.AssociatedType sort.Nominal e = cc
is_sort sort.AssociatedType sort.Member e = cc
is_sort sort.AssociatedType sort.Requirement e = cc
is_sort sort.AssociatedType sort.Case e = cc
is_sort sort.AssociatedType sort.Untried e = cc
is_sort sort.Case sort.Nominal e = cc
is_sort sort.Case sort.Member e = cc
is_sort sort.Case sort.Requirement e = cc
is_sort sort.Case sort.AssociatedType e = cc
is_sort sort.Case sort.Untried e = cc
is_sort sort.Untried sort.Nominal e = cc
is_sort sort.Untried sort.Member e = cc
is_sort sort.Untried sort.Requirement e = cc
is_sort sort.Untried sort.AssociatedType e = cc
is_sort sort.Untried sort.Case e = cc

-- what is found as a sort is in the list, has the key, and is of the sort
pub found_as : (s : Sort) (m : RModule) (k : Key) (d : RDecl) → declared_as s m k ≡ Some d → In d m.decls × (d.own ≡ k) × (sort_of d ≡ s)
unfolding declared_as declared
found_as s m k d e = at (look_up decl_key is_declared m.decls k) refl e
  where
    is_some : {a b : RDecl} → Some a ≡ Some b → a ≡ b
    is_some e = cc

    tested : (x : RDecl) (b : Bool) → same_sort s (sort_of x) ≡ b → look_up decl_key is_declared m.decls k ≡ Some x → (if b then Some x else None) ≡ Some d → In d m.decls × (d.own ≡ k) × (sort_of d ≡ s)
    tested x true t is e = let r = looked_up m.decls k x is in subst (λ z. In z m.decls × (z.own ≡ k) × (sort_of z ≡ s)) (is_some e) (r.0, r.1, sym (is_sort s (sort_of x) t))
    tested x false t is e = absurd cc

    at : (o : Option RDecl) → look_up decl_key is_declared m.decls k ≡ o → if_sort s o ≡ Some d → In d m.decls × (d.own ≡ k) × (sort_of d ≡ s)
    at None is e = absurd cc
    at (Some x) is e = tested x (same_sort s (sort_of x)) refl is e

module _ (old new : RModule) (tops : HasTypesAtTop old) (unbroken : broken_rules old new ≡ []) where
  all : all_breaks old new ≡ []
  unfolding broken_rules
  all = at (bytes_eq old.name new.name) unbroken
    where
      at : (b : Bool) → (if b then all_breaks old new else module_break ∷ []) ≡ [] → all_breaks old new ≡ []
      at true e = e
      at false e = absurd cc

  parts : (d : RDecl) → In d old.decls → (declaration_breaks old new d ≡ []) × (header_breaks old new d ≡ [])
  unfolding breaks_of
  parts d i = let e = each_nil (breaks_of old new) i all in (left_nil (declaration_breaks old new d) (header_breaks old new d) e, right_nil (declaration_breaks old new d) (header_breaks old new d) e)

  tried : (d : RDecl) → In d old.decls → is_tried old new d ≡ true → compared_to old new d (declared_as (sort_of d) new d.own) ≡ []
  unfolding declaration_breaks
  tried d i t = subst (λ b. (if b then compared_to old new d (declared_as (sort_of d) new d.own) else []) ≡ []) t (parts d i).0

  -- a type that breaks nothing is there, as the same kind
  kept : (d : RDecl) (s : Sort) (o : Option RDecl) → sort_of d ≡ s → is_nominal s ≡ true → compared_to old new d o ≡ [] → is_gone_as (Some d) o ≡ false
  unfolding compared_to compared_by_kind is_broken
  kept d s None is n e = absurd cc
  kept d s (Some x) is n e = at (is_same_type_kind d.kind x.kind) (subst (λ z. is_nominal z ≡ true) (sym is) n) e
    where
      by_kind : (b : Bool) → (if not b then between rule.KindChanged d.own x.own ∷ [] else compared old new d x) ≡ [] → not b ≡ false
      by_kind true e = refl
      by_kind false e = absurd cc

      at : (b : Bool) → is_nominal (sort_of d) ≡ true → (if is_nominal (sort_of d) then (if not b then between rule.KindChanged d.own x.own ∷ [] else compared old new d x) else compared old new d x) ≡ [] → not b ≡ false
      at b t e = by_kind b (subst (λ z. (if z then (if not b then between rule.KindChanged d.own x.own ∷ [] else compared old new d x) else compared old new d x) ≡ []) t e)

  is_top : (d : RDecl) → sort_of d ≡ sort.Nominal → owner_of d ≡ None → is_tried old new d ≡ true
  unfolding is_tried
  is_top d s o = ap (λ z. is_tried_as z old new d && not (is_with_gone old new (owner_of d))) s ∙ ap (λ z. not (is_with_gone old new z)) o

  stays : (k : Key) → is_gone old new k ≡ false
  unfolding is_gone
  stays k = at (type_in old k) refl
    where
      at : (o : Option RDecl) → type_in old k ≡ o → is_gone_as o (type_in new k) ≡ false
      at None is = refl
      at (Some d) is =
          let f = found_as sort.Nominal old k d is in
          let top = tops d f.0 f.2 in
          let t = is_top d f.2 top in
          let c = subst (λ s. compared_to old new d (declared_as s new d.own) ≡ []) f.2 (tried d f.0 t) in
          subst (λ z. is_gone_as (Some d) (type_in new z) ≡ false) f.1 (kept d sort.Nominal (type_in new d.own) f.2 refl c)

  not_with : (o : Option Key) → is_with_gone old new o ≡ false
  not_with None = refl
  not_with (Some k) = stays k

  is_tried_so : (d : RDecl) → is_tried_as (sort_of d) old new d ≡ true → is_tried old new d ≡ true
  unfolding is_tried
  is_tried_so d t = ap (λ z. z && not (is_with_gone old new (owner_of d))) t ∙ ap not (not_with (owner_of d))

  is_compared : (d : RDecl) → In d old.decls → is_tried_as (sort_of d) old new d ≡ true → compared_to old new d (declared_as (sort_of d) new d.own) ≡ []
  is_compared d i t = tried d i (is_tried_so d t)

  conforming : (d : RDecl) → In d old.decls → (p : RReference) → In p (conforms_to d.kind) → conformance_breaks old new d.own p ≡ []
  unfolding header_breaks
  conforming d i p j = each_nil (conformance_breaks old new d.own) j (subst (λ b. (if b then [] else flat_map (conformance_breaks old new d.own) (conforms_to d.kind)) ≡ []) (stays d.own) (parts d i).1)

pub each_unbroken : EachUnbroken
each_unbroken old new tops unbroken d i = record { stays = stays old new tops unbroken; compared = is_compared old new tops unbroken d i; conformances = conforming old new tops unbroken d i }
