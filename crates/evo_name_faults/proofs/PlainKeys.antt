-- The key of what a name finds says its module and its name, and no more.
use Rattle.std.proofs.Common.{◌≡◌, List, [], ◌∷◌, Option, Some, None, Bool, true, false, codes, refl, sym, ap, ap₂, subst, ◌∙◌, if◌then◌else◌, ◌&&◌}
use Rattle.std.specs.Option.{option_or, option_and_then}
use Rattle.std.proofs.lemmas.Slice.Eq.{bytes_eq-Decides}
use Rattle.evo_base.specs.declared.key.Key.{Key}
use Rattle.evo_tree.specs.declared.name.TypeName.{TypeName}
use Rattle.evo_tree.specs.declared.declaration.NominalKind.TheVariants as nominal
use Rattle.evo_tree.specs.declared.declaration.DeclKind.TheOpen as de
use Rattle.evo_names.specs.Listed.{Text, Kind, Entry, Listing, World}
use Rattle.evo_names.specs.Meets.{same_name}
use Rattle.evo_names.specs.Seen.{Viewpoint, is_seen, written_level, same_type, public_level}
use Rattle.evo_names.specs.Heads.{Head, first_some, type_key, top_shown, head_by, head_in, top_view, is_language_type, language_type, named, import_named, qualified, unless_some, head_of, is_protocol, protocol_named}

abbrev pub IsPlain : Key → Type 0
IsPlain k = k ≡ type_key k.module k.base

record Plain (o : Option Head) : Type 0 where
  each : (h : Head) → o ≡ Some h → IsPlain h.key

plain_some : (h : Head) → IsPlain h.key → Plain (Some h)
plain_some h k = record { each = λ x e. (let same : h ≡ x = cc in subst (λ (y : Head). IsPlain y.key) same k) }

plain_none : Plain None
plain_none = record { each = λ x e. absurd cc }

plain_if : (b : Bool) (o : Option Head) → Plain o → Plain (if b then o else None)
plain_if true o p = p
plain_if false o p = plain_none

plain_or : (o r : Option Head) → Plain o → Plain r → Plain (option_or o r)
plain_or (Some h) r p q = p
plain_or None r p q = q

plain_then : {A : Type 0} (f : A → Option Head) (o : Option A) → ((a : A) → Plain (f a)) → Plain (option_and_then f o)
plain_then f (Some a) p = p a
plain_then f None p = plain_none

plain_first : {A : Type 0} (f : A → Option Head) (xs : List A) → ((a : A) → Plain (f a)) → Plain (first_some f xs)
plain_first f [] p = plain_none
plain_first f (x ∷ xs) p = plain_or (f x) (first_some f xs) (p x) (plain_first f xs p)

plain_by : (v : Viewpoint) (m n : Text) (e : Entry) (k : Kind) → Plain (head_by v m n e k)
plain_by v m n e (de.Nominal k i ts ds) = plain_if _ _ (plain_some (record { key = type_key m n; kind = k; level = written_level e }) refl)
plain_by v m n e k = plain_none

plain_in : (v : Viewpoint) (m : Listing) (n : Text) → Plain (head_in v m n)
plain_in v m n = plain_first (λ (e : Entry). head_by v m.name n e e.kind) m.entries (λ e. plain_by v m.name n e e.kind)

plain_language : (n : Text) → Plain (language_type n)
plain_language n = plain_if (is_language_type n) _ (plain_some (record { key = type_key (codes "Swift") n; kind = nominal.Struct; level = public_level }) refl)

plain_named : (w : World) (n : Text) → Plain (named w n)
unfolding named
plain_named w n = plain_or (head_in (top_view w) w.own n) _ (plain_in (top_view w) w.own n) (plain_or _ (language_type n) (plain_then (λ m. head_in (top_view w) m n) w.imported (λ m. plain_in (top_view w) m n)) (plain_language n))

plain_choice : (b : Bool) (o r : Option Head) → Plain o → Plain r → Plain (if b then o else r)
plain_choice true o r p q = p
plain_choice false o r p q = q

plain_qualified : (w : World) (m n : Text) → Plain (qualified w m n)
unfolding qualified
plain_qualified w m n = plain_choice (same_name w.own.name m) _ _ (plain_in (top_view w) w.own n) (plain_or _ _ (plain_then (λ i. head_in (top_view w) i n) (import_named w m) (λ i. plain_in (top_view w) i n)) (plain_if (same_name m (codes "Swift")) (language_type n) (plain_language n)))

plain_unless : (o r : Option Head) → Plain r → Plain (unless_some o r)
plain_unless None r p = p
plain_unless (Some a) r p = plain_none

plain_head : (w : World) (ns : List Text) → Plain (head_of w ns)
plain_head w [] = plain_none
plain_head w (n ∷ []) = plain_named w n
plain_head w (m ∷ n ∷ []) = plain_unless (named w m) (qualified w m n) (plain_qualified w m n)
plain_head w (m ∷ n ∷ o ∷ rest) = plain_none

of_head : (o : Option Head) (p : Key) → Plain o → option_and_then (λ (h : Head). if is_protocol h.kind then Some h.key else None) o ≡ Some p → IsPlain p
of_head None p each e = absurd cc
of_head (Some h) p each e = by (is_protocol h.kind) e
  where
    by : (b : Bool) → (if b then Some h.key else None) ≡ Some p → IsPlain p
    by true f = let same : h.key ≡ p = cc in subst IsPlain same (each.each h refl)
    by false f = absurd cc

pub plain_protocol : (w : World) (t : TypeName) (p : Key) → protocol_named w t ≡ Some p → IsPlain p
plain_protocol w t p e = of_head (head_of w t.names) p (plain_head w t.names) e

-- ---- the same type

and_parts : (m n : Bool) → (m && n) ≡ true → (m ≡ true) × (n ≡ true)
and_parts true n e = (refl, e)
and_parts false n e = absurd cc

pub same_parts : (a b : Key) → same_type a b ≡ true → (a.module ≡ b.module) × (a.base ≡ b.base)
same_parts a b e =
    let both = and_parts (same_name a.module b.module) (same_name a.base b.base) e in
    ((bytes_eq-Decides a.module b.module).0 both.0, (bytes_eq-Decides a.base b.base).0 both.1)

pub one_key : (p q : Key) → IsPlain p → IsPlain q → same_type p q ≡ true → p ≡ q
one_key p q a b e = let parts = same_parts p q e in a ∙ ap₂ type_key parts.0 parts.1 ∙ sym b

pub same_itself : (a b : Key) → a.module ≡ b.module → a.base ≡ b.base → same_type a b ≡ true
same_itself a b m n =
    let x : same_name a.module b.module ≡ true = (bytes_eq-Decides a.module b.module).1 m in
    let y : same_name a.base b.base ≡ true = (bytes_eq-Decides a.base b.base).1 n in
    rw (x, y) refl
