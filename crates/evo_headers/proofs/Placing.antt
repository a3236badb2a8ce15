-- A declaration without a key stands in an extension of what is no type, or is one.
use Rattle.std.proofs.Common.{◌≡◌, Bool, true, false, Option, Some, None, if◌then◌else◌, refl, sym, ap, subst, ◌∙◌}
use Rattle.std.specs.Option.{option_and_then, option_map, option_or}
use Rattle.evo_base.specs.declared.place.Place.{Place}
use Rattle.evo_base.specs.declared.key.Key.{Key}
use Rattle.evo_base.specs.declared.key.Mark.TheVariants as mark
use Rattle.evo_tree.specs.declared.name.TypeName.{TypeName}
use Rattle.evo_tree.specs.declared.declaration.DeclKind.TheOpen as de
use Rattle.evo_names.specs.Listed.{Text, Within, top, braces, extension, Kind, Entry, World, Declaration, name_of, name_by, overrides}
use Rattle.evo_names.specs.Meets.{key_by_name}
use Rattle.evo_names.specs.Heads.{Head, head_of, owner_of}
use Rattle.evo_names.specs.Keys.{behind, body_key, context_of, declared_name, declared_name_by, key_of, own_key, root_of}
use Rattle.evo_names.specs.Bodies.{owner_key}
use Rattle.evo_names.specs.Faults.{scope_of}
use Rattle.evo_names.specs.Resolved.{IsDeclared, IsKind, declared_in, standing_of}
use Rattle.evo_resolved.specs.declared.declaration.RDeclKind.{RDeclKind}
use Rattle.evo_headers.specs.declared.declared.Placed.{Placed}
use Rattle.evo_headers.specs.DeclaredParts.{IsPlaced, assembled_of}
use Rattle.evo_headers.specs.Unresolved.{IsUnresolved, extended, outside}

map_none : {A B : Type 0} (f : A → B) (o : Option A) → option_map f o ≡ None → o ≡ None
map_none f None e = refl
map_none f (Some x) e = absurd cc

or_none : {A : Type 0} (o p : Option A) → option_or o p ≡ None → p ≡ None
or_none None p e = e
or_none (Some x) p e = absurd cc

-- it stands in an extension of what is none
record Outside (w : World) (within : Within) : Type 0 where
  type : TypeName
  is : within ≡ extension type
  none : head_of w type.names ≡ None

no_context : (w : World) (within : Within) → context_of w within ≡ None → Outside w within
no_context w top e = absurd cc
no_context w (braces k n) e = absurd cc
no_context w (extension t) e = record { type = t; is = refl; none = map_none _ (head_of w t.names) e }

no_standing : (w : World) (within : Within) → standing_of w within ≡ None → Outside w within
no_standing w top e = absurd cc
no_standing w (braces k n) e = absurd cc
no_standing w (extension t) e = record { type = t; is = refl; none = map_none _ (head_of w t.names) e }

stands_outside : (d : Declaration) → Outside d.world d.entry.within → IsUnresolved d
stands_outside d o = outside o.is o.none

pub without_standing : (d : Declaration) → standing_of d.world d.entry.within ≡ None → IsUnresolved d
without_standing d e = stands_outside d (no_standing d.world d.entry.within e)

-- what has a name
named : (d : Declaration) (x : Place × Text) → name_of d.entry ≡ Some x → own_key d ≡ None → IsUnresolved d
unfolding declared_name
named d x e own =
    let inside : option_and_then (λ name. option_map (declared_name_by d.world d.entry name) (context_of d.world d.entry.within)) (name_of d.entry) ≡ None = map_none key_by_name (declared_name d) own in
    let context = subst (λ (o : Option (Place × Text)). option_and_then (λ name. option_map (declared_name_by d.world d.entry name) (context_of d.world d.entry.within)) o ≡ None) e inside in
    stands_outside d (no_context d.world d.entry.within (map_none (declared_name_by d.world d.entry x) (context_of d.world d.entry.within) context))

no_body_key : (d : Declaration) (b : Bool) → (if b then option_map (λ k. behind k mark.Override) (own_key d) else own_key d) ≡ None → own_key d ≡ None
no_body_key d true e = map_none (λ k. behind k mark.Override) (own_key d) e
no_body_key d false e = e

without_body_key : (d : Declaration) (x : Place × Text) → name_of d.entry ≡ Some x → body_key d ≡ None → IsUnresolved d
without_body_key d x e own = named d x e (no_body_key d (overrides d.entry) own)

no_function_key : (d : Declaration) (b : Bool) (o : Option Key) → (if b then option_or o (body_key d) else own_key d) ≡ None → own_key d ≡ None
no_function_key d true o e = no_body_key d (overrides d.entry) (or_none o (body_key d) e)
no_function_key d false o e = e

name_is : (d : Declaration) (k : Kind) → d.entry.kind ≡ k → name_of d.entry ≡ name_by d.entry.place k
name_is d k is = ap (name_by d.entry.place) is

-- by what is declared
key_by : Declaration → Kind → Option Key
key_by d k = elim k [
  | de.Function i h b ↦ if overrides d.entry then option_or (option_and_then own_key (root_of d)) (body_key d) else own_key d
  | de.Initialiser h b ↦ own_key d
  | de.Property k i t a ↦ own_key d
  | de.TypeAlias i t ↦ own_key d
  | de.AssociatedType i ts t ↦ own_key d
  | de.Case i ps ↦ own_key d
  | de.Nominal k i ts ds ↦ own_key d
  | de.Extension t ts ds ↦ option_map (λ (h : Head). h.key) (owner_of d.world (extension t))
]

key_is : (d : Declaration) → key_of d ≡ key_by d d.entry.kind
unfolding key_of key_by
key_is d = refl

without_key_by : (d : Declaration) (k : Kind) → d.entry.kind ≡ k → key_by d k ≡ None → IsUnresolved d
unfolding key_by
without_key_by d (de.Function i h b) is e = named d _ (name_is d _ is) (no_function_key d (overrides d.entry) (option_and_then own_key (root_of d)) e)
without_key_by d (de.Initialiser h b) is e = named d _ (name_is d _ is) e
without_key_by d (de.Property k i t a) is e = named d _ (name_is d _ is) e
without_key_by d (de.TypeAlias i t) is e = named d _ (name_is d _ is) e
without_key_by d (de.AssociatedType i ts t) is e = named d _ (name_is d _ is) e
without_key_by d (de.Case i ps) is e = named d _ (name_is d _ is) e
without_key_by d (de.Nominal k i ts ds) is e = named d _ (name_is d _ is) e
without_key_by d (de.Extension t ts ds) is e = extended is (map_none (λ (h : Head). h.key) (head_of d.world t.names) e)

pub without_key : (d : Declaration) → key_of d ≡ None → IsUnresolved d
without_key d e = without_key_by d d.entry.kind refl (sym (key_is d) ∙ e)

without_owner_by : (d : Declaration) (k : Kind) → d.entry.kind ≡ k → owner_key d k ≡ None → IsUnresolved d
without_owner_by d (de.Function i h b) is e = without_body_key d _ (name_is d _ is) e
without_owner_by d (de.Initialiser h b) is e = without_body_key d _ (name_is d _ is) e
without_owner_by d (de.Property k i t a) is e = without_body_key d _ (name_is d _ is) e
without_owner_by d (de.TypeAlias i t) is e = without_body_key d _ (name_is d _ is) e
without_owner_by d (de.AssociatedType i ts t) is e = without_body_key d _ (name_is d _ is) e
without_owner_by d (de.Case i ps) is e = without_body_key d _ (name_is d _ is) e
without_owner_by d (de.Nominal k i ts ds) is e = without_body_key d _ (name_is d _ is) e
without_owner_by d (de.Extension t ts ds) is e = without_key d e

pub without_owner : (d : Declaration) → owner_key d d.entry.kind ≡ None → IsUnresolved d
without_owner d e = without_owner_by d d.entry.kind refl e

-- ---- the whole

pub scope_home : (d : Declaration) → (scope_of d).home ≡ d.world
unfolding scope_of
scope_home d = refl

pub declared_is : (w v : World) (e : Entry) (p : Placed) (k : RDeclKind) → w ≡ v → IsPlaced (declared_in w e) p → IsKind (declared_in v e) e.kind k → IsDeclared (declared_in v e) (assembled_of e p k)
declared_is w v e p k same a b = by (subst (λ (w : World). IsPlaced (declared_in w e) p) same a)
  where
    by : IsPlaced (declared_in v e) p → IsDeclared (declared_in v e) (assembled_of e p k)
    by a = record { place = refl; name = refl; key = a.key; own = a.own; standing = a.standing; attrs = a.attrs; modifiers = a.modifiers; kind = b }
