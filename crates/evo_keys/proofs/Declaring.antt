-- The declaration of a type is among those of its name.
use Rattle.std.proofs.Common.{◌≡◌, List, [], ◌∷◌, map, Bool, true, false, ◌&&◌, Option, Some, None, if◌then◌else◌, refl, sym, ap, ap₂, ◌∙◌}
use Rattle.std.specs.Option.{option_and_then, option_map_or, option_or}
use Rattle.std.specs.Str.{bytes_eq}
use Rattle.evo_base.specs.declared.key.Key.{Key}
use Rattle.evo_tree.specs.declared.declaration.DeclKind.TheOpen as de
use Rattle.evo_declarations.specs.declared.listed.Listed.{Listed}
use Rattle.evo_declarations.specs.Groups.{numbers_of}
use Rattle.evo_declarations.specs.Texts.{type_text, listed_type_text}
use Rattle.evo_declarations.specs.Views.{entry_view}
use Rattle.evo_declarations.proofs.ByGroup.{by_group}
use Rattle.evo_declarations.proofs.HeadsInGroups.{other_way}
use Rattle.evo_names.specs.Listed.{Kind, Entry, Listing, World, Declaration, alone, own_declarations, declarations}
use Rattle.evo_names.specs.Meets.{same_name}
use Rattle.evo_names.specs.Heads.{declaration_of, declares, first_some, first_that}
use Rattle.evo_names.specs.Resolved.{declared_in}
use Rattle.evo_keys.specs.Types.{in_both, declared_by, declared_at_number, first_declared}
use Rattle.evo_keys.proofs.Firsts.{first_append, first_map}

-- a test over all declarations is one over the import's, and then one over the module's own
pub first_in_both : (p : Declaration → Bool) (w : World) → first_that p (declarations w) ≡ in_both (λ v. first_some (λ (e : Entry). if p (declared_in v e) then Some (declared_in v e) else None) v.own.entries) w
unfolding declarations
first_in_both p w = first_append p (option_map_or (λ (m : Listing). own_declarations (alone m)) w.imported []) (own_declarations w) ∙ ap₂ option_or (imported w.imported) (first_map p (declared_in w) w.own.entries)
  where
    imported : (o : Option Listing) → first_that p (option_map_or (λ (m : Listing). own_declarations (alone m)) o []) ≡ option_and_then (λ (m : Listing). first_some (λ (e : Entry). if p (declared_in (alone m) e) then Some (declared_in (alone m) e) else None) m.entries) o
    imported None = refl
    imported (Some m) = first_map p (declared_in (alone m)) m.entries

pub declared_is : (w : World) (k : Key) → declaration_of w k ≡ in_both (first_declared k) w
unfolding declaration_of
declared_is w k = first_in_both (λ (d : Declaration). declares k d d.entry.kind) w

and_false : (b : Bool) → (b && false) ≡ false
and_false true = refl
and_false false = refl

same_texts : (ls : List Listed) → map listed_type_text ls ≡ map (λ (e : Entry). type_text e.kind) (map entry_view ls)
same_texts [] = refl
same_texts (l ∷ ls) = ap (λ ts. listed_type_text l ∷ ts) (same_texts ls)

not_declared : (w : World) (k : Key) (e : Entry) (kind : Kind) → bytes_eq k.base (type_text kind) ≡ false → declares k (declared_in w e) kind ≡ false
not_declared w k e (de.Nominal n i ts ds) is = let other : same_name i.text k.base ≡ false = other_way k.base i.text is in rw other (and_false (same_name w.own.name k.module))
not_declared w k e kind is = refl

only : (w : World) (k : Key) (e : Entry) → bytes_eq k.base (type_text e.kind) ≡ false → declared_by w k e ≡ None
only w k e is = ap (λ (b : Bool). if b then Some (declared_in w e) else None) (not_declared w k e e.kind is)

pub in_group : (w : World) (k : Key) (ls : List Listed) → w.own.entries ≡ map entry_view ls → first_declared k w ≡ first_some (declared_at_number w k) (numbers_of k.base (map listed_type_text ls))
in_group w k ls is = by_group (declared_by w k) (λ (e : Entry). type_text e.kind) k.base (only w k) w.own.entries ∙ ap (λ ts. first_some (declared_at_number w k) (numbers_of k.base ts)) (ap (map (λ (e : Entry). type_text e.kind)) is ∙ sym (same_texts ls))
