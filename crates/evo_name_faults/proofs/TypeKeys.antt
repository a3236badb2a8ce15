-- Whether a key is that of a type is told by the first declaration of its name.
use Rattle.std.proofs.Common.{◌≡◌, ℕ, List, [], ◌∷◌, ◌++◌, map, Option, Some, None, Bool, true, false, refl, sym, ap, ◌∙◌, slice_get, if◌then◌else◌, ◌&&◌}
use Rattle.std.specs.Option.{option_map, option_map_or, option_or, option_and_then}
use Rattle.std.specs.Str.{bytes_eq}
use Rattle.evo_base.specs.declared.key.Key.{Key}
use Rattle.evo_tree.specs.declared.declaration.DeclKind.TheOpen as de
use Rattle.evo_names.specs.Listed.{Text, Kind, Entry, Listing, World, Declaration, alone, declarations, own_declarations, imported_declarations}
use Rattle.evo_names.specs.Heads.{first_some, first_that, declares, declaration_of}
use Rattle.evo_names.specs.Faults.{is_type, is_type_key}
use Rattle.evo_declarations.specs.declared.listed.Listed.{Listed}
use Rattle.evo_declarations.specs.Views.{entry_view}
use Rattle.evo_declarations.specs.Groups.{numbers_of}
use Rattle.evo_declarations.specs.Texts.{type_text, listed_type_text}
use Rattle.evo_declarations.proofs.ByGroup.{by_group}
use Rattle.evo_declarations.proofs.HeadsInGroups.{entry_text, other_way}
use Rattle.evo_name_faults.specs.Conformances.{type_by, type_in, imported_type}

-- ---- by name

same_texts : (ls : List Listed) → map listed_type_text ls ≡ map entry_text (map entry_view ls)
same_texts [] = refl
same_texts (l ∷ ls) = ap (λ ts. listed_type_text l ∷ ts) (same_texts ls)

and_false : (a b : Bool) → b ≡ false → (a && b) ≡ false
and_false true b e = e
and_false false b e = refl

undeclared : (w : World) (k : Key) (e : Entry) (kind : Kind) → bytes_eq k.base (type_text kind) ≡ false → declares k (record { world = w; entry = e }) kind ≡ false
undeclared w k e (de.Nominal kind i ts ds) is = and_false (bytes_eq w.own.name k.module) (bytes_eq i.text k.base) (other_way k.base i.text is)
undeclared w k e kind is = refl

only_by : (w : World) (k : Key) (e : Entry) → bytes_eq k.base (entry_text e) ≡ false → type_by w k e ≡ None
only_by w k e is = ap (λ (b : Bool). if b then Some (is_type e.kind) else None) (undeclared w k e e.kind is)

pub in_group : (w : World) (k : Key) (ls : List Listed) → w.own.entries ≡ map entry_view ls → type_in w k ≡ first_some (λ i. option_and_then (type_by w k) (slice_get w.own.entries i)) (numbers_of k.base (map listed_type_text ls))
in_group w k ls is = by_group (type_by w k) entry_text k.base (only_by w k) w.own.entries ∙ ap (λ ts. first_some (λ i. option_and_then (type_by w k) (slice_get w.own.entries i)) (numbers_of k.base ts)) (ap (map entry_text) is ∙ sym (same_texts ls))

-- ---- over all declarations

abbrev told_by : Option Declaration → Option Bool
told_by o = option_map (λ (d : Declaration). is_type d.entry.kind) o

abbrev that : Key → Declaration → Bool
that k d = declares k d d.entry.kind

abbrev within : World → Entry → Declaration
within w e = record { world = w; entry = e }

step : (b : Bool) (d : Declaration) (r s : Option Declaration) (o : Option Bool) → told_by r ≡ option_or o (told_by s) → told_by (if b then Some d else r) ≡ option_or (option_or (if b then Some (is_type d.entry.kind) else None) o) (told_by s)
step true d r s o e = refl
step false d r s o e = e

through : (w : World) (k : Key) (es : List Entry) (rest : List Declaration) → told_by (first_that (that k) (map (within w) es ++ rest)) ≡ option_or (first_some (type_by w k) es) (told_by (first_that (that k) rest))
through w k [] rest = refl
through w k (e ∷ es) rest = step (that k (within w e)) (within w e) (first_that (that k) (map (within w) es ++ rest)) (first_that (that k) rest) (first_some (type_by w k) es) (through w k es rest)

own_told : (w : World) (k : Key) (es : List Entry) → told_by (first_that (that k) (map (within w) es)) ≡ first_some (type_by w k) es
own_told w k [] = refl
own_told w k (e ∷ es) = by (that k (within w e)) (own_told w k es)
  where
    by : (b : Bool) → told_by (first_that (that k) (map (within w) es)) ≡ first_some (type_by w k) es → told_by (if b then Some (within w e) else first_that (that k) (map (within w) es)) ≡ option_or (if b then Some (is_type e.kind) else None) (first_some (type_by w k) es)
    by true r = refl
    by false r = r

imported_told : (o : Option Listing) (w : World) (k : Key) → told_by (first_that (that k) (option_map_or (λ (m : Listing). own_declarations (alone m)) o [] ++ own_declarations w)) ≡ option_or (option_and_then (λ (m : Listing). type_in (alone m) k) o) (type_in w k)
imported_told None w k = own_told w k w.own.entries
imported_told (Some m) w k = through (alone m) k m.entries (own_declarations w) ∙ ap (option_or (type_in (alone m) k)) (own_told w k w.own.entries)

read : (o : Option Declaration) → option_map_or (λ (d : Declaration). is_type d.entry.kind) o true ≡ option_map_or (λ (b : Bool). b) (told_by o) true
read None = refl
read (Some d) = refl

pub key_told : (w : World) (k : Key) → is_type_key w k ≡ option_map_or (λ (b : Bool). b) (option_or (imported_type w k) (type_in w k)) true
unfolding declaration_of declarations
key_told w k = read (first_that (that k) (declarations w)) ∙ ap (λ (o : Option Bool). option_map_or (λ (b : Bool). b) o true) (imported_told w.imported w k)
