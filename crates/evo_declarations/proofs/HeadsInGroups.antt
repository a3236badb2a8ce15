-- A type or protocol by its name is among those of this name.
use Rattle.std.proofs.Common.{◌≡◌, ℕ, List, [], ◌∷◌, map, Option, None, Bool, true, false, refl, sym, ap, ap₂, subst, ◌∙◌}
use Rattle.std.specs.Str.{bytes_eq}
use Rattle.std.proofs.lemmas.Slice.Eq.{bytes_eq-Decides}
use Rattle.evo_tree.specs.declared.declaration.DeclKind.TheOpen as de
use Rattle.evo_names.specs.Listed.{Text, Kind, Entry, Listing}
use Rattle.evo_names.specs.Seen.{Viewpoint}
use Rattle.evo_names.specs.Heads.{head_by, head_in, first_some}
use Rattle.evo_declarations.specs.declared.listed.Listed.{Listed}
use Rattle.evo_declarations.specs.Views.{entry_view}
use Rattle.evo_declarations.specs.Groups.{numbers_of}
use Rattle.evo_declarations.specs.Texts.{type_text, listed_type_text}
use Rattle.evo_declarations.specs.Heads.{head_at_number}
use Rattle.evo_declarations.proofs.ByGroup.{by_group}

abbrev pub entry_text : Entry → Text
entry_text e = type_text e.kind

same_texts : (ls : List Listed) → map listed_type_text ls ≡ map entry_text (map entry_view ls)
same_texts [] = refl
same_texts (l ∷ ls) = ap (λ ts. listed_type_text l ∷ ts) (same_texts ls)

-- two texts that differ do so either way
pub other_way : (a b : Text) → bytes_eq a b ≡ false → bytes_eq b a ≡ false
other_way a b e = by (bytes_eq b a) refl
  where
    by : (r : Bool) → bytes_eq b a ≡ r → bytes_eq b a ≡ false
    by true is = let same : b ≡ a = (bytes_eq-Decides b a).0 is in let met : bytes_eq a b ≡ true = (bytes_eq-Decides a b).1 (sym same) in absurd cc
    by false is = is

only_by : (v : Viewpoint) (m n : Text) (e : Entry) (k : Kind) → bytes_eq n (type_text k) ≡ false → head_by v m n e k ≡ None
only_by v m n e (de.Nominal k i ts ds) is = rw (other_way n i.text is) refl
only_by v m n e k is = refl

pub in_group : (v : Viewpoint) (m : Listing) (n : Text) (ls : List Listed) → m.entries ≡ map entry_view ls → head_in v m n ≡ first_some (head_at_number v m n) (numbers_of n (map listed_type_text ls))
in_group v m n ls is = by_group (λ (e : Entry). head_by v m.name n e e.kind) entry_text n (λ e not. only_by v m.name n e e.kind not) m.entries ∙ ap (λ ts. first_some (head_at_number v m n) (numbers_of n ts)) (ap (map entry_text) is ∙ sym (same_texts ls))
