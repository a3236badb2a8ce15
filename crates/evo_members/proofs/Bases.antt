-- The text under which a type's declarations and extensions stand is its name.
use Rattle.std.proofs.Common.{◌≡◌, List, [], ◌∷◌, Option, Some, None, Bool, true, false, ◌&&◌, refl, sym, ap, ◌∙◌, if◌then◌else◌}
use Rattle.std.specs.Option.{option_or, option_and_then, option_map_or}
use Rattle.std.specs.Str.{bytes_eq}
use Rattle.std.proofs.lemmas.Slice.Eq.{bytes_eq-Decides}
use Rattle.evo_base.specs.declared.key.Key.{Key}
use Rattle.evo_tree.specs.declared.declaration.DeclKind.TheOpen as de
use Rattle.evo_names.specs.Listed.{Text, Kind, Entry, Listing, World, Declaration}
use Rattle.evo_names.specs.Meets.{same_name}
use Rattle.evo_names.specs.Seen.{Viewpoint, is_seen, written_level, same_type}
use Rattle.evo_names.specs.Heads.{Head, head_by, head_in, head_of, named, qualified, unless_some, import_named, language_type, is_language_type, top_view, top_shown, first_some, declares, extends, type_key}
use Rattle.evo_members.specs.Texts.{base_text, last_text}

-- a head that is found has the name that was sought
abbrev Named : Text → Option Head → Type 0
Named n o = (h : Head) → o ≡ Some h → h.key.base ≡ n

none_named : (n : Text) → Named n None
none_named n h e = absurd cc

or_named : (n : Text) (o p : Option Head) → Named n o → Named n p → Named n (option_or o p)
or_named n (Some x) p one two = one
or_named n None p one two = two

if_named : (n : Text) (b : Bool) (x : Head) → x.key.base ≡ n → Named n (if b then Some x else None)
if_named n true x is h e = let same : x ≡ h = cc in ap (λ (y : Head). y.key.base) (sym same) ∙ is
if_named n false x is h e = absurd cc

by_named : (v : Viewpoint) (m n : Text) (e : Entry) (k : Kind) → Named n (head_by v m n e k)
by_named v m n e (de.Nominal k i ts ds) = if_named n (same_name i.text n && is_seen v (top_shown m e)) (record { key = type_key m n; kind = k; level = written_level e }) refl
by_named v m n e k = none_named n

first_named : (v : Viewpoint) (m n : Text) (es : List Entry) → Named n (first_some (λ (e : Entry). head_by v m n e e.kind) es)
first_named v m n [] = none_named n
first_named v m n (e ∷ es) = or_named n (head_by v m n e e.kind) (first_some (λ (e : Entry). head_by v m n e e.kind) es) (by_named v m n e e.kind) (first_named v m n es)

in_named : (v : Viewpoint) (m : Listing) (n : Text) → Named n (head_in v m n)
in_named v m n = first_named v m.name n m.entries

import_head : (v : Viewpoint) (n : Text) (o : Option Listing) → Named n (option_and_then (λ m. head_in v m n) o)
import_head v n None = none_named n
import_head v n (Some m) = in_named v m n

language_named : (n : Text) → Named n (language_type n)
language_named n = if_named n (is_language_type n) _ refl

named_named : (w : World) (n : Text) → Named n (named w n)
unfolding named
named_named w n = or_named n (head_in (top_view w) w.own n) (option_or (option_and_then (λ m. head_in (top_view w) m n) w.imported) (language_type n)) (in_named (top_view w) w.own n) (or_named n (option_and_then (λ m. head_in (top_view w) m n) w.imported) (language_type n) (import_head (top_view w) n w.imported) (language_named n))

if_swift : (n : Text) (b : Bool) → Named n (if b then language_type n else None)
if_swift n true = language_named n
if_swift n false = none_named n

if_own : (w : World) (n : Text) (b : Bool) (o : Option Head) → Named n o → Named n (if b then head_in (top_view w) w.own n else o)
if_own w n true o is = in_named (top_view w) w.own n
if_own w n false o is = is

qualified_named : (w : World) (m n : Text) → Named n (qualified w m n)
unfolding qualified
qualified_named w m n = if_own w n (same_name w.own.name m) _ (or_named n (option_and_then (λ i. head_in (top_view w) i n) (import_named w m)) _ (import_head (top_view w) n (import_named w m)) (if_swift n (same_name m _)))

unless_named : {A : Type 0} (n : Text) (o : Option A) (p : Option Head) → Named n p → Named n (unless_some o p)
unless_named n None p is = is
unless_named n (Some x) p is = none_named n

pub head_named : (w : World) (ns : List Text) → Named (last_text ns) (head_of w ns)
head_named w [] = none_named []
head_named w (n ∷ []) = named_named w n
head_named w (m ∷ n ∷ []) = unless_named n (named w m) (qualified w m n) (qualified_named w m n)
head_named w (m ∷ n ∷ o ∷ rest) = none_named []

-- ---- what has another text is not the one that is sought

pub no_same : (a b : Text) → bytes_eq b a ≡ false → bytes_eq a b ≡ false
no_same a b e = by (bytes_eq a b) refl
  where
    by : (r : Bool) → bytes_eq a b ≡ r → bytes_eq a b ≡ false
    by true is = let same : a ≡ b = (bytes_eq-Decides a b).0 is in let met : bytes_eq b a ≡ true = (bytes_eq-Decides b a).1 (sym same) in absurd cc
    by false is = is

and_false : (a b : Bool) → b ≡ false → (a && b) ≡ false
and_false true b e = e
and_false false b e = refl

pub other_type : (a b : Key) → bytes_eq b.base a.base ≡ false → same_type a b ≡ false
other_type a b e = and_false (same_name a.module b.module) (same_name a.base b.base) (no_same a.base b.base e)

pub other_declares : (k : Key) (d : Declaration) (kind : Kind) → bytes_eq k.base (base_text kind) ≡ false → declares k d kind ≡ false
other_declares k d (de.Nominal kind i ts ds) e = other_type (type_key d.world.own.name i.text) k e
other_declares k d kind e = refl

pub other_extends : (k : Key) (d : Declaration) (kind : Kind) → bytes_eq k.base (base_text kind) ≡ false → extends k d kind ≡ false
other_extends k d (de.Extension t ts ds) e = by (head_of d.world t.names) refl
  where
    by : (o : Option Head) → head_of d.world t.names ≡ o → option_map_or (λ (h : Head). same_type h.key k) o false ≡ false
    by None is = refl
    by (Some h) is = other_type h.key k (ap (λ (n : Text). bytes_eq k.base n) (head_named d.world t.names h is) ∙ e)
other_extends k d kind e = refl
