-- The function that an override means is among those of its base name, in the classes above its own.
use Rattle.std.proofs.Common.{◌≡◌, ℕ, zero, suc, ◌+◌, [], length, filter, Bool, true, false, ◌&&◌, not, Option, Some, None, if◌then◌else◌, refl, sym, ap, ap₂, ◌∙◌, subst, arith, length-append, ◌<◌, ◌≤◌, ◌-◌}
use Rattle.std.proofs.lemmas.List.{length-map}
use Rattle.std.specs.Option.{option_and_then, option_map, option_map_or, option_or}
use Rattle.std.specs.Str.{bytes_eq}
use Rattle.evo_base.specs.declared.key.Key.{Key}
use Rattle.evo_base.specs.declared.place.Place.{Place}
use Rattle.evo_declarations.specs.Groups.{numbers_of}
use Rattle.evo_declarations.specs.Views.{entry_view, view_of}
use Rattle.evo_declarations.specs.Worlds.{module_view}
use Rattle.evo_declarations.proofs.ByGroup.{by_group}
use Rattle.evo_declarations.proofs.HeadsInGroups.{other_way}
use Rattle.evo_names.specs.Listed.{Text, Entry, Listing, World, Declaration, alone, declarations, own_declarations, has_name, is_function, labels_of, name_of, overrides, sort_of}
use Rattle.evo_names.specs.Meets.{same_labels}
use Rattle.evo_names.specs.Heads.{Head, owner_of, climb, first_some, in_braces, is_member_of, lineage, members, sees, superclass}
use Rattle.evo_names.specs.Keys as keys
use Rattle.evo_names.specs.Keys.{classes_above, root_from, root_of}
use Rattle.evo_names.specs.Resolved.{declared_in}
use Rattle.evo_keys.specs.declared.roots.Sought.{Sought}
use Rattle.evo_keys.specs.declared.bases.Bases.{Bases}
use Rattle.evo_keys.specs.declared.bases.ByBase.{ByBase}
use Rattle.evo_keys.specs.Bases.{base_text, base_texts, world_with}
use Rattle.evo_keys.specs.Types.{in_both}
use Rattle.evo_keys.specs.Roots.{fits, fits_in, root_by, root_at_number, first_root, longest_way, round, root_above, root_of_class, root_of_classes}
use Rattle.evo_keys.proofs.Firsts.{first_append, first_filter, first_none}
use Rattle.evo_keys.proofs.Declaring.{first_in_both}

and_true : (b : Bool) → b ≡ (b && true)
and_true true = refl
and_true false = refl

and_false : (b : Bool) → false ≡ (b && false)
and_false true = refl
and_false false = refl

member_last : (b m f n l o s : Bool) → ((b && m) && (b && f && n && l && o && s)) ≡ ((b && f && n && l && o && s) && m)
member_last true true f n l o s = and_true (f && n && l && o && s)
member_last true false f n l o s = and_false (f && n && l && o && s)
member_last false m f n l o s = refl

only_in_braces : (b m f n l o s : Bool) → ((not b && m) && (b && f && n && l && o && s)) ≡ false
only_in_braces true m f n l o s = refl
only_in_braces false m f n l o s = sym (and_false m)

-- what fits stands in braces
in_class : (s : Sought) (k : Key) (d : Declaration) → ((in_braces d.entry.within && is_member_of k d) && fits s d) ≡ fits_in s k d
in_class s k d = member_last (in_braces d.entry.within) (is_member_of k d) (is_function (sort_of d.entry.kind)) (has_name s.base.now d.entry) (same_labels (labels_of d.entry.kind) (labels_of (entry_view s.function).kind)) (not (overrides d.entry)) (sees (view_of s.view) d)

in_extensions : (s : Sought) (k : Key) (d : Declaration) → ((not (in_braces d.entry.within) && is_member_of k d) && fits s d) ≡ false
in_extensions s k d = only_in_braces (in_braces d.entry.within) (is_member_of k d) (is_function (sort_of d.entry.kind)) (has_name s.base.now d.entry) (same_labels (labels_of d.entry.kind) (labels_of (entry_view s.function).kind)) (not (overrides d.entry)) (sees (view_of s.view) d)

or_none : {A : Type 0} (o p : Option A) → p ≡ None → option_or o p ≡ o
or_none (Some x) p e = refl
or_none None p e = e

pub class_is : (s : Sought) (w : World) (k : Key) → root_of_class s w k ≡ in_both (first_root s k) w
unfolding members
class_is s w k =
    first_append (fits s) (filter (λ (d : Declaration). in_braces d.entry.within && is_member_of k d) (declarations w)) (filter (λ (d : Declaration). not (in_braces d.entry.within) && is_member_of k d) (declarations w))
    ∙ or_none _ _ (first_filter (fits s) (λ (d : Declaration). not (in_braces d.entry.within) && is_member_of k d) (λ d. false) (in_extensions s k) (declarations w) ∙ first_none (λ d. false) (λ d. refl) (declarations w))
    ∙ first_filter (fits s) (λ (d : Declaration). in_braces d.entry.within && is_member_of k d) (fits_in s k) (in_class s k) (declarations w)
    ∙ first_in_both (fits_in s k) w

-- ---- by base names

no_name : (n : Text) (o : Option (Place × Text)) → bytes_eq n (option_map_or (λ (x : Place × Text). x.1) o []) ≡ false → option_map_or (λ (x : Place × Text). bytes_eq x.1 n) o false ≡ false
no_name n None e = refl
no_name n (Some x) e = other_way n x.1 e

without_name : (b f n l o s m : Bool) → n ≡ false → ((b && f && n && l && o && s) && m) ≡ false
without_name true true n l o s m e = rw e refl
without_name true false n l o s m e = refl
without_name false f n l o s m e = refl

only : (s : Sought) (k : Key) (w : World) (e : Entry) → bytes_eq s.base.now (base_text e) ≡ false → root_by s k w e ≡ None
only s k w e is =
    let d = declared_in w e in
    ap (λ (b : Bool). if b then Some (declared_in w e) else None) (without_name (in_braces e.within) (is_function (sort_of e.kind)) (has_name s.base.now e) (same_labels (labels_of e.kind) (labels_of (entry_view s.function).kind)) (not (overrides e)) (sees (view_of s.view) (declared_in w e)) (is_member_of k (declared_in w e)) (no_name s.base.now (name_of e) is))

pub in_group : (s : Sought) (k : Key) (w : World) → first_root s k w ≡ first_some (root_at_number s k w) (numbers_of s.base.now (base_texts w.own))
in_group s k w = by_group (root_by s k w) base_text s.base.now (only s k w) w.own.entries

-- ---- upwards

count_by : (o : Option Listing) → length (option_map_or (λ (m : Listing). own_declarations (alone m)) o []) ≡ option_map_or (λ (m : Listing). length m.entries) o 0
count_by None = refl
count_by (Some m) = length-map m.entries _

pub count_is : (w : World) → longest_way w ≡ suc (option_map_or (λ (m : Listing). length m.entries) w.imported 0 + length w.own.entries)
unfolding declarations
count_is w = ap suc (length-append (option_map_or (λ (m : Listing). own_declarations (alone m)) w.imported []) (own_declarations w) ∙ ap₂ (λ a b. a + b) (count_by w.imported) (length-map w.own.entries _))

pub at_class : (s : Sought) (w : World) (n : ℕ) (k : Key) (r : Declaration) → root_of_class s w k ≡ Some r → root_of_classes s w (climb (suc n) w k) ≡ Some r
unfolding root_from
at_class s w n k r e = ap (λ o. option_or o (first_some (root_of_class s w) (option_map_or (λ u. climb n w u) (superclass w k) []))) e

pub at_top : (s : Sought) (w : World) (n : ℕ) (k : Key) → root_of_class s w k ≡ None → superclass w k ≡ None → root_of_classes s w (climb (suc n) w k) ≡ None
unfolding root_from
at_top s w n k e f = ap₂ (λ o u. option_or o (first_some (root_of_class s w) (option_map_or (λ u. climb n w u) u []))) e f

pub above_class : (s : Sought) (w : World) (n : ℕ) (k u : Key) → root_of_class s w k ≡ None → superclass w k ≡ Some u → root_of_classes s w (climb (suc n) w k) ≡ root_of_classes s w (climb n w u)
unfolding root_from
above_class s w n k u e f = ap₂ (λ o u. option_or o (first_some (root_of_class s w) (option_map_or (λ u. climb n w u) u []))) e f

pub nowhere : (s : Sought) (w : World) (k : Key) → root_of_classes s w (climb zero w k) ≡ None
unfolding root_from
nowhere s w k = refl

-- from a class in whose braces something stands
pub above_is : (s : Sought) (w : World) (e : Entry) (base : Text) (owner u : Key) (n : ℕ) → superclass w owner ≡ Some u → view_of s.view ≡ round w owner → n ≡ longest_way w → s.base.now ≡ base → entry_view s.function ≡ e → root_of_classes s w (climb n w u) ≡ root_above w e base owner
unfolding lineage
above_is s w e base owner u n f view way b same =
    ap (λ v. root_from w v (climb n w u) s.base.now (labels_of (entry_view s.function).kind)) view
    ∙ ap (λ m. root_from w (round w owner) (climb m w u) s.base.now (labels_of (entry_view s.function).kind)) way
    ∙ ap₂ (λ (b : Text) (e : Entry). root_from w (round w owner) (climb (longest_way w) w u) b (labels_of e.kind)) b same
    ∙ ap (option_and_then (λ u. root_from w (round w owner) (climb (longest_way w) w u) base (labels_of e.kind))) (sym f)

pub none_above : (w : World) (e : Entry) (base : Text) (owner : Key) → superclass w owner ≡ None → None ≡ root_above w e base owner
none_above w e base owner f = ap (option_and_then (λ u. root_from w (round w owner) (lineage w u) base (labels_of e.kind))) (sym f)

pub without_a_name : (d : Declaration) → name_of d.entry ≡ None → None ≡ root_of d
unfolding root_of
without_a_name d e = ap (option_and_then (λ (name : Place × Text). root_from d.world (keys.view_of d.world d.entry.within) (classes_above d.world d.entry.within) name.1 (labels_of d.entry.kind))) (sym e)

abbrev from_owner : World → Entry → Text → Option Head → Option Declaration
from_owner w e base o = root_from w (record { «module» = w.own.name; type_round = option_map (λ (h : Head). h.key) o }) (option_map_or (λ u. lineage w u) (option_and_then (λ (h : Head). superclass w h.key) o) []) base (labels_of e.kind)

with_name : (d : Declaration) (name : Place × Text) → name_of d.entry ≡ Some name → root_of d ≡ from_owner d.world d.entry name.1 (owner_of d.world d.entry.within)
unfolding root_of
with_name d name e = ap (option_and_then (λ (name : Place × Text). root_from d.world (keys.view_of d.world d.entry.within) (classes_above d.world d.entry.within) name.1 (labels_of d.entry.kind))) e

pub without_owner : (d : Declaration) (name : Place × Text) → name_of d.entry ≡ Some name → owner_of d.world d.entry.within ≡ None → None ≡ root_of d
unfolding root_from
without_owner d name e f = sym (with_name d name e ∙ ap (from_owner d.world d.entry name.1) f)

by_superclass : (w : World) (e : Entry) (base : Text) (owner : Key) (o : Option Key) → option_and_then (λ u. root_from w (round w owner) (lineage w u) base (labels_of e.kind)) o ≡ root_from w (round w owner) (option_map_or (λ u. lineage w u) o []) base (labels_of e.kind)
unfolding root_from
by_superclass w e base owner None = refl
by_superclass w e base owner (Some u) = refl

pub with_owner : (d : Declaration) (name : Place × Text) (h : Head) → name_of d.entry ≡ Some name → owner_of d.world d.entry.within ≡ Some h → root_above d.world d.entry name.1 h.key ≡ root_of d
with_owner d name h e f = by_superclass d.world d.entry name.1 h.key (superclass d.world h.key) ∙ sym (with_name d name e ∙ ap (from_owner d.world d.entry name.1) f)

-- ---- for the code

pub way_with : (b : Bases) (t : ByBase) (n m : ℕ) → b.imported ≡ Some t → n ≡ length (module_view b.own.names.now).entries → m ≡ length (module_view t.names.now).entries → n + 1 + m ≡ longest_way (world_with b)
way_with b t n m e own imported =
    let sum : longest_way (world_with b) ≡ suc (option_map_or (λ (m : Listing). length m.entries) (world_with b).imported 0 + length (world_with b).own.entries) = count_is (world_with b) in
    let first : option_map_or (λ (m : Listing). length m.entries) (world_with b).imported 0 ≡ length (module_view t.names.now).entries = ap (λ o. option_map_or (λ (m : Listing). length m.entries) (option_map (λ (m : ByBase). module_view m.names.now) o) 0) e in
    omega arith

pub way_alone : (b : Bases) (n : ℕ) → b.imported ≡ None → n ≡ length (module_view b.own.names.now).entries → n + 1 ≡ longest_way (world_with b)
way_alone b n e own =
    let sum : longest_way (world_with b) ≡ suc (option_map_or (λ (m : Listing). length m.entries) (world_with b).imported 0 + length (world_with b).own.entries) = count_is (world_with b) in
    let first : option_map_or (λ (m : Listing). length m.entries) (world_with b).imported 0 ≡ 0 = ap (λ o. option_map_or (λ (m : Listing). length m.entries) (option_map (λ (m : ByBase). module_view m.names.now) o) 0) e in
    omega arith

less_one : (n i : ℕ) → i < n → suc (n - (i + 1)) ≡ n - i
less_one n i lt = omega arith

pub found_here : (s : Sought) (w : World) (n i : ℕ) (k : Key) (r : Declaration) → i < n → root_of_class s w k ≡ Some r → root_of_classes s w (climb (n - i) w k) ≡ Some r
found_here s w n i k r lt e = subst (λ m. root_of_classes s w (climb m w k) ≡ Some r) (less_one n i lt) (at_class s w (n - (i + 1)) k r e)

pub ended_here : (s : Sought) (w : World) (n i : ℕ) (k : Key) → i < n → root_of_class s w k ≡ None → superclass w k ≡ None → root_of_classes s w (climb (n - i) w k) ≡ None
ended_here s w n i k lt e f = subst (λ m. root_of_classes s w (climb m w k) ≡ None) (less_one n i lt) (at_top s w (n - (i + 1)) k e f)

pub goes_on : (s : Sought) (w : World) (n i : ℕ) (k u : Key) → i < n → root_of_class s w k ≡ None → superclass w k ≡ Some u → root_of_classes s w (climb (n - i) w k) ≡ root_of_classes s w (climb (n - (i + 1)) w u)
goes_on s w n i k u lt e f = subst (λ m. root_of_classes s w (climb m w k) ≡ root_of_classes s w (climb (n - (i + 1)) w u)) (less_one n i lt) (above_class s w (n - (i + 1)) k u e f)

pub no_more : (s : Sought) (w : World) (n i : ℕ) (k : Key) → n ≤ i → root_of_classes s w (climb (n - i) w k) ≡ None
no_more s w n i k le = let none : 0 ≡ n - i = omega arith in subst (λ m. root_of_classes s w (climb m w k) ≡ None) none (nowhere s w k)
