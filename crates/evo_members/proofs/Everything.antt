-- The list of all declarations, as it is borrowed and as it is defined.
use Rattle.std.proofs.Common.{◌≡◌, ℕ, zero, suc, ◌-◌, ◌<◌, ◌≤◌, arith, List, [], ◌∷◌, ◌++◌, length, map, flat_map, Option, Some, None, slice_get, refl, sym, ap, ◌∙◌}
use Rattle.std.specs.Option.{option_map, option_map_or}
use Rattle.std.proofs.lemmas.List.{length-map}
use Rattle.evo_declarations.specs.declared.listed.Listed.{Listed}
use Rattle.evo_declarations.specs.declared.world.World.{World}
use Rattle.evo_declarations.specs.declared.world.Home.{Home}
use Rattle.evo_declarations.specs.Views.{entry_view, entries_of}
use Rattle.evo_declarations.specs.Worlds.{home_in, home_of, module_view, world_of}
use Rattle.evo_declarations.specs.declared.names.Names.{Names}
use Rattle.evo_declarations.specs.declared.world.Home.TheVariants as home
use denote.Bor.{Bor}
use Rattle.evo_members.specs.declared.declared.Declared.{Declared}
use Rattle.evo_members.specs.Views.{in_home, declared_of, all_of}
use Rattle.evo_members.specs.Texts.{alias_of, base_of, declared_alias, declared_base, inherited_by}
use Rattle.evo_names.specs.Listed.{Text, Entry, Declaration}
use Rattle.evo_names.specs.Listed as names
use Rattle.evo_names.specs.Heads.{inherit_list}

abbrev made : names.World → Entry → Declaration
made w e = record { world = w; entry = e }

pub of_home : (w : World) (h : Home) (ls : List Listed) → all_of w (map (in_home h) ls) ≡ map (made (home_of w h)) (entries_of ls)
of_home w h [] = refl
of_home w h (l ∷ ls) = ap (λ ds. made (home_of w h) (entry_view l) ∷ ds) (of_home w h ls)

pub map_all : (w : World) (ds es : List Declared) → all_of w (ds ++ es) ≡ all_of w ds ++ all_of w es
map_all w [] es = refl
map_all w (d ∷ ds) es = ap (λ xs. declared_of w d ∷ xs) (map_all w ds es)

pub aliases_are : (w : World) (ds : List Declared) → map declared_alias ds ≡ map alias_of (all_of w ds)
aliases_are w [] = refl
aliases_are w (d ∷ ds) = ap (λ ts. declared_alias d ∷ ts) (aliases_are w ds)

pub bases_are : (w : World) (ds : List Declared) → map declared_base ds ≡ map base_of (all_of w ds)
bases_are w [] = refl
bases_are w (d ∷ ds) = ap (λ ts. declared_base d ∷ ts) (bases_are w ds)

pub inherited_are : (w : World) (ds : List Declared) → flat_map inherited_by ds ≡ flat_map (λ (d : Declaration). inherit_list d.entry.kind) (all_of w ds)
inherited_are w [] = refl
inherited_are w (d ∷ ds) = ap (λ ts. inherited_by d ++ ts) (inherited_are w ds)

pub lengths_are : (w : World) (ds : List Declared) → length ds ≡ length (all_of w ds)
lengths_are w [] = refl
lengths_are w (d ∷ ds) = ap suc (lengths_are w ds)

-- ---- by number

pub behind_first : {A : Type 0} (xs ys : List A) (i : ℕ) → length xs ≤ i → slice_get (xs ++ ys) i ≡ slice_get ys (i - length xs)
behind_first [] ys i le = let e : i - 0 ≡ i = omega arith in ap (slice_get ys) (sym e)
behind_first (x ∷ xs) ys zero le = absurd (omega (arith, le))
behind_first (x ∷ xs) ys (suc i) le = let less : length xs ≤ i = omega arith in let e : suc i - suc (length xs) ≡ i - length xs = omega arith in behind_first xs ys i less ∙ ap (slice_get ys) (sym e)

pub within_first : {A : Type 0} (xs ys : List A) (i : ℕ) → i < length xs → slice_get (xs ++ ys) i ≡ slice_get xs i
within_first [] ys i lt = absurd (omega (arith, lt))
within_first (x ∷ xs) ys zero lt = refl
within_first (x ∷ xs) ys (suc i) lt = let less : i < length xs = omega arith in within_first xs ys i less

-- ---- what a number stands for

made_at : (w : World) (h : Home) (ls : List Listed) (i : ℕ) → option_map (declared_of w) (option_map (in_home h) (slice_get ls i)) ≡ slice_get (map (made (home_of w h)) (entries_of ls)) i
made_at w h [] i = refl
made_at w h (l ∷ ls) zero = refl
made_at w h (l ∷ ls) (suc i) = made_at w h ls i

module _ (w : World) where
  pub own_are : (ls : List Listed) → ls ≡ w.own.now.listing.entries.items → names.own_declarations (world_of w) ≡ all_of w (map (in_home home.Own) ls)
  own_are ls is = sym (of_home w home.Own ls ∙ ap (λ (es : List Listed). map (made (world_of w)) (entries_of es)) is)

  pub own_number : (ls : List Listed) (i : ℕ) → option_map (declared_of w) (option_map (in_home home.Own) (slice_get ls i)) ≡ slice_get (map (made (world_of w)) (entries_of ls)) i
  own_number ls i = made_at w home.Own ls i

pub declarations_are : (w : names.World) → names.declarations w ≡ names.imported_declarations w ++ names.own_declarations w
unfolding names.declarations
declarations_are w = refl

module _ (w : World) (ls : List Listed) (i : ℕ) (are : names.imported_declarations (world_of w) ≡ all_of w (map (in_home home.Imported) ls)) where
  length_are : length (names.imported_declarations (world_of w)) ≡ length ls
  length_are = ap length are ∙ sym (lengths_are w (map (in_home home.Imported) ls)) ∙ length-map ls (in_home home.Imported)

  pub imported_number : i < length ls → option_map (declared_of w) (option_map (in_home home.Imported) (slice_get ls i)) ≡ slice_get (names.declarations (world_of w)) i
  imported_number lt =
      let less : i < length (names.imported_declarations (world_of w)) = rw length_are lt in
      made_at w home.Imported ls i ∙ ap (λ (ds : List Declaration). slice_get ds i) (sym (are ∙ of_home w home.Imported ls))
      ∙ sym (ap (λ (ds : List Declaration). slice_get ds i) (declarations_are (world_of w)) ∙ within_first (names.imported_declarations (world_of w)) (names.own_declarations (world_of w)) i less)

  pub behind_imported : length ls ≤ i → slice_get (names.own_declarations (world_of w)) (i - length ls) ≡ slice_get (names.declarations (world_of w)) i
  behind_imported le =
      let past : length (names.imported_declarations (world_of w)) ≤ i = rw length_are le in
      ap (λ k. slice_get (names.own_declarations (world_of w)) (i - k)) (sym length_are)
      ∙ sym (ap (λ (ds : List Declaration). slice_get ds i) (declarations_are (world_of w)) ∙ behind_first (names.imported_declarations (world_of w)) (names.own_declarations (world_of w)) i past)

abbrev view_of_bor : Bor Names → names.Listing
view_of_bor b = module_view b.now

abbrev of_import : Option names.Listing → List Declaration
of_import o = option_map_or (λ (m : names.Listing). names.own_declarations (names.alone m)) o []

module _ (w : World) where
  pub imported_are : (n : Bor Names) → w.imported ≡ Some n → (ls : List Listed) → ls ≡ n.now.listing.entries.items → names.imported_declarations (world_of w) ≡ all_of w (map (in_home home.Imported) ls)
  imported_are n is ls has =
      let some : option_map view_of_bor w.imported ≡ Some (view_of_bor n) = ap (option_map view_of_bor) is in
      let around : home_of w home.Imported ≡ names.alone (view_of_bor n) = ap (λ (o : Option names.Listing). home_in (world_of w) o home.Imported) some in
      ap of_import some
      ∙ ap (λ (es : List Listed). map (made (names.alone (view_of_bor n))) (entries_of es)) (sym has)
      ∙ ap (λ (h : names.World). map (made h) (entries_of ls)) (sym around)
      ∙ sym (of_home w home.Imported ls)

  pub own_alone : w.imported ≡ None → (i : ℕ) → slice_get (names.own_declarations (world_of w)) i ≡ slice_get (names.declarations (world_of w)) i
  own_alone none i =
      let no : option_map view_of_bor w.imported ≡ None = ap (option_map view_of_bor) none in
      sym (ap (λ (ds : List Declaration). slice_get ds i) (declarations_are (world_of w) ∙ ap (λ (o : Option names.Listing). of_import o ++ names.own_declarations (world_of w)) no))

  pub nothing_imported : w.imported ≡ None → names.imported_declarations (world_of w) ≡ []
  nothing_imported none = ap of_import (ap (option_map view_of_bor) none)
