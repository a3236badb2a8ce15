-- Whole modules are written: imports, then items, each on lines of its own.
use Rattle.std.proofs.Common.{◌≡◌, ℕ, List, [], ◌∷◌, ◌++◌, map, Bool, true, false, codes, refl, sym, ◌∙◌, ap, ap₂, subst, inl, inr, append_assoc, append-nil}
use Rattle.std.specs.List.{flat_map}
use Rattle.evo_combinators.specs.Guard.{Run}
use Rattle.evo_round_trip.proofs.Alike.{AllLike}
use Rattle.evo_tree.specs.declared.name.Identifier.{Identifier}
use Rattle.evo_tree.specs.declared.module.Form.{Form}
use Rattle.evo_tree.specs.declared.module.Item.{Item}
use Rattle.evo_tree.specs.declared.module.ModulePart.{ModulePart}
use Rattle.evo_tree.specs.declared.module.ModulePart.TheVariants as part
use Rattle.evo_tree.specs.declared.module.PartSpot.TheVariants as spot
use Rattle.evo_tree.specs.Pieces.{Piece}
use Rattle.evo_tree.specs.Declarations.{Below}
use Rattle.evo_tree.specs.Modules.{imports_of, items_of, after_part, PartOf, PartAt}
use Rattle.evo_tree.specs.Bare.{bare_identifier, bare_item}
use Rattle.evo_tree.specs.Canonical.{Text, import_text, item_text}
use Rattle.evo_round_trip.proofs.Written.{Written, joined, Sound}
use Rattle.evo_round_trip.proofs.Printed.{begins, is_apart, is_flush, is_free, Matched, firm_parts, joined_append, sound_append, begins_append, begins_within}
use Rattle.evo_round_trip.proofs.Prints.{lead, lead_sound, lead_joined, lead_begins, lead_fits}
use Rattle.evo_round_trip.proofs.Heads.{apart_free}
use Rattle.evo_round_trip.proofs.PrintedBlocks.{feed}
use Rattle.evo_round_trip.proofs.PrintedAccessors.{Blocks}
use Rattle.evo_round_trip.proofs.PrintedKinds.{AllOf}
use Rattle.evo_round_trip.proofs.PrintedParts.{Says, SamePart, Stands, part_text, alone, PartEach}

-- imports stand before what is no import
abbrev pub InOrder : Bool → List ModulePart → Type 0
InOrder may [] = Unit {0}
InOrder may (part.Import n ∷ xs) = (may ≡ true) × InOrder may xs
InOrder may (part.Items is ∷ xs) = InOrder false xs

loose : (ms : List Piece) (ws : List Written) → Matched true ms ws → Matched false ms ws
loose [] [] f = tt
loose [] (w ∷ ws) f = absurd f
loose (m ∷ ms) [] f = absurd f
loose (m ∷ ms) (w ∷ ws) f = (f.0.0, f.1)

module _ (f : Form) (d : ℕ) where
  abbrev pub Further : Bool → List Piece → List ModulePart → Type 0
  Further may = Run (PartAt Blocks Says f d) after_part (spot.Further may)

  -- parts, each behind a line feed
  record BelowParts (may : Bool) (xs : List ModulePart) : Type 0 where
    written : List Written
    text : joined written ++ codes "\n" ≡ codes "\n" ++ flat_map part_text xs
    sound : Sound written
    begun : begins true is_apart written ≡ true
    again : (ms : List Piece) → Matched true ms written → (xs' : List ModulePart) × Further may ms xs' × AllLike SamePart xs xs'

  next : ModulePart → Bool → Bool
  next (part.Import n) may = may
  next (part.Items is) may = false

  next_is : (may : Bool) (x x' : ModulePart) → SamePart x x' → after_part (spot.Further may) x' ≡ spot.Further (next x may)
  unfolding next
  next_is may (part.Import n) (part.Import m) same = refl
  next_is may (part.Import n) (part.Items ys) same = absurd same
  next_is may (part.Items xs) (part.Import m) same = absurd same
  next_is may (part.Items xs) (part.Items ys) same = refl

  next_order : (may : Bool) (x : ModulePart) (xs : List ModulePart) → InOrder may (x ∷ xs) → InOrder (next x may) xs
  unfolding next
  next_order may (part.Import n) xs o = o.1
  next_order may (part.Items is) xs o = o

  stands : (may : Bool) (x : ModulePart) (xs : List ModulePart) → InOrder may (x ∷ xs) → Stands x may
  stands may (part.Import n) xs o = o.0
  stands may (part.Items is) xs o = tt

  further : (may : Bool) (xs : List ModulePart) → AllOf (PartEach f d) xs → InOrder may xs → BelowParts may xs
  further may [] all o = record { written = []; text = refl; sound = tt; begun = refl; again = λ ms fits. ([], none ms fits, tt) }
    where
      none : (ms : List Piece) → Matched true ms [] → ms ≡ []
      none [] fits = refl
      none (m ∷ ms) fits = absurd fits
  further may (x ∷ xs) (each, all) o =
      let rest = further (next x may) xs all (next_order may x xs o) in
      record {
        written = lead (feed 0) each.written ++ rest.written;
        text = ap (λ z. z ++ codes "\n") (joined_append (lead (feed 0) each.written) rest.written ∙ ap (λ z. z ++ joined rest.written) (lead_joined (feed 0) each.written each.begun))
            ∙ append_assoc (codes "\n" ++ joined each.written) (joined rest.written) (codes "\n") ∙ ap (λ z. (codes "\n" ++ joined each.written) ++ z) rest.text
            ∙ turn (joined each.written) (flat_map part_text xs) ∙ ap (λ z. codes "\n" ++ (z ++ flat_map part_text xs)) (sym each.text);
        sound = sound_append (lead (feed 0) each.written) rest.written (lead_sound (feed 0) refl each.written each.sound) rest.sound (begins_within true true is_apart is_free rest.written (λ h. h) apart_free rest.begun);
        begun = begins_append true is_apart (lead (feed 0) each.written) rest.written (lead_begins (feed 0) refl each.written each.begun);
        again = λ ms fits.
            let (ns, ps, cut, left, right) = firm_parts true is_apart ms (lead (feed 0) each.written) rest.written (lead_begins (feed 0) refl each.written each.begun) fits in
            let (x', part, same) = each.again ns (lead_fits (feed 0) ns each.written (loose ns (lead (feed 0) each.written) left)) in
            let (xs', run, sames) = rest.again ps right in
            (x' ∷ xs', (ns, ps, cut, inr (inl (below each.written ns each.begun left (part may (stands may x xs o)))), subst (λ s. Run (PartAt Blocks Says f d) after_part s ps xs') (sym (next_is may x x' same)) run), (same, sames));
      }
    where
      turn : (v w : Text) → (codes "\n" ++ v) ++ (codes "\n" ++ w) ≡ codes "\n" ++ ((v ++ codes "\n") ++ w)
      turn v w = simp append_assoc

      below : {x' : ModulePart} (ws : List Written) (ms : List Piece) → begins false is_flush ws ≡ true → Matched true ms (lead (feed 0) ws) → PartOf Blocks Says f d may ms x' → Below (PartOf Blocks Says f d may) ms x'
      below [] ms b fits s = absurd (cc)
      below (w ∷ ws) [] b fits s = absurd fits
      below (w ∷ ws) (m ∷ ms) b fits s = (m, ms, refl, fits.0.1, s)

  -- all parts of a text, of which there is one; `R` is what the first and the rest spell
  pub record WholeParts (xs : List ModulePart) (R : List Piece → List ModulePart → Type 0) : Type 0 where
    pub written : List Written
    pub text : joined written ++ codes "\n" ≡ flat_map part_text xs
    pub sound : Sound written
    pub again : (ms : List Piece) → Matched false ms written → (xs' : List ModulePart) × R ms xs' × AllLike SamePart xs xs'

  pub whole : (x : ModulePart) (xs : List ModulePart) (may : Bool) → PartEach f d x → AllOf (PartEach f d) xs → InOrder may xs → WholeParts (x ∷ xs) (λ ms xs'. (x' : ModulePart) × (rest : List ModulePart) × (ns : List Piece) × (ps : List Piece) × (xs' ≡ x' ∷ rest) × (ms ≡ ns ++ ps) × SamePart x x' × PartOf Blocks Says f d true ns x' × Further may ps rest)
  whole x xs may each all o =
      let rest = further may xs all o in
      record {
        written = each.written ++ rest.written;
        text = ap (λ z. z ++ codes "\n") (joined_append each.written rest.written) ∙ append_assoc (joined each.written) (joined rest.written) (codes "\n") ∙ ap (λ z. joined each.written ++ z) rest.text
            ∙ sym (append_assoc (joined each.written) (codes "\n") (flat_map part_text xs)) ∙ ap (λ z. z ++ flat_map part_text xs) (sym each.text);
        sound = sound_append each.written rest.written each.sound rest.sound (begins_within true true is_apart is_free rest.written (λ h. h) apart_free rest.begun);
        again = λ ms fits.
            let (ns, ps, cut, left, right) = firm_parts false is_flush ms each.written rest.written each.begun fits in
            let (x', part, same) = each.again ns left in
            let (xs', run, sames) = rest.again ps right in
            (x' ∷ xs', (x', xs', ns, ps, refl, cut, same, part true (any_stands x), run), (same, sames));
      }
    where
      any_stands : (x : ModulePart) → Stands x true
      any_stands (part.Import n) = refl
      any_stands (part.Items is) = tt

-- ---- the parts of a module in order

abbrev pub parts_of : List Identifier → List Item → List ModulePart
parts_of ns is = map part.Import ns ++ map alone is

pub in_order : (ns : List Identifier) (is : List Item) → InOrder true (parts_of ns is)
in_order [] [] = tt
in_order [] (i ∷ is) = items is
  where
    items : (is : List Item) → InOrder false (map alone is)
    items [] = tt
    items (i ∷ is) = items is
in_order (n ∷ ns) is = (refl, in_order ns is)

pub each_of : (f : Form) (d : ℕ) (ns : List Identifier) (is : List Item) → AllOf (λ n. PartEach f d (part.Import n)) ns → AllOf (λ i. PartEach f d (alone i)) is → AllOf (PartEach f d) (parts_of ns is)
each_of f d [] [] ps qs = tt
each_of f d [] (i ∷ is) ps qs = (qs.0, each_of f d [] is tt qs.1)
each_of f d (n ∷ ns) is ps qs = (ps.0, each_of f d ns is ps.1 qs)

pub parts_text : (ns : List Identifier) (is : List Item) → flat_map part_text (parts_of ns is) ≡ flat_map import_text ns ++ flat_map item_text is
parts_text [] [] = refl
parts_text [] (i ∷ is) = ap₂ (λ v w. v ++ w) (append-nil (item_text i)) (parts_text [] is)
parts_text (n ∷ ns) is = ap (λ z. import_text n ++ z) (parts_text ns is) ∙ sym (append_assoc (import_text n) (flat_map import_text ns) (flat_map item_text is))

-- parts that are the same have the same imports and items
pub imports_like : (ns : List Identifier) (is : List Item) (xs : List ModulePart) → AllLike SamePart (parts_of ns is) xs → (map bare_identifier ns ≡ map bare_identifier (imports_of xs)) × (map bare_item is ≡ map bare_item (items_of xs))
imports_like [] [] [] l = (refl, refl)
imports_like [] [] (x ∷ xs) l = absurd l
imports_like [] (i ∷ is) [] l = absurd l
imports_like [] (i ∷ is) (part.Import m ∷ xs) l = absurd l.0
imports_like [] (i ∷ is) (part.Items ys ∷ xs) l = let (a, b) = imports_like [] is xs l.1 in (a, ap₂ (λ v w. v ++ w) l.0 b ∙ sym (map_append ys (items_of xs)))
  where
    map_append : (ys zs : List Item) → map bare_item (ys ++ zs) ≡ map bare_item ys ++ map bare_item zs
    map_append [] zs = refl
    map_append (y ∷ ys) zs = ap (λ z. bare_item y ∷ z) (map_append ys zs)
imports_like (n ∷ ns) is [] l = absurd l
imports_like (n ∷ ns) is (part.Import m ∷ xs) l = let (a, b) = imports_like ns is xs l.1 in (ap₂ (λ v w. v ∷ w) l.0 a, b)
imports_like (n ∷ ns) is (part.Items ys ∷ xs) l = absurd l.0
