-- Declarations are written, each of those that one of the source makes by itself.
use Rattle.std.proofs.Common.{◌≡◌, ℕ, List, [], ◌∷◌, ◌++◌, map, Bool, true, false, codes, refl, sym, ◌∙◌, ap, subst, inl, inr, append_assoc, append-nil}
use Rattle.std.specs.Prelude.{◌&&◌, not}
use Rattle.std.specs.List.{flat_map}
use Rattle.evo_base.specs.declared.place.Place.{Place}
use Rattle.evo_combinators.specs.Guard.{Run}
use Rattle.evo_round_trip.proofs.Alike.{AllLike}
use Rattle.evo_tree.specs.declared.declaration.Attr.{Attr}
use Rattle.evo_tree.specs.declared.declaration.AttrKind.{AttrKind}
use Rattle.evo_tree.specs.declared.declaration.Modifier.{Modifier}
use Rattle.evo_tree.specs.declared.declaration.ModifierKind.TheVariants as modifier
use Rattle.evo_tree.specs.declared.declaration.Decl.{Decl}
use Rattle.evo_tree.specs.declared.declaration.DeclKind.{DeclKind, DeclKind-F, out-DeclKind, out-roll-DeclKind}
use Rattle.evo_tree.specs.declared.declaration.DeclKind.TheOpen as o
use Rattle.evo_tree.specs.declared.scope.Scope.{Scope}
use Rattle.evo_tree.specs.Pieces.{Piece}
use Rattle.evo_tree.specs.Expressions.{Rule}
use Rattle.evo_tree.specs.Declarations.{Attributes, Modifiers, ordered_attributes, ordered_modifiers, has_attribute, has_modifier, with_access, is_protocol, has_access, declaration, one_kind, DeclarationOf, Next, Below, Lines}
use Rattle.evo_tree.specs.Bare.{bare_attr, bare_modifier, bare_kind}
use Rattle.evo_tree.specs.Canonical.{Text, line, attr_text, modifier_text, decl_text}
use Rattle.evo_print.specs.Texts.{kind_text}
use Rattle.evo_round_trip.proofs.Written.{Written, joined, Sound}
use Rattle.evo_round_trip.proofs.Matching.{FromText}
use Rattle.evo_round_trip.proofs.Printed.{begins, is_apart, is_flush, is_free, Matched, firm_parts, genuine_left, genuine_right, joined_append, sound_append, begins_append, begins_within}
use Rattle.evo_round_trip.proofs.Prints.{lead, lead_sound, lead_joined, lead_begins, lead_fits}
use Rattle.evo_round_trip.proofs.Heads.{is_calm, calm_flush, apart_free}
use Rattle.evo_round_trip.proofs.DeclarationTrees.{SameKind, SameDecl, below, bare_is, declaration_is, decl_same}
use Rattle.evo_round_trip.proofs.PrintedBlocks.{feed, indent_gap}
use Rattle.evo_round_trip.proofs.PrintedKinds.{Kinds, Kinded, AllOf}

-- ---- what stands before a kind

abbrev pub AttributesFront : Type 0
AttributesFront = (d : ℕ) (us : List Piece) (attrs : List Attr) → FromText us → Attributes d us attrs → (ys : List Written) → begins false is_calm ys ≡ true → Sound ys →
    (zs : List Written) × (joined zs ≡ flat_map (λ a. attr_text a.kind) (ordered_attributes attrs) ++ joined ys) × Sound zs × (begins false is_calm zs ≡ true)
    × ((ms : List Piece) → Matched false ms zs → (ns : List Piece) × (ps : List Piece) × (attrs' : List Attr) × (ms ≡ ns ++ ps) × Attributes d ns attrs' × (map bare_attr (ordered_attributes attrs') ≡ map bare_attr (ordered_attributes attrs)) × ((k : AttrKind) → has_attribute k attrs' ≡ has_attribute k attrs) × Matched false ps ys)

abbrev pub ModifiersFront : Type 0
ModifiersFront = (us : List Piece) (mods : List Modifier) → FromText us → Modifiers us mods → (b : Bool) (p : Place) → (ys : List Written) → begins false is_calm ys ≡ true → Sound ys →
    (zs : List Written) × (joined zs ≡ flat_map (λ m. modifier_text m.kind) (with_access b p (ordered_modifiers mods)) ++ joined ys) × Sound zs × (begins false is_calm zs ≡ true)
    × ((ms : List Piece) → Matched false ms zs → (ns : List Piece) × (ps : List Piece) × (mods' : List Modifier) × (ms ≡ ns ++ ps) × Modifiers ns mods'
    × ((p' : Place) → map bare_modifier (with_access b p' (ordered_modifiers mods')) ≡ map bare_modifier (with_access b p (ordered_modifiers mods))) × (has_modifier modifier.Override mods' ≡ has_modifier modifier.Override mods) × Matched false ps ys)

-- ---- whether an access is added

-- by one level of what is declared, and whether it overrides
abbrev level_access : Bool → DeclKind-F DeclKind Decl → Bool
level_access over (o.Function n h b) = not over
level_access over (o.Initialiser h b) = true
level_access over (o.Property i n t a) = true
level_access over (o.TypeAlias n t) = true
level_access over (o.AssociatedType n p t) = true
level_access over (o.Case n p) = false
level_access over (o.Nominal k n i ms) = true
level_access over (o.Extension t i ms) = false

level_kept : (over : Bool) (y : DeclKind-F DeclKind Decl) → level_access over (below y) ≡ level_access over y
level_kept over (o.Function n h b) = refl
level_kept over (o.Initialiser h b) = refl
level_kept over (o.Property i n t a) = refl
level_kept over (o.TypeAlias n t) = refl
level_kept over (o.AssociatedType n p t) = refl
level_kept over (o.Case n p) = refl
level_kept over (o.Nominal k n i ms) = refl
level_kept over (o.Extension t i ms) = refl

out_bare : (x : DeclKind) → out-DeclKind (bare_kind x) ≡ below (out-DeclKind x)
out_bare x = ap out-DeclKind (bare_is x (out-DeclKind x) refl) ∙ out-roll-DeclKind (below (out-DeclKind x))

-- kinds that are the same but for places get the same access
access_kept : (s : Scope) (mods mods' : List Modifier) (x x' : DeclKind) → has_modifier modifier.Override mods' ≡ has_modifier modifier.Override mods → SameKind x x' → has_access s mods' x' ≡ has_access s mods x
access_kept s mods mods' x x' over same = ap (λ z. not (is_protocol s) && z) (
    ap (λ b. level_access b (out-DeclKind x')) over
    ∙ sym (ap (level_access here) (out_bare x') ∙ level_kept here (out-DeclKind x'))
    ∙ ap (λ z. level_access here (out-DeclKind z)) (sym same)
    ∙ (ap (level_access here) (out_bare x) ∙ level_kept here (out-DeclKind x)))
  where
    here : Bool
    here = has_modifier modifier.Override mods

-- ---- each declaration

-- a declaration, which G spells alone
pub record Each (G : Rule (List Decl)) (n : ℕ) (x : Decl) : Type 0 where
  pub written : List Written
  pub text : decl_text x n ≡ line n (joined written)
  pub sound : Sound written
  pub begun : begins false is_calm written ≡ true
  pub again : (ms : List Piece) → Matched false ms written → (x' : Decl) × G ms (x' ∷ []) × SameDecl x x'

module _ (attributes : AttributesFront) (modifiers : ModifiersFront) (s : Scope) (d n : ℕ) (K : List Attr → Rule Kinds) (kinded : (attrs : List Attr) (us : List Piece) (w : Kinds) → FromText us → K attrs us w → AllOf (Kinded K n attrs) w.1) where
  abbrev Group : Rule (List Decl)
  Group = DeclarationOf s d K

  each : (v1 v3 : List Piece) (attrs : List Attr) (mods : List Modifier) → FromText v1 → FromText v3 → Attributes d v1 attrs → Modifiers v3 mods → (p : Place) (x : DeclKind) → Kinded K n attrs x → Each Group n (declaration s attrs mods p x)
  each v1 v3 attrs mods g1 g3 a m p x k =
      let (ys, text, sound, begun, again) = modifiers v3 mods g3 m (has_access s mods x) p k.written k.begun k.sound in
      let (zs, text', sound', begun', again') = attributes d v1 attrs g1 a ys begun sound in
      record {
        written = zs;
        text = declaration_is s attrs mods p x n ∙ ap (line n) (words (flat_map (λ a. attr_text a.kind) (ordered_attributes attrs)) (flat_map (λ m. modifier_text m.kind) (with_access (has_access s mods x) p (ordered_modifiers mods))) (kind_text x n) (joined k.written) (joined ys) (joined zs) k.text text text');
        sound = sound';
        begun = begun';
        again = λ ms f.
            let (ns, ps, attrs', cut, a', sames, has, fits) = again' ms f in
            let (ns2, ps2, mods', cut2, m', sames2, over, fits2) = again ps fits in
            let (p', x', kd, same) = k.again attrs' (record { same = has }) ps2 fits2 in
            (declaration s attrs' mods' p' x', (attrs', ns, ps, cut, a', (mods', ns2, ps2, cut2, m', (one_kind p' x', ps2, [], sym (append-nil ps2), kd, (refl, refl)))), alike p p' x x' attrs attrs' mods mods' sames (sames2 p') over same);
      }
    where
      words : (a m k k' y z : Text) → k' ≡ k → y ≡ m ++ k' → z ≡ a ++ y → a ++ m ++ k ≡ z
      words a m k k' y z p q r = append_assoc a m k ∙ ap (λ v. a ++ v) (ap (λ v. m ++ v) (sym p) ∙ sym q) ∙ sym r

      alike : (p p' : Place) (x x' : DeclKind) (attrs attrs' : List Attr) (mods mods' : List Modifier) → map bare_attr (ordered_attributes attrs') ≡ map bare_attr (ordered_attributes attrs) →
          map bare_modifier (with_access (has_access s mods x) p' (ordered_modifiers mods')) ≡ map bare_modifier (with_access (has_access s mods x) p (ordered_modifiers mods)) → has_modifier modifier.Override mods' ≡ has_modifier modifier.Override mods → SameKind x x' →
          SameDecl (declaration s attrs mods p x) (declaration s attrs' mods' p' x')
      alike p p' x x' attrs attrs' mods mods' sames sames2 over same =
          decl_same (record { place = p; attrs = ordered_attributes attrs; modifiers = with_access (has_access s mods x) p (ordered_modifiers mods); kind = x })
          (record { place = p'; attrs = ordered_attributes attrs'; modifiers = with_access (has_access s mods' x') p' (ordered_modifiers mods'); kind = x' })
          (sym sames) (sym (ap (λ b. map bare_modifier (with_access b p' (ordered_modifiers mods'))) (access_kept s mods mods' x x' over same) ∙ sames2)) same

  all_each : (v1 v3 : List Piece) (attrs : List Attr) (mods : List Modifier) → FromText v1 → FromText v3 → Attributes d v1 attrs → Modifiers v3 mods → (p : Place) (xs : List DeclKind) → AllOf (Kinded K n attrs) xs → AllOf (Each Group n) (map (declaration s attrs mods p) xs)
  all_each v1 v3 attrs mods g1 g3 a m p [] all = tt
  all_each v1 v3 attrs mods g1 g3 a m p (x ∷ xs) (k, all) = (each v1 v3 attrs mods g1 g3 a m p x k, all_each v1 v3 attrs mods g1 g3 a m p xs all)

  -- each declaration that one of the source makes
  pub group_each : (us : List Piece) (ds : List Decl) → FromText us → Group us ds → AllOf (Each Group n) ds
  group_each us ds gen (attrs, v1, v2, cut, a, (mods, v3, v4, cut2, m, (w, v5, v6, cut3, kd, (none, is)))) =
      let g : FromText (v1 ++ v2) = subst FromText cut gen in
      let g2 : FromText (v3 ++ v4) = subst FromText cut2 (genuine_right v1 v2 g) in
      let g4 : FromText (v5 ++ v6) = subst FromText cut3 (genuine_right v3 v4 g2) in
      subst (AllOf (Each Group n)) (sym is) (all_each v1 v3 attrs mods (genuine_left v1 v2 g) (genuine_left v3 v4 g2) a m w.0 w.1 (kinded attrs v5 w (genuine_left v5 v6 g4) kd))

-- ---- declarations one below the other

module _ (G : Rule (List Decl)) (n : ℕ) where
  -- written, each line behind a line feed
  pub record BelowEach (xs : List Decl) (R : List Piece → List (List Decl) → Type 0) : Type 0 where
    pub written : List Written
    pub text : joined written ++ codes "\n" ≡ codes "\n" ++ flat_map (λ x. decl_text x n) xs
    pub sound : Sound written
    pub begun : begins true is_apart written ≡ true
    pub again : (ms : List Piece) → Matched true ms written → (gs : List (List Decl)) × R ms gs × AllLike SameDecl xs (flat_map (λ g. g) gs)

  abbrev Further : List Piece → List (List Decl) → Type 0
  Further = Run (λ _. Next G) (λ first _. first) true

  -- a line and those below it
  line_more : (x : Decl) (each : Each G n x) (rest : List Written) (xs : List Decl) → joined rest ++ codes "\n" ≡ codes "\n" ++ flat_map (λ x. decl_text x n) xs →
      joined (lead (feed n) each.written ++ rest) ++ codes "\n" ≡ codes "\n" ++ flat_map (λ x. decl_text x n) (x ∷ xs)
  line_more x each rest xs text =
      ap (λ z. z ++ codes "\n") (joined_append (lead (feed n) each.written) rest ∙ ap (λ z. z ++ joined rest) (lead_joined (feed n) each.written (begins_within false false is_calm is_flush each.written (λ h. h) calm_flush each.begun)))
      ∙ append_assoc (feed n ++ joined each.written) (joined rest) (codes "\n") ∙ ap (λ z. (feed n ++ joined each.written) ++ z) text
      ∙ turn (joined each.written) (flat_map (λ x. decl_text x n) xs) ∙ ap (λ z. codes "\n" ++ (z ++ flat_map (λ x. decl_text x n) xs)) (sym each.text)
    where
      turn : (v w : Text) → (feed n ++ v) ++ (codes "\n" ++ w) ≡ codes "\n" ++ (line n v ++ w)
      turn v w = simp append_assoc

  led_sound : (x : Decl) (each : Each G n x) (rest : List Written) → Sound rest → begins true is_apart rest ≡ true → Sound (lead (feed n) each.written ++ rest)
  led_sound x each rest sound begun = sound_append (lead (feed n) each.written) rest (lead_sound (feed n) (indent_gap n) each.written each.sound) sound (begins_within true true is_apart is_free rest (λ h. h) apart_free begun)

  led_begins : (x : Decl) (each : Each G n x) → begins false is_apart (lead (feed n) each.written) ≡ true
  led_begins x each = lead_begins (feed n) refl each.written (begins_within false false is_calm is_flush each.written (λ h. h) calm_flush each.begun)

  -- those below a first one
  further : (xs : List Decl) → AllOf (Each G n) xs → BelowEach xs Further
  further [] all = record { written = []; text = refl; sound = tt; begun = refl; again = λ ms f. ([], none ms f, tt) }
    where
      none : (ms : List Piece) → Matched true ms [] → ms ≡ []
      none [] f = refl
      none (m ∷ ms) f = absurd f
  further (x ∷ xs) (each, all) =
      let rest = further xs all in
      record {
        written = lead (feed n) each.written ++ rest.written;
        text = line_more x each rest.written xs rest.text;
        sound = led_sound x each rest.written rest.sound rest.begun;
        begun = begins_append true is_apart (lead (feed n) each.written) rest.written (led_begins x each);
        again = λ ms f.
            let (ns, ps, cut, left, right) = firm_parts true is_apart ms (lead (feed n) each.written) rest.written (led_begins x each) f in
            let (x', g, same) = each.again ns (lead_fits (feed n) ns each.written (loose ns (lead (feed n) each.written) left)) in
            let (gs, run, sames) = rest.again ps right in
            ((x' ∷ []) ∷ gs, (ns, ps, cut, inr (inl (below each.written ns each.begun left g)), run), (same, sames));
      }
    where
      loose : (ms : List Piece) (ws : List Written) → Matched true ms ws → Matched false ms ws
      loose [] [] f = tt
      loose [] (w ∷ ws) f = absurd f
      loose (m ∷ ms) [] f = absurd f
      loose (m ∷ ms) (w ∷ ws) f = (f.0.0, f.1)

      below : {x' : Decl} (ws : List Written) (ms : List Piece) → begins false is_calm ws ≡ true → Matched true ms (lead (feed n) ws) → G ms (x' ∷ []) → Below G ms (x' ∷ [])
      below [] ms b f g = absurd (cc)
      below (w ∷ ws) [] b f g = absurd f
      below (w ∷ ws) (m ∷ ms) b f g = (m, ms, refl, f.0.1, g)

  -- all of them
  pub lines_each : (xs : List Decl) → AllOf (Each G n) xs → BelowEach xs (Lines G)
  lines_each [] all = record { written = []; text = refl; sound = tt; begun = refl; again = λ ms f. ([], inr (none ms f, refl), tt) }
    where
      none : (ms : List Piece) → Matched true ms [] → ms ≡ []
      none [] f = refl
      none (m ∷ ms) f = absurd f
  lines_each (x ∷ xs) (each, all) =
      let rest = further xs all in
      record {
        written = lead (feed n) each.written ++ rest.written;
        text = line_more x each rest.written xs rest.text;
        sound = led_sound x each rest.written rest.sound rest.begun;
        begun = begins_append true is_apart (lead (feed n) each.written) rest.written (led_begins x each);
        again = λ ms f.
            let (ns, ps, cut, left, right) = firm_parts true is_apart ms (lead (feed n) each.written) rest.written (led_begins x each) f in
            let (x', g, same) = each.again ns (lead_fits (feed n) ns each.written (loose ns (lead (feed n) each.written) left)) in
            let (gs, run, sames) = rest.again ps right in
            ((x' ∷ []) ∷ gs, inl ((x' ∷ []), ns, ps, cut, g, (gs, ps, [], sym (append-nil ps), run, (refl, refl))), (same, sames));
      }
    where
      loose : (ms : List Piece) (ws : List Written) → Matched true ms ws → Matched false ms ws
      loose [] [] f = tt
      loose [] (w ∷ ws) f = absurd f
      loose (m ∷ ms) [] f = absurd f
      loose (m ∷ ms) (w ∷ ws) f = (f.0.0, f.1)

  -- those of a text, which another rule or the same spells
  pub each_line : ((us : List Piece) (ds : List Decl) → FromText us → G us ds → AllOf (Each G n) ds) → (us : List Piece) (gs : List (List Decl)) → FromText us → Lines G us gs → AllOf (Each G n) (flat_map (λ g. g) gs)
  each_line one us gs gen (inl (g, vs, ws, cut, first, (rest, v2, w2, cut2, run, (none, is)))) =
      let gen' : FromText (vs ++ ws) = subst FromText cut gen in
      subst (λ z. AllOf (Each G n) (flat_map (λ g. g) z)) (sym is) (all_append g (flat_map (λ g. g) rest) (one vs g (genuine_left vs ws gen') first) (more true v2 rest (genuine_left v2 w2 (subst FromText cut2 (genuine_right vs ws gen'))) run))
    where
      all_append : (xs ys : List Decl) → AllOf (Each G n) xs → AllOf (Each G n) ys → AllOf (Each G n) (xs ++ ys)
      all_append [] ys p q = q
      all_append (x ∷ xs) ys p q = (p.0, all_append xs ys p.1 q)

      next : (us : List Piece) (g : List Decl) → FromText us → Next G us g → AllOf (Each G n) g
      next us g gen (inl (u, c, vs, at, takes, s)) = one vs g (subst FromText at gen).2 s
      next us g gen (inr (inl (u, vs, at, is, s))) = one us g gen s
      next us g gen (inr (inr s)) = absurd s

      more : (b : Bool) (us : List Piece) (gs : List (List Decl)) → FromText us → Run (λ _. Next G) (λ first _. first) b us gs → AllOf (Each G n) (flat_map (λ g. g) gs)
      more b us [] gen run = tt
      more b us (g ∷ gs) gen (vs, ws, cut, s, run) =
          let gen' : FromText (vs ++ ws) = subst FromText cut gen in
          all_append g (flat_map (λ g. g) gs) (next vs g (genuine_left vs ws gen') s) (more b ws gs (genuine_right vs ws gen') run)
  each_line one us gs gen (inr (none, is)) = subst (λ z. AllOf (Each G n) (flat_map (λ g. g) z)) (sym is) tt
