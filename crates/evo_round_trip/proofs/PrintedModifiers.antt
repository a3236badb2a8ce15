-- Modifiers are written in their order, with an access where one is to be there, and read again.
use Rattle.std.proofs.Common.{◌≡◌, ℕ, ◌-◌, List, [], ◌∷◌, ◌++◌, map, Bool, true, false, not, codes, Option, Some, None, refl, sym, ◌∙◌, ap, subst, inl, inr, cond, append-nil}
use Rattle.std.specs.Prelude.{◌==◌}
use Rattle.std.specs.List.{flat_map, filter, list_any}
use Rattle.std.proofs.lemmas.Bool.Decides.{Decides-eqb}
use Rattle.std.proofs.lemmas.Bool.{not-true}
use Rattle.evo_base.specs.declared.place.Place.{Place}
use Rattle.evo_combinators.specs.Rule.{One}
use Rattle.evo_lex.specs.Front.{when}
use Rattle.evo_tree.specs.declared.declaration.ModifierKind.{ModifierKind}
use Rattle.evo_tree.specs.declared.declaration.ModifierKind.TheVariants as modifier
use Rattle.evo_tree.specs.declared.declaration.Modifier.{Modifier}
use Rattle.evo_tree.specs.declared.terminal.Role.TheVariants as role
use Rattle.evo_tree.specs.declared.terminal.Terminal.{Terminal}
use Rattle.evo_tree.specs.declared.terminal.Terminal.TheVariants as t
use Rattle.evo_tree.specs.Pieces.{Piece}
use Rattle.evo_tree.specs.Expressions.{Rule}
use Rattle.evo_tree.specs.Declarations.{has_modifier, is_ranked, ordered_modifiers, modifier_of, unless_modifier, modifier_word, Modifiers, with_access}
use Rattle.evo_tree.specs.Bare.{bare_modifier}
use Rattle.evo_tree.specs.Canonical.{modifier_text}
use Rattle.evo_round_trip.proofs.Written.{Written, Sound, joined}
use Rattle.evo_round_trip.proofs.Matching.{FromText}
use Rattle.evo_round_trip.proofs.Printed.{any, begins, is_free, Matched, leads_free}
use Rattle.evo_round_trip.proofs.Prints.{Taken, Alone, Writes, print_only, print_led}
use Rattle.evo_parse_expr.proofs.Tests.{when_some}
use Rattle.evo_round_trip.proofs.Tokens.{spelling, has_spelling, spelled_is, spelled_is_token}
use Rattle.evo_round_trip.proofs.Spellings.{sign}
use Rattle.evo_round_trip.proofs.TakenTokens.{like_of}
use Rattle.evo_round_trip.proofs.Heads.{is_calm}
use Rattle.evo_round_trip.proofs.PrintedTypes.{SameBy}
use Rattle.evo_round_trip.proofs.OrderedKinds.{is_short, none_is, AtMostOne, MayFollow, one_nil, any_filter, among}
use Rattle.evo_round_trip.proofs.Fronts.{Fronted, Fine, AllFine, fine_append, fine_filter, spelled_fine, front}
use Rattle.evo_round_trip.proofs.OrderedModifiers.{number, single, ordered_again, ordered_bare, has_ordered, has_bare, access_bare, one_ordered, internal, access_cases, ordered_internal}

-- ---- a modifier

abbrev modifier_terminal : ModifierKind → Terminal
modifier_terminal modifier.Open = t.Open
modifier_terminal modifier.Public = t.Public
modifier_terminal modifier.Internal = t.Internal
modifier_terminal modifier.Private = t.Private
modifier_terminal modifier.Final = t.Final
modifier_terminal modifier.Static = t.Static
modifier_terminal modifier.Override = t.Override
modifier_terminal modifier.Mutating = t.Mutating

-- what is written for each, and that it is read again
terminal_good : (k : ModifierKind) → (has_spelling (modifier_terminal k) ≡ true) × (modifier_of (modifier_terminal k) ≡ Some k) × (modifier_text k ≡ spelling (modifier_terminal k) ++ codes " ")
terminal_good modifier.Open = (refl, refl, refl)
terminal_good modifier.Public = (refl, refl, refl)
terminal_good modifier.Internal = (refl, refl, refl)
terminal_good modifier.Private = (refl, refl, refl)
terminal_good modifier.Final = (refl, refl, refl)
terminal_good modifier.Static = (refl, refl, refl)
terminal_good modifier.Override = (refl, refl, refl)
terminal_good modifier.Mutating = (refl, refl, refl)

taken_modifier : Taken {A = Unit {0}} false any is_calm (λ (m : Modifier). sign [] (modifier_terminal m.kind)) Alone (SameBy bare_modifier) (modifier_word []) (λ a. modifier_word [])
unfolding modifier_word
taken_modifier = record {
  holds = λ u m gen passes takes. (
    spelled_is_token (modifier_terminal m.kind) (terminal_good m.kind).0 [] refl role.Unattached,
    refl,
    λ a near v f.
        let like = like_of false v (sign [] (modifier_terminal m.kind)) f in
        let again : modifier_of v.terminal ≡ Some m.kind = ap modifier_of (like.terminal ∙ spelled_is (modifier_terminal m.kind) (terminal_good m.kind).0) ∙ (terminal_good m.kind).1 in
        (record { place = v.place; kind = m.kind }, ap (unless_modifier [] v.place) again, refl),
  );
}

modifier_prints : Writes false false is_calm (λ m. spelling (modifier_terminal m.kind)) (SameBy bare_modifier) (One (modifier_word [])) (One (modifier_word []))
modifier_prints = print_led {e' = true} {q = is_free} taken_modifier (λ m ws b. leads_free _ (sign [] (modifier_terminal m.kind)) ws refl b) (λ m. print_only (append-nil (spelling (modifier_terminal m.kind))) (λ a near. near.1))

-- a modifier that is taken behind others is one that is not among them
word_means : (s : List Modifier) (p : Place) (o : Option ModifierKind) (m : Modifier) → unless_modifier s p o ≡ Some m → (unless_modifier [] p o ≡ Some m) × (has_modifier m.kind s ≡ false)
word_means s p None m e = absurd (cc)
word_means s p (Some k) m e =
    let (test, is) = when_some (not (has_modifier k s)) (record { place = p; kind = k }) m e in
    (ap (λ (z : Modifier). Some z) is, subst (λ (z : Modifier). has_modifier z.kind s ≡ false) is (not-true (has_modifier k s) test))

word_again : (s : List Modifier) (p : Place) (o : Option ModifierKind) (m : Modifier) → unless_modifier [] p o ≡ Some m → has_modifier m.kind s ≡ false → unless_modifier s p o ≡ Some m
word_again s p None m e none = absurd (cc)
word_again s p (Some k) m e none =
    let is : ◌≡◌ {A = Modifier} (record { place = p; kind = k }) m = (when_some true (record { place = p; kind = k }) m e).1 in
    ap (λ b. when (not b) (record { place = p; kind = k })) (subst (λ (z : Modifier). has_modifier z.kind s ≡ false) (sym is) none) ∙ ap (λ (z : Modifier). Some z) is

abbrev Word : List Modifier → Rule Modifier
Word s = One (modifier_word s)

modifier_laws : Fronted bare_modifier number single Word (λ m. modifier_text m.kind)
unfolding modifier_word
modifier_laws = record {
  out = λ m. spelling (modifier_terminal m.kind);
  text_is = λ m. (terminal_good m.kind).2;
  num_bare = λ m. refl;
  law = modifier_prints;
  alone = alone;
  may = may;
  into = into;
}
  where
    alone : (s : List Modifier) (us : List Piece) (m : Modifier) → Word s us m → Word [] us m
    alone s us m (u, n, vs, at, takes, only) = (u, n, vs, at, (word_means s u.place (modifier_of u.terminal) n takes).0, only)

    may : (s : List Modifier) (us : List Piece) (m : Modifier) → Word s us m → MayFollow number single m s
    may s us m (u, n, vs, at, takes, only) h = subst (λ (z : Modifier). has_modifier z.kind s ≡ false) (sym only.1) (word_means s u.place (modifier_of u.terminal) n takes).1

    into : (s : List Modifier) (us : List Piece) (m : Modifier) → MayFollow number single m s → Word [] us m → Word s us m
    into s us m free (u, n, vs, at, takes, only) = (u, n, vs, at, word_again s u.place (modifier_of u.terminal) n takes (subst (λ (z : Modifier). has_modifier z.kind s ≡ false) only.1 (free refl)), only)

-- ---- modifiers

fine_ordered : (ms : List Modifier) → AllFine Word ms → AllFine Word (ordered_modifiers ms)
unfolding ordered_modifiers
fine_ordered ms fine = fine_append Word (((part 0 ++ part 1) ++ part 2) ++ part 3) (part 4) (fine_append Word ((part 0 ++ part 1) ++ part 2) (part 3) (fine_append Word (part 0 ++ part 1) (part 2) (fine_append Word (part 0) (part 1) (here 0) (here 1)) (here 2)) (here 3)) (here 4)
  where
    part : ℕ → List Modifier
    part n = filter (is_ranked n) ms

    here : (n : ℕ) → AllFine Word (filter (is_ranked n) ms)
    here n = fine_filter Word (is_ranked n) ms fine

fine_internal : (p : Place) → Fine Word (internal p)
unfolding modifier_word
fine_internal p = (u ∷ [], (record { name = λ e. absurd (cc); self_type = λ e. absurd (cc) }, (tt, tt), tt), (u, internal p, [], refl, refl, (refl, refl)))
  where
    u : Piece
    u = record { terminal = t.Internal; role = role.Unattached; below = false; place = p; text = codes "internal" }

one_internal : (p : Place) (ms : List Modifier) → list_any (is_ranked 0) ms ≡ false → AtMostOne number single ms → AtMostOne number single (internal p ∷ ms)
one_internal p ms none one m h = go (2 == number m) refl
  where
    go : (b : Bool) → (2 == number m) ≡ b → is_short (cond b (internal p ∷ filter (λ x. number x == number m) ms) (filter (λ x. number x == number m) ms)) ≡ true
    go false e = one m h
    go true e = ap (λ z. is_short (internal p ∷ z)) (empty (number m) ((Decides-eqb 2 (number m)).0 e))
      where
        no_rank : filter (is_ranked 0) ms ≡ []
        no_rank = none_is (filter (is_ranked 0) ms) (sym (any_filter (is_ranked 0) ms) ∙ none)

        empty : (n : ℕ) → 2 ≡ n → filter (λ x. number x == n) ms ≡ []
        empty n is = subst (λ k. filter (λ x. number x == k) ms ≡ []) is (sym (among number (λ k. k - 3) 2 0 ms) ∙ ap (filter (λ (x : Modifier). number x == 2)) no_rank)

-- what is known of the modifiers that are written
record Good (b : Bool) (p : Place) (mods ws : List Modifier) : Type 0 where
  one : AtMostOne number single ws
  fine : AllFine Word ws
  ordered : ordered_modifiers ws ≡ ws
  access : b ≡ true → list_any (is_ranked 0) ws ≡ true
  overrides : has_modifier modifier.Override ws ≡ has_modifier modifier.Override mods

good : (b : Bool) (p : Place) (mods : List Modifier) → AtMostOne number single mods → AllFine Word mods → Good b p mods (with_access b p (ordered_modifiers mods))
good b p mods one fine = elim (access_cases b p (ordered_modifiers mods)) [
  | inl (is, has) ↦ subst (Good b p mods) (sym is) (record {
    one = one_ordered mods one;
    fine = fine_ordered mods fine;
    ordered = ordered_again mods;
    access = has;
    overrides = has_ordered modifier.Override mods;
  })
  | inr (is, none) ↦ subst (Good b p mods) (sym is) (record {
    one = one_internal p (ordered_modifiers mods) none (one_ordered mods one);
    fine = (fine_internal p, fine_ordered mods fine);
    ordered = ordered_internal p mods;
    access = λ h. refl;
    overrides = has_ordered modifier.Override mods;
  })
]

-- what is read again is the same in its order, and an access is not put there twice
again_same : (b : Bool) (p : Place) (mods ws mods' : List Modifier) → Good b p mods ws → map bare_modifier ws ≡ map bare_modifier mods' →
    ((p' : Place) → map bare_modifier (with_access b p' (ordered_modifiers mods')) ≡ map bare_modifier ws) × (has_modifier modifier.Override mods' ≡ has_modifier modifier.Override mods)
again_same b p mods ws mods' known same = (λ p'. pick b p' known.access, has_bare modifier.Override mods' ∙ ap (has_modifier modifier.Override) (sym same) ∙ sym (has_bare modifier.Override ws) ∙ known.overrides)
  where
    plain : map bare_modifier (ordered_modifiers mods') ≡ map bare_modifier ws
    plain = ordered_bare mods' ∙ ap ordered_modifiers (sym same) ∙ sym (ordered_bare ws) ∙ ap (map bare_modifier) known.ordered

    pick : (b : Bool) (p' : Place) → (b ≡ true → list_any (is_ranked 0) ws ≡ true) → map bare_modifier (with_access b p' (ordered_modifiers mods')) ≡ map bare_modifier ws
    pick false p' access = plain
    pick true p' access =
        let has : list_any (is_ranked 0) (ordered_modifiers mods') ≡ true = access_bare (ordered_modifiers mods') ∙ ap (list_any (is_ranked 0)) plain ∙ sym (access_bare ws) ∙ access refl in
        ap (λ z. map bare_modifier (cond z (ordered_modifiers mods') (internal p' ∷ ordered_modifiers mods'))) has ∙ plain

-- modifiers are written in their order before `ys`, and read again
pub modifiers_front : (us : List Piece) (mods : List Modifier) → FromText us → Modifiers us mods → (b : Bool) (p : Place) → (ys : List Written) → begins false is_calm ys ≡ true → Sound ys →
    (zs : List Written) × (joined zs ≡ flat_map (λ m. modifier_text m.kind) (with_access b p (ordered_modifiers mods)) ++ joined ys) × Sound zs × (begins false is_calm zs ≡ true)
    × ((ms : List Piece) → Matched false ms zs → (ns : List Piece) × (ps : List Piece) × (mods' : List Modifier) × (ms ≡ ns ++ ps) × Modifiers ns mods'
    × ((p' : Place) → map bare_modifier (with_access b p' (ordered_modifiers mods')) ≡ map bare_modifier (with_access b p (ordered_modifiers mods))) × (has_modifier modifier.Override mods' ≡ has_modifier modifier.Override mods) × Matched false ps ys)
modifiers_front us mods gen run b p ys begun sound =
    let start = spelled_fine modifier_laws [] us mods gen run (one_nil number single) in
    let known = good b p mods start.0 start.1 in
    let (zs, written, sound', begun', again) = front modifier_laws [] (with_access b p (ordered_modifiers mods)) known.fine known.one ys begun sound in (
      zs,
      written,
      sound',
      begun',
      λ ms fits.
          let (ns, ps, mods', cut, run', same, rest) = again [] refl ms fits in
          let sames = again_same b p mods (with_access b p (ordered_modifiers mods)) mods' known same in
          (ns, ps, mods', cut, run', sames.0, sames.1, rest),
    )
