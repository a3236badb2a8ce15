-- Declarations, given their kinds; and declarations between separators.
use Rattle.std.proofs.Common.{◌≡◌, ℕ, suc, ◌+◌, Bool, true, false, List, [], ◌∷◌, ◌++◌, length, Option, Some, None, Ok, Err, refl, sym, ◌∙◌, ap, subst, ◌⊎◌, inl, inr}
use Rattle.std.specs.Prelude.{◌&&◌, ◌||◌, map, cond, codes}
use Rattle.evo_base.specs.declared.place.Place.{Place}
use Rattle.evo_combinators.specs.declared.Fault.TheVariants.{Grammar}
use Rattle.evo_combinators.specs.Rule.{Empty, Fail, Or, Then, IsViablePrefix}
use Rattle.evo_combinators.specs.Reader.{◌>>=◌, and_then, pure, refuse, one}
use Rattle.evo_combinators.specs.Guard.{Run, on, run, run_from, starts}
use Rattle.evo_combinators.specs.Laws.{Begins, Takes, first, of_first}
use Rattle.evo_combinators.proofs.Laws.{right_pure, right_same, begins_then}
use Rattle.evo_combinators.proofs.GrowsWithNesting.{same_refl}
use Rattle.evo_combinators.proofs.GuardDeeper.{deeper_choose}
use Rattle.evo_combinators.proofs.GuardLaws.{starts_is, right_on}
use Rattle.evo_combinators.proofs.FilterLaws.{right_filter}
use Rattle.evo_combinators.proofs.Entered.{takes_alt, takes_then}
use Rattle.evo_tree.specs.declared.declaration.Attr.{Attr}
use Rattle.evo_tree.specs.declared.declaration.Modifier.{Modifier}
use Rattle.evo_tree.specs.declared.declaration.DeclKind.{DeclKind}
use Rattle.evo_tree.specs.declared.scope.Scope.{Scope}
use Rattle.evo_tree.specs.declared.terminal.Terminal.TheVariants as t
use Rattle.evo_tree.specs.Terminals.{number_of}
use Rattle.evo_tree.specs.Pieces.{Piece, is_terminal, mark, opens_nesting}
use Rattle.evo_tree.specs.Expressions.{Rule}
use Rattle.evo_tree.specs.Declarations as grammar
use Rattle.evo_tree.specs.declared.declaration.AttrKind.TheVariants as attr
use Rattle.evo_tree.specs.Declarations.{attribute, declaration, modifier_word, DeclarationOf, Lines, Next, Below}
use Rattle.evo_parse_header.specs.Read as header
use Rattle.evo_parse_decl.specs.Read as read
use Rattle.evo_parse_expr.specs.Read.{Reader}
use Rattle.evo_combinators.proofs.Nesting.{nest_pure, nest_by, nest_choose}
use Rattle.evo_parse_expr.proofs.Nesting.{May}
use Rattle.evo_combinators.proofs.NestingRuns.{nest_filter}
use Rattle.evo_parse_header.specs.Read.{is_modifier}
use Rattle.evo_parse_decl.specs.Read.{begins_declaration, goes_on}
use Rattle.evo_parse_expr.proofs.Among.{among}
use Rattle.evo_parse_header.proofs.Sets.{Set, these, In, included, Ends, none_holds, into, the_end}
use Rattle.evo_parse_header.proofs.Parses.{Chooses, Parses, parses_then, parses_map, parses_alt, parses_run}
use Rattle.evo_parse_expr.proofs.Tests.{mark_is}
use Rattle.evo_parse_header.proofs.Tests.{a_piece, mark_test, number_among, is_marked, modifier_numbers}
use Rattle.evo_parse_header.proofs.Productions.{KindWords, Words, parses_attributes, parses_modifiers, modifier_is, is_modifier_word}
use Rattle.evo_parse_decl.proofs.Prefixes.{takes_begun}

-- what a declaration begins with
abbrev pub Firsts : List ℕ
Firsts = number_of t.At ∷ Words ++ KindWords

which : (b : Bool) → (b ≡ true) ⊎ (b ≡ false)
which true = inl refl
which false = inr refl

or_left : (a b : Bool) → a ≡ true → (a || b) ≡ true
or_left true b p = refl
or_left false b p = absurd (cc)

or_right : (a b : Bool) → b ≡ true → (a || b) ≡ true
or_right true b p = refl
or_right false b p = p

or_rest : (a b : Bool) → a ≡ false → (a || b) ≡ true → b ≡ true
or_rest true b e h = absurd (cc)
or_rest false b e h = h

-- a repetition that does not begin with the first token
run_none : {B State : Type 0} (g : State → Piece → Bool) (q : State → Reader B) (next : State → B → State) (s : State) (u : Piece) (us : List Piece) → g s u ≡ false → run g q next s (u ∷ us) ≡ Ok ([], u ∷ us)
unfolding run
run_none g q next s u us isnt = ap (λ c. cond c ((q s >>= (λ b. run_from g q next (length us) (next s b) >>= (λ bs. pure (b ∷ bs)))) (u ∷ us)) (Ok ([], u ∷ us))) (starts_is (g s) (u ∷ us) ∙ isnt)

attributes_none : (d : ℕ) (u : Piece) (us : List Piece) → is_terminal t.At u ≡ false → header.attributes d (u ∷ us) ≡ Ok ([], u ∷ us)
unfolding header.attributes
attributes_none d u us isnt = run_none (λ _. is_terminal t.At) (header.attribute_at d) (λ attrs a. attrs ++ a ∷ []) [] u us isnt

modifiers_none : (u : Piece) (us : List Piece) → is_modifier [] u ≡ false → header.modifiers (u ∷ us) ≡ Ok ([], u ∷ us)
unfolding header.modifiers
modifiers_none u us isnt = run_none is_modifier (λ ms. one (modifier_word ms)) (λ ms m. ms ++ m ∷ []) [] u us isnt

attributes_go : (d : ℕ) (u : Piece) → is_terminal t.At u ≡ true → IsViablePrefix (grammar.Attributes d) (u ∷ [])
unfolding a_piece grammar.attribute_word
attributes_go d u is =
    let frozen = a_piece t.Identifier (codes "frozen") in
    (frozen ∷ [], attribute u.place attr.Frozen ∷ [], (u ∷ frozen ∷ [], [], refl, (u, u.place, frozen ∷ [], refl, is_marked t.At u is, inl (frozen, attr.Frozen, [], refl, refl, (refl, refl))), refl))

modifiers_go : (u : Piece) → is_modifier [] u ≡ true → IsViablePrefix grammar.Modifiers (u ∷ [])
modifiers_go u is = let (m, takes) = is_modifier_word [] u is in ([], m ∷ [], (u ∷ [], [], refl, (u, m, [], refl, takes, (refl, refl)), refl))

module _ (s : Scope) (St : Set) (K : ℕ → List Attr → Rule (Place × List DeclKind)) (kind : ℕ → List Attr → Reader (Place × List DeclKind)) (g : Piece → Bool)
    (fits : (attrs : List Attr) → Parses (these KindWords) St (λ d. K d attrs) (λ d. kind d attrs)) (begins : (d : ℕ) → Begins (λ u. g u ≡ true) (K d []))
    (takes : (d : ℕ) (u : Piece) → g u ≡ true → Takes (kind d []) u) (numbers : (u : Piece) → g u ≡ true → among Firsts (number_of u.terminal) ≡ true) where
  parses_behind_modifiers : (attrs : List Attr) (ms : List Modifier) → Parses (these KindWords) St (λ d. Then (K d attrs) (λ w. Empty (map (declaration s attrs ms w.0) w.1))) (λ d. kind d attrs >>= (λ w. pure (map (declaration s attrs ms w.0) w.1)))
  parses_behind_modifiers attrs ms = parses_map (λ w. map (declaration s attrs ms w.0) w.1) (fits attrs)

  parses_behind_attributes : (attrs : List Attr) → Parses (these (the_end ∷ Words ++ KindWords)) St
      (λ d. Then grammar.Modifiers (λ ms. Then (K d attrs) (λ w. Empty (map (declaration s attrs ms w.0) w.1)))) (λ d. header.modifiers >>= (λ ms. kind d attrs >>= (λ w. pure (map (declaration s attrs ms w.0) w.1))))
  parses_behind_attributes attrs = parses_then refl parses_modifiers (parses_behind_modifiers attrs)

  pub parses_declaration : Parses (these (number_of t.At ∷ the_end ∷ Words ++ KindWords)) St (λ d. DeclarationOf s d (K d)) (λ d. read.declaration_of s d (kind d))
  unfolding read.declaration_of
  parses_declaration = parses_then refl parses_attributes parses_behind_attributes

  -- it begins with such a token, and no such token is refused
  pub begins_of_declaration : (d : ℕ) → Begins (λ u. begins_declaration g u ≡ true) (DeclarationOf s d (K d))
  begins_of_declaration d us x ([], vs, ws, cut, none, ([], xs, ys, cut', none', r)) =
      let (u, zs, cut3, is) = begins_then (λ u. g u ≡ true) (K d []) (λ w. Empty (map (declaration s [] [] w.0) w.1)) (begins d) ys x r in
      (u, zs, cut ∙ ap (λ k. k ++ ws) none ∙ cut' ∙ ap (λ k. k ++ ys) none' ∙ cut3, or_right (is_terminal t.At u) _ (or_right (is_modifier [] u) (g u) is))
  begins_of_declaration d us x ([], vs, ws, cut, none, (m ∷ ms, xs, ys, cut', (as', bs, cut3, (u, m', cs, cut4, takes', s'), run'), r)) =
      (u, _, cut ∙ ap (λ k. k ++ ws) none ∙ cut' ∙ ap (λ k. k ++ ys) (cut3 ∙ ap (λ k. k ++ bs) cut4), or_right (is_terminal t.At u) _ (or_left (is_modifier [] u) (g u) (modifier_is [] u m' takes')))
  begins_of_declaration d us x (a ∷ as', vs, ws, cut, (xs, ys, cut', (u, p, zs, cut3, takes', s'), run'), r) =
      (u, _, cut ∙ ap (λ k. k ++ ws) (cut' ∙ ap (λ k. k ++ ys) cut3), or_left (is_terminal t.At u) _ (mark_is t.At u p takes'))

  pub takes_declaration : (d : ℕ) (u : Piece) → begins_declaration g u ≡ true → Takes (read.declaration_of s d (kind d)) u
  unfolding read.declaration_of
  takes_declaration d u is = elim (which (is_terminal t.At u)) [
    | inl at ↦ takes_begun (In (these (the_end ∷ Words ++ KindWords))) (In St) (grammar.Attributes d) (grammar.Attributes (suc d)) _ _ (header.attributes d) _ (λ n. parses_attributes.chooses.right d n)
        (λ attrs n. (parses_behind_attributes attrs).chooses.right d n) u (attributes_go d u at)
    | inr elsewhere ↦ λ us bad. later (or_rest (is_terminal t.At u) _ elsewhere is) us
        (sym (ap (λ o. and_then o (λ attrs. header.modifiers >>= (λ ms. kind d attrs >>= (λ w. pure (map (declaration s attrs ms w.0) w.1))))) (attributes_none d u us elsewhere)) ∙ bad)
  ]
    where
      no_kind : (x : Place × List DeclKind) → K d [] [] x → ⊥
      no_kind x r = let (v, vs, cut, h) = begins d [] x r in cc

      last : g u ≡ true → Takes (kind d [] >>= (λ w. pure (map (declaration s [] [] w.0) w.1))) u
      last is = takes_then (In St) (λ x. Unit {0}) (K d []) (K (suc d) []) (λ w. Empty (map (declaration s [] [] w.0) w.1)) (λ w. Empty (map (declaration s [] [] w.0) w.1)) (kind d []) _ u
          (λ n. (fits []).chooses.right d n) (λ w n. right_pure n (λ x. Unit {0}) tt (map (declaration s [] [] w.0) w.1)) no_kind (takes d u is)

      later : (is_modifier [] u || g u) ≡ true → Takes (header.modifiers >>= (λ ms. kind d [] >>= (λ w. pure (map (declaration s [] ms w.0) w.1)))) u
      later is = elim (which (is_modifier [] u)) [
        | inl modifier ↦ takes_begun (In (these (the_end ∷ KindWords))) (In St) grammar.Modifiers grammar.Modifiers _ _ header.modifiers _ (λ n. parses_modifiers.chooses.right 0 n)
            (λ ms n. (parses_behind_modifiers [] ms).chooses.right d n) u (modifiers_go u modifier)
        | inr elsewhere ↦ λ us bad. last (or_rest (is_modifier [] u) (g u) elsewhere is) us
            (sym (ap (λ o. and_then o (λ ms. kind d [] >>= (λ w. pure (map (declaration s [] ms w.0) w.1)))) (modifiers_none u us elsewhere)) ∙ bad)
      ]

  pub numbers_of_declaration : (u : Piece) → begins_declaration g u ≡ true → among Firsts (number_of u.terminal) ≡ true
  numbers_of_declaration u is = elim (which (is_terminal t.At u)) [
    | inl at ↦ into (these (number_of t.At ∷ [])) (these Firsts) refl (Some u) (number_among t.At u at)
    | inr elsewhere ↦ elim (which (is_modifier [] u)) [
      | inl modifier ↦ let (m, takes') = is_modifier_word [] u modifier in into (these Words) (these Firsts) refl (Some u) (modifier_numbers [] u m takes')
      | inr other ↦ numbers u (or_rest (is_modifier [] u) (g u) other (or_rest (is_terminal t.At u) _ elsewhere is))
    ]
  ]

-- ---- several, with separators between them

below_of : (g : Piece → Bool) (u : Piece) → (u.below && g u) ≡ true → (u.below ≡ true) × (g u ≡ true)
below_of g u e = go u.below (g u) e
  where
    go : (a b : Bool) → (a && b) ≡ true → (a ≡ true) × (b ≡ true)
    go true b e = (refl, e)
    go false b e = absurd (cc)

both_below : (a b : Bool) → a ≡ true → b ≡ true → (a && b) ≡ true
both_below true b p q = q
both_below false b p q = absurd (cc)

pub record Entered {A : Type 0} (F : Set) (g : Piece → Bool) (S : ℕ → Rule A) (p : ℕ → Reader A) : Type 0 where
  pub fits : Parses F Ends S p
  pub begins : (d : ℕ) → Begins (λ u. g u ≡ true) (S d)
  pub takes : (d : ℕ) (u : Piece) → g u ≡ true → Takes (p d) u
  pub numbers : (u : Piece) → g u ≡ true → among Firsts (number_of u.terminal) ≡ true

module _ {A : Type 0} (F : Set) (g : Piece → Bool) (S : ℕ → Rule A) (p : ℕ → Reader A) (entered : Entered F g S p) where
  full : (d : ℕ) (x : A) → S d [] x → ⊥
  full d x s = let (u, vs, cut, is) = entered.begins d [] x s in cc

  no_nothing : (R : Rule A) (us : List Piece) (x : A) → Or R Fail us x → R us x
  no_nothing R us x (inl s) = s
  no_nothing R us x (inr none) = absurd none

  chooses_below : Chooses (these Firsts) Ends (λ d. Or (Below (S d)) Fail) (λ d. on (λ u. u.below) (p d) refuse)
  chooses_below = record {
    right = λ d n. right_same n (In Ends) (Below (S d)) (Below (S (suc d))) (Or (Below (S d)) Fail) (Or (Below (S (suc d))) Fail) (on (λ u. u.below) (p d) refuse)
        (λ us x s. inl s) (no_nothing (Below (S d))) (λ us x s. inl s)
        (right_filter n (In Ends) (λ u. u.below) (S d) (S (suc d)) (p d) (entered.fits.chooses.right d n) (full d));
    deeper = λ d. deeper_choose (starts (λ u. u.below)) (p d) (p (suc d)) refuse refuse (entered.fits.chooses.deeper d) (same_refl refuse);
    front = λ d us rest x s stop.
        let (v, vs, cut, is, s') = no_nothing (Below (S d)) us x s in
        let (u, ws, cut', h) = entered.begins d us x s' in
        subst (λ k. In (these Firsts) (first (k ++ rest))) (sym cut') (entered.numbers u h);
    nest = λ d n. nest_by (May d) opens_nesting n (Below (S d)) (Or (Below (S d)) Fail) (on (λ u. u.below) (p d) refuse) (λ us x s. inl s)
        (nest_filter (May d) opens_nesting n (λ u. u.below) (S d) (p d) (entered.fits.chooses.nest d n));
  }

  pub parses_next : Parses (these (number_of t.Semicolon ∷ Firsts)) Ends (λ d. Next (S d)) (λ d. read.next (p d))
  unfolding read.next
  parses_next = parses_alt {H = these Firsts} refl refl refl refl (mark_test t.Semicolon) (λ _. entered.fits) chooses_below

  pub begins_next : (d : ℕ) → Begins (λ u. goes_on g u ≡ true) (Next (S d))
  begins_next d us x (inl (u, q, vs, cut, takes, s)) = (u, vs, cut, or_left (is_terminal t.Semicolon u) _ (mark_is t.Semicolon u q takes))
  begins_next d us x (inr (inl (v, vs, cut, is, s))) =
      let (u, ws, cut', h) = entered.begins d us x s in
      let same : v ≡ u = let e = sym (ap first cut) ∙ ap first cut' in cc in
      (u, ws, cut', or_right (is_terminal t.Semicolon u) _ (both_below u.below (g u) (subst (λ k. k.below ≡ true) same is) h))
  begins_next d us x (inr (inr none)) = absurd none

  pub takes_next : (d : ℕ) (u : Piece) → goes_on g u ≡ true → Takes (read.next (p d)) u
  unfolding read.next
  takes_next d u is = takes_alt (In Ends) (λ _. S d) (λ _. S (suc d)) (mark t.Semicolon) (λ _. p d) (on (λ u. u.below) (p d) refuse) u (λ _ n. entered.fits.chooses.right d n)
      (λ none us bad. elim (which (is_terminal t.Semicolon u)) [
        | inl here ↦ let both = sym (is_marked t.Semicolon u here) ∙ none in cc
        | inr elsewhere ↦
            let (below, h) = below_of g u (or_rest (is_terminal t.Semicolon u) _ elsewhere is) in
            entered.takes d u h us (sym (ap (λ c. cond c (p d (u ∷ us)) (Err (Grammar (suc (length us))))) (starts_is (λ u. u.below) (u ∷ us) ∙ below)) ∙ bad)
      ])

  pub numbers_of_next : (u : Piece) → goes_on g u ≡ true → among (number_of t.Semicolon ∷ Firsts) (number_of u.terminal) ≡ true
  numbers_of_next u is = elim (which (is_terminal t.Semicolon u)) [
    | inl here ↦ into (these (number_of t.Semicolon ∷ [])) (these (number_of t.Semicolon ∷ Firsts)) refl (Some u) (number_among t.Semicolon u here)
    | inr elsewhere ↦ into (these Firsts) (these (number_of t.Semicolon ∷ Firsts)) refl (Some u) (entered.numbers u (below_of g u (or_rest (is_terminal t.Semicolon u) _ elsewhere is)).1)
  ]

  abbrev Nexts : ℕ → Rule (List A)
  Nexts d = Run (λ _. Next (S d)) (λ first _. first) true

  abbrev nexts : ℕ → Reader (List A)
  nexts d = run (λ _. goes_on g) (λ _. read.next (p d)) (λ first _. first) true

  parses_nexts : Parses (these (number_of t.CloseBrace ∷ the_end ∷ number_of t.Semicolon ∷ Firsts)) (these (number_of t.CloseBrace ∷ the_end ∷ [])) Nexts nexts
  parses_nexts = parses_run _ _ Ends _ (number_of t.Semicolon ∷ Firsts) (λ _. goes_on g) (λ d _. Next (S d)) (λ d _. read.next (p d)) (λ first _. first) refl refl refl refl refl (λ _. parses_next.chooses)
      (λ d _. begins_next d) (λ _. numbers_of_next) (λ d _. takes_next d) true

  abbrev All : ℕ → Rule (List A)
  All d = Then (S d) (λ x. Then (Nexts d) (λ xs. Empty (x ∷ xs)))

  abbrev all : ℕ → Reader (List A)
  all d = p d >>= (λ x. nexts d >>= (λ xs. pure (x ∷ xs)))

  parses_tail : (x : A) → Parses (these (number_of t.CloseBrace ∷ the_end ∷ number_of t.Semicolon ∷ Firsts)) (these (number_of t.CloseBrace ∷ the_end ∷ [])) (λ d. Then (Nexts d) (λ xs. Empty (x ∷ xs))) (λ d. nexts d >>= (λ xs. pure (x ∷ xs)))
  parses_tail x = parses_map (λ xs. x ∷ xs) parses_nexts

  parses_all : Parses F (these (number_of t.CloseBrace ∷ the_end ∷ [])) All all
  parses_all = parses_then refl entered.fits parses_tail

  no_first : (x : Option Piece) → In (these (number_of t.CloseBrace ∷ the_end ∷ [])) x → of_first g x ≡ false
  no_first None h = refl
  no_first (Some u) h = go (g u) refl
    where
      go : (c : Bool) → g u ≡ c → c ≡ false
      go true is = absurd (none_holds (these (number_of t.CloseBrace ∷ the_end ∷ [])) (number_of u.terminal) Firsts refl (entered.numbers u is) h)
      go false is = refl

  pub parses_lines : included F (these (number_of t.CloseBrace ∷ the_end ∷ number_of t.Semicolon ∷ Firsts)) ≡ true → Parses (these (number_of t.CloseBrace ∷ the_end ∷ number_of t.Semicolon ∷ Firsts)) (these (number_of t.CloseBrace ∷ the_end ∷ [])) (λ d. Lines (S d)) (λ d. read.lines g (p d))
  unfolding read.lines
  parses_lines wide = record {
    chooses = record {
      right = λ d n. right_on n (In (these (number_of t.CloseBrace ∷ the_end ∷ []))) g (All d) (All (suc d)) (Empty []) (Empty []) (all d) (pure []) (parses_all.chooses.right d n) (right_pure n (In (these (number_of t.CloseBrace ∷ the_end ∷ []))) refl [])
          (begins_then (λ u. g u ≡ true) (S d) (λ x. Then (Nexts d) (λ xs. Empty (x ∷ xs))) (entered.begins d))
          (λ u us fits is bad. takes_then (In Ends) (In (these (number_of t.CloseBrace ∷ the_end ∷ []))) (S d) (S (suc d)) (λ x. Then (Nexts d) (λ xs. Empty (x ∷ xs))) (λ x. Then (Nexts (suc d)) (λ xs. Empty (x ∷ xs))) (p d) (λ x. nexts d >>= (λ xs. pure (x ∷ xs))) u (λ n. entered.fits.chooses.right d n) (λ x n. (parses_tail x).chooses.right d n) (full d) (entered.takes d u is) us bad)
          (λ us rest x s stop. ap (λ y. starts g (y ++ rest)) s.0 ∙ starts_is g rest ∙ no_first (first rest) stop);
      deeper = λ d. deeper_choose (starts g) (all d) (all (suc d)) (pure []) (pure []) (parses_all.chooses.deeper d) (same_refl (pure []));
      front = λ d us rest x s stop. elim s [
        | inl s' ↦ into F (these (number_of t.CloseBrace ∷ the_end ∷ number_of t.Semicolon ∷ Firsts)) wide (first (us ++ rest)) (parses_all.chooses.front d us rest x s' stop)
        | inr s' ↦ subst (λ y. In (these (number_of t.CloseBrace ∷ the_end ∷ number_of t.Semicolon ∷ Firsts)) (first (y ++ rest))) (sym s'.0) (into (these (number_of t.CloseBrace ∷ the_end ∷ [])) (these (number_of t.CloseBrace ∷ the_end ∷ number_of t.Semicolon ∷ Firsts)) refl (first rest) stop)
      ];
      nest = λ d n. nest_choose (May d) opens_nesting n (starts g) (All d) (Empty []) (all d) (pure []) (parses_all.chooses.nest d n) (nest_pure (May d) opens_nesting n (Empty []) []);
    };
    some = λ d. ([], [], inr (refl, refl));
  }
