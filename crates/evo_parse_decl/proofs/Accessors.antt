-- Accessors: what the readers of blocks must keep, and the choice between a list of accessors and a block.
use Rattle.std.proofs.Common.{◌≡◌, ℕ, zero, suc, ◌+◌, ◌-◌, ◌≤◌, Bool, true, false, List, [], ◌∷◌, ◌++◌, length, Option, Some, None, Ok, Err, refl, sym, ◌∙◌, ap, subst, arith, ◌⊎◌, inl, inr, eqb-true, length-append}
use Rattle.std.specs.Prelude.{◌&&◌, ◌||◌, ◌==◌, cond, codes}
use Rattle.std.specs.Str.{bytes_eq}
use Rattle.evo_base.specs.declared.place.Place.{Place}
use Rattle.evo_combinators.specs.declared.Fault.{Fault}
use Rattle.evo_combinators.specs.declared.Fault.TheVariants.{Grammar, Deep}
use Rattle.evo_combinators.specs.Rule.{Empty, Fail, TokenThen, Or, Then, SomeOf, IsViablePrefix}
use Rattle.evo_combinators.specs.Reader.{Outcome, ◌>>=◌, and_then, pure, refuse, one, bar, barred, lead, paired, branch}
use Rattle.evo_combinators.specs.Guard.{choose, starts}
use Rattle.evo_combinators.specs.Laws.{Begins, GrowsWithNesting, SameLookahead, ReadsRule, Takes, first, of_first}
use Rattle.evo_combinators.proofs.Laws.{right_alt_by, right_nothing, right_map, right_same, right_stop, right_ext, split_err, of_map, to_map}
use Rattle.evo_combinators.proofs.Entered.{refused_within}
use Rattle.evo_combinators.proofs.GrowsWithNesting.{deeper_then, deeper_alt, deeper_bar, same_refl}
use Rattle.evo_combinators.proofs.GuardDeeper.{deeper_choose}
use Rattle.evo_combinators.proofs.GuardLaws.{right_on, starts_is}
use Rattle.evo_tree.specs.declared.statement.Block.{Block}
use Rattle.evo_tree.specs.declared.declaration.Accessors.{Accessors}
use Rattle.evo_tree.specs.declared.declaration.Accessors.TheVariants as accessors
use Rattle.evo_tree.specs.declared.terminal.Terminal.TheVariants as t
use Rattle.evo_tree.specs.Pieces.{Piece, is_terminal, mark, word, opens_nesting}
use Rattle.evo_tree.specs.Terminals.{number_of}
use Rattle.evo_tree.specs.Expressions.{Rule, Nested}
use Rattle.evo_tree.specs.Declarations as grammar
use Rattle.evo_tree.specs.Declarations.{Unless, begins_accessors, is_get, goes_on_get}
use Rattle.evo_parse_decl.specs.Read as read
use Rattle.evo_parse_expr.specs.Read.{Reader}
use Rattle.evo_combinators.specs.Nesting.{left_of, DeepOpens}
use Rattle.evo_combinators.proofs.Nesting.{nest_refuse, nest_bar, nest_choose, deep_refuse, deep_alt, deep_choose}
use Rattle.evo_combinators.proofs.NestingTries.{nest_made}
use Rattle.evo_parse_expr.proofs.Nesting.{May, ReadsInner}
use Rattle.evo_combinators.proofs.NestingRuns.{nest_ext}
use Rattle.evo_parse_header.proofs.Sets.{Set, these, but, In, into, none_holds, Ends, EndsOrBrace, the_end}
use Rattle.evo_parse_header.proofs.Parses.{Chooses, Parses, parses_pure, parses_then, parses_map, parses_led, parses_opens, quiet, opening, parses_alt, chooses_nothing, parses_before}
use Rattle.evo_parse_expr.proofs.Tests.{mark_is, when_some}
use Rattle.evo_parse_header.proofs.Tests.{a_piece, mark_test, word_test, number_among, is_marked}
use Rattle.evo_lex.specs.Front.{when}
use Rattle.evo_parse_decl.proofs.Unless.{right_unless}
use Rattle.evo_parse_decl.proofs.Prefixes.{goes_end, goes_shallow, goes_through, goes_under, deep_within}

abbrev Anything : Set
Anything = but []

abbrev is_open : Piece → Bool
is_open u = is_terminal t.OpenBrace u

abbrev is_close : Piece → Bool
is_close u = is_terminal t.CloseBrace u

-- What a reader of blocks keeps.
pub record Blocks (B : ℕ → Bool → Rule Block) (b : ℕ → Bool → Reader Block) : Type 0 where
  pub right : (d : ℕ) (i : Bool) (n : ℕ) → ReadsRule n (In (but [])) (B d i) (B (suc d) i) (b d i)
  pub deeper : (d : ℕ) (i : Bool) → GrowsWithNesting (b d i) (b (suc d) i)
  pub nest : (d : ℕ) (i : Bool) (n : ℕ) → ReadsInner d n (B d i) (b d i)
  -- without nesting a brace is one too many
  pub shallow : (i : Bool) (ts : List Piece) → b 0 i ts ≡ bar (mark t.OpenBrace) refuse ts
  -- a block stands between braces
  pub braced : (d : ℕ) (i : Bool) (us : List Piece) (x : Block) → B d i us x →
      (u : Piece) × (vs : List Piece) × (v : Piece) × (us ≡ u ∷ (vs ++ v ∷ [])) × (is_terminal t.OpenBrace u ≡ true) × (is_terminal t.CloseBrace v ≡ true)
  -- braces alone are a block
  pub empty : (d : ℕ) (i : Bool) (u v : Piece) → is_terminal t.OpenBrace u ≡ true → is_terminal t.CloseBrace v ≡ true → (x : Block) × B (suc d) i (u ∷ v ∷ []) x
  -- and a block may begin with the name `get`
  pub begun : (d : ℕ) (u v : Piece) → is_terminal t.OpenBrace u ≡ true → is_get v ≡ true → IsViablePrefix (B (suc d) false) (u ∷ v ∷ [])

-- ---- the look at three tokens

parts : (a b c : Bool) → (a && b && c) ≡ true → (a ≡ true) × (b ≡ true) × (c ≡ true)
parts true true c e = (refl, refl, e)
parts true false c e = absurd (cc)
parts false b c e = absurd (cc)

first_false : (a b c : Bool) → a ≡ false → (a && b && c) ≡ false
first_false true b c e = absurd (cc)
first_false false b c e = refl

second_false : (a b c : Bool) → b ≡ false → (a && b && c) ≡ false
second_false true true c e = absurd (cc)
second_false true false c e = refl
second_false false b c e = refl

which : (b : Bool) → (b ≡ true) ⊎ (b ≡ false)
which true = inl refl
which false = inr refl

just : (b : Bool) → (b || false) ≡ true → b ≡ true
just true e = refl
just false e = absurd (cc)

a_brace : is_open (a_piece t.OpenBrace []) ≡ true
unfolding a_piece
a_brace = refl

-- a closing brace is no `get`
close_get : (v : Piece) → is_close v ≡ true → is_get v ≡ false
close_get v is = ap (λ (n : ℕ). (n == number_of t.Identifier) && bytes_eq v.text (codes "get")) (eqb-true (number_of v.terminal) (number_of t.CloseBrace) is)

open_goes : (v : Piece) → is_open v ≡ true → goes_on_get v ≡ true
open_goes v is = ap (λ (b : Bool). b || is_terminal t.Semicolon v || is_terminal t.CloseBrace v || (is_terminal t.Identifier v && bytes_eq v.text (codes "set"))) is

no_open : (u : Piece) (us : List Piece) → is_open u ≡ false → begins_accessors (u ∷ us) ≡ false
no_open u [] is = refl
no_open u (v ∷ []) is = refl
no_open u (v ∷ w ∷ us) is = first_false (is_open u) (is_get v) (goes_on_get w) is

no_get : (u v : Piece) (us : List Piece) → is_get v ≡ false → begins_accessors (u ∷ v ∷ us) ≡ false
no_get u v [] is = refl
no_get u v (w ∷ us) is = second_false (is_open u) (is_get v) (goes_on_get w) is

open_of : (u : Piece) (us : List Piece) → begins_accessors (u ∷ us) ≡ true → is_open u ≡ true
open_of u [] is = absurd (cc)
open_of u (v ∷ []) is = absurd (cc)
open_of u (v ∷ w ∷ us) is = (parts (is_open u) (is_get v) (goes_on_get w) is).0

get_of : (u v : Piece) (us : List Piece) → begins_accessors (u ∷ v ∷ us) ≡ true → is_get v ≡ true
get_of u v [] is = absurd (cc)
get_of u v (w ∷ us) is = (parts (is_open u) (is_get v) (goes_on_get w) is).1

grows : (us more : List Piece) → begins_accessors us ≡ true → begins_accessors (us ++ more) ≡ true
grows [] more is = absurd (cc)
grows (u ∷ []) more is = absurd (cc)
grows (u ∷ v ∷ []) more is = absurd (cc)
grows (u ∷ v ∷ w ∷ us) more is = is

get_word : (v : Piece) → is_get v ≡ true → word (codes "get") v ≡ Some v.place
unfolding word
get_word v is = ap (λ (b : Bool). when b v.place) is

word_get : (v : Piece) (p : Place) → word (codes "get") v ≡ Some p → is_get v ≡ true
unfolding word
word_get v p e = (when_some (is_get v) v.place p e).0

module _ (B : ℕ → Bool → Rule Block) (b : ℕ → Bool → Reader Block) (blocks : Blocks B b) where
  abbrev Plain : ℕ → Rule Accessors
  Plain d = Then (B d false) (λ x. Empty (accessors.Block x))

  abbrev Listed : ℕ → Rule Accessors
  Listed d = Or (Nested d (mark t.OpenBrace) (λ _. grammar.BlocksTail B d)) Fail

  -- ---- blocks within braces

  some_block : (d : ℕ) (i : Bool) → SomeOf (B (suc d) i)
  unfolding a_piece
  some_block d i = let (x, s) = blocks.empty d i (a_piece t.OpenBrace []) (a_piece t.CloseBrace []) refl refl in (_, x, s)

  pub parses_block : (i : Bool) → Parses (these (number_of t.OpenBrace ∷ [])) (but []) (λ d. B d i) (λ d. b d i)
  parses_block i = record {
    chooses = record {
      right = λ d n. blocks.right d i n;
      deeper = λ d. blocks.deeper d i;
      front = λ d us rest x s stop. let (u, vs, v, cut, is, is') = blocks.braced d i us x s in
          subst (λ y. In (these (number_of t.OpenBrace ∷ [])) (first (y ++ rest))) (sym cut) (number_among t.OpenBrace u is);
      nest = λ d n. blocks.nest d i n;
    };
    some = λ d. some_block d i;
  }

  parses_setter : Parses (these (number_of t.Identifier ∷ number_of t.CloseBrace ∷ the_end ∷ [])) (these (number_of t.CloseBrace ∷ the_end ∷ [])) (λ d. grammar.Setter B (suc d)) (λ d. read.setter b (suc d))
  unfolding read.setter
  parses_setter = parses_alt refl refl refl refl (word_test (codes "set")) (λ _. parses_before refl refl (parses_map (λ x. Some x) (parses_block false))) (parses_pure refl None).chooses

  parses_blocks_of : Parses (these (number_of t.OpenBrace ∷ [])) Anything
      (λ d. Then (B d false) (λ g. Then (grammar.Setter B (suc d)) (λ x. TokenThen (mark t.CloseBrace) (λ _. Empty (accessors.Blocks g x)))))
      (λ d. b d false >>= (λ g. read.setter b (suc d) >>= (λ x. one (mark t.CloseBrace) >>= (λ _. pure (accessors.Blocks g x)))))
  parses_blocks_of = parses_then refl (parses_block false) (λ g. parses_then refl parses_setter (λ x. parses_led {F = these (number_of t.CloseBrace ∷ [])} refl refl refl (mark_test t.CloseBrace) (λ _. parses_pure refl (accessors.Blocks g x))))

  parses_rest : Parses (these (number_of t.Identifier ∷ [])) Anything (λ d. grammar.BlocksTail B (suc d)) (λ d. read.rest_of_blocks b (suc d))
  unfolding read.rest_of_blocks
  parses_rest = parses_led refl refl refl (word_test (codes "get")) (λ _. parses_blocks_of)

  -- ---- a list of accessors, with nesting

  listed_goes : (d : ℕ) (u v : Piece) → is_open u ≡ true → is_get v ≡ true → (w : List Piece) × (x : Accessors) × Listed (suc (suc d)) (u ∷ v ∷ w) x
  unfolding a_piece mark
  listed_goes d u v is is' =
      let (g, s) = blocks.empty d false (a_piece t.OpenBrace []) (a_piece t.CloseBrace []) refl refl in
      let close = a_piece t.CloseBrace [] in
      let end : TokenThen (mark t.CloseBrace) (λ _. Empty (accessors.Blocks g None)) (close ∷ []) (accessors.Blocks g None) = (close, close.place, [], refl, refl, (refl, refl)) in (
        a_piece t.OpenBrace [] ∷ close ∷ close ∷ [],
        accessors.Blocks g None,
        inl (u, u.place, _, refl, is_marked t.OpenBrace u is, (v, v.place, _, refl, get_word v is', (g, a_piece t.OpenBrace [] ∷ close ∷ [], close ∷ [], refl, s, (None, [], close ∷ [], refl, inr (refl, refl), end)))),
      )

  listed_begins : (d : ℕ) (us : List Piece) (x : Accessors) → Listed (suc d) us x → begins_accessors us ≡ true
  listed_begins d us x (inl (u, p, vs, cut, takes, (v, q, ws, cut', takes', (g, xs, ys, cut'', s, r)))) =
      let (w, zs, z, cut3, is, is') = blocks.braced d false xs g s in
      let whole : us ≡ u ∷ v ∷ w ∷ ((zs ++ z ∷ []) ++ ys) = cut ∙ ap (λ k. u ∷ k) (cut' ∙ ap (λ k. v ∷ k) (cut'' ∙ ap (λ k. k ++ ys) cut3)) in
      subst (λ k. begins_accessors k ≡ true) (sym whole) (all_three (is_open u) (is_get v) (goes_on_get w) (mark_is t.OpenBrace u p takes) (word_get v q takes') (open_goes w is))
    where
      all_three : (a b c : Bool) → a ≡ true → b ≡ true → c ≡ true → (a && b && c) ≡ true
      all_three true true c p q r = r
      all_three true false c p q r = absurd (cc)
      all_three false b c p q r = absurd (cc)
  listed_begins d us x (inr none) = absurd none

  -- a block that is no list of accessors is none before other tokens
  plain_kept : (d : ℕ) (us more : List Piece) (x : Accessors) → Plain d us x → begins_accessors us ≡ false → begins_accessors (us ++ more) ≡ false
  plain_kept d us more x s isnt =
      let (y, s', e) = of_map (B d false) (λ y. accessors.Block y) us x s in
      let (u, vs, v, cut, is, is') = blocks.braced d false us y s' in
      subst (λ k. begins_accessors (k ++ more) ≡ false) (sym cut) (go u vs v is' (subst (λ k. begins_accessors k ≡ false) cut isnt))
    where
      go : (u : Piece) (vs : List Piece) (v : Piece) → is_close v ≡ true → begins_accessors (u ∷ (vs ++ v ∷ [])) ≡ false → begins_accessors ((u ∷ (vs ++ v ∷ [])) ++ more) ≡ false
      go u [] v is isnt = no_get u v more (close_get v is)
      go u (w ∷ []) v is isnt = isnt
      go u (w ∷ w' ∷ vs) v is isnt = isnt

  plain_goes : (d : ℕ) (us rest : List Piece) → begins_accessors (us ++ rest) ≡ false → IsViablePrefix (Plain (suc (suc d))) us → IsViablePrefix (Or (Listed (suc (suc d))) (Unless begins_accessors (Plain (suc (suc d))))) us
  plain_goes d us rest isnt (w, x, s) = elim (which (begins_accessors (us ++ w))) [
    | inr isnt' ↦ (w, x, inr (isnt', s))
    | inl is ↦ go us rest w isnt is
  ]
    where
      go : (us rest w : List Piece) → begins_accessors (us ++ rest) ≡ false → begins_accessors (us ++ w) ≡ true → IsViablePrefix (Or (Listed (suc (suc d))) (Unless begins_accessors (Plain (suc (suc d))))) us
      go [] rest [] isnt is = absurd (cc)
      go [] rest (u ∷ []) isnt is = absurd (cc)
      go [] rest (u ∷ v ∷ w) isnt is = let (k, y, l) = listed_goes d u v (open_of u (v ∷ w) is) (get_of u v w is) in (u ∷ v ∷ k, y, inl l)
      go (u ∷ []) rest [] isnt is = absurd (cc)
      go (u ∷ []) rest (v ∷ w) isnt is = let (k, y, l) = listed_goes d u v (open_of u (v ∷ w) is) (get_of u v w is) in (v ∷ k, y, inl l)
      go (u ∷ v ∷ []) rest w isnt is = let (k, y, l) = listed_goes d u v (open_of u (v ∷ w) is) (get_of u v w is) in (k, y, inl l)
      go (u ∷ v ∷ x ∷ us) rest w isnt is = let both = sym isnt ∙ is in absurd (cc)

  -- ---- with nesting

  module _ (d : ℕ) where
    abbrev listed : Reader Accessors
    listed = read.blocks b (suc d)

    abbrev plain : Reader Accessors
    plain = read.getter b (suc d)

    right_listed : (n : ℕ) → ReadsRule n (In Anything) (Listed (suc d)) (Listed (suc (suc d))) listed
    unfolding read.blocks
    right_listed n = right_alt_by n (In Anything) (mark t.OpenBrace) (λ _. grammar.BlocksTail B (suc d)) (λ _. grammar.BlocksTail B (suc (suc d))) Fail Fail (λ _. read.rest_of_blocks b (suc d)) refuse
        (λ _. parses_rest.chooses.right d (n - 1)) (right_nothing n (In Anything) refl) (λ _. parses_rest.some d) (λ us rest x none stop. absurd none)

    right_plain : (n : ℕ) → ReadsRule n (In Anything) (Plain (suc d)) (Plain (suc (suc d))) plain
    unfolding read.getter
    right_plain n = right_map n (In Anything) (B (suc d) false) (B (suc (suc d)) false) (b (suc d) false) (λ x. accessors.Block x) (blocks.right (suc d) false n)

    plain_err : (ts : List Piece) (f : Fault) → plain ts ≡ Err f → b (suc d) false ts ≡ Err f
    unfolding read.getter
    plain_err ts f e = elim (split_err (b (suc d) false ts) (λ x. pure (accessors.Block x)) f e) [
      | inl here ↦ here
      | inr (x, mid, is, bad) ↦ absurd (cc)
    ]

    err_plain : (ts : List Piece) (f : Fault) → b (suc d) false ts ≡ Err f → plain ts ≡ Err f
    unfolding read.getter
    err_plain ts f e = ap (λ o. and_then o (λ x. pure (accessors.Block x))) e

    abbrev goes_on : Piece → Type 0
    goes_on u = is_open u ≡ true

    block_goes : (u : Piece) → is_open u ≡ true → IsViablePrefix (B (suc d) false) (u ∷ [])
    unfolding a_piece
    block_goes u is = let (x, s) = blocks.empty d false u (a_piece t.CloseBrace []) is refl in (a_piece t.CloseBrace [] ∷ [], x, s)

    -- two tokens that begin both are no whole block
    ends_after : (u v : Piece) → is_open u ≡ true → is_get v ≡ true → plain (u ∷ v ∷ []) ≡ Err (Grammar 0)
    ends_after u v is is' = err_plain (u ∷ v ∷ []) (Grammar 0) (go (b (suc d) false (u ∷ v ∷ [])) refl)
      where
        two : (us rest : List Piece) (a : Piece) (vs : List Piece) (z : Piece) → u ∷ v ∷ [] ≡ us ++ rest → us ≡ a ∷ (vs ++ z ∷ []) → is_close z ≡ true → ⊥
        two us rest a [] z cut cut' cl =
            let both : u ∷ v ∷ [] ≡ a ∷ z ∷ rest = cut ∙ ap (λ k. k ++ rest) cut' in
            let same : v ≡ z = cc in
            let bad = sym (close_get z cl) ∙ ap is_get (sym same) ∙ is' in cc
        two us rest a (w ∷ vs) z cut cut' cl =
            let long = ap length (cut ∙ ap (λ k. k ++ rest) cut') in
            omega (arith, long, length-append vs (z ∷ []), length-append (vs ++ z ∷ []) rest)

        whole : (us rest : List Piece) (x : Block) → u ∷ v ∷ [] ≡ us ++ rest → B (suc d) false us x → ⊥
        whole us rest x cut s =
            let (a, vs, z, cut', op, cl) = blocks.braced (suc d) false us x s in
            two us rest a vs z cut cut' cl

        go : (o : Outcome Piece Block) → b (suc d) false (u ∷ v ∷ []) ≡ o → o ≡ Err (Grammar 0)
        go (Ok x) e = let (us, cut, s, again) = (blocks.right (suc d) false 2).sound (u ∷ v ∷ []) x.1 x.0 (omega arith) e in absurd (whole us x.1 x.0 cut s)
        go (Err (Grammar k)) e = ap (λ n. Err (Grammar n)) (goes_end (In Anything) (B (suc d) false) (B (suc (suc d)) false) (b (suc d) false) (blocks.right (suc d) false) (u ∷ v ∷ []) k (blocks.begun d u v is is') e)
        go (Err (Deep k)) e = absurd (goes_shallow (In Anything) (B (suc d) false) (B (suc (suc d)) false) (b (suc d) false) (blocks.right (suc d) false) (u ∷ v ∷ []) k (blocks.begun d u v is is') e)

    -- what follows a brace, where listed stands
    listed_behind : (u : Piece) (ts : List Piece) → is_open u ≡ true → listed (u ∷ ts) ≡ read.rest_of_blocks b (suc d) ts
    unfolding read.blocks lead
    listed_behind u ts is = ap (λ o. branch (paired o ts) (λ _. read.rest_of_blocks b (suc d)) (Err (Grammar (suc (length ts))))) (is_marked t.OpenBrace u is)

    rest_behind : (v : Piece) (ts : List Piece) → is_get v ≡ true → read.rest_of_blocks b (suc d) (v ∷ ts)
        ≡ (b d false >>= (λ g. read.setter b (suc d) >>= (λ x. one (mark t.CloseBrace) >>= (λ _. pure (accessors.Blocks g x))))) ts
    unfolding read.rest_of_blocks lead
    rest_behind v ts is = ap (λ o. and_then (branch (paired o ts) pure (Err (Grammar (suc (length ts)))))
        (λ _. b d false >>= (λ g. read.setter b (suc d) >>= (λ x. one (mark t.CloseBrace) >>= (λ _. pure (accessors.Blocks g x)))))) (get_word v is)

    no_first : (u : Piece) (ts : List Piece) → is_open u ≡ true → listed (u ∷ ts) ≡ Err (Grammar (suc (length ts))) → ⊥
    no_first u ts is bad =
        let short = refused_within (In Anything) (grammar.BlocksTail B (suc d)) (grammar.BlocksTail B (suc (suc d))) (read.rest_of_blocks b (suc d)) (λ n. parses_rest.chooses.right d n) ts (suc (length ts)) (sym (listed_behind u ts is) ∙ bad) in
        omega (arith, short)

    no_second : (u v : Piece) (ts : List Piece) → is_open u ≡ true → is_get v ≡ true → listed (u ∷ v ∷ ts) ≡ Err (Grammar (suc (length ts))) → ⊥
    no_second u v ts is is' bad =
        let short = refused_within (In Anything) _ _ _ (λ n. parses_blocks_of.chooses.right d n) ts (suc (length ts)) (sym (listed_behind u (v ∷ ts) is ∙ rest_behind v ts is') ∙ bad) in
        omega (arith, short)

    no_first_deep : (u : Piece) (ts : List Piece) → is_open u ≡ true → listed (u ∷ ts) ≡ Err (Deep (suc (length ts))) → ⊥
    no_first_deep u ts is bad =
        let short = deep_within (In Anything) (grammar.BlocksTail B (suc d)) (grammar.BlocksTail B (suc (suc d))) (read.rest_of_blocks b (suc d)) (λ n. parses_rest.chooses.right d n) ts (suc (length ts)) (sym (listed_behind u ts is) ∙ bad) in
        omega (arith, short)

    no_second_deep : (u v : Piece) (ts : List Piece) → is_open u ≡ true → is_get v ≡ true → listed (u ∷ v ∷ ts) ≡ Err (Deep (suc (length ts))) → ⊥
    no_second_deep u v ts is is' bad =
        let short = deep_within (In Anything) _ _ _ (λ n. parses_blocks_of.chooses.right d n) ts (suc (length ts)) (sym (listed_behind u (v ∷ ts) is ∙ rest_behind v ts is') ∙ bad) in
        omega (arith, short)

    plain_first : (u : Piece) (ts : List Piece) → is_open u ≡ true → plain (u ∷ ts) ≡ Err (Grammar (suc (length ts))) → ⊥
    plain_first u ts is bad = goes_through (In Anything) (B (suc d) false) (B (suc (suc d)) false) (b (suc d) false) (blocks.right (suc d) false) [] ts u (block_goes u is) (plain_err (u ∷ ts) (Grammar (suc (length ts))) bad)

    plain_second : (u v : Piece) (ts : List Piece) → is_open u ≡ true → is_get v ≡ true → plain (u ∷ v ∷ ts) ≡ Err (Grammar (suc (length ts))) → ⊥
    plain_second u v ts is is' bad = goes_through (In Anything) (B (suc d) false) (B (suc (suc d)) false) (b (suc d) false) (blocks.right (suc d) false) (u ∷ []) ts v (blocks.begun d u v is is') (plain_err (u ∷ v ∷ ts) (Grammar (suc (length ts))) bad)

    plain_first_deep : (u : Piece) (ts : List Piece) → is_open u ≡ true → plain (u ∷ ts) ≡ Err (Deep (suc (length ts))) → ⊥
    plain_first_deep u ts is bad = goes_under (In Anything) (B (suc d) false) (B (suc (suc d)) false) (b (suc d) false) (blocks.right (suc d) false) [] ts u (block_goes u is) (plain_err (u ∷ ts) (Deep (suc (length ts))) bad)

    plain_second_deep : (u v : Piece) (ts : List Piece) → is_open u ≡ true → is_get v ≡ true → plain (u ∷ v ∷ ts) ≡ Err (Deep (suc (length ts))) → ⊥
    plain_second_deep u v ts is is' bad = goes_under (In Anything) (B (suc d) false) (B (suc (suc d)) false) (b (suc d) false) (blocks.right (suc d) false) (u ∷ []) ts v (blocks.begun d u v is is') (plain_err (u ∷ v ∷ ts) (Deep (suc (length ts))) bad)

    like_nil : (more : List Piece) → SameLookahead [] more → more ≡ []
    like_nil more (inl e) = e
    like_nil [] (inr e) = refl
    like_nil (m ∷ more) (inr e) = absurd (cc)

    like_cons : (u : Piece) (us more : List Piece) → SameLookahead (u ∷ us) more → (more ≡ []) ⊎ ((ws : List Piece) × (more ≡ u ∷ ws))
    like_cons u us more (inl e) = inl e
    like_cons u us [] (inr e) = absurd (cc)
    like_cons u us (m ∷ more) (inr e) = let same : m ≡ u = cc in inr (more, ap (λ x. x ∷ more) same)

    stay_listed : (us rest more : List Piece) → listed (us ++ rest) ≡ Err (Grammar (length rest)) → begins_accessors (us ++ rest) ≡ true → SameLookahead rest more →
        (begins_accessors (us ++ more) ≡ true) ⊎ ((begins_accessors (us ++ more) ≡ false) × (plain (us ++ more) ≡ Err (Grammar (length more))))
    stay_listed [] [] more bad is like = absurd (cc)
    stay_listed [] (u ∷ rest) more bad is like = absurd (no_first u rest (open_of u rest is) bad)
    stay_listed (u ∷ []) [] more bad is like = absurd (cc)
    stay_listed (u ∷ []) (v ∷ rest) more bad is like = absurd (no_second u v rest (open_of u (v ∷ rest) is) (get_of u v rest is) bad)
    stay_listed (u ∷ v ∷ []) [] more bad is like = absurd (cc)
    stay_listed (u ∷ v ∷ []) (w ∷ rest) more bad is like = elim (like_cons w rest more like) [
      | inl none ↦ inr (ap (λ x. begins_accessors (u ∷ v ∷ x)) none, ap (λ x. plain (u ∷ v ∷ x)) none ∙ ends_after u v (open_of u (v ∷ w ∷ rest) is) (get_of u v (w ∷ rest) is) ∙ ap (λ x. Err (Grammar (length x))) (sym none))
      | inr (ws, same) ↦ inl (ap (λ x. begins_accessors (u ∷ v ∷ x)) same ∙ is)
    ]
    stay_listed (u ∷ v ∷ w ∷ us) rest more bad is like = inl is

    stay_plain : (us rest more : List Piece) → plain (us ++ rest) ≡ Err (Grammar (length rest)) → begins_accessors (us ++ rest) ≡ false → SameLookahead rest more → begins_accessors (us ++ more) ≡ false
    stay_plain [] [] more bad isnt like = ap begins_accessors (like_nil more like)
    stay_plain [] (u ∷ rest) more bad isnt like = elim (which (is_open u)) [
      | inl is ↦ absurd (plain_first u rest is bad)
      | inr no_brace ↦ elim (like_cons u rest more like) [ inl none ↦ ap begins_accessors none | inr (ws, same) ↦ ap begins_accessors same ∙ no_open u ws no_brace ]
    ]
    stay_plain (u ∷ []) [] more bad isnt like = ap (λ x. begins_accessors (u ∷ x)) (like_nil more like)
    stay_plain (u ∷ []) (v ∷ rest) more bad isnt like = elim (which (is_open u)) [
      | inl is ↦ elim (which (is_get v)) [
        | inl is' ↦ absurd (plain_second u v rest is is' bad)
        | inr no_word ↦ elim (like_cons v rest more like) [ inl none ↦ ap (λ x. begins_accessors (u ∷ x)) none | inr (ws, same) ↦ ap (λ x. begins_accessors (u ∷ x)) same ∙ no_get u v ws no_word ]
      ]
      | inr no_brace ↦ no_open u more no_brace
    ]
    stay_plain (u ∷ v ∷ []) [] more bad isnt like = ap (λ x. begins_accessors (u ∷ v ∷ x)) (like_nil more like)
    stay_plain (u ∷ v ∷ []) (w ∷ rest) more bad isnt like = elim (like_cons w rest more like) [ inl none ↦ ap (λ x. begins_accessors (u ∷ v ∷ x)) none | inr (ws, same) ↦ ap (λ x. begins_accessors (u ∷ v ∷ x)) same ∙ isnt ]
    stay_plain (u ∷ v ∷ w ∷ us) rest more bad isnt like = isnt

    deep_listed : (us rest more : List Piece) (w : Piece) → listed (us ++ w ∷ rest) ≡ Err (Deep (suc (length rest))) → begins_accessors (us ++ w ∷ rest) ≡ true → begins_accessors (us ++ w ∷ more) ≡ true
    deep_listed [] rest more w bad is = absurd (no_first_deep w rest (open_of w rest is) bad)
    deep_listed (u ∷ []) rest more w bad is = absurd (no_second_deep u w rest (open_of u (w ∷ rest) is) (get_of u w rest is) bad)
    deep_listed (u ∷ v ∷ []) rest more w bad is = is
    deep_listed (u ∷ v ∷ x ∷ us) rest more w bad is = is

    deep_plain : (us rest more : List Piece) (w : Piece) → plain (us ++ w ∷ rest) ≡ Err (Deep (suc (length rest))) → begins_accessors (us ++ w ∷ rest) ≡ false → begins_accessors (us ++ w ∷ more) ≡ false
    deep_plain [] rest more w bad isnt = elim (which (is_open w)) [ inl is ↦ absurd (plain_first_deep w rest is bad) | inr no_brace ↦ no_open w more no_brace ]
    deep_plain (u ∷ []) rest more w bad isnt = elim (which (is_open u)) [
      | inl is ↦ elim (which (is_get w)) [ inl is' ↦ absurd (plain_second_deep u w rest is is' bad) | inr no_word ↦ no_get u w more no_word ]
      | inr no_brace ↦ no_open u (w ∷ more) no_brace
    ]
    deep_plain (u ∷ v ∷ []) rest more w bad isnt = isnt
    deep_plain (u ∷ v ∷ x ∷ us) rest more w bad isnt = isnt

    right_some : (n : ℕ) → ReadsRule n (In Anything) (Or (Listed (suc d)) (Unless begins_accessors (Plain (suc d)))) (Or (Listed (suc (suc d))) (Unless begins_accessors (Plain (suc (suc d))))) (choose begins_accessors listed plain)
    right_some n = right_unless n (In Anything) begins_accessors (Listed (suc d)) (Listed (suc (suc d))) (Plain (suc d)) (Plain (suc (suc d))) listed plain (right_listed n) (right_plain n)
        grows (listed_begins d) (λ us more x s isnt. plain_kept (suc d) us more x s isnt) (plain_goes d)
        (λ us rest more fits bad is like. stay_listed us rest more bad is like) stay_plain deep_listed deep_plain

  -- ---- without nesting

  barred_both : (o : Option (Place × List Piece)) (n : ℕ) → ◌≡◌ {A = Outcome Piece Accessors} (and_then (barred o n (Err (Grammar n))) (λ x. pure (accessors.Block x))) (barred o n (Err (Grammar n)))
  barred_both (Some x) n = refl
  barred_both None n = refl

  cond_same : {A : Type 0} (c : Bool) (x y : A) → x ≡ y → cond c y x ≡ y
  cond_same true x y e = refl
  cond_same false x y e = e

  shallow_same : (ts : List Piece) → read.braces b 0 true ts ≡ bar (mark t.OpenBrace) refuse ts
  unfolding read.braces read.blocks read.getter
  shallow_same ts =
      let plain : ◌≡◌ {A = Outcome Piece Accessors} (and_then (b 0 false ts) (λ x. pure (accessors.Block x))) (bar (mark t.OpenBrace) refuse ts) =
      ap (λ o. and_then o (λ x. pure (accessors.Block x))) (blocks.shallow false ts) ∙ barred_both (lead (mark t.OpenBrace) ts) (length ts) in
      cond_same (begins_accessors ts) (and_then (b 0 false ts) (λ x. pure (accessors.Block x))) (bar (mark t.OpenBrace) refuse ts) plain

  no_block : (x : Block) (us : List Piece) → B 0 false us x → ⊥
  no_block x us s =
      let good = (blocks.right 0 false (length (us ++ []))).complete us [] x (omega arith) s refl in
      let bad = blocks.shallow false (us ++ []) in
      go (lead (mark t.OpenBrace) (us ++ [])) (length (us ++ [])) (sym bad ∙ good)
    where
      go : (o : Option (Place × List Piece)) (n : ℕ) → ◌≡◌ {A = Outcome Piece Block} (barred o n (Err (Grammar n))) (Ok (x, [])) → ⊥
      go (Some y) n e = cc
      go None n e = cc

  abbrev Braced : ℕ → Rule Accessors
  Braced d = Or (Listed d) (Unless begins_accessors (Plain d))

  none_braced : (us : List Piece) (x : Accessors) → Braced 0 us x → ⊥
  none_braced us x (inl (inl none)) = none
  none_braced us x (inl (inr none)) = none
  none_braced us x (inr (isnt, s)) = let (y, s', e) = of_map (B 0 false) (λ y. accessors.Block y) us x s in no_block y us s'

  braced_goes : (d : ℕ) (u : Piece) → is_open u ≡ true → IsViablePrefix (Braced (suc d)) (u ∷ [])
  unfolding a_piece
  braced_goes d u is =
      let close = a_piece t.CloseBrace [] in
      let (x, s) = blocks.empty d false u close is refl in
      (close ∷ [], accessors.Block x, inr (refl, to_map (B (suc d) false) (λ x. accessors.Block x) (u ∷ close ∷ []) x s))

  abbrev barred_open : Reader Accessors
  barred_open = bar (mark t.OpenBrace) refuse

  open_barred : (u : Piece) (us : List Piece) → is_open u ≡ true → barred_open (u ∷ us) ≡ Err (Deep (suc (length us)))
  unfolding lead
  open_barred u us is = ap (λ o. barred (paired o us) (suc (length us)) (Err (Grammar (suc (length us))))) (is_marked t.OpenBrace u is)

  else_refused : (u : Piece) (us : List Piece) → is_open u ≡ false → barred_open (u ∷ us) ≡ Err (Grammar (suc (length us)))
  unfolding lead mark
  else_refused u us isnt = ap (λ (c : Bool). barred (paired (when c u.place) us) (suc (length us)) (Err (Grammar (suc (length us))))) isnt

  nil_refused : barred_open [] ≡ Err (Grammar 0)
  unfolding lead
  nil_refused = refl

  module _ (W : Rule Accessors) (goes : (u : Piece) → is_open u ≡ true → IsViablePrefix W (u ∷ [])) where
    barred_none : (ts rest : List Piece) (x : Accessors) → barred_open ts ≡ Ok (x, rest) → ⊥
    barred_none [] rest x e = let both = sym nil_refused ∙ e in cc
    barred_none (u ∷ us) rest x e = elim (which (is_open u)) [
      | inl is ↦ let both = sym (open_barred u us is) ∙ e in cc
      | inr isnt ↦ let both = sym (else_refused u us isnt) ∙ e in cc
    ]

    barred_refuses : (n : ℕ) (ts : List Piece) (k : ℕ) → length ts ≤ n → barred_open ts ≡ Err (Grammar k) →
        (us : List Piece) × (rest : List Piece) × (ts ≡ us ++ rest) × ((us ≡ []) ⊎ IsViablePrefix W us) × ((more : List Piece) → length (us ++ more) ≤ n → SameLookahead rest more → barred_open (us ++ more) ≡ Err (Grammar (length more)))
    barred_refuses n [] k fits e = ([], [], refl, inl refl, λ more all like. nil_like more like)
      where
        nil_like : (more : List Piece) → SameLookahead [] more → barred_open more ≡ Err (Grammar (length more))
        nil_like [] like = nil_refused
        nil_like (m ∷ more) (inl e) = absurd (cc)
        nil_like (m ∷ more) (inr e) = absurd (cc)
    barred_refuses n (u ∷ us) k fits e = elim (which (is_open u)) [
      | inl is ↦ absurd (let both = sym (open_barred u us is) ∙ e in cc)
      | inr isnt ↦ ([], u ∷ us, refl, inl refl, λ more all like. same_like isnt more like)
    ]
      where
        same_like : is_open u ≡ false → (more : List Piece) → SameLookahead (u ∷ us) more → barred_open more ≡ Err (Grammar (length more))
        same_like isnt [] like = nil_refused
        same_like isnt (m ∷ more) (inl e) = absurd (cc)
        same_like isnt (m ∷ more) (inr e) = let same : u ≡ m = cc in else_refused m more (subst (λ x. is_open x ≡ false) same isnt)

    barred_deepens : (n : ℕ) (ts : List Piece) (k : ℕ) → length ts ≤ n → barred_open ts ≡ Err (Deep k) →
        (us : List Piece) × (w : Piece) × (rest : List Piece) × (ts ≡ us ++ w ∷ rest) × ((us ≡ []) ⊎ IsViablePrefix W us) × IsViablePrefix W (us ++ w ∷ []) × ((more : List Piece) → length (us ++ w ∷ more) ≤ n → barred_open (us ++ w ∷ more) ≡ Err (Deep (suc (length more))))
    barred_deepens n [] k fits e = absurd (let both = sym nil_refused ∙ e in cc)
    barred_deepens n (u ∷ us) k fits e = elim (which (is_open u)) [
      | inl is ↦ ([], u, us, refl, inl refl, goes u is, λ more all. open_barred u more is)
      | inr isnt ↦ absurd (let both = sym (else_refused u us isnt) ∙ e in cc)
    ]

    right_barred : (n : ℕ) → ReadsRule n (In Anything) Fail W barred_open
    right_barred n = record {
      wider = λ us x none. absurd none;
      ended = refl;
      sound = λ ts rest x fits e. absurd (barred_none ts rest x e);
      complete = λ us rest x fits none stop. absurd none;
      refuses = barred_refuses n;
      deepens = barred_deepens n;
    }

  -- ---- accessors with bodies

  right_braced : (d n : ℕ) → ReadsRule n (In Anything) (Braced d) (Braced (suc d)) (read.braces b d true)
  unfolding read.braces
  right_braced zero n = right_ext n (In Anything) (Braced 0) (Braced 1) (bar (mark t.OpenBrace) refuse) (read.braces b 0 true) (λ ts fits. shallow_same ts)
      (right_same n (In Anything) Fail (Braced 1) (Braced 0) (Braced 1) (bar (mark t.OpenBrace) refuse) (λ us x none. absurd none) (λ us x s. none_braced us x s) (λ us x s. s) (right_barred (Braced 1) (braced_goes 0) n))
  right_braced (suc d) n = right_some d n

  deeper_listed : (d : ℕ) → GrowsWithNesting (read.blocks b d) (read.blocks b (suc d))
  unfolding read.blocks
  deeper_listed zero = deeper_bar (mark t.OpenBrace) (λ _. read.rest_of_blocks b 1) (λ _. read.rest_of_blocks b 1) refuse refuse (λ _. same_refl (read.rest_of_blocks b 1)) (same_refl refuse)
  deeper_listed (suc d) = deeper_alt (mark t.OpenBrace) (λ _. read.rest_of_blocks b (suc d)) (λ _. read.rest_of_blocks b (suc (suc d))) refuse refuse (λ _. parses_rest.chooses.deeper d) (same_refl refuse)

  deeper_braced : (d : ℕ) → GrowsWithNesting (read.braces b d true) (read.braces b (suc d) true)
  unfolding read.braces read.getter
  deeper_braced d = deeper_choose begins_accessors (read.blocks b d) (read.blocks b (suc d)) _ _ (deeper_listed d) (deeper_then (b d false) (b (suc d) false) _ _ (blocks.deeper d false) (λ x. same_refl (pure (accessors.Block x))))

  -- ---- which tokens open a nesting

  brace_opens : (u : Piece) (p : Place) → mark t.OpenBrace u ≡ Some p → opens_nesting u ≡ true
  brace_opens = opening (number_of t.OpenBrace ∷ []) (mark t.OpenBrace) refl (mark_test t.OpenBrace).numbers

  opening_get : (v : Piece) → opens_nesting v ≡ true → is_get v ≡ false
  opening_get v opens = elim (which (is_get v)) [
    | inl is ↦ absurd (quiet (number_of t.Identifier ∷ []) (word (codes "get")) refl (word_test (codes "get")).numbers v v.place (get_word v is) opens)
    | inr isnt ↦ isnt
  ]

  module _ (d : ℕ) where
    -- with the brace of a list a block goes on, and with what opens behind it a list
    listed_keeps : (n : ℕ) (us : List Piece) (w : Piece) (more : List Piece) → length (us ++ w ∷ more) ≤ n → opens_nesting w ≡ true →
        begins_accessors (us ++ w ∷ more) ≡ true → left_of (listed d (us ++ w ∷ more)) ≤ length more → IsViablePrefix (Braced (suc d)) (us ++ w ∷ [])
    listed_keeps n [] w more fits opens is le = braced_goes d w (open_of w more is)
    listed_keeps n (u ∷ us) w more fits opens is le =
        let brace = open_of u (us ++ w ∷ more) is in
        let (held, (ws, x, s)) = (parses_rest.chooses.nest d n).keeps us w more (omega arith) opens (subst (λ o. left_of o ≤ length more) (listed_behind d u (us ++ w ∷ more) brace) le) in
        (ws, x, inl (inl (u, u.place, (us ++ w ∷ []) ++ ws, refl, is_marked t.OpenBrace u brace, s)))

    -- a block that goes on with what opens a nesting may begin no list
    plain_keeps : (us : List Piece) (w : Piece) (more : List Piece) → opens_nesting w ≡ true → begins_accessors (us ++ w ∷ more) ≡ false → IsViablePrefix (Plain (suc d)) (us ++ w ∷ []) → IsViablePrefix (Braced (suc d)) (us ++ w ∷ [])
    plain_keeps [] w more opens isnt (ws, x, s) = elim (which (begins_accessors (w ∷ ws))) [
      | inl is ↦ braced_goes d w (open_of w ws is)
      | inr isnt' ↦ (ws, x, inr (isnt', s))
    ]
    plain_keeps (u ∷ []) w more opens isnt (ws, x, s) = (ws, x, inr (no_get u w ws (opening_get w opens), s))
    plain_keeps (u ∷ v ∷ []) w more opens isnt (ws, x, s) = (ws, x, inr (isnt, s))
    plain_keeps (u ∷ v ∷ x ∷ us) w more opens isnt (ws, y, s) = (ws, y, inr (isnt, s))

    deep_opens_listed : (n : ℕ) → DeepOpens n opens_nesting (listed d)
    unfolding read.blocks
    deep_opens_listed n = deep_alt opens_nesting n (mark t.OpenBrace) (λ _. read.rest_of_blocks b (suc d)) refuse (λ _. (parses_rest.chooses.nest d (n - 1)).deep) (deep_refuse opens_nesting n)

    nest_plain : (n : ℕ) → ReadsInner (suc d) n (Plain (suc d)) (plain d)
    unfolding read.getter
    nest_plain n = nest_made (May (suc d)) opens_nesting n (B (suc d) false) (b (suc d) false) (λ x. accessors.Block x) (blocks.nest (suc d) false n)

    braced_keeps : (n : ℕ) (us : List Piece) (w : Piece) (more : List Piece) → length (us ++ w ∷ more) ≤ n → opens_nesting w ≡ true →
        (c : Bool) → begins_accessors (us ++ w ∷ more) ≡ c → left_of (cond c (listed d (us ++ w ∷ more)) (plain d (us ++ w ∷ more))) ≤ length more → IsViablePrefix (Braced (suc d)) (us ++ w ∷ [])
    braced_keeps n us w more fits opens true is le = listed_keeps n us w more fits opens is le
    braced_keeps n us w more fits opens false isnt le = plain_keeps us w more opens isnt ((nest_plain n).keeps us w more fits opens le).1

  nest_braced : (d n : ℕ) → ReadsInner d n (Braced d) (read.braces b d true)
  unfolding read.braces
  nest_braced zero n = nest_ext (May 0) opens_nesting n (Braced 0) barred_open (read.braces b 0 true) shallow_same
      (nest_bar (May 0) opens_nesting n (mark t.OpenBrace) (Braced 0) refuse brace_opens (nest_refuse (May 0) opens_nesting n (Braced 0)))
  nest_braced (suc d) n = record {
    keeps = λ us w more fits opens le. (tt, braced_keeps d n us w more fits opens (begins_accessors (us ++ w ∷ more)) refl le);
    deep = deep_choose opens_nesting n begins_accessors (listed d) (plain d) (deep_opens_listed d n) (nest_plain d n).deep;
  }

  braced_front : (d : ℕ) (us rest : List Piece) (x : Accessors) → Braced d us x → In Anything (first rest) → In (these (number_of t.OpenBrace ∷ [])) (first (us ++ rest))
  braced_front d us rest x (inl listed) stop = go d us x listed
    where
      go : (d : ℕ) (us : List Piece) (x : Accessors) → Listed d us x → In (these (number_of t.OpenBrace ∷ [])) (first (us ++ rest))
      go zero us x (inl none) = absurd none
      go (suc d) us x (inl (u, p, vs, cut, takes, s)) = subst (λ y. In (these (number_of t.OpenBrace ∷ [])) (first (y ++ rest))) (sym cut) (number_among t.OpenBrace u (mark_is t.OpenBrace u p takes))
      go d us x (inr none) = absurd none
  braced_front d us rest x (inr (isnt, s)) stop =
      let (y, s', e) = of_map (B d false) (λ y. accessors.Block y) us x s in (parses_block false).chooses.front d us rest y s' stop

  -- "{" "get" ["set"] "}"
  parses_rest_of_gets : Parses (these (number_of t.Identifier ∷ [])) Anything (λ _. grammar.GetsTail) (λ _. read.rest_of_gets)
  unfolding read.rest_of_gets
  parses_rest_of_gets = parses_led refl refl refl (word_test (codes "get")) (λ _. parses_alt {F = Anything} {H = these (number_of t.CloseBrace ∷ [])} refl refl refl refl (word_test (codes "set"))
      (λ _. parses_led {F = Anything} refl refl refl (mark_test t.CloseBrace) (λ _. parses_pure refl accessors.GetSet)) (parses_led refl refl refl (mark_test t.CloseBrace) (λ _. parses_pure refl accessors.Get)).chooses)

  pub parses_braces : (bodies : Bool) → Parses (these (number_of t.OpenBrace ∷ [])) Anything (λ d. grammar.Braces B d bodies) (λ d. read.braces b d bodies)
  unfolding read.braces
  parses_braces true = record {
    chooses = record { right = right_braced; deeper = deeper_braced; front = braced_front; nest = nest_braced };
    some = λ d. let (us, x, s) = braced_goes d (a_piece t.OpenBrace []) a_brace in (_, x, s);
  }
  parses_braces false = parses_opens {H = these []} refl refl refl refl (mark_test t.OpenBrace) (λ _. parses_rest_of_gets.some 0) (λ _. parses_rest_of_gets) (chooses_nothing refl)

  -- a brace is not refused
  takes_braces : (bodies : Bool) (d : ℕ) (u : Piece) → is_open u ≡ true → Takes (read.braces b d bodies) u
  unfolding read.braces lead
  takes_braces true zero u is us bad = let both = sym (shallow_same (u ∷ us) ∙ open_barred u us is) ∙ bad in cc
  takes_braces true (suc d) u is us bad = go (begins_accessors (u ∷ us)) bad
    where
      go : (c : Bool) → cond c (read.blocks b (suc d) (u ∷ us)) (read.getter b (suc d) (u ∷ us)) ≡ Err (Grammar (suc (length us))) → ⊥
      go true e = no_first d u us is e
      go false e = plain_first d u us is e
  takes_braces false zero u is us bad = let both = sym (ap (λ o. barred (paired o us) (suc (length us)) (Err (Grammar (suc (length us))))) (is_marked t.OpenBrace u is)) ∙ bad in cc
  takes_braces false (suc d) u is us bad =
      let refused : read.rest_of_gets us ≡ Err (Grammar (suc (length us))) = sym (ap (λ o. branch (paired o us) (λ _. read.rest_of_gets) (Err (Grammar (suc (length us))))) (is_marked t.OpenBrace u is)) ∙ bad in
      let short = refused_within (In Anything) grammar.GetsTail grammar.GetsTail read.rest_of_gets (λ n. parses_rest_of_gets.chooses.right 0 n) us (suc (length us)) refused in
      omega (arith, short)

  begins_braces : (bodies : Bool) (d : ℕ) → Begins (λ u. is_open u ≡ true) (grammar.Braces B d bodies)
  begins_braces bodies d us x s = go us refl ((parses_braces bodies).chooses.front d us [] x s refl)
    where
      go : (vs : List Piece) → us ≡ vs → In (these (number_of t.OpenBrace ∷ [])) (first (us ++ [])) → (u : Piece) × (ws : List Piece) × (us ≡ u ∷ ws) × (is_open u ≡ true)
      go [] e h = let bad = subst (λ y. In (these (number_of t.OpenBrace ∷ [])) (first (y ++ []))) e h in absurd (cc)
      go (u ∷ ws) e h = (u, ws, e, just (is_open u) (subst (λ y. In (these (number_of t.OpenBrace ∷ [])) (first (y ++ []))) e h))

  parses_stored : (may : Bool) → Chooses Ends Ends (λ _. grammar.Stored may) (λ _. read.stored may)
  unfolding read.stored
  parses_stored true = (parses_pure refl accessors.Stored).chooses
  parses_stored false = chooses_nothing refl

  ends_open : (x : Option Piece) → In Ends x → of_first is_open x ≡ false
  ends_open None h = refl
  ends_open (Some u) h = go (is_open u) refl
    where
      go : (c : Bool) → is_open u ≡ c → c ≡ false
      go true is = absurd (none_holds Ends (number_of u.terminal) (number_of t.OpenBrace ∷ []) refl (number_among t.OpenBrace u is) h)
      go false is = refl

  stored_apart : (may : Bool) (us rest : List Piece) (x : Accessors) → grammar.Stored may us x → In Ends (first rest) → starts is_open (us ++ rest) ≡ false
  stored_apart true us rest x s stop = ap (λ y. starts is_open (y ++ rest)) s.0 ∙ starts_is is_open rest ∙ ends_open (first rest) stop
  stored_apart false us rest x s stop = absurd s

  pub parses_accessors : (bodies may : Bool) → Parses EndsOrBrace Ends (λ d. grammar.IsAccessors B d bodies may) (λ d. read.accessors_of b d bodies may)
  unfolding read.accessors_of
  parses_accessors bodies may = record {
    chooses = record {
      right = λ d n. right_on n (In Ends) is_open (grammar.Braces B d bodies) (grammar.Braces B (suc d) bodies) (grammar.Stored may) (grammar.Stored may) (read.braces b d bodies) (read.stored may)
          (right_stop n (In Anything) (In Ends) (grammar.Braces B d bodies) (grammar.Braces B (suc d) bodies) (read.braces b d bodies) (λ x h. refl) refl ((parses_braces bodies).chooses.right d n))
          ((parses_stored may).right d n) (begins_braces bodies d) (λ u us fits is bad. takes_braces bodies d u is us bad) (stored_apart may);
      deeper = λ d. deeper_choose (starts is_open) (read.braces b d bodies) (read.braces b (suc d) bodies) (read.stored may) (read.stored may) ((parses_braces bodies).chooses.deeper d) (same_refl (read.stored may));
      front = λ d us rest x s stop. elim s [
        | inl s' ↦ into (these (number_of t.OpenBrace ∷ [])) EndsOrBrace refl (first (us ++ rest)) ((parses_braces bodies).chooses.front d us rest x s' refl)
        | inr s' ↦ into Ends EndsOrBrace refl (first (us ++ rest)) ((parses_stored may).front d us rest x s' stop)
      ];
      nest = λ d n. nest_choose (May d) opens_nesting n (starts is_open) (grammar.Braces B d bodies) (grammar.Stored may) (read.braces b d bodies) (read.stored may)
          ((parses_braces bodies).chooses.nest d n) ((parses_stored may).nest d n);
    };
    some = λ d. let (us, x, s) = (parses_braces bodies).some d in (us, x, inl s);
  }
