-- Blocks of getters are written: what is written of a block that is no list of accessors is none again.
use Rattle.std.proofs.Common.{◌≡◌, ℕ, zero, suc, ◌+◌, List, [], ◌∷◌, ◌++◌, Bool, true, false, codes, refl, sym, ◌∙◌, ap, ap₂, subst, inl, inr, append_assoc, append-nil}
use Rattle.std.specs.Prelude.{◌||◌, ◌&&◌, ◌==◌, not}
use Rattle.std.specs.List.{flat_map}
use Rattle.std.specs.Str.{bytes_eq}
use Rattle.std.proofs.lemmas.Slice.Eq.{bytes_eq-Decides}
use Rattle.std.proofs.lemmas.Bool.Decides.{Decides-eqb}
use Rattle.std.proofs.lemmas.Bool.{and_from, and_parts}
use Rattle.evo_base.specs.declared.place.Place.{Place}
use Rattle.evo_combinators.specs.Guard.{On}
use Rattle.evo_tree.specs.declared.statement.Block.{Block}
use Rattle.evo_tree.specs.declared.statement.Stmt.{Stmt}
use Rattle.evo_tree.specs.declared.terminal.Terminal.{Terminal}
use Rattle.evo_tree.specs.declared.terminal.Terminal.TheVariants as t
use Rattle.evo_tree.specs.Terminals.{number_of, terminal_of}
use Rattle.evo_tree.specs.Pieces.{Piece, is_terminal}
use Rattle.evo_tree.specs.Expressions.{Rule}
use Rattle.evo_tree.specs.Statements.{is_below, BlockOf, IsStmt, IsBlock, block}
use Rattle.evo_tree.specs.Declarations.{Unless, is_get, begins_accessors}
use Rattle.evo_tree.specs.Bare.{bare_stmt}
use Rattle.evo_tree.specs.Canonical.{Text, block_text}
use Rattle.evo_print.specs.Texts.{words_of}
use Rattle.evo_round_trip.proofs.Written.{Written, joined, is_none, breaks}
use Rattle.evo_round_trip.proofs.Matching.{is_sign}
use Rattle.evo_round_trip.proofs.Printed.{any, begins, is_apart, is_flush, is_free, Matched, leads_free, begins_within}
use Rattle.evo_round_trip.proofs.Prints.{Prints, Writes, Alone, Both, print_only, print_nothing, print_or, print_led, print_nested, print_then, print_after, print_firm, print_more, print_behind, print_on, print_by}
use Rattle.evo_parse_expr.proofs.Tests.{and_both, same_terminal}
use Rattle.evo_round_trip.proofs.Spellings.{sign}
use Rattle.evo_round_trip.proofs.TakenTokens.{Anyhow, taken_mark}
use Rattle.evo_round_trip.proofs.Heads.{is_head, head_flush, calm_head, apart_free, leads_apart, Begun, any_head}
use Rattle.evo_round_trip.proofs.ExpressionTrees.{like_map}
use Rattle.evo_round_trip.proofs.StatementTrees.{SameStmt, SameBlock, block_same}
use Rattle.evo_round_trip.proofs.PrintedBlocks.{feed, indent_gap, Stated, statements_print, block_leaf}
use Rattle.evo_round_trip.proofs.NameTails.{Tail, statement_tail}
use Rattle.evo_round_trip.proofs.GetTexts.{is_lone_get}
use Rattle.evo_round_trip.proofs.GetStatements.{GetsStated, statement_gets}
use Rattle.evo_round_trip.proofs.GetterRules.{stays, is_staying, Closed, Other, Further, GetterBlock, Stay, block_split, block_unsplit}

-- ---- a further statement that does not go on a list of accessors

-- whether it does is seen by the terminal, and by the text of a name
stays_same : (k : Terminal) (x y : List ℕ) → (k ≡ t.Identifier → x ≡ y) → stays k x ≡ stays k y
stays_same k x y h = go (number_of k == number_of t.Identifier) refl
  where
    go : (b : Bool) → (number_of k == number_of t.Identifier) ≡ b → stays k x ≡ stays k y
    go true is = ap (stays k) (h (same_terminal k t.Identifier ((Decides-eqb (number_of k) (number_of t.Identifier)).0 is)))
    go false is =
        ap (λ z. not (number_of k == number_of t.Dot) && not (number_of k == number_of t.OpenBrace || number_of k == number_of t.Semicolon || number_of k == number_of t.CloseBrace || z))
        (ap (λ z. z && bytes_eq x (codes "set")) is ∙ sym (ap (λ z. z && bytes_eq y (codes "set")) is))

abbrev starts_staying : Written → Bool
starts_staying w = is_head w && stays (terminal_of w.kind w.text) w.text

staying_begun : Begun is_staying starts_staying
staying_begun = record {
  first = λ u w passes same text calm start. and_from _ _ (calm_head w calm) (kept u w passes same text);
  signed = λ u w passes is same head. and_from _ _ head (kept u w passes same (λ name. absurd (no_sign u is name)));
}
  where
    kept : (u : Piece) (w : Written) → is_staying u ≡ true → u.terminal ≡ terminal_of w.kind w.text → (u.terminal ≡ t.Identifier → u.text ≡ w.text) → stays (terminal_of w.kind w.text) w.text ≡ true
    kept u w passes same text = subst (λ k. stays k w.text ≡ true) same (sym (stays_same u.terminal u.text w.text text) ∙ passes)

    no_sign : (u : Piece) → is_sign u ≡ true → u.terminal ≡ t.Identifier → ⊥
    no_sign u is name = let bad : false ≡ true = ap (λ k. number_of k == number_of t.Minus || number_of k == number_of t.Not) (sym name) ∙ is in cc

none_is : (gap : List ℕ) → is_none gap ≡ true → gap ≡ []
none_is [] h = refl
none_is (c ∷ cs) h = absurd (cc)

module _ (S : Rule Stmt) (law : Stated S) (n : ℕ) where
  stay_prints : Writes false false is_flush (λ x. words_of x n) SameStmt (Stay S) (Stay S)
  stay_prints = record {
    holds = λ us x gen fst s.
        let (u, vs, at, passes, spelled) = s in
        let (ws, written, sound, begun, make) = (law n is_staying starts_staying staying_begun).holds us x gen (subst (λ z. begins true is_staying z ≡ true) (sym at) passes) spelled in
        (ws, written, sound, begins_within false false starts_staying is_flush ws (λ h. h) (λ w h. head_flush w (and_parts (is_head w) _ h).0) begun, λ a near ms f. on x ws begun make ms f);
  }
    where
      on : (x : Stmt) (ws : List Written) → begins false starts_staying ws ≡ true → ((a : Unit {0}) → Alone a → (ms : List Piece) → Matched false ms ws → (x' : Stmt) × S ms x' × SameStmt x x') →
          (ms : List Piece) → Matched false ms ws → (x' : Stmt) × Stay S ms x' × SameStmt x x'
      on x [] h make ms f = absurd (cc)
      on x (w ∷ ws) h make [] f = absurd f
      on x (w ∷ ws) h make (m ∷ ms) f =
          let (x', s', same) = make tt tt (m ∷ ms) f in
          (x', (m, ms, refl, ap₂ stays f.0.terminal f.0.text ∙ (and_parts (is_head w) _ h).1, s'), same)

  -- on a line of its own
  stay_below : Writes true false is_apart (λ x. feed n ++ words_of x n) SameStmt (Stay S) (On is_below (Stay S))
  unfolding is_below
  stay_below = print_on (feed n) refl (indent_gap n) passes stay_prints
    where
      passes : (m : Piece) → m.below ≡ breaks (feed n) → is_below m ≡ true
      passes m is = is

  -- ---- a statement that is not the name `get` alone is not written so

  module _ (gets : GetsStated S) where
    unlike : (us : List Piece) (x : Stmt) (ws : List Written) → S us x → is_lone_get us ≡ false → joined ws ≡ words_of x n → begins false is_head ws ≡ true → (ms : List Piece) → Matched false ms ws → is_lone_get ms ≡ false
    unlike us x ws s isnt written begun [] f = refl
    unlike us x [] s isnt written begun (m ∷ ms) f = absurd f
    unlike us x (w ∷ v ∷ ws) s isnt written begun (m ∷ []) f = absurd f.1
    unlike us x ws s isnt written begun (m ∷ m' ∷ ms) f = refl
    unlike us x (w ∷ []) s isnt written begun (m ∷ []) f = go (is_get m) refl
      where
        text : joined (w ∷ []) ≡ w.text
        text = ap (λ z. z ++ (w.text ++ [])) (none_is w.gap (head_flush w begun)) ∙ append-nil w.text

        go : (b : Bool) → is_get m ≡ b → is_get m ≡ false
        go false is = is
        go true is =
            let named : m.text ≡ codes "get" = (bytes_eq-Decides m.text (codes "get")).0 (and_both (is_terminal t.Identifier m) _ is).1 in
            let lone : is_lone_get us ≡ true = gets.holds us x n s (sym written ∙ text ∙ sym f.0.text ∙ named) in
            let bad : true ≡ false = sym lone ∙ isnt in
            absurd (cc)

    other_prints : Writes false false is_head (λ x. words_of x n) SameStmt (Unless is_lone_get S) (Unless is_lone_get S)
    other_prints = record {
      holds = λ us x gen fst s.
          let (ws, written, sound, begun, make) = (law n any is_head any_head).holds us x gen fst s.1 in
          (ws, written, sound, begun, λ a near ms f. let (x', s', same) = make tt tt ms f in (x', (unlike us x ws s.1 s.0 written begun ms f, s'), same));
    }

-- ---- blocks

abbrev below : ℕ → Stmt → Text
below n x = feed (n + 1) ++ words_of x (n + 1)

abbrev closing : ℕ → Text
closing n = feed n ++ (codes "}" ++ [])

one_leaf : (p : Place) (x : Stmt) (xs : List Stmt) (q : Place) (n : ℕ) → codes "{" ++ (below n x ++ (flat_map (below n) xs ++ closing n)) ≡ block_text (block p (x ∷ xs) q) n
one_leaf p x xs q n = ap (λ z. codes "{" ++ z) (sym (append_assoc (below n x) (flat_map (below n) xs) (closing n))) ∙ block_leaf p (x ∷ xs) q n

two_leaf : (p : Place) (x y : Stmt) (ys : List Stmt) (q : Place) (n : ℕ) → codes "{" ++ (below n x ++ (below n y ++ (flat_map (below n) ys ++ closing n))) ≡ block_text (block p (x ∷ y ∷ ys) q) n
two_leaf p x y ys q n = ap (λ z. codes "{" ++ (below n x ++ z)) (sym (append_assoc (below n y) (flat_map (below n) ys) (closing n))) ∙ one_leaf p x (y ∷ ys) q n

module _ (S : Rule Stmt) (law : Stated S) (tail : Tail S) (gets : GetsStated S) (n : ℕ) where
  abbrev Rest : (Place → Rule Block) → (Place → Rule Block) → Place → Type 0
  Rest R R' p = Prints {A = Unit {0} × Place} true any false is_apart (λ z. codes "{" ++ z) (λ b. block_text b n) (Both Alone Anyhow p) SameBlock (R p) (λ a. R' a.1)

  empty_prints : (p : Place) → Rest (λ p. Closed S p []) (λ p. Closed S p []) p
  empty_prints p = print_led {e' = true} {q = is_free} (taken_mark t.CloseBrace (feed n) refl (indent_gap n) (λ u g i. refl)) (λ q ws b. leads_free _ (sign (feed n) t.CloseBrace) ws refl b)
      (λ q. print_only (block_leaf p [] q n) (λ a near. block_same p a.0.1 [] [] q a.1 refl))

  one_prints : (p : Place) → Rest (Other S) (Other S) p
  one_prints p = print_then {q = is_apart} {e' = false} (print_firm (print_behind (feed (n + 1)) refl (indent_gap (n + 1)) (print_more (λ h. h) head_flush (other_prints S law (n + 1) gets)))) (λ w i. i) apart_free
      (λ x. print_after {q = is_apart} (statements_print S law (n + 1) false) (λ w i. i) apart_free (λ w i. i)
      (λ xs. print_led {e' = true} {q = is_free} (taken_mark t.CloseBrace (feed n) refl (indent_gap n) (λ u g i. refl)) (λ q ws b. leads_free _ (sign (feed n) t.CloseBrace) ws refl b)
      (λ q. print_only (one_leaf p x xs q n) (λ a near. block_same p a.0.0.0.1 (x ∷ xs) (a.0.0.1 ∷ a.0.1) q a.1 (ap₂ (λ v w. v ∷ w) near.0.0.1 (like_map bare_stmt xs a.0.1 near.0.1))))))

  two_prints : (p : Place) → Rest (Further S (Stay S)) (Further S (On is_below (Stay S))) p
  two_prints p = print_then {q = is_apart} {e' = false} (print_firm (print_behind (feed (n + 1)) refl (indent_gap (n + 1)) (print_more (λ h. h) head_flush (law (n + 1) any is_head any_head)))) (λ w i. i) apart_free
      (λ x. print_then {q = is_apart} {e' = false} (stay_below S law (n + 1)) (λ w i. i) apart_free
      (λ y. print_after {q = is_apart} (statements_print S law (n + 1) false) (λ w i. i) apart_free (λ w i. i)
      (λ ys. print_led {e' = true} {q = is_free} (taken_mark t.CloseBrace (feed n) refl (indent_gap n) (λ u g i. refl)) (λ q ws b. leads_free _ (sign (feed n) t.CloseBrace) ws refl b)
      (λ q. print_only (two_leaf p x y ys q n)
      (λ a near. block_same p a.0.0.0.0.1 (x ∷ y ∷ ys) (a.0.0.0.1 ∷ a.0.0.1 ∷ a.0.1) q a.1 (ap₂ (λ v w. v ∷ w) near.0.0.0.1 (ap₂ (λ v w. v ∷ w) near.0.0.1 (like_map bare_stmt ys a.0.1 near.0.1))))))))

  -- a block of a getter, whatever its statements are
  pub getter_block_prints : (d : ℕ) → Writes false false is_flush (λ b. block_text b n) SameBlock (Unless begins_accessors (BlockOf d S)) (Unless begins_accessors (BlockOf d S))
  getter_block_prints d = print_by {T = GetterBlock S d (Stay S)} {T' = λ a. GetterBlock S d (On is_below (Stay S))} (block_split S d) (λ a. block_unsplit S tail d) (print_or
      (print_nested d (print_led {e' = false} {q = is_apart} (taken_mark t.OpenBrace [] refl refl (λ u g i. refl)) (λ p ws b. leads_apart _ (sign [] t.OpenBrace) ws refl b)
      (λ p. print_or (empty_prints p) (print_or (one_prints p) (two_prints p)))))
      print_nothing)

-- a getter's block is written as a getter's block
module _ (law : (d : ℕ) → Stated (IsStmt false d)) where
  pub getter_prints : (d : ℕ) → (n : ℕ) → Writes false false is_flush (λ b. block_text b n) SameBlock (Unless begins_accessors (IsBlock false d)) (Unless begins_accessors (IsBlock false d))
  getter_prints zero n = record { holds = λ us b gen fst s. absurd (none us b s.1) }
    where
      none : (us : List Piece) (b : Block) → IsBlock false zero us b → ⊥
      none us b (inl s) = s
      none us b (inr s) = s
  getter_prints (suc d) n = getter_block_prints (IsStmt false d) (law d) (statement_tail d) (statement_gets d) n (suc d)
