-- The blocks of getters by their first statements: none, one that is not the name `get` alone, or one with another statement below it that keeps
-- the block from a list of accessors.
use Rattle.std.proofs.Common.{◌≡◌, ℕ, zero, suc, List, [], ◌∷◌, ◌++◌, Bool, true, false, codes, Some, refl, sym, ◌∙◌, ap, subst, inl, inr, append_assoc}
use Rattle.std.specs.Prelude.{◌||◌, ◌&&◌, ◌==◌, not}
use Rattle.std.specs.Str.{bytes_eq}
use Rattle.std.proofs.lemmas.Bool.{and_from, and_parts, not-true}
use Rattle.evo_base.specs.declared.place.Place.{Place}
use Rattle.evo_combinators.specs.Rule.{Empty, Fail, TokenThen, Or, Then}
use Rattle.evo_combinators.specs.Guard.{On}
use Rattle.evo_tree.specs.declared.statement.Block.{Block}
use Rattle.evo_tree.specs.declared.statement.Stmt.{Stmt}
use Rattle.evo_tree.specs.declared.terminal.Terminal.{Terminal}
use Rattle.evo_tree.specs.declared.terminal.Terminal.TheVariants as t
use Rattle.evo_tree.specs.Terminals.{number_of}
use Rattle.evo_tree.specs.Pieces.{Piece, is_terminal, mark}
use Rattle.evo_tree.specs.Expressions.{Rule, Nested}
use Rattle.evo_tree.specs.Statements.{is_below, is_later, Later, statement_at, Statements, BlockTail, BlockOf, block}
use Rattle.evo_tree.specs.Declarations.{Unless, is_get, goes_on_get, begins_accessors}
use Rattle.evo_round_trip.proofs.Printed.{begins}
use Rattle.evo_parse_expr.proofs.Tests.{is_same, mark_is}
use Rattle.evo_round_trip.proofs.NameTails.{quiet, tailed, Tail}
use Rattle.evo_round_trip.proofs.GetTexts.{is_lone_get}

-- ---- what stands behind the name

-- goes on a list of accessors behind `get`
abbrev pub goes_on : Terminal → List ℕ → Bool
goes_on k text = number_of k == number_of t.OpenBrace || number_of k == number_of t.Semicolon || number_of k == number_of t.CloseBrace || (number_of k == number_of t.Identifier && bytes_eq text (codes "set"))

-- begins a further statement that does not
abbrev pub stays : Terminal → List ℕ → Bool
stays k text = not (number_of k == number_of t.Dot) && not (goes_on k text)

abbrev pub is_staying : Piece → Bool
is_staying u = stays u.terminal u.text

-- the tokens behind `{` begin a list of accessors
abbrev pub begins_get : List Piece → Bool
begins_get [] = false
begins_get (v ∷ []) = false
begins_get (v ∷ w ∷ us) = is_get v && goes_on_get w

opened : (u : Piece) (vs : List Piece) → is_terminal t.OpenBrace u ≡ true → begins_accessors (u ∷ vs) ≡ begins_get vs
opened u [] is = refl
opened u (v ∷ []) is = refl
opened u (v ∷ w ∷ vs) is = ap (λ z. z && is_get v && goes_on_get w) is

quiet_stays : (u : Piece) → quiet u ≡ true → goes_on_get u ≡ false
quiet_stays u h = go (number_of u.terminal == number_of t.OpenBrace) (number_of u.terminal == number_of t.Semicolon) (number_of u.terminal == number_of t.CloseBrace) (number_of u.terminal == number_of t.Identifier) (bytes_eq u.text (codes "set")) h
  where
    go : (a b c d x : Bool) → not (a || b || c || d) ≡ true → (a || b || c || (d && x)) ≡ false
    go true b c d x h = absurd (cc)
    go false true c d x h = absurd (cc)
    go false false true d x h = absurd (cc)
    go false false false true x h = absurd (cc)
    go false false false false x h = refl

never_both : (b : Bool) → (b && false) ≡ false
never_both true = refl
never_both false = refl

behind_name : (v u : Piece) → (not (is_terminal t.Identifier v) || quiet u) ≡ true → (is_get v && goes_on_get u) ≡ false
behind_name v u h = go (is_terminal t.Identifier v) refl h
  where
    go : (b : Bool) → is_terminal t.Identifier v ≡ b → (not b || quiet u) ≡ true → (is_get v && goes_on_get u) ≡ false
    go true is h = ap (λ z. is_get v && z) (quiet_stays u h) ∙ never_both (is_get v)
    go false is h = ap (λ z. (z && bytes_eq v.text (codes "get")) && goes_on_get u) is

-- a statement that is more or another thing than the name
tailed_no_get : (vs ws : List Piece) → tailed vs ≡ true → is_lone_get vs ≡ false → begins_get (vs ++ ws) ≡ false
tailed_no_get [] ws h k = absurd (cc)
tailed_no_get (v ∷ []) [] h k = refl
tailed_no_get (v ∷ []) (w ∷ ws) h k = ap (λ z. z && goes_on_get w) k
tailed_no_get (v ∷ u ∷ vs) ws h k = behind_name v u h

-- any statement, before one that does not go on
tailed_no_set : (vs : List Piece) (w : Piece) (ws : List Piece) → tailed vs ≡ true → goes_on_get w ≡ false → begins_get (vs ++ (w ∷ ws)) ≡ false
tailed_no_set [] w ws h k = absurd (cc)
tailed_no_set (v ∷ []) w ws h k = ap (λ z. is_get v && z) k ∙ never_both (is_get v)
tailed_no_set (v ∷ u ∷ vs) w ws h k = behind_name v u h

-- what stands behind the name alone
lone_stays : (vs ws : List Piece) → is_lone_get vs ≡ true → begins_get (vs ++ ws) ≡ false → begins true (λ u. not (goes_on_get u)) ws ≡ true
lone_stays [] ws h k = absurd (cc)
lone_stays (v ∷ []) [] h k = refl
lone_stays (v ∷ []) (w ∷ ws) h k = ap not (sym (ap (λ z. z && goes_on_get w) h) ∙ k)
lone_stays (v ∷ u ∷ vs) ws h k = absurd (cc)

marked_goes : (k : Terminal) → ((text : List ℕ) → goes_on k text ≡ true) → (u : Piece) (c : Place) → mark k u ≡ Some c → goes_on_get u ≡ true
marked_goes k h u c takes = ap (λ z. goes_on z u.text) (is_same k u (mark_is k u c takes)) ∙ h u.text

-- ---- the rules. S is a statement, R a further one behind the first.

module _ (S : Rule Stmt) where
  abbrev pub Closed : Place → List Stmt → Rule Block
  Closed p ss = TokenThen (mark t.CloseBrace) (λ q. Empty (block p ss q))

  -- one that is not the name alone, and all the rest
  abbrev pub Other : Place → Rule Block
  Other p = Then (Unless is_lone_get S) (λ x. Then (Statements S false) (λ xs. Closed p (x ∷ xs)))

  -- one and a further one, and all the rest
  abbrev pub Further : Rule Stmt → Place → Rule Block
  Further R p = Then S (λ x. Then R (λ y. Then (Statements S false) (λ ys. Closed p (x ∷ y ∷ ys))))

  abbrev pub Split : Rule Stmt → Place → Rule Block
  Split R p = Or (Closed p []) (Or (Other p) (Further R p))

  abbrev pub GetterBlock : ℕ → Rule Stmt → Rule Block
  GetterBlock d R = Or (Nested d (mark t.OpenBrace) (Split R)) Fail

  -- a further statement that does not go on a list of accessors
  abbrev pub Stay : Rule Stmt
  Stay = On is_staying S

  -- ---- a getter's block is split

  later_stays : (ys : List Piece) (y : Stmt) → Later S ys y → (more : List Piece) → begins true (λ u. not (goes_on_get u)) (ys ++ more) ≡ true → Stay ys y
  unfolding is_later
  later_stays ys y (u, us, at, later, s) more next = (u, us, at, and_from _ _ later (subst (λ z. begins true (λ u. not (goes_on_get u)) (z ++ more) ≡ true) at next), s)

  split_further : (p : Place) (vs : List Piece) (b : Block) (x : Stmt) (xs : List Stmt) (first rest close : List Piece) → vs ≡ first ++ (rest ++ close) → S first x →
      begins true (λ u. not (goes_on_get u)) (rest ++ close) ≡ true → Statements S false rest xs → Closed p (x ∷ xs) close b → Further Stay p vs b
  split_further p vs b x [] first rest close whole s next many (v, q, us, at, takes, r) =
      let goes : goes_on_get v ≡ true = marked_goes t.CloseBrace (λ text. refl) v q takes in
      let isnt : not (goes_on_get v) ≡ true = subst (λ z. begins true (λ u. not (goes_on_get u)) z ≡ true) (ap (λ z. z ++ close) many ∙ at) next in
      absurd (both goes isnt)
    where
      both : goes_on_get v ≡ true → not (goes_on_get v) ≡ true → ⊥
      both goes isnt = let bad : false ≡ true = sym (ap not goes) ∙ isnt in cc
  split_further p vs b x (y ∷ ys) first rest close whole s next (second, more, at, spelled, many) led = go spelled
    where
      whole' : rest ++ close ≡ second ++ (more ++ close)
      whole' = ap (λ z. z ++ close) at ∙ append_assoc second more close

      next' : begins true (λ u. not (goes_on_get u)) (second ++ (more ++ close)) ≡ true
      next' = subst (λ z. begins true (λ u. not (goes_on_get u)) z ≡ true) whole' next

      made : Stay second y → Further Stay p vs b
      made stay = (x, first, rest ++ close, whole, s, (y, second, more ++ close, whole', stay, (ys, more, close, refl, many, led)))

      both : (v : Piece) → goes_on_get v ≡ true → not (goes_on_get v) ≡ true → ⊥
      both v goes isnt = let bad : false ≡ true = sym (ap not goes) ∙ isnt in cc

      go : statement_at S false second y → Further Stay p vs b
      go (inl (v, q, us, at', takes, later)) =
          absurd (both v (marked_goes t.Semicolon (λ text. refl) v q takes) (subst (λ z. begins true (λ u. not (goes_on_get u)) (z ++ (more ++ close)) ≡ true) at' next'))
      go (inr (v, us, at', below, later)) = made (later_stays second y later (more ++ close) next')

  split : (p : Place) (vs : List Piece) (b : Block) → begins_get vs ≡ false → (ss : List Stmt) (ws close : List Piece) → vs ≡ ws ++ close → Statements S true ws ss → Closed p ss close b → Split Stay p vs b
  split p vs b isnt [] ws close cut none (v, q, us, at, takes, r) = inl (v, q, us, cut ∙ ap (λ z. z ++ close) none ∙ at, takes, r)
  split p vs b isnt (x ∷ xs) ws close cut (first, rest, at, s, many) led = by (is_lone_get first) refl
    where
      whole : vs ≡ first ++ (rest ++ close)
      whole = cut ∙ ap (λ z. z ++ close) at ∙ append_assoc first rest close

      by : (lone : Bool) → is_lone_get first ≡ lone → Split Stay p vs b
      by false lone = inr (inl (x, first, rest ++ close, whole, (lone, s), (xs, rest, close, refl, many, led)))
      by true lone = inr (inr (split_further p vs b x xs first rest close whole s (lone_stays first (rest ++ close) lone (sym (ap begins_get whole) ∙ isnt)) many led))

  pub block_split : (d : ℕ) (us : List Piece) (b : Block) → Unless begins_accessors (BlockOf d S) us b → GetterBlock d Stay us b
  block_split zero us b (isnt, inl s) = absurd s
  block_split zero us b (isnt, inr s) = absurd s
  block_split (suc d) us b (isnt, inr s) = absurd s
  block_split (suc d) us b (isnt, inl (u, p, vs, at, takes, (ss, ws, close, cut, spelled, led))) =
      inl (u, p, vs, at, takes, split p vs b (sym (opened u vs (mark_is t.OpenBrace u p takes)) ∙ sym (ap begins_accessors at) ∙ isnt) ss ws close cut spelled led)

  -- ---- and what is split is a getter's block

  module _ (tail : Tail S) where
    unsplit : (p : Place) (vs : List Piece) (b : Block) → Split (On is_below Stay) p vs b → (begins_get vs ≡ false) × BlockTail S p vs b
    unfolding is_later
    unsplit p vs b (inl (v, q, us, at, takes, (none, is))) = (ap begins_get (at ∙ ap (λ z. v ∷ z) none), ([], [], vs, refl, refl, (v, q, us, at, takes, (none, is))))
    unsplit p vs b (inr (inl (x, first, more, at, (lone, s), (xs, rest, close, at', many, led)))) = (
      ap begins_get at ∙ tailed_no_get first more (tail.holds first x s) lone,
      (x ∷ xs, first ++ rest, close, at ∙ ap (λ z. first ++ z) at' ∙ sym (append_assoc first rest close), (first, rest, refl, s, many), led),
    )
    unsplit p vs b (inr (inr (x, first, more, at, s, (y, second, more', at', (v, us, at1, below, (w, ws, at2, stay, s2)), (ys, rest, close, at'', many, led))))) = (
      ap begins_get (at ∙ ap (λ z. first ++ z) (at' ∙ ap (λ z. z ++ more') at2)) ∙ tailed_no_set first w (ws ++ more') (tail.holds first x s) (not-true (goes_on_get w) (and_parts (not (is_terminal t.Dot w)) (not (goes_on_get w)) stay).1),
      (
        x ∷ y ∷ ys,
        first ++ (second ++ rest),
        close,
        at ∙ ap (λ z. first ++ z) (at' ∙ ap (λ z. second ++ z) at'' ∙ sym (append_assoc second rest close)) ∙ sym (append_assoc first (second ++ rest) close),
        (first, second ++ rest, refl, s, (second, rest, refl, inr (v, us, at1, below, (w, ws, at2, (and_parts (not (is_terminal t.Dot w)) (not (goes_on_get w)) stay).0, s2)), many)),
        led,
      ),
    )

    pub block_unsplit : (d : ℕ) (us : List Piece) (b : Block) → GetterBlock d (On is_below Stay) us b → Unless begins_accessors (BlockOf d S) us b
    block_unsplit zero us b (inl s) = absurd s
    block_unsplit zero us b (inr s) = absurd s
    block_unsplit (suc d) us b (inr s) = absurd s
    block_unsplit (suc d) us b (inl (u, p, vs, at, takes, s)) =
        let (isnt, rest) = unsplit p vs b s in
        (ap begins_accessors at ∙ opened u vs (mark_is t.OpenBrace u p takes) ∙ isnt, inl (u, p, vs, at, takes, rest))
