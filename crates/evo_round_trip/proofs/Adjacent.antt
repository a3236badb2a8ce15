-- What stands directly behind a name without being a mark: which rules end in a name, and that an operator may stand behind what they spell.
use Rattle.std.proofs.Common.{◌≡◌, ℕ, List, [], ◌∷◌, ◌++◌, map, Bool, true, false, Option, Some, refl, ◌∙◌, ap, subst, cond}
use Rattle.std.specs.Prelude.{◌&&◌, ◌||◌, ◌==◌, not}
use Rattle.std.specs.List.{list_all}
use Rattle.std.specs.Str.{bytes_eq}
use Rattle.std.proofs.lemmas.Bool.{and_from, and_parts, or_right}
use Rattle.evo_base.specs.declared.token.TokenKind.{TokenKind}
use Rattle.evo_base.specs.declared.token.TokenKind.TheVariants as kind
use Rattle.evo_combinators.specs.Rule.{Empty, TokenThen, Then, Many}
use Rattle.evo_tree.specs.declared.terminal.Role.{Role}
use Rattle.evo_tree.specs.declared.terminal.Role.TheVariants as role
use Rattle.evo_tree.specs.declared.terminal.Terminal.{Terminal}
use Rattle.evo_tree.specs.declared.terminal.Terminal.TheVariants as t
use Rattle.evo_tree.specs.Terminals.{number_of, terminal_of, operator_terminal, operator_terminals, terminal_in}
use Rattle.evo_tree.specs.Pieces.{Piece, mark, is_terminal}
use Rattle.evo_tree.specs.Expressions.{Rule}
use Rattle.evo_tree.specs.Bare.{origin}
use Rattle.evo_tree.specs.Declarations.{Separated}
use Rattle.evo_round_trip.proofs.Written.{Written, Sound, joined, breaks, is_none, is_wordy, is_operator_kind, is_mark, is_unattached, parts_from, keeps_role, leads}
use Rattle.evo_round_trip.proofs.Matching.{Fits, AllFit, Has, FromText}
use Rattle.evo_round_trip.proofs.Printed.{Text, any, any_begins, begins, begins_within, begins_left, begins_append, is_free, Matched, all_matched, firm_parts, genuine_left, genuine_right, joined_append}
use Rattle.evo_round_trip.proofs.Prints.{Prints, Alone, Both}
use Rattle.evo_round_trip.proofs.Heads.{is_calm, given_calm}

-- ---- written tokens

-- nothing before it, no operator with a role, and no word
abbrev pub is_snug : Written → Bool
is_snug w = is_calm w && not (is_wordy w.kind)

-- nothing before it, and a word
abbrev pub is_worded : Written → Bool
is_worded w = is_calm w && is_wordy w.kind

-- nothing before it, and a mark
abbrev pub is_marked : Written → Bool
is_marked w = is_calm w && is_mark w.kind

pub snug_calm : (w : Written) → is_snug w ≡ true → is_calm w ≡ true
snug_calm w h = (and_parts (is_calm w) (not (is_wordy w.kind)) h).0

pub worded_calm : (w : Written) → is_worded w ≡ true → is_calm w ≡ true
worded_calm w h = (and_parts (is_calm w) (is_wordy w.kind) h).0

pub marked_free : (w : Written) → is_marked w ≡ true → is_free w ≡ true
marked_free w h = or_right _ _ (and_from (is_mark w.kind) (is_unattached w.role) (and_parts (is_calm w) (is_mark w.kind) h).1 (and_parts (is_none w.gap) (is_unattached w.role) (and_parts (is_calm w) (is_mark w.kind) h).0).1)

pub marked_snug : (w : Written) → is_marked w ≡ true → is_snug w ≡ true
marked_snug w h = and_from (is_calm w) (not (is_wordy w.kind)) (and_parts (is_calm w) (is_mark w.kind) h).0 (go w.kind (and_parts (is_calm w) (is_mark w.kind) h).1)
  where
    go : (k : TokenKind) → is_mark k ≡ true → not (is_wordy k) ≡ true
    go kind.Identifier m = absurd (cc)
    go kind.Underscore m = absurd (cc)
    go kind.Keyword m = absurd (cc)
    go kind.Integer m = absurd (cc)
    go _ m = refl

wordy_parts : (k k' : TokenKind) → is_wordy k ≡ true → not (is_wordy k') ≡ true → parts_from k k' ≡ true
wordy_parts kind.Identifier k' h n = n
wordy_parts kind.Underscore k' h n = n
wordy_parts kind.Keyword k' h n = n
wordy_parts kind.Integer k' h n = n
wordy_parts _ k' h n = absurd (cc)

-- a token without a role stands before what parts from it and has none
parted : (v w : Written) (r : Role) → parts_from v.kind w.kind ≡ true → v.role ≡ r → is_unattached r ≡ true → is_calm w ≡ true → leads v (w ∷ []) ≡ true
parted v w role.Unattached apart is u calm =
    and_from _ _ (or_right _ _ apart) (and_from _ _ (ap (λ r. keeps_role r v.text w) is) (given_calm v.kind w w.role (and_parts (is_none w.gap) (is_unattached w.role) calm).1))
parted v w role.Infix apart is u calm = absurd (cc)
parted v w role.Prefix apart is u calm = absurd (cc)
parted v w role.Negative apart is u calm = absurd (cc)

-- a word stands before what is snug
pub leads_snug : (e : Bool) (v : Written) (ws : List Written) → is_wordy v.kind ≡ true → is_unattached v.role ≡ true → begins e is_snug ws ≡ true → leads v ws ≡ true
leads_snug e v [] word u h = u
leads_snug e v (w ∷ ws) word u h = parted v w v.role (wordy_parts v.kind w.kind word (and_parts (is_calm w) (not (is_wordy w.kind)) h).1) refl u (snug_calm w h)

-- an operator without a role stands before a word
pub leads_worded : (e : Bool) (v : Written) (ws : List Written) → is_operator_kind v.kind ≡ true → is_unattached v.role ≡ true → begins e is_worded ws ≡ true → leads v ws ≡ true
leads_worded e v [] operator u h = u
leads_worded e v (w ∷ ws) operator u h = parted v w v.role (parts v.kind w.kind operator (and_parts (is_calm w) (is_wordy w.kind) h).1) refl u (worded_calm w h)
  where
    parts : (k k' : TokenKind) → is_operator_kind k ≡ true → is_wordy k' ≡ true → parts_from k k' ≡ true
    parts kind.Operator kind.Operator o h = absurd (cc)
    parts kind.Operator _ o h = refl
    parts _ k' o h = absurd (cc)

-- the last of them is a word, or `e` where there is none
abbrev lasts : Bool → List Written → Bool
lasts e [] = e
lasts e (w ∷ ws) = lasts (is_wordy w.kind) ws

sound_snug : (xs ys : List Written) → Sound xs → lasts false xs ≡ true → Sound ys → begins true is_snug ys ≡ true → Sound (xs ++ ys)
sound_snug [] ys s l r f = absurd (cc)
sound_snug (x ∷ []) ys s l r f = (s.0, leads_snug true x ys l s.1 f, r)
sound_snug (x ∷ y ∷ xs) ys s l r f = (s.0, s.1, sound_snug (y ∷ xs) ys s.2 l r f)

-- ---- rules

-- a name or `Self`
abbrev pub is_head_piece : Piece → Bool
is_head_piece u = is_terminal t.Identifier u || is_terminal t.SelfType u

-- the last of them is a name or `Self`, or `e` where there is none
abbrev pub ends : Bool → List Piece → Bool
ends e [] = e
ends e (u ∷ us) = ends (is_head_piece u) us

pub ends_append : (e : Bool) (us vs : List Piece) → ends e (us ++ vs) ≡ ends (ends e us) vs
ends_append e [] vs = refl
ends_append e (u ∷ us) vs = ends_append (is_head_piece u) us vs

-- what the rule spells ends in a name
abbrev pub Ends : {B : Type 0} → Rule B → Type 0
Ends {B} S = (us : List Piece) (b : B) → S us b → (e : Bool) → ends e us ≡ true

-- or is empty
abbrev pub Keeps : {B : Type 0} → Rule B → Type 0
Keeps {B} S = (us : List Piece) (b : B) → S us b → ends true us ≡ true

pub then_ends : {A B : Type 0} (S : Rule A) (R : A → Rule B) → Ends S → ((a : A) → Keeps (R a)) → Ends (Then S R)
then_ends S R h k us b (a, vs, ws, at, s, r) e = ap (ends e) at ∙ ends_append e vs ws ∙ ap (λ z. ends z ws) (h vs a s e) ∙ k a ws b r

pub then_keeps : {A B : Type 0} (S : Rule A) (R : A → Rule B) → Keeps S → ((a : A) → Keeps (R a)) → Keeps (Then S R)
then_keeps S R h k us b (a, vs, ws, at, s, r) = ap (ends true) at ∙ ends_append true vs ws ∙ ap (λ z. ends z ws) (h vs a s) ∙ k a ws b r

pub only_keeps : {B : Type 0} (x : B) → Keeps (Empty x)
only_keeps x us b (at, is) = ap (ends true) at

pub led_ends : {A B : Type 0} (f : Piece → Option A) (S : A → Rule B) → ((a : A) → Ends (S a)) → Ends (TokenThen f S)
led_ends f S h us b (u, a, vs, at, takes, s) e = ap (ends e) at ∙ h a vs b s (is_head_piece u)

-- a name, and what follows it
pub name_ends : {A B : Type 0} (f : Piece → Option A) (S : A → Rule B) → ((u : Piece) (a : A) → f u ≡ Some a → is_head_piece u ≡ true) → ((a : A) → Keeps (S a)) → Ends (TokenThen f S)
name_ends f S h k us b (u, a, vs, at, takes, s) e = ap (ends e) at ∙ ap (λ z. ends z vs) (h u a takes) ∙ k a vs b s

pub many_keeps : {A B : Type 0} (f : Piece → Option A) (S : A → Rule B) → ((a : A) → Ends (S a)) → Keeps (Many f S)
many_keeps f S h us [] at = ap (ends true) at
many_keeps f S h us (b ∷ bs) (u, a, vs, ws, at, takes, s, more) =
    ap (ends true) at ∙ ends_append (is_head_piece u) vs ws ∙ ap (λ z. ends z ws) (h a vs b s (is_head_piece u)) ∙ many_keeps f S h ws bs more

pub separated_ends : {B : Type 0} (k : Terminal) (S : Rule B) → Ends S → Ends (Separated k S)
separated_ends k S h = then_ends S _ h (λ x. then_keeps (Many (mark k) (λ _. S)) _ (many_keeps (mark k) (λ _. S) (λ a. h)) (λ xs. only_keeps (x ∷ xs)))

-- ---- from rules to tokens: the pieces of the tokens themselves match them

abbrev as_piece : Written → Piece
as_piece w = record { terminal = terminal_of w.kind w.text; role = w.role; below = breaks w.gap; place = origin; text = w.text }

as_fits : (w : Written) → Fits (as_piece w) w
as_fits w = (record { terminal = refl; text = refl; role = has w.role }, refl)
  where
    has : (r : Role) → Has r r
    has role.Unattached = tt
    has role.Infix = refl
    has role.Prefix = refl
    has role.Negative = refl

as_matched : (firm : Bool) (ws : List Written) → Matched firm (map as_piece ws) ws
as_matched firm ws = all_matched firm (map as_piece ws) ws (go ws)
  where
    go : (ws : List Written) → AllFit (map as_piece ws) ws
    go [] = tt
    go (w ∷ ws) = (as_fits w, go ws)

abbrev is_head_terminal : Terminal → Bool
is_head_terminal k = number_of k == number_of t.Identifier || number_of k == number_of t.SelfType

never_head : (rows : List (List ℕ × Terminal)) (text : List ℕ) → list_all (λ row. not (is_head_terminal row.1)) rows ≡ true → not (is_head_terminal (terminal_in rows text)) ≡ true
never_head [] text h = refl
never_head (row ∷ rows) text h = go (bytes_eq row.0 text) (terminal_in rows text) (and_parts _ _ h).0 (never_head rows text (and_parts _ _ h).1)
  where
    go : (b : Bool) (k : Terminal) → not (is_head_terminal row.1) ≡ true → not (is_head_terminal k) ≡ true → not (is_head_terminal (cond b row.1 k)) ≡ true
    go true k here there = here
    go false k here there = there

no_contradiction : (b : Bool) → not b ≡ true → b ≡ true → ⊥
no_contradiction true h k = absurd (cc)
no_contradiction false h k = absurd (cc)

-- only words are names
head_wordy : (k : TokenKind) (text : List ℕ) → is_head_terminal (terminal_of k text) ≡ true → is_wordy k ≡ true
unfolding operator_terminal
head_wordy kind.Identifier text h = refl
head_wordy kind.Underscore text h = refl
head_wordy kind.Keyword text h = refl
head_wordy kind.Integer text h = refl
head_wordy kind.Operator text h = absurd (no_contradiction (is_head_terminal (operator_terminal text)) (never_head operator_terminals text refl) h)
head_wordy _ text h = absurd (cc)

as_lasts : (e e' : Bool) (ws : List Written) → (e ≡ true → e' ≡ true) → ends e (map as_piece ws) ≡ true → lasts e' ws ≡ true
as_lasts e e' [] h k = h k
as_lasts e e' (w ∷ ws) h k = as_lasts (is_head_piece (as_piece w)) (is_wordy w.kind) ws (head_wordy w.kind w.text) k

-- ---- one after the other

module _ {A B C : Type 0} {firm : Bool} {g : Piece → Bool} {e : Bool} {p : Written → Bool} {before : Text → Text} {out : B → Text} {Near : A → Type 0} {Same : B → B → Type 0}
    {outs : C → Text} {SameLookahead : C → C → Type 0} {p' q : Written → Bool} {S S' : Rule C} {R : C → Rule B} {R' : A → C → Rule B} where
  -- what is written directly behind something that ends in a name
  pub print_snug : {e' : Bool} → Prints {A = Unit {0}} firm g false p' (λ z. z) outs Alone SameLookahead S (λ a. S') → Ends S' → ((w : Written) → p' w ≡ true → p w ≡ true) → ((w : Written) → q w ≡ true → is_snug w ≡ true) →
      ((c : C) → Prints true any e' q (λ z. before (outs c ++ z)) out (Both Near SameLookahead c) Same (R c) (λ x. R' x.0 x.1)) →
      Prints firm g e p before out Near Same (Then S R) (λ a. Then S' (R' a))
  print_snug {e'} cs last h k cr = record { holds = go }
    where
      go : (us : List Piece) (b : B) → FromText us → begins true g us ≡ true → Then S R us b →
          (ws : List Written) × (before (joined ws) ≡ out b) × Sound ws × (begins e p ws ≡ true) × ((a : A) → Near a → (ms : List Piece) → Matched firm ms ws → (b' : B) × Then S' (R' a) ms b' × Same b b')
      go us b gen fst (c, vs, ws, at, s, r) =
          let gen' : FromText (vs ++ ws) = subst FromText at gen in
          let (xs, written, sound, begun, make) = cs.holds vs c (genuine_left vs ws gen') (begins_left g vs ws (subst (λ z. begins true g z ≡ true) at fst)) s in
          let (ys, written', sound', begun', make') = (cr c).holds ws b (genuine_right vs ws gen') (any_begins ws) r in
          let (c', s', like) = make tt tt (map as_piece xs) (as_matched firm xs) in (
            xs ++ ys,
            ap before (joined_append xs ys ∙ ap (λ z. z ++ joined ys) written) ∙ written',
            sound_snug xs ys sound (as_lasts false false xs (λ t. t) (last (map as_piece xs) c' s' false)) sound' (begins_within e' true q is_snug ys (λ t. refl) k begun'),
            begins_append e p xs ys (begins_within false false p' p xs (λ t. t) h begun),
            λ a near ms fits.
                let (ns, ps, cut, left, right) = firm_parts firm p' ms xs ys begun fits in
                let (c', s', like) = make tt tt ns left in
                let (b', r', same) = make' (a, c') (near, like) ps right in
                (b', (c', ns, ps, cut, s', r'), same),
          )
