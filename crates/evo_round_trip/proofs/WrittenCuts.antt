-- Written tokens, one behind the other, are cut into tokens whose pieces match them.
use Rattle.std.proofs.Common.{◌≡◌, ℕ, ◌+◌, codes, Bool, true, false, not, List, [], ◌∷◌, ◌++◌, length, Option, Some, None, refl, sym, ◌∙◌, ap, subst, arith}
use Rattle.std.specs.Prelude.{◌&&◌, ◌||◌, ◌==◌, nat_lt, slice_index}
use Rattle.std.specs.Str.{chars}
use Rattle.std.proofs.lemmas.Bool.{and_parts, lt-ltb, le-ltb, not-true, eqb-true}
use Rattle.evo_base.specs.declared.token.TokenKind.{TokenKind}
use Rattle.evo_base.specs.declared.token.TokenKind.TheVariants as kind
use Rattle.evo_base.specs.declared.token.Token.{Token}
use Rattle.evo_combinators.specs.Laws.{first}
use Rattle.evo_lex.specs.declared.spot.Position.{Position}
use Rattle.evo_lex.specs.Characters.{is_operator}
use Rattle.evo_lex.specs.Tokenization.{CutFrom}
use Rattle.evo_lex.specs.Sides.{is_opening, is_closing, is_separator, white_left, white_right}
use Rattle.evo_tree.specs.declared.terminal.Terminal.{Terminal}
use Rattle.evo_tree.specs.declared.terminal.Terminal.TheVariants as t
use Rattle.evo_tree.specs.declared.terminal.Role.{Role}
use Rattle.evo_tree.specs.declared.terminal.Role.TheVariants as role
use Rattle.evo_tree.specs.Terminals.{terminal_of, operator_terminal, number_of}
use Rattle.evo_tree.specs.Pieces.{pieces_from, text_of, prefix_role, role_of}
use Rattle.evo_tree.specs.Pieces as pieces
use Rattle.evo_round_trip.proofs.Written.{Written, IsToken, Sound, joined, is_gap, is_none, is_minus, is_integer_kind, parts_from, keeps_role, gives_role, leads, is_unattached}
use Rattle.evo_round_trip.proofs.Matching.{Has, SameLookahead, AllFit, Alike}
use Rattle.evo_round_trip.proofs.FirstCharacters.{token_at, operator_is}
use Rattle.evo_round_trip.proofs.WrittenTexts.{nil_ends}
use Rattle.evo_round_trip.proofs.TokenCuts.{IsCut, AreCut, tokens_cut}
use Rattle.evo_round_trip.proofs.SideRoles.{role_with}
use Rattle.evo_round_trip.proofs.TerminalTexts.{minus_text}

-- ---- the white space beside a token

long_gap : (gap : List ℕ) (at start : ℕ) → start ≡ at + length gap → nat_lt at start ≡ not (is_none gap)
long_gap [] at start e = le-ltb at start (omega arith)
long_gap (c ∷ gap) at start e = lt-ltb at start (omega arith)

-- white space stands before a token exactly where its gap is
apart_is : (whole : List ℕ) (at line : ℕ) (w : Written) (u : Token) → IsCut whole at line w u → nat_lt at u.start ≡ not (is_none w.gap)
apart_is whole at line w u cut = long_gap w.gap at u.start cut.start

-- what counts as white space on the right of a token
right_is : (whole : List ℕ) (v : Token) (line : ℕ) (w : Written) (u : Token) → IsCut whole (v.start + v.len) line w u → white_right v (Some u) ≡ (not (is_none w.gap) || is_closing w.kind || is_separator w.kind)
right_is whole v line w u cut =
    let apart = apart_is whole (v.start + v.len) line w u cut in
    ap (λ (b : Bool). b || is_closing u.kind || is_separator u.kind) apart ∙ ap (λ (k : TokenKind). not (is_none w.gap) || is_closing k || is_separator k) cut.kind

-- what counts as white space on the left of a token
left_is : (whole : List ℕ) (v : Token) (line : ℕ) (w : Written) (u : Token) → IsCut whole (v.start + v.len) line w u → white_left (Some v) u ≡ (not (is_none w.gap) || is_opening v.kind || is_separator v.kind)
left_is whole v line w u cut = ap (λ (b : Bool). b || is_opening v.kind || is_separator v.kind) (apart_is whole (v.start + v.len) line w u cut)

-- ---- roles

infix_with : (left right : Bool) (k : Terminal) (integer : Bool) → left ≡ true → right ≡ true → role_with left right k integer ≡ role.Infix
infix_with true true k i e f = refl
infix_with true false k i e f = absurd cc
infix_with false right k i e f = absurd cc

prefix_with : (left right : Bool) (k : Terminal) (integer : Bool) → left ≡ true → right ≡ false → role_with left right k integer ≡ prefix_role k integer
prefix_with true false k i e f = refl
prefix_with true true k i e f = absurd cc
prefix_with false right k i e f = absurd cc

plain_prefix : (k : Terminal) → prefix_role k false ≡ role.Prefix
plain_prefix t.Minus = refl
plain_prefix k = refl

other_prefix : (k : Terminal) (i : Bool) → (number_of k == 40) ≡ false → prefix_role k i ≡ role.Prefix
other_prefix t.Minus true e = absurd cc
other_prefix t.Minus false e = refl
other_prefix k true e = refl
other_prefix k false e = refl

minus_only : (text : List ℕ) → is_minus text ≡ false → text ≡ codes "-" → ⊥
minus_only text e f = let g = subst (λ (l : List ℕ). is_minus l ≡ false) f e in absurd cc

-- a prefix of that terminal, where it is no minus before an integer
prefix_is : (k : TokenKind) (text : List ℕ) (integer : Bool) → (is_minus text && integer) ≡ false → prefix_role (terminal_of k text) integer ≡ role.Prefix
prefix_is k text false e = plain_prefix (terminal_of k text)
prefix_is k text true e = go (number_of (terminal_of k text) == 40) refl (is_minus text) refl e
  where
    go : (b : Bool) → (number_of (terminal_of k text) == 40) ≡ b → (c : Bool) → is_minus text ≡ c → (c && true) ≡ false → prefix_role (terminal_of k text) true ≡ role.Prefix
    go true eb true ec e = absurd cc
    go true eb false ec e = absurd (minus_only text ec (minus_text k text eb))
    go false eb c ec e = other_prefix (terminal_of k text) true eb

minus_is : (text : List ℕ) → is_minus text ≡ true → text ≡ codes "-"
minus_is [] e = absurd cc
minus_is (c ∷ []) e = ap (λ (d : ℕ). d ∷ []) (eqb-true c 45 e)
minus_is (c ∷ d ∷ text) e = absurd cc

minus_chars : chars (codes "-") ≡ codes "-"
unfolding chars
minus_chars = refl

minus_terminal : terminal_of kind.Operator (codes "-") ≡ t.Minus
unfolding operator_terminal
minus_terminal = refl

-- a token that is written `-` is a minus
written_minus : (w : Written) → IsToken w → is_minus w.text ≡ true → terminal_of w.kind w.text ≡ t.Minus
written_minus w is e =
    let text = minus_is w.text e in
    let cs = ap chars text ∙ minus_chars in
    let at = token_at (chars w.text ++ []) w.kind (length (chars w.text)) (is.front [] (nil_ends w.kind)) in
    let begins : is_operator (slice_index (chars w.text ++ []) 0) ≡ true = ap (λ (l : List ℕ). is_operator (slice_index (l ++ []) 0)) cs in
    let k = (operator_is (chars w.text ++ []) w.kind (length (chars w.text)) begins at.first).0 in
    ap (λ (j : TokenKind). terminal_of j w.text) (sym k) ∙ ap (terminal_of kind.Operator) text ∙ minus_terminal

same_integer : (k : TokenKind) → pieces.is_integer_kind k ≡ is_integer_kind k
same_integer kind.Integer = refl
same_integer k = refl

-- what the gap before the next token makes of the white space on the right
right_infix : (gap closing separator : Bool) → not gap ≡ true → (not gap || closing || separator) ≡ true
right_infix false c s e = refl
right_infix true c s e = absurd cc

right_prefix : (gap closing separator : Bool) → gap ≡ true → (closing || separator) ≡ false → (not gap || closing || separator) ≡ false
right_prefix true c s e f = f
right_prefix false c s e f = absurd cc

-- an integer closes and separates nothing
integer_inner : (k : TokenKind) → is_integer_kind k ≡ true → (is_closing k || is_separator k) ≡ false
integer_inner kind.Integer e = refl
integer_inner kind.CloseParenthesis e = absurd cc
integer_inner kind.CloseBrace e = absurd cc
integer_inner kind.Comma e = absurd cc
integer_inner kind.Semicolon e = absurd cc
integer_inner kind.Colon e = absurd cc
integer_inner k e = refl

-- white space stands before a token whose role asks for it
abbrev Left : Role → Option Token → Token → Type 0
Left role.Unattached before u = Unit {0}
Left role.Infix before u = white_left before u ≡ true
Left role.Prefix before u = white_left before u ≡ true
Left role.Negative before u = white_left before u ≡ true

module _ (whole : List ℕ) (w v : Written) (is : IsToken w) (before : Option Token) (u next : Token) (line : ℕ) (cut : IsCut whole (u.start + u.len) line v next) where
  abbrev the_role : Role
  the_role = role_of (terminal_of w.kind w.text) before u (Some next)

  integer_next : pieces.is_integer_kind next.kind ≡ is_integer_kind v.kind
  integer_next = ap pieces.is_integer_kind cut.kind ∙ same_integer v.kind

  has_role : (r : Role) → Left r before u → keeps_role r w.text v ≡ true → Has r the_role
  has_role role.Unattached left keeps = tt
  has_role role.Infix left keeps =
      infix_with (white_left before u) (white_right u (Some next)) (terminal_of w.kind w.text) (pieces.is_integer_kind next.kind) left
      (right_is whole u line v next cut ∙ right_infix (is_none v.gap) (is_closing v.kind) (is_separator v.kind) keeps)
  has_role role.Prefix left keeps =
      let inner = not (is_closing v.kind || is_separator v.kind) in
      let both = and_parts (is_none v.gap && inner) (not (is_minus w.text && is_integer_kind v.kind)) keeps in
      let parts = and_parts (is_none v.gap) inner both.0 in
      prefix_with (white_left before u) (white_right u (Some next)) (terminal_of w.kind w.text) (pieces.is_integer_kind next.kind) left
      (right_is whole u line v next cut ∙ right_prefix (is_none v.gap) (is_closing v.kind) (is_separator v.kind) parts.0 (not-true (is_closing v.kind || is_separator v.kind) parts.1))
      ∙ ap (prefix_role (terminal_of w.kind w.text)) integer_next
      ∙ prefix_is w.kind w.text (is_integer_kind v.kind) (not-true (is_minus w.text && is_integer_kind v.kind) both.1)
  has_role role.Negative left keeps =
      let both = and_parts (is_none v.gap && is_minus w.text) (is_integer_kind v.kind) keeps in
      let parts = and_parts (is_none v.gap) (is_minus w.text) both.0 in
      prefix_with (white_left before u) (white_right u (Some next)) (terminal_of w.kind w.text) (pieces.is_integer_kind next.kind) left
      (right_is whole u line v next cut ∙ right_prefix (is_none v.gap) (is_closing v.kind) (is_separator v.kind) parts.0 (integer_inner v.kind both.1))
      ∙ ap (prefix_role (terminal_of w.kind w.text)) (integer_next ∙ both.1)
      ∙ ap (λ (k : Terminal). prefix_role k true) (written_minus w is parts.1)

-- a role that nothing keeps is asked of none
no_role : (r : Role) (is : Role) → is_unattached r ≡ true → Has r is
no_role role.Unattached r e = tt
no_role role.Infix r e = absurd cc
no_role role.Prefix r e = absurd cc
no_role role.Negative r e = absurd cc

-- ---- pieces

either_left : (a b c : Bool) → (a || (b || c)) ≡ true → (a || b || c) ≡ true
either_left true b c e = refl
either_left false b c e = e

-- what stands before a token gives it its role
gives_left : (whole : List ℕ) (v : Token) (j : TokenKind) (line : ℕ) (w : Written) (u : Token) → v.kind ≡ j → IsCut whole (v.start + v.len) line w u → (r : Role) → gives_role j w r ≡ true → Left r (Some v) u
gives_left whole v j line w u k cut role.Unattached e = tt
gives_left whole v j line w u k cut role.Infix e = left_is whole v line w u cut ∙ right_infix (is_none w.gap) (is_opening v.kind) (is_separator v.kind) e
gives_left whole v j line w u k cut role.Prefix e =
    left_is whole v line w u cut ∙ ap (λ (i : TokenKind). not (is_none w.gap) || is_opening i || is_separator i) k ∙ either_left (not (is_none w.gap)) (is_opening j) (is_separator j) e
gives_left whole v j line w u k cut role.Negative e =
    left_is whole v line w u cut ∙ ap (λ (i : TokenKind). not (is_none w.gap) || is_opening i || is_separator i) k ∙ either_left (not (is_none w.gap)) (is_opening j) (is_separator j) e

-- nothing stands before the first token
no_left : (r : Role) (u : Token) → Left r None u
no_left role.Unattached u = tt
no_left role.Infix u = refl
no_left role.Prefix u = refl
no_left role.Negative u = refl

module _ (whole : List ℕ) where
  role_is : (w : Written) (ws : List Written) (before : Option Token) (u : Token) (us : List Token) → IsToken w → leads w ws ≡ true → AreCut whole (u.start + u.len) u.place.line us ws → Left w.role before u
      → Has w.role (role_of (terminal_of w.kind w.text) before u (first us))
  role_is w [] before u [] is l cut left = no_role w.role _ l
  role_is w [] before u (next ∷ us) is l cut left = absurd cut
  role_is w (v ∷ ws) before u [] is l cut left = absurd cut
  role_is w (v ∷ ws) before u (next ∷ us) is l cut left =
      let joint = (and_parts (not (is_none v.gap) || parts_from w.kind v.kind) (keeps_role w.role w.text v && gives_role w.kind v v.role) l).1 in
      has_role whole w v is before u next u.place.line cut.0 w.role left (and_parts (keeps_role w.role w.text v) (gives_role w.kind v v.role) joint).0

  terminal_is : (at line : ℕ) (w : Written) (u : Token) → IsCut whole at line w u → terminal_of u.kind (text_of whole u) ≡ terminal_of w.kind w.text
  terminal_is at line w u cut = ap (λ (k : TokenKind). terminal_of k (text_of whole u)) cut.kind ∙ ap (terminal_of w.kind) cut.text

  -- a piece is like its written token
  like : (at line : ℕ) (w : Written) (ws : List Written) (before : Option Token) (u : Token) (us : List Token) → IsToken w → leads w ws ≡ true → IsCut whole at line w u → AreCut whole (u.start + u.len) u.place.line us ws
      → Left w.role before u → SameLookahead (pieces.piece whole before u (first us)) w
  like at line w ws before u us is l cut cuts left =
      let same = terminal_is at line w u cut in
      record {
        terminal = same;
        text = cut.text;
        role = subst (λ (k : Terminal). Has w.role (role_of k before u (first us))) (sym same) (role_is w ws before u us is l cuts left);
      }

  -- the pieces behind a token match the tokens that are written behind it
  all_fit : (v : Written) (t : Token) → t.kind ≡ v.kind → (ws : List Written) → leads v ws ≡ true → Sound ws → (us : List Token) → AreCut whole (t.start + t.len) t.place.line us ws → AllFit (pieces_from whole (Some t) us) ws
  all_fit v t k [] l sound [] cut = tt
  all_fit v t k [] l sound (u ∷ us) cut = absurd cut
  all_fit v t k (w ∷ ws) l sound [] cut = absurd cut
  all_fit v t k (w ∷ ws) l sound (u ∷ us) cut =
      let joint = (and_parts (not (is_none w.gap) || parts_from v.kind w.kind) (keeps_role v.role v.text w && gives_role v.kind w w.role) l).1 in
      let left = gives_left whole t v.kind t.place.line w u k cut.0 w.role (and_parts (keeps_role v.role v.text w) (gives_role v.kind w w.role) joint).1 in
      ((like (t.start + t.len) t.place.line w ws (Some t) u us sound.0 sound.1 cut.0 cut.1 left, cut.0.below), all_fit w u cut.0.kind ws sound.1 sound.2 us cut.1)

  alike : (at line : ℕ) (ws : List Written) → Sound ws → (us : List Token) → AreCut whole at line us ws → Alike (pieces_from whole None us) ws
  alike at line [] sound [] cut = tt
  alike at line [] sound (u ∷ us) cut = absurd cut
  alike at line (w ∷ ws) sound [] cut = absurd cut
  alike at line (w ∷ ws) sound (u ∷ us) cut = (like at line w ws None u us sound.0 sound.1 cut.0 cut.1 (no_left w.role u), all_fit w u cut.0.kind ws sound.1 sound.2 us cut.1)

-- written tokens, with blanks behind them, are cut into tokens whose pieces match them
pub written_is_cut : (ws : List Written) → Sound ws → (tail : List ℕ) → is_gap tail ≡ true → (s : Position)
    → (tokens : List Token) × CutFrom s (chars (joined ws ++ tail)) tokens × ((pre : List ℕ) → length pre ≡ s.at → Alike (pieces_from (pre ++ (joined ws ++ tail)) None tokens) ws)
written_is_cut ws sound tail e s =
    let cut = tokens_cut ws sound tail e s in
    (cut.0, cut.1, λ pre n. alike (pre ++ (joined ws ++ tail)) s.at s.place.line ws sound cut.0 (cut.2 pre n))
