-- How written tokens begin, and before what each kind of token may stand.
use Rattle.std.proofs.Common.{◌≡◌, List, [], ◌∷◌, Bool, true, false, not, ◌&&◌, ◌||◌, ◌==◌, refl, ◌∙◌, ap, subst}
use Rattle.std.proofs.lemmas.Bool.{and_from, and_parts, or_left, or_right}
use Rattle.evo_base.specs.declared.token.TokenKind.{TokenKind}
use Rattle.evo_base.specs.declared.token.TokenKind.TheVariants as kind
use Rattle.evo_tree.specs.declared.terminal.Role.{Role}
use Rattle.evo_tree.specs.declared.terminal.Role.TheVariants as role
use Rattle.evo_tree.specs.declared.terminal.Terminal.TheVariants as t
use Rattle.evo_tree.specs.Pieces.{Piece}
use Rattle.evo_tree.specs.Terminals.{number_of, terminal_of}
use Rattle.evo_tree.specs.Statements.{is_later}
use Rattle.evo_lex.specs.Sides.{is_closing, is_separator}
use Rattle.evo_round_trip.proofs.Matching.{is_sign}
use Rattle.evo_round_trip.proofs.Written.{Written, is_none, is_mark, is_integer_kind, is_unattached, parts_from, keeps_role, gives_role, leads}
use Rattle.evo_round_trip.proofs.Printed.{begins, any, is_apart, is_flush, is_free, leads_free}
use Rattle.evo_round_trip.proofs.Spellings.{sign}
use Rattle.evo_round_trip.proofs.TakenTokens.{minus}

abbrev pub is_not_infix : Role → Bool
is_not_infix role.Infix = false
is_not_infix r = true

-- what an expression begins with: nothing before it, and no operator between operands
abbrev pub is_head : Written → Bool
is_head w = is_none w.gap && is_not_infix w.role

-- nothing before it, and no operator with a role
abbrev pub is_calm : Written → Bool
is_calm w = is_none w.gap && is_unattached w.role

pub head_flush : (w : Written) → is_head w ≡ true → is_flush w ≡ true
head_flush w h = (and_parts (is_none w.gap) (is_not_infix w.role) h).0

pub calm_flush : (w : Written) → is_calm w ≡ true → is_flush w ≡ true
calm_flush w h = (and_parts (is_none w.gap) (is_unattached w.role) h).0

pub calm_head : (w : Written) → is_calm w ≡ true → is_head w ≡ true
calm_head w h = and_from (is_none w.gap) (is_not_infix w.role) (calm_flush w h) (go w.role (and_parts (is_none w.gap) (is_unattached w.role) h).1)
  where
    go : (r : Role) → is_unattached r ≡ true → is_not_infix r ≡ true
    go role.Unattached h = refl
    go role.Infix h = absurd (cc)
    go role.Prefix h = refl
    go role.Negative h = refl

pub apart_free : (w : Written) → is_apart w ≡ true → is_free w ≡ true
apart_free w h = or_left (is_apart w) (is_mark w.kind && is_unattached w.role) h

-- ---- what may stand behind

-- a token without a role stands before white space
pub leads_apart : (e : Bool) (v : Written) (ws : List Written) → is_unattached v.role ≡ true → begins e is_apart ws ≡ true → leads v ws ≡ true
leads_apart e v [] u h = u
leads_apart e v (w ∷ ws) u h = leads_free true v (w ∷ ws) u (apart_free w h)

given_apart : (k : TokenKind) (w : Written) → is_apart w ≡ true → (r : Role) → gives_role k w r ≡ true
given_apart k w h role.Unattached = refl
given_apart k w h role.Infix = h
given_apart k w h role.Prefix = or_left _ _ h
given_apart k w h role.Negative = or_left _ _ h

-- behind an operator between operands stands white space
pub leads_infix : (v : Written) (ws : List Written) → v.role ≡ role.Infix → begins false is_apart ws ≡ true → leads v ws ≡ true
leads_infix v [] is h = absurd (cc)
leads_infix v (w ∷ ws) is h =
    and_from _ _ (or_left _ _ h) (and_from _ _ (ap (λ r. keeps_role r v.text w) is ∙ h) (given_apart v.kind w h w.role))

-- a parenthesis stands before what begins an expression
pub leads_open : (e : Bool) (ws : List Written) → begins e is_head ws ≡ true → leads (sign [] t.OpenParenthesis) ws ≡ true
leads_open e [] h = refl
leads_open e (w ∷ ws) h = and_from _ _ (or_right _ _ refl) (given w.role (and_parts (is_none w.gap) (is_not_infix w.role) h).1)
  where
    given : (r : Role) → is_not_infix r ≡ true → gives_role kind.OpenParenthesis w r ≡ true
    given role.Unattached i = refl
    given role.Infix i = absurd (cc)
    given role.Prefix i = or_right _ _ refl
    given role.Negative i = or_right _ _ refl

pub given_calm : (k : TokenKind) (w : Written) (r : Role) → is_unattached r ≡ true → gives_role k w r ≡ true
given_calm k w role.Unattached h = refl
given_calm k w role.Infix h = absurd (cc)
given_calm k w role.Prefix h = absurd (cc)
given_calm k w role.Negative h = absurd (cc)

kept_calm : (v w : Written) (r : Role) → is_unattached r ≡ true → keeps_role r v.text w ≡ true
kept_calm v w role.Unattached h = refl
kept_calm v w role.Infix h = absurd (cc)
kept_calm v w role.Prefix h = absurd (cc)
kept_calm v w role.Negative h = absurd (cc)

-- a mark stands before whatever is no operator with a role
pub leads_calm : (e : Bool) (v : Written) (ws : List Written) → ((k : TokenKind) → parts_from v.kind k ≡ true) → is_unattached v.role ≡ true → begins e is_calm ws ≡ true → leads v ws ≡ true
leads_calm e v [] m u h = u
leads_calm e v (w ∷ ws) m u h =
    and_from _ _ (or_right _ _ (m w.kind)) (and_from _ _ (kept_calm v w v.role u) (given_calm v.kind w w.role (and_parts (is_none w.gap) (is_unattached w.role) h).1))

pub leads_dot : (e : Bool) (ws : List Written) → begins e is_calm ws ≡ true → leads (sign [] t.Dot) ws ≡ true
leads_dot e ws h = leads_calm e (sign [] t.Dot) ws (λ k. refl) refl h

-- an integer directly behind a minus
abbrev pub is_number : Written → Bool
is_number w = is_calm w && is_integer_kind w.kind

pub leads_minus : (ws : List Written) → begins false is_number ws ≡ true → leads (minus []) ws ≡ true
leads_minus [] h = absurd (cc)
leads_minus (w ∷ ws) h =
    let calm : is_calm w ≡ true = (and_parts (is_calm w) (is_integer_kind w.kind) h).0 in
    let number : is_integer_kind w.kind ≡ true = (and_parts (is_calm w) (is_integer_kind w.kind) h).1 in
    and_from _ _ (or_right _ _ (parts w.kind number)) (and_from _ _ (and_from _ _ (and_from _ true (calm_flush w calm) refl) number) (given_calm kind.Operator w w.role (and_parts (is_none w.gap) (is_unattached w.role) calm).1))
  where
    parts : (k : TokenKind) → is_integer_kind k ≡ true → parts_from kind.Operator k ≡ true
    parts kind.Integer i = refl
    parts _ i = absurd (cc)

-- ---- how expressions begin

-- what an expression may begin with, but for a sign
abbrev pub is_start : TokenKind → Bool
is_start kind.Identifier = true
is_start kind.Underscore = true
is_start kind.Keyword = true
is_start kind.Integer = true
is_start kind.String = true
is_start kind.OpenParenthesis = true
is_start kind.Dot = true
is_start k = false

-- a piece that passes `g` begins an expression that is written with a token of the same terminal, and a name as it stands, which passes `p`
pub record Begun (g : Piece → Bool) (p : Written → Bool) : Type 0 where
  pub first : (u : Piece) (w : Written) → g u ≡ true → u.terminal ≡ terminal_of w.kind w.text → (u.terminal ≡ t.Identifier → u.text ≡ w.text) → is_calm w ≡ true → is_start w.kind ≡ true → p w ≡ true
  pub signed : (u : Piece) (w : Written) → g u ≡ true → is_sign u ≡ true → u.terminal ≡ terminal_of w.kind w.text → is_head w ≡ true → p w ≡ true

pub any_head : Begun any is_head
any_head = record { first = λ u w passes same text calm start. calm_head w calm; signed = λ u w passes is same head. head }

pub start_parts : (k : TokenKind) → is_start k ≡ true → parts_from kind.Operator k ≡ true
start_parts kind.Operator h = absurd (cc)
start_parts _ h = refl

pub start_opens : (k : TokenKind) → is_start k ≡ true → not (is_closing k || is_separator k) ≡ true
start_opens kind.Identifier h = refl
start_opens kind.Underscore h = refl
start_opens kind.Keyword h = refl
start_opens kind.Integer h = refl
start_opens kind.String h = refl
start_opens kind.OpenParenthesis h = refl
start_opens kind.Dot h = refl
start_opens _ h = absurd (cc)

-- what does not begin with `.`
abbrev pub is_no_dot : Written → Bool
is_no_dot w = is_head w && not (number_of (terminal_of w.kind w.text) == number_of t.Dot)

pub later_begun : Begun is_later is_no_dot
unfolding is_later
later_begun = record {
  first = λ u w passes same text calm start. and_from _ _ (calm_head w calm) (subst (λ k. not (number_of k == number_of t.Dot) ≡ true) same passes);
  signed = λ u w passes is same head. and_from _ _ head (subst (λ k. not (number_of k == number_of t.Dot) ≡ true) same passes);
}
