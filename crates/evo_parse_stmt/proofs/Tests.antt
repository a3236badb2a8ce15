-- What the tests of tokens take, by the numbers of the terminals.
use Rattle.std.specs.Prelude.{◌≡◌, ℕ, ◌^◌, ◌||◌, Bool, true, false, cond, List, [], ◌∷◌, Option, Some, None, refl, codes}
use Rattle.std.proofs.Common.{ap, inl, inr, arith}
use Rattle.std.specs.Str.{bytes_eq, is_utf8, IsAscii}
use Rattle.std.proofs.lemmas.Str.{IsUtf8-from_ascii, is_utf8-from_IsUtf8}
use Rattle.std.proofs.lemmas.Slice.Eq.{bytes_eq-Decides}
use Rattle.std.proofs.lemmas.Bool.{or_left, or_right, or_cases}
use Rattle.evo_base.specs.declared.place.Place.{Place}
use Rattle.evo_lex.specs.Front.{when}
use Rattle.evo_tree.specs.declared.expression.Expr.{Expr}
use Rattle.evo_tree.specs.declared.statement.Introducer.{Introducer}
use Rattle.evo_tree.specs.declared.statement.AssignmentOperator.{AssignmentOperator}
use Rattle.evo_tree.specs.declared.terminal.Terminal.{Terminal}
use Rattle.evo_tree.specs.declared.terminal.Terminal.TheVariants as t
use Rattle.evo_tree.specs.declared.terminal.Role.TheVariants as role
use Rattle.evo_tree.specs.Terminals.{number_of}
use Rattle.evo_tree.specs.Pieces.{Piece, is_terminal, has_role, placed, mark, identifier, word, integer, string}
use Rattle.evo_tree.specs.Types.{type_head, plain_name}
use Rattle.evo_parse_expr.proofs.Tests.{when_some, and_both, both_and, mark_is}
use Rattle.evo_parse_expr.proofs.Among.{among, among_alone, same_number}
use Rattle.evo_tree.specs.Statements.{attached_minus, introduced, introduces, assigning, assigns, is_target, assigns_to}

abbrev pub code : Piece → ℕ
code p = number_of p.terminal

-- the tokens that a test takes
abbrev pub Codes : {A : Type 0} → List ℕ → (Piece → Option A) → Type 0
Codes {A} js f = (p : Piece) (a : A) → f p ≡ Some a → among js (code p) ≡ true

-- ---- what was taken

terminal_code : (k : Terminal) (p : Piece) → is_terminal k p ≡ true → among (number_of k ∷ []) (code p) ≡ true
terminal_code k p e = among_alone (number_of p.terminal) (number_of k) e

pub mark_of : (k : Terminal) (p : Piece) → is_terminal k p ≡ true → mark k p ≡ Some p.place
unfolding mark
mark_of k p e = ap (λ b. when b p.place) e

pub mark_codes : (k : Terminal) → Codes (number_of k ∷ []) (mark k)
mark_codes k p a e = terminal_code k p (mark_is k p a e)

pub identifier_codes : Codes (number_of t.Identifier ∷ []) identifier
unfolding identifier
identifier_codes p a e = terminal_code t.Identifier p (and_both (is_terminal t.Identifier p) (is_utf8 p.text) (when_some _ _ a e).0).0

pub type_head_codes : Codes (number_of t.Identifier ∷ number_of t.SelfType ∷ []) type_head
unfolding type_head
type_head_codes p a e =
    elim (or_cases (is_terminal t.Identifier p) (is_terminal t.SelfType p) (and_both (is_terminal t.Identifier p || is_terminal t.SelfType p) (is_utf8 p.text) (when_some _ _ a e).0).0) [
      | inl is ↦ or_left _ _ is
      | inr is ↦ or_right (is_terminal t.Identifier p) _ (or_left (is_terminal t.SelfType p) false is)
    ]

pub attached_codes : Codes (number_of t.Minus ∷ []) attached_minus
unfolding attached_minus
attached_codes p a e = terminal_code t.Minus p (and_both (is_terminal t.Minus p) _ (when_some _ _ a e).0).0

pub integer_codes : (most : ℕ) → Codes (number_of t.Integer ∷ []) (integer most)
unfolding integer
integer_codes most p a e = terminal_code t.Integer p (and_both (is_terminal t.Integer p) _ (when_some _ _ a e).0).0

pub string_codes : Codes (number_of t.String ∷ []) string
unfolding string
string_codes p a e = terminal_code t.String p (and_both (is_terminal t.String p) _ (when_some _ _ a e).0).0

placed_some : {A : Type 0} (p : Place) (o : Option A) (x : Place × A) → placed p o ≡ Some x → (a : A) × (o ≡ Some a)
placed_some p None x e = absurd cc
placed_some p (Some a) x e = (a, refl)

abbrev pub introducing : List ℕ
introducing = number_of t.Let ∷ number_of t.Var ∷ []

introduced_codes : (k : Terminal) (i : Introducer) → introduced k ≡ Some i → among introducing (number_of k) ≡ true
introduced_codes t.Let i e = refl
introduced_codes t.Var i e = refl
introduced_codes k i e = absurd cc

pub introduces_codes : Codes introducing introduces
unfolding introduces
introduces_codes p x e = let (i, is) = placed_some p.place (introduced p.terminal) x e in introduced_codes p.terminal i is

abbrev pub assigning_codes : List ℕ
assigning_codes = number_of t.Equal ∷ number_of t.PlusEqual ∷ number_of t.MinusEqual ∷ number_of t.StarEqual ∷ number_of t.SlashEqual ∷ number_of t.PercentEqual ∷ []

assigning_is : (k : Terminal) (o : AssignmentOperator) → assigning k ≡ Some o → among assigning_codes (number_of k) ≡ true
assigning_is t.Equal i e = refl
assigning_is t.PlusEqual i e = refl
assigning_is t.MinusEqual i e = refl
assigning_is t.StarEqual i e = refl
assigning_is t.SlashEqual i e = refl
assigning_is t.PercentEqual i e = refl
assigning_is k i e = absurd cc

pub assigns_codes : (y : Expr) → Codes assigning_codes (assigns_to y)
unfolding assigns_to assigns
assigns_codes y p o e = go (is_target y) (is_terminal t.Equal p || has_role role.Infix p) e
  where
    go : (b c : Bool) → cond b (cond c (assigning p.terminal) None) None ≡ Some o → among assigning_codes (code p) ≡ true
    go true true e = assigning_is p.terminal o e
    go true false e = absurd cc
    go false c e = absurd cc

-- ---- tokens that are taken

abbrev pub a_place : Place
a_place = record { line = 1; col = 1 }

abbrev pub a_piece : Terminal → List ℕ → Piece
a_piece k w = record { terminal = k; role = role.Unattached; below = false; place = a_place; text = w }

pub mark_takes : (k : Terminal) → mark k (a_piece k []) ≡ Some a_place
mark_takes k = mark_of k (a_piece k []) (same_number (number_of k))

empty_ascii : IsAscii []
empty_ascii i = omega arith

empty_utf8 : is_utf8 [] ≡ true
empty_utf8 = is_utf8-from_IsUtf8 [] (IsUtf8-from_ascii [] empty_ascii)

pub identifier_takes : identifier (a_piece t.Identifier []) ≡ Some (record { place = a_place; text = [] })
unfolding identifier
identifier_takes = ap (λ b. when b (record { place = a_place; text = [] })) empty_utf8

pub type_head_takes : type_head (a_piece t.Identifier []) ≡ Some (a_place, [])
unfolding type_head
type_head_takes = ap (λ b. when b (a_place, [])) empty_utf8

pub integer_takes : integer (2 ^ 63) (a_piece t.Integer (codes "0")) ≡ Some (a_place, 0)
unfolding integer
integer_takes = refl

pub word_takes : (w : List ℕ) → word w (a_piece t.Identifier w) ≡ Some a_place
unfolding word
word_takes w = ap (λ b. when b a_place) (both_and true (bytes_eq w w) refl ((bytes_eq-Decides w w).1 refl))

pub plain_takes : plain_name (a_piece t.Identifier []) ≡ Some []
unfolding plain_name
plain_takes = ap (λ b. when b []) empty_utf8
