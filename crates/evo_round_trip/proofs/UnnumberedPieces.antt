-- A minus directly before an integer is a part of it: no prefix `-` has an integer behind it.
use Rattle.std.proofs.Common.{◌≡◌, ℕ, Bool, true, false, List, Option, Some, refl, subst}
use Rattle.std.specs.Prelude.{◌&&◌, ◌==◌}
use Rattle.std.proofs.lemmas.Bool.{and_parts, false_from_ne_true}
use Rattle.evo_base.specs.declared.token.TokenKind.{TokenKind}
use Rattle.evo_base.specs.declared.token.Token.{Token}
use Rattle.evo_lex.specs.Sides.{white_left, white_right}
use Rattle.evo_tree.specs.declared.terminal.Terminal.{Terminal}
use Rattle.evo_tree.specs.declared.terminal.Terminal.TheVariants as t
use Rattle.evo_tree.specs.declared.terminal.Role.{Role}
use Rattle.evo_tree.specs.declared.terminal.Role.TheVariants as role
use Rattle.evo_tree.specs.Terminals.{number_of}
use Rattle.evo_tree.specs.Pieces.{piece, text_of, prefix_role, role_number, is_integer_kind, is_terminal, has_role}
use Rattle.evo_round_trip.proofs.SideRoles.{role_with}
use Rattle.evo_round_trip.proofs.TerminalTexts.{integer_kind}

minus_negative : (k : Terminal) → (number_of k == 40) ≡ true → prefix_role k true ≡ role.Negative
minus_negative t.Minus e = refl
minus_negative k e = absurd cc

-- a minus that is a prefix stands before no integer
prefix_no_integer : (left right : Bool) (k : Terminal) (integer : Bool) → (number_of k == 40) ≡ true → (role_number (role_with left right k integer) == 1) ≡ true → integer ≡ false
prefix_no_integer left right k false m e = refl
prefix_no_integer true false k true m e = absurd (let f = subst (λ (r : Role). (role_number r == 1) ≡ true) (minus_negative k m) e in cc)
prefix_no_integer true true k true m e = absurd cc
prefix_no_integer false true k true m e = absurd cc
prefix_no_integer false false k true m e = absurd cc

-- no integer stands behind a prefix `-`
pub no_integer : (text : List ℕ) (before behind : Option Token) (u v : Token) → (is_terminal t.Minus (piece text before u (Some v)) && has_role role.Prefix (piece text before u (Some v))) ≡ true
    → is_terminal t.Integer (piece text (Some u) v behind) ≡ false
no_integer text before behind u v e =
    let p = piece text before u (Some v) in
    let both = and_parts (is_terminal t.Minus p) (has_role role.Prefix p) e in
    let no = prefix_no_integer (white_left before u) (white_right u (Some v)) p.terminal (is_integer_kind v.kind) both.0 both.1 in
    false_from_ne_true (is_terminal t.Integer (piece text (Some u) v behind)) (λ i. absurd (let f = subst (λ (k : TokenKind). is_integer_kind k ≡ false) (integer_kind v.kind (text_of text v) i) no in cc))
