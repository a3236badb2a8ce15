-- The texts of the terminals of which only one text is: `-`, `!` and `Self`.
use Rattle.std.proofs.Common.{◌≡◌, ℕ, codes, Bool, true, false, cond, List, [], ◌∷◌, refl, sym, ◌∙◌, subst}
use Rattle.std.specs.Prelude.{◌&&◌, ◌||◌, ◌==◌, not}
use Rattle.std.specs.Str.{bytes_eq}
use Rattle.std.proofs.lemmas.Bool.{and_parts}
use Rattle.std.proofs.lemmas.Slice.Eq.{bytes_eq-Decides}
use Rattle.evo_base.specs.declared.token.TokenKind.{TokenKind}
use Rattle.evo_base.specs.declared.token.TokenKind.TheVariants as kind
use Rattle.evo_tree.specs.declared.terminal.Terminal.{Terminal}
use Rattle.evo_tree.specs.declared.terminal.Terminal.TheVariants as t
use Rattle.evo_tree.specs.Terminals.{keyword_terminals, operator_terminals, keyword_terminal, operator_terminal, terminal_in, terminal_of, number_of}

abbrev Rows : Type 0
Rows = List (List ℕ × Terminal)

-- this text alone is of this terminal, in the rows of a table
abbrev is_only : ℕ → List ℕ → Rows → Bool
is_only n word [] = true
is_only n word (row ∷ rows) = (not (number_of row.1 == n) || bytes_eq row.0 word) && is_only n word rows

same_text : (a b c : List ℕ) → bytes_eq a b ≡ true → bytes_eq a c ≡ true → b ≡ c
same_text a b c e f = sym ((bytes_eq-Decides a b).0 e) ∙ (bytes_eq-Decides a c).0 f

-- a text with the terminal of these rows is that text
only_text : (n : ℕ) (word : List ℕ) (rows : Rows) (text : List ℕ) → is_only n word rows ≡ true → (number_of t.Other == n) ≡ false → (number_of (terminal_in rows text) == n) ≡ true → text ≡ word
only_text n word [] text only other e = absurd cc
only_text n word (row ∷ rows) text only other e = go (bytes_eq row.0 text) refl e (only_text n word rows text both.1 other)
  where
    both : ((not (number_of row.1 == n) || bytes_eq row.0 word) ≡ true) × (is_only n word rows ≡ true)
    both = and_parts (not (number_of row.1 == n) || bytes_eq row.0 word) (is_only n word rows) only

    go : (b : Bool) → bytes_eq row.0 text ≡ b → (number_of (cond b row.1 (terminal_in rows text)) == n) ≡ true → ((number_of (terminal_in rows text) == n) ≡ true → text ≡ word) → text ≡ word
    go true is e rest = same_text row.0 text word is (subst (λ (b : Bool). (not b || bytes_eq row.0 word) ≡ true) e both.0)
    go false is e rest = rest e

-- a token of this terminal has this text, where that holds of keywords and of operators
module _ (n : ℕ) (word : List ℕ) (keywords : is_only n word keyword_terminals ≡ true) (operators : is_only n word operator_terminals ≡ true) (other : (number_of t.Other == n) ≡ false) where
  keyword_text : (text : List ℕ) → (number_of (keyword_terminal text) == n) ≡ true → text ≡ word
  unfolding keyword_terminal
  keyword_text text e = only_text n word keyword_terminals text keywords other e

  operator_text : (text : List ℕ) → (number_of (operator_terminal text) == n) ≡ true → text ≡ word
  unfolding operator_terminal
  operator_text text e = only_text n word operator_terminals text operators other e

abbrev is_of : ℕ → TokenKind → List ℕ → Type 0
is_of n k text = (number_of (terminal_of k text) == n) ≡ true

-- a minus is written `-`
pub minus_text : (k : TokenKind) (text : List ℕ) → is_of 40 k text → text ≡ codes "-"
minus_text kind.Identifier text e = absurd cc
minus_text kind.Underscore text e = absurd cc
minus_text kind.Keyword text e = keyword_text 40 (codes "-") refl refl refl text e
minus_text kind.Integer text e = absurd cc
minus_text kind.String text e = absurd cc
minus_text kind.Operator text e = operator_text 40 (codes "-") refl refl refl text e
minus_text kind.OpenParenthesis text e = absurd cc
minus_text kind.CloseParenthesis text e = absurd cc
minus_text kind.OpenBrace text e = absurd cc
minus_text kind.CloseBrace text e = absurd cc
minus_text kind.Comma text e = absurd cc
minus_text kind.Semicolon text e = absurd cc
minus_text kind.Colon text e = absurd cc
minus_text kind.Dot text e = absurd cc
minus_text kind.At text e = absurd cc
minus_text kind.Hash text e = absurd cc

-- `!` is written so
pub not_text : (k : TokenKind) (text : List ℕ) → is_of 57 k text → text ≡ codes "!"
not_text kind.Identifier text e = absurd cc
not_text kind.Underscore text e = absurd cc
not_text kind.Keyword text e = keyword_text 57 (codes "!") refl refl refl text e
not_text kind.Integer text e = absurd cc
not_text kind.String text e = absurd cc
not_text kind.Operator text e = operator_text 57 (codes "!") refl refl refl text e
not_text kind.OpenParenthesis text e = absurd cc
not_text kind.CloseParenthesis text e = absurd cc
not_text kind.OpenBrace text e = absurd cc
not_text kind.CloseBrace text e = absurd cc
not_text kind.Comma text e = absurd cc
not_text kind.Semicolon text e = absurd cc
not_text kind.Colon text e = absurd cc
not_text kind.Dot text e = absurd cc
not_text kind.At text e = absurd cc
not_text kind.Hash text e = absurd cc

-- `Self` is written so
pub self_text : (k : TokenKind) (text : List ℕ) → is_of 26 k text → text ≡ codes "Self"
self_text kind.Identifier text e = absurd cc
self_text kind.Underscore text e = absurd cc
self_text kind.Keyword text e = keyword_text 26 (codes "Self") refl refl refl text e
self_text kind.Integer text e = absurd cc
self_text kind.String text e = absurd cc
self_text kind.Operator text e = operator_text 26 (codes "Self") refl refl refl text e
self_text kind.OpenParenthesis text e = absurd cc
self_text kind.CloseParenthesis text e = absurd cc
self_text kind.OpenBrace text e = absurd cc
self_text kind.CloseBrace text e = absurd cc
self_text kind.Comma text e = absurd cc
self_text kind.Semicolon text e = absurd cc
self_text kind.Colon text e = absurd cc
self_text kind.Dot text e = absurd cc
self_text kind.At text e = absurd cc
self_text kind.Hash text e = absurd cc

-- no row is this terminal
abbrev none_is : ℕ → Rows → Bool
none_is n [] = true
none_is n (row ∷ rows) = not (number_of row.1 == n) && none_is n rows

none_in : (n : ℕ) (rows : Rows) (text : List ℕ) → none_is n rows ≡ true → (number_of t.Other == n) ≡ false → (number_of (terminal_in rows text) == n) ≡ true → ⊥
none_in n [] text none other e = absurd cc
none_in n (row ∷ rows) text none other e = go (bytes_eq row.0 text) e (none_in n rows text both.1 other)
  where
    both : (not (number_of row.1 == n) ≡ true) × (none_is n rows ≡ true)
    both = and_parts (not (number_of row.1 == n)) (none_is n rows) none

    go : (b : Bool) → (number_of (cond b row.1 (terminal_in rows text)) == n) ≡ true → ((number_of (terminal_in rows text) == n) ≡ true → ⊥) → ⊥
    go true e rest = let f = subst (λ (b : Bool). not b ≡ true) e both.0 in absurd cc
    go false e rest = rest e

module _ (n : ℕ) (keywords : none_is n keyword_terminals ≡ true) (operators : none_is n operator_terminals ≡ true) (other : (number_of t.Other == n) ≡ false) where
  no_keyword : (text : List ℕ) → (number_of (keyword_terminal text) == n) ≡ true → ⊥
  unfolding keyword_terminal
  no_keyword text e = none_in n keyword_terminals text keywords other e

  no_operator : (text : List ℕ) → (number_of (operator_terminal text) == n) ≡ true → ⊥
  unfolding operator_terminal
  no_operator text e = none_in n operator_terminals text operators other e

-- a token is an identifier by its kind alone
pub name_kind : (k : TokenKind) (text : List ℕ) → is_of 0 k text → k ≡ kind.Identifier
name_kind kind.Identifier text e = refl
name_kind kind.Underscore text e = absurd cc
name_kind kind.Keyword text e = absurd (no_keyword 0 refl refl refl text e)
name_kind kind.Integer text e = absurd cc
name_kind kind.String text e = absurd cc
name_kind kind.Operator text e = absurd (no_operator 0 refl refl refl text e)
name_kind kind.OpenParenthesis text e = absurd cc
name_kind kind.CloseParenthesis text e = absurd cc
name_kind kind.OpenBrace text e = absurd cc
name_kind kind.CloseBrace text e = absurd cc
name_kind kind.Comma text e = absurd cc
name_kind kind.Semicolon text e = absurd cc
name_kind kind.Colon text e = absurd cc
name_kind kind.Dot text e = absurd cc
name_kind kind.At text e = absurd cc
name_kind kind.Hash text e = absurd cc

-- a token is an integer by its kind alone
pub integer_kind : (k : TokenKind) (text : List ℕ) → is_of 2 k text → k ≡ kind.Integer
integer_kind kind.Identifier text e = absurd cc
integer_kind kind.Underscore text e = absurd cc
integer_kind kind.Keyword text e = absurd (no_keyword 2 refl refl refl text e)
integer_kind kind.Integer text e = refl
integer_kind kind.String text e = absurd cc
integer_kind kind.Operator text e = absurd (no_operator 2 refl refl refl text e)
integer_kind kind.OpenParenthesis text e = absurd cc
integer_kind kind.CloseParenthesis text e = absurd cc
integer_kind kind.OpenBrace text e = absurd cc
integer_kind kind.CloseBrace text e = absurd cc
integer_kind kind.Comma text e = absurd cc
integer_kind kind.Semicolon text e = absurd cc
integer_kind kind.Colon text e = absurd cc
integer_kind kind.Dot text e = absurd cc
integer_kind kind.At text e = absurd cc
integer_kind kind.Hash text e = absurd cc
