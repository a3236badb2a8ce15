-- The pieces behind some tokens.
use Rattle.std.proofs.Common.{◌≡◌, ℕ, zero, suc, ◌≤◌, List, [], ◌∷◌, length, drop, Option, Some, None, refl, ◌∙◌, ap, arith}
use Rattle.evo_base.specs.declared.token.Token.{Token}
use Rattle.evo_combinators.specs.Laws.{first}
use Rattle.evo_tree.specs.Pieces.{pieces_from, pieces, token_before}

pub length_pieces : (text : List ℕ) (before : Option Token) (us : List Token) → length (pieces_from text before us) ≡ length us
length_pieces text before [] = refl
length_pieces text before (u ∷ us) = ap (λ n. suc n) (length_pieces text (Some u) us)

before_of : Option Token → ℕ → List Token → Option Token
before_of before zero us = before
before_of before (suc n) us = first (drop n us)

pieces_drop : (text : List ℕ) (before : Option Token) (n : ℕ) (us : List Token) → n ≤ length us → drop n (pieces_from text before us) ≡ pieces_from text (before_of before n us) (drop n us)
unfolding before_of
pieces_drop text before zero us le = refl
pieces_drop text before (suc n) [] le = absurd (omega arith)
pieces_drop text before (suc n) (u ∷ us) le = pieces_drop text (Some u) n us (omega arith) ∙ ap (λ b. pieces_from text b (drop n us)) (shifted n us)
  where
    shifted : (n : ℕ) (us : List Token) → before_of (Some u) n us ≡ first (drop n (u ∷ us))
    shifted zero us = refl
    shifted (suc n) us = refl

pub drop_pieces : (text : List ℕ) (at : ℕ) (us : List Token) → at ≤ length us → drop at (pieces text us) ≡ pieces_from text (token_before at us) (drop at us)
unfolding before_of
drop_pieces text at us le = pieces_drop text None at us le ∙ ap (λ b. pieces_from text b (drop at us)) (same at)
  where
    same : (n : ℕ) → before_of None n us ≡ token_before n us
    same zero = refl
    same (suc n) = refl
