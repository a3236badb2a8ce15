-- Facts for the loop over modifiers, and for numbers.
use Rattle.std.proofs.Common.{◌≡◌, ℕ, ◌≤◌, ◌-◌, Bool, true, false, List, [], ◌∷◌, length, Option, Some, None, Ok, Err, refl, leb-true, arith, ap, ◌∙◌}
use Rattle.std.specs.Prelude.{nat_le, ◌&&◌}
use Rattle.evo_base.specs.declared.place.Place.{Place}
use Rattle.evo_combinators.specs.declared.Fault.TheVariants.{Grammar}
use Rattle.evo_combinators.specs.Reader.{Outcome, one, pure, lead, paired, branch}
use Rattle.evo_combinators.proofs.Laws.{ok_parts}
use Rattle.evo_lex.specs.Front.{when, integer_value}
use Rattle.evo_tree.specs.declared.terminal.Terminal.TheVariants as t
use Rattle.std.specs.Option.{is_some}
use Rattle.evo_combinators.specs.Guard.{starts}
use Rattle.evo_tree.specs.declared.declaration.Modifier.{Modifier}
use Rattle.evo_tree.specs.Declarations.{modifier_word}
use Rattle.evo_parse_header.specs.Read.{is_modifier}
use Rattle.evo_tree.specs.Pieces.{Piece, is_terminal, integer}

pub integer_bound : (most : ℕ) (ts : List Piece) (p : Place) (v : ℕ) (rest : List Piece) → one (integer most) ts ≡ Ok ((p, v), rest) → v ≤ most
unfolding lead integer
integer_bound most [] p v rest e = absurd (cc)
integer_bound most (u ∷ us) p v rest e = go (is_terminal t.Integer u) (nat_le (integer_value u.text) most) refl e
  where
    go : (b c : Bool) → nat_le (integer_value u.text) most ≡ c →
        ◌≡◌ {A = Outcome Piece (Place × ℕ)} (branch (paired (when (b && c) (u.place, integer_value u.text)) us) pure (Err (Grammar (length (u ∷ us))))) (Ok ((p, v), rest)) → v ≤ most
    go true true is e = let same : integer_value u.text ≡ v = ap (λ x. x.1) (ok_parts e).0 in let le : integer_value u.text ≤ most = leb-true (integer_value u.text) most is in omega arith
    go true false is e = absurd (cc)
    go false c is e = absurd (cc)

is_some_paired : {A : Type 0} (o : Option A) (us : List Piece) → is_some o ≡ is_some (paired o us)
is_some_paired (Some a) us = refl
is_some_paired None us = refl

-- a modifier stands first exactly where one is taken
pub starts_modifier : (ms : List Modifier) (ts : List Piece) → starts (is_modifier ms) ts ≡ is_some (lead (modifier_word ms) ts)
unfolding starts lead
starts_modifier ms [] = refl
starts_modifier ms (u ∷ us) = is_some_paired (modifier_word ms u) us

pub no_modifier : (ms : List Modifier) (ts : List Piece) → lead (modifier_word ms) ts ≡ None → starts (is_modifier ms) ts ≡ false
no_modifier ms ts e = starts_modifier ms ts ∙ ap is_some e

pub some_modifier : (ms : List Modifier) (ts : List Piece) (m : Modifier) (rest : List Piece) → lead (modifier_word ms) ts ≡ Some (m, rest) → starts (is_modifier ms) ts ≡ true
some_modifier ms ts m rest e = starts_modifier ms ts ∙ ap is_some e

pub one_modifier : (ms : List Modifier) (ts : List Piece) (m : Modifier) (rest : List Piece) → lead (modifier_word ms) ts ≡ Some (m, rest) → one (modifier_word ms) ts ≡ Ok (m, rest)
one_modifier ms ts m rest e = ap (λ o. branch o pure (Err (Grammar (length ts)))) e
