-- The readers of patterns read their rules.
use Rattle.std.specs.Prelude.{◌≡◌, ℕ, zero, suc, ◌-◌, ◌^◌, true, false, List, [], ◌∷◌, ◌++◌, Option, Some, None, refl, codes}
use Rattle.std.proofs.Common.{sym, ◌∙◌, ap, subst, inl, inr}
use Rattle.evo_base.specs.declared.place.Place.{Place}
use Rattle.evo_combinators.specs.Rule.{Empty, TokenThen, One, Then, Many, SomeOf}
use Rattle.evo_combinators.specs.Reader.{◌>>=◌, pure, one, many}
use Rattle.evo_combinators.specs.Laws.{first}
use Rattle.evo_combinators.proofs.Laws.{begins_led, of_map, stop_skips}
use Rattle.evo_combinators.proofs.Sequences.{Anything, some_only, some_led}
use Rattle.evo_tree.specs.declared.name.Identifier.{Identifier}
use Rattle.evo_tree.specs.declared.statement.Binding.{Binding}
use Rattle.evo_tree.specs.declared.statement.Pattern.{Pattern}
use Rattle.evo_tree.specs.declared.statement.Pattern.TheVariants as tree
use Rattle.evo_tree.specs.declared.terminal.Terminal.{Terminal}
use Rattle.evo_tree.specs.declared.terminal.Terminal.TheVariants as t
use Rattle.evo_tree.specs.Terminals.{number_of}
use Rattle.evo_tree.specs.Pieces.{Piece, mark, identifier, integer, string}
use Rattle.evo_tree.specs.Types.{type_head}
use Rattle.evo_tree.specs.Expressions.{Rule}
use Rattle.evo_tree.specs.Statements.{attached_minus, binding, path_of, case_of_type, BindingPattern, PayloadPattern, Subs, PayloadTail, Payload, Path, Magnitude, IsPattern}
use Rattle.evo_parse_expr.specs.Read.{Reader}
use Rattle.evo_parse_stmt.specs.Read.{binder, sub, subs, rest_of_payload, payload, path, magnitude, implicit, typed, pattern}
use Rattle.evo_parse_expr.proofs.Among.{among}
use Rattle.evo_parse_expr.proofs.Tests.{mark_number}
use Rattle.evo_parse_stmt.proofs.Tests.{code, mark_codes, identifier_codes, type_head_codes, attached_codes, integer_codes, string_codes, a_piece, a_place, identifier_takes, integer_takes}
use Rattle.evo_parse_expr.proofs.Tests.{quiet_mark, parenthesis_opens}
use Rattle.evo_parse_expr.proofs.Nesting.{identifier_quiet}
use Rattle.evo_parse_stmt.proofs.Fits.{Quiet, quiet_by, Fits, Below, Tail, lift, fits_stop, fits_pure, fits_then, fits_next, fits_map, fits_one, fits_led, fits_mark, fits_name, fits_many, law_opens, tail_by, tail_alt, tail_last, begun_follows}
use Rattle.evo_parse_stmt.proofs.Follows.{Without, without_less, without_at}

-- nothing else
abbrev pub Never : Piece → Type 0
Never p = ⊥

pub below_by : {A : Type 0} {Stop : Option Piece → Type 0} {S S' : Rule A} {p p' : Reader A} (d : ℕ) → ((f : ℕ) → Fits f Stop S S' p p') → Below d Stop S S' p p'
below_by zero fits = (fits 0).some
below_by (suc d) fits = fits (suc d)

-- a token of the terminal is not there
pub without_no : (ks : List ℕ) (k : Terminal) → among ks (number_of k) ≡ true → (p : Piece) (a : Place) → Without ks (Some p) → mark k p ≡ Some a → ⊥
without_no ks k is p a stop takes = let bad = sym stop ∙ ap (among ks) (mark_number k p a takes) ∙ is in cc

-- what follows where the next rule is led by this terminal
pub mark_follows : {B : Type 0} (Stop : Option Piece → Type 0) (k : Terminal) (S : Place → Rule B) → ((p : Piece) → code p ≡ number_of k → Stop (Some p)) →
    (vs rest : List Piece) (b : B) → TokenThen (mark k) S vs b → Stop (first (vs ++ rest))
mark_follows Stop k S to = begun_follows Stop (TokenThen (mark k) S) (begins_led (λ p. code p ≡ number_of k) (mark k) S (λ p a takes. mark_number k p a takes)) to

abbrev pub comma : List ℕ
comma = number_of t.Comma ∷ []

integer_quiet : (most : ℕ) → Quiet (integer most)
integer_quiet most = quiet_by (integer most) (number_of t.Integer ∷ []) refl (integer_codes most)

string_quiet : Quiet string
string_quiet = quiet_by string (number_of t.String ∷ []) refl string_codes

pub type_head_quiet : Quiet type_head
type_head_quiet = quiet_by type_head (number_of t.Identifier ∷ number_of t.SelfType ∷ []) refl type_head_codes

-- ---- what is done with a payload

tail_binder : (d : ℕ) (l : Option Identifier) → Tail d Anything Never (number_of t.Let ∷ number_of t.Underscore ∷ []) (BindingPattern l) (BindingPattern l) (binder l) (binder l)
unfolding binder
tail_binder d l = tail_alt (mark t.Let) (number_of t.Let ∷ []) (mark_codes t.Let) (quiet_mark t.Let refl) refl (λ p never is. never) (λ _. fits_name tt (λ n. fits_pure tt (binding l (Some n))))
    (tail_last (mark t.Underscore) (number_of t.Underscore ∷ []) (mark_codes t.Underscore) (fits_mark t.Underscore refl tt (λ _. fits_pure tt (binding l None))))

fits_sub : (d : ℕ) → Fits d Anything PayloadPattern PayloadPattern sub sub
unfolding sub
fits_sub d = (tail_alt identifier (number_of t.Identifier ∷ []) identifier_codes identifier_quiet refl (λ p never is. never) (λ l. fits_mark t.Colon refl tt (λ _. (tail_binder d (Some l)).fits)) (tail_binder d None)).fits

abbrev FurtherSubs : Rule (List Binding)
FurtherSubs = Many (mark t.Comma) (λ _. PayloadPattern)

fits_further : (d : ℕ) → Fits d (Without comma) FurtherSubs FurtherSubs (many (mark t.Comma) (λ _. sub)) (many (mark t.Comma) (λ _. sub))
fits_further d = fits_many (mark t.Comma) (quiet_mark t.Comma refl) refl (without_no comma t.Comma refl) (λ x stop. tt) (λ p a takes. tt) (λ _. (fits_sub d).some) (λ _. fits_sub d)

fits_subs : (d : ℕ) → Fits d (Without comma) Subs Subs subs subs
unfolding subs
fits_subs d = fits_next refl (fits_sub d) (λ b. fits_map (λ bs. b ∷ bs) (fits_further d))

fits_rest_of_payload : (d : ℕ) → Fits d Anything PayloadTail PayloadTail rest_of_payload rest_of_payload
unfolding rest_of_payload
fits_rest_of_payload d = fits_then tt
    (λ bs vs rest c s stop. mark_follows (Without comma) t.CloseParenthesis (λ _. Empty bs) (λ p is. without_at comma t.CloseParenthesis p is refl) vs rest c s)
    (fits_subs d) (λ bs. fits_mark t.CloseParenthesis refl tt (λ _. fits_pure tt bs))

abbrev parenthesis : List ℕ
parenthesis = number_of t.OpenParenthesis ∷ []

abbrev InParentheses : Place → Rule (Option (List Binding))
InParentheses p = Then PayloadTail (λ bs. Empty (Some bs))

fits_payload : (d : ℕ) → Fits d (Without parenthesis) (Payload d) (Payload (suc d)) (payload d) (payload (suc d))
unfolding payload
fits_payload d = record {
  law = law_opens d (mark t.OpenParenthesis) InParentheses InParentheses (λ _. rest_of_payload >>= (λ bs. pure (Some bs))) (λ _. rest_of_payload >>= (λ bs. pure (Some bs))) parenthesis_opens
      (stop_skips (Without parenthesis) (mark t.OpenParenthesis) (without_no parenthesis t.OpenParenthesis refl) None)
      (λ _. below_by d (λ f. fits_stop (λ x stop. tt) refl (fits_map (λ bs. Some bs) (fits_rest_of_payload f)))) (fits_pure {d = d} refl None).law;
  some = ([], None, inr (refl, refl));
  here = λ held. ([], None, inr (refl, refl));
}

-- ---- cases with their type

abbrev dot : List ℕ
dot = number_of t.Dot ∷ []

abbrev Names : Rule (List Identifier)
Names = Many (mark t.Dot) (λ _. One identifier)

fits_names : (d : ℕ) → Fits d (Without dot) Names Names (many (mark t.Dot) (λ _. one identifier)) (many (mark t.Dot) (λ _. one identifier))
fits_names d = fits_many (mark t.Dot) (quiet_mark t.Dot refl) refl (without_no dot t.Dot refl) (λ x stop. tt) (λ p a takes. tt) (λ _. one_name.some) (λ _. one_name)
  where
    one_name : Fits d Anything (One identifier) (One identifier) (one identifier) (one identifier)
    one_name = fits_one identifier identifier_quiet (a_piece t.Identifier []) (record { place = a_place; text = [] }) identifier_takes

fits_path : (d : ℕ) (head : Place × List ℕ) → Fits d (Without dot) (Path head) (Path head) (path head) (path head)
unfolding path
fits_path d head = fits_mark t.Dot refl refl (λ _. fits_name refl (λ n. fits_map (path_of head.0 (head.1 ∷ []) n) (fits_names d)))

-- what may follow a pattern
abbrev pub AfterPattern : Option Piece → Type 0
AfterPattern = Without (number_of t.OpenParenthesis ∷ number_of t.Dot ∷ [])

to_payload : (x : Option Piece) → AfterPattern x → Without parenthesis x
to_payload x stop = without_less parenthesis (number_of t.OpenParenthesis ∷ number_of t.Dot ∷ []) refl x stop

to_dot : (x : Option Piece) → AfterPattern x → Without dot x
to_dot x stop = without_less dot (number_of t.OpenParenthesis ∷ number_of t.Dot ∷ []) refl x stop

payload_follows : (d : ℕ) (vs rest : List Piece) (bs : Option (List Binding)) → Payload d vs bs → AfterPattern (first rest) → Without dot (first (vs ++ rest))
payload_follows zero vs rest bs (inl none) stop = absurd none
payload_follows (suc d) vs rest bs (inl s) stop = mark_follows (Without dot) t.OpenParenthesis InParentheses (λ p is. without_at dot t.OpenParenthesis p is refl) vs rest bs s
payload_follows zero vs rest bs (inr (none, is)) stop = subst (λ (z : List Piece). Without dot (first (z ++ rest))) (sym none) (to_dot (first rest) stop)
payload_follows (suc d) vs rest bs (inr (none, is)) stop = subst (λ (z : List Piece). Without dot (first (z ++ rest))) (sym none) (to_dot (first rest) stop)

made_follows : (d : ℕ) (g : Option (List Binding) → Pattern) (vs rest : List Piece) (x : Pattern) → Then (Payload d) (λ bs. Empty (g bs)) vs x → AfterPattern (first rest) → Without dot (first (vs ++ rest))
made_follows d g vs rest x s stop = let (bs, r, is) = of_map (Payload d) g vs x s in payload_follows d vs rest bs r stop

-- in braces
fits_after : (d : ℕ) (g : Option (List Binding) → Pattern) →
    Fits (suc d) AfterPattern (Then (Payload d) (λ bs. Empty (g bs))) (Then (Payload (suc d)) (λ bs. Empty (g bs))) (payload d >>= (λ bs. pure (g bs))) (payload (suc d) >>= (λ bs. pure (g bs)))
fits_after d g = fits_stop to_payload refl (fits_map g (lift ([], None, inr (refl, refl)) (fits_payload d)))

-- ---- patterns in braces

module _ (d : ℕ) where
  abbrev Implicit : ℕ → Place → Rule Pattern
  Implicit f p = TokenThen identifier (λ n. Then (Payload f) (λ bs. Empty (tree.Case p None n bs)))

  abbrev Typed : ℕ → Place × List ℕ → Rule Pattern
  Typed f head = Then (Path head) (λ path. Then (Payload f) (λ bs. Empty (case_of_type path head.0 bs)))

  fits_implicit : (p : Place) → Fits (suc d) AfterPattern (Implicit d p) (Implicit (suc d) p) (implicit d p) (implicit (suc d) p)
  unfolding implicit
  fits_implicit p = fits_name refl (λ n. fits_after d (λ bs. tree.Case p None n bs))

  fits_typed : (head : Place × List ℕ) → Fits (suc d) AfterPattern (Typed d head) (Typed (suc d) head) (typed d head) (typed (suc d) head)
  unfolding typed
  fits_typed head = fits_then refl (λ path vs rest x s stop. made_follows d (λ bs. case_of_type path head.0 bs) vs rest x s stop) (fits_path (suc d) head) (λ path. fits_after d (λ bs. case_of_type path head.0 bs))

  fits_magnitude : (p : Place) → Fits (suc d) AfterPattern (Magnitude p) (Magnitude p) (magnitude p) (magnitude p)
  unfolding magnitude
  fits_magnitude p = fits_led (integer (2 ^ 63)) (integer_quiet (2 ^ 63)) _ _ integer_takes refl (λ v. fits_pure refl (tree.Negative p v.1))

  some_magnitude : (p : Place) → SomeOf (Magnitude p)
  some_magnitude p = some_led (integer (2 ^ 63)) (λ v. Empty (tree.Negative p v.1)) (a_piece t.Integer (codes "0")) (a_place, 0) integer_takes (some_only (tree.Negative p 0))

  pub fits_pattern : Fits (suc d) AfterPattern (IsPattern d) (IsPattern (suc d)) (pattern d) (pattern (suc d))
  unfolding pattern
  fits_pattern =
      (tail_alt (mark t.Dot) (number_of t.Dot ∷ []) (mark_codes t.Dot) (quiet_mark t.Dot refl) refl (λ p never is. never) fits_implicit
      (tail_alt type_head (number_of t.Identifier ∷ number_of t.SelfType ∷ []) type_head_codes type_head_quiet refl (λ p never is. never) fits_typed
      (tail_by attached_minus (number_of t.Minus ∷ []) attached_codes (λ p a takes is. (tt, some_magnitude a)) refl (λ p never is. never) fits_magnitude
      (tail_alt (integer (2 ^ 63 - 1)) (number_of t.Integer ∷ []) (integer_codes (2 ^ 63 - 1)) (integer_quiet (2 ^ 63 - 1)) refl (λ p never is. never) (λ v. fits_pure refl (tree.Integer v.0 v.1))
      (tail_alt string (number_of t.String ∷ []) string_codes string_quiet refl (λ p never is. never) (λ v. fits_pure refl (tree.String v.0 v.1))
      (tail_alt (mark t.True) (number_of t.True ∷ []) (mark_codes t.True) (quiet_mark t.True refl) refl (λ p never is. never) (λ p. fits_pure refl (tree.Boolean p true))
      (tail_last (mark t.False) (number_of t.False ∷ []) (mark_codes t.False) (fits_mark t.False refl refl (λ p. fits_pure refl (tree.Boolean p false)))))))))).fits
