-- What a client does, where a new release of the library stands in the place of the one that it was built against: the bytes that
-- it prints, and how it ends.
use Rattle.std.specs.Prelude.{ℕ, zero, suc, List, [], ◌∷◌, ◌++◌, map, Option, Some, None, if◌then◌else◌}
use Rattle.std.specs.List.{join_with_byte}
use Rattle.std.specs.Fmt.{decimal}
use Rattle.std.specs.Str.{bytes_eq}
use Rattle.evo_first_form.specs.declared.Function.{Function}
use Rattle.evo_first_form.specs.declared.Declaration.{Declaration}
use Rattle.evo_first_form.specs.declared.Print.{Print}
use Rattle.evo_first_form.specs.declared.Term.{Term}
use Rattle.evo_first_form.specs.declared.Term.TheVariants.{Integer, Call}
use Rattle.evo_first_form.specs.Copies.{copied_body}

-- A program of two releases: what the interface of the old one declares, from which the client copied bodies, and the functions of
-- the new one.
pub record Program : Type 0 where
  pub old : List Declaration
  pub new : List Function

-- where code runs: the client's, with the bodies that it copied, or the library's
pub data Side : Type 0 where
  client_side : Side
  library_side : Side

-- a body, and where it runs
pub record Body : Type 0 where
  pub side : Side
  pub term : Term

-- the body of the function of this name in a library
abbrev pub written_body : List Function → List ℕ → Option Term
written_body [] name = None
written_body (f ∷ fs) name = if bytes_eq name f.name then Some f.body else written_body fs name

abbrev pub on_library : Option Term → Option Body
on_library None = None
on_library (Some term) = Some (record { side = library_side; term = term })

abbrev pub on_client : Option Term → Option Body → Option Body
on_client None other = other
on_client (Some term) other = Some (record { side = client_side; term = term })

-- The body that a call runs. The client's code finds the old bodies that it copied first, and they find each other so; else it finds
-- the new library's. The library's code finds the new library's alone.
abbrev pub body_of : Program → Side → List ℕ → Option Body
body_of p client_side name = on_client (copied_body p.old name) (on_library (written_body p.new name))
body_of p library_side name = on_library (written_body p.new name)

-- the top level came to its end, no tick was left, or a function that is called is not there
pub data Ending : Type 0 where
  done : Ending
  spent : Ending
  stuck : Ending

-- what was evaluated with the ticks that are left, or why the run ends
pub data Evaluated (A : Type 0) : Type 0 where
  gives : A → ℕ → Evaluated A
  stops : Ending → Evaluated A

-- a term's value, where so many ticks are left and this is what calls give
abbrev pub value_of : Term → ℕ → (List ℕ → Evaluated ℕ) → Evaluated ℕ
value_of (Integer n) left calls = gives n left
value_of (Call name) left calls = calls name

-- a body that is entered, where a tick is left and where none is
abbrev pub entered : Option Body → ℕ → (Side → List ℕ → Evaluated ℕ) → Evaluated ℕ
entered None left calls = stops stuck
entered (Some body) left calls = value_of body.term left (calls body.side)

abbrev pub not_entered : Option Body → Evaluated ℕ
not_entered None = stops stuck
not_entered (Some body) = stops spent

-- what a call gives: a tick is taken where its body is entered
abbrev pub call_of : Program → ℕ → Side → List ℕ → Evaluated ℕ
call_of p zero side name = not_entered (body_of p side name)
call_of p (suc left) side name = entered (body_of p side name) left (call_of p left)

abbrev pub with_value : ℕ → Evaluated (List ℕ) → Evaluated (List ℕ)
with_value n (gives ns left) = gives (n ∷ ns) left
with_value n (stops e) = stops e

-- one value and then others
abbrev pub and_then : Evaluated ℕ → (ℕ → Evaluated (List ℕ)) → Evaluated (List ℕ)
and_then (gives n left) rest = with_value n (rest left)
and_then (stops e) rest = stops e

-- the values of the client's terms, from left to right
abbrev pub values_of : Program → ℕ → List Term → Evaluated (List ℕ)
values_of p ticks [] = gives [] ticks
values_of p ticks (term ∷ terms) = and_then (value_of term ticks (call_of p ticks client_side)) (λ left. values_of p left terms)

-- the bytes that a run prints, and how it ends
pub record Ran : Type 0 where
  pub out : List ℕ
  pub ending : Ending

abbrev pub ended : Ending → Ran
ended e = record { out = []; ending = e }

-- values as a line: in decimal, with single spaces between them
abbrev pub line_of : List ℕ → List ℕ
line_of ns = join_with_byte 32 (map decimal ns) ++ 10 ∷ []

abbrev pub after_line : List ℕ → Ran → Ran
after_line line ran = record { out = line ++ ran.out; ending = ran.ending }

abbrev pub printed : Evaluated (List ℕ) → (ℕ → Ran) → Ran
printed (gives ns left) rest = after_line (line_of ns) (rest left)
printed (stops e) rest = ended e

-- prints one after another
abbrev pub prints_of : Program → ℕ → List Print → Ran
prints_of p ticks [] = ended done
prints_of p ticks (print ∷ prints) = printed (values_of p ticks print.terms) (λ left. prints_of p left prints)

-- a client's run with so many ticks: its top level takes one
abbrev pub run_of : Program → List Print → ℕ → Ran
run_of p prints zero = ended spent
run_of p prints (suc left) = prints_of p left prints
