-- The machine does what the source does: a simulation, call by call, term by term and print by print.
use Rattle.std.proofs.Common.{◌≡◌, ℕ, zero, suc, ◌+◌, ◌-◌, ◌≤◌, Bool, List, [], ◌∷◌, ◌++◌, length, Option, Some, refl, sym, ◌∙◌, ap, subst, arith, append_assoc, pos}
use Rattle.std.specs.Prelude.{slice_get, replicate}
use Rattle.std.proofs.lemmas.List.{append-nil, length-append}
use Rattle.evo_first_form.specs.declared.Print.{Print}
use Rattle.evo_first_form.specs.declared.Term.{Term}
use Rattle.evo_first_form.specs.declared.Term.TheVariants as term
use Rattle.evo_code.specs.declared.instr.Instr.{Instr}
use Rattle.evo_code.specs.declared.instr.Instr.TheVariants as Op
use Rattle.evo_code.specs.declared.layout.Layout.TheVariants as layout
use Rattle.evo_code.specs.declared.object.Function.{Function}
use Rattle.evo_code.specs.declared.image.Image.{Image}
use Rattle.evo_code.specs.Layouts.{most_words}
use Rattle.evo_execution.specs.declared.end.End.TheVariants.{Done, Budget}
use Rattle.evo_execution.specs.Words.{Word, Empty}
use Rattle.evo_execution.specs.Tables.{function_number, start_number}
use Rattle.evo_execution.specs.Execution.{State, Frame, Goes, Ends, Run, after_line as machine_after, written, start_in, step, Reaches, ends, goes, writes, Executes}
use Rattle.evo_first_code.specs.Meaning.{Program, Side, client_side, Body, body_of, Evaluated, gives, stops, Ending, done, spent, stuck, value_of, entered, not_entered, call_of, values_of, with_value, and_then, line_of, prints_of, printed, run_of}
use Rattle.evo_first_code.specs.Objects.{one_word, slot, function_of, term_code, terms_code, slots_of, print_code, prints_code, most_terms, start_function}
use Rattle.evo_first_code.specs.Works.{EndsResult, DoesResult}
use Rattle.evo_first_code.proofs.Steps.{word_of, filled, filled-put, filled-length, room_slots, Runs, step_of, int_acts, call_acts, return_acts, last_acts, print_acts}

le_one : 0 + 1 ≤ 1
le_one = omega arith

one_small : 1 ≤ most_words
one_small = omega arith

-- from this place on the code has these instructions
abbrev At : List Instr → ℕ → List Instr → Type 0
At code at [] = Unit {0}
At code at (i ∷ is) = (slice_get code at ≡ Some i) × At code (at + 1) is

-- as many values as terms
abbrev CountIs : Evaluated (List ℕ) → ℕ → Type 0
CountIs (gives ns left) k = length ns ≡ k
CountIs (stops e) k = Unit {0}

count_of : (p : Program) (t : ℕ) (terms : List Term) → CountIs (values_of p t terms) (length terms)
count_of p t [] = refl
count_of p t (x ∷ ts) = at (value_of x t (call_of p t client_side)) (λ left. count_of p left ts)
  where
    one : (n : ℕ) (e : Evaluated (List ℕ)) → CountIs e (length ts) → CountIs (with_value n e) (suc (length ts))
    one n (gives ns left) c = ap suc c
    one n (stops e) c = tt

    at : (v : Evaluated ℕ) → ((left : ℕ) → CountIs (values_of p left ts) (length ts)) → CountIs (and_then v (λ left. values_of p left ts)) (suc (length ts))
    at (gives n left) c = one n (values_of p left ts) (c left)
    at (stops e) c = tt

-- enough words for each print
abbrev FitsIn : List Print → ℕ → Type 0
FitsIn [] n = Unit {0}
FitsIn (p ∷ ps) n = (length p.terms ≤ n) × FitsIn ps n

abbrev out_of_ticks : Run
out_of_ticks = record { out = []; ending = Budget }

-- what finishes the second state finishes the first
abbrev Comes : Image → State → State → Type 0
Comes image s s' = (run : Run) → Reaches image s' run → Reaches image s run

abbrev pub Calls : Type 1
Calls = Side → List ℕ → Type 0

-- each call of a term is one of these
abbrev pub GoodTerm : Calls → Side → Term → Type 0
GoodTerm Good side (term.Integer n) = Unit {0}
GoodTerm Good side (term.Call name) = Good side name

abbrev pub GoodTerms : Calls → List Term → Type 0
GoodTerms Good [] = Unit {0}
GoodTerms Good (x ∷ xs) = GoodTerm Good client_side x × GoodTerms Good xs

abbrev pub GoodPrints : Calls → List Print → Type 0
GoodPrints Good [] = Unit {0}
GoodPrints Good (x ∷ xs) = GoodTerms Good x.terms × GoodPrints Good xs

-- the body that a call runs, with its function in the image
pub record Known (image : Image) (p : Program) (symbols : Side → List ℕ → List ℕ) (Good : Calls) (side : Side) (name : List ℕ) : Type 0 where
  pub body : Body
  pub is : body_of p side name ≡ Some body
  pub calls : GoodTerm Good body.side body.term
  pub number : ℕ
  pub exported : Bool
  pub named : function_number image (symbols side name) ≡ Some number
  pub found : slice_get image.functions number ≡ Some (function_of (symbols side name) exported (symbols body.side) body.term)

-- a frame stands at this instruction of a function whose slots are its words
record AtInstr (image : Image) (frame : Frame) (i : Instr) : Type 0 where
  function : Function
  found : slice_get image.functions frame.function ≡ Some function
  here : slice_get function.code frame.at ≡ Some i
  slots : function.slots ≡ replicate (length frame.words) one_word
  small : length frame.words ≤ most_words

-- calls over any frames, by the ticks that are left
module _ (image : Image) (p : Program) (symbols : Side → List ℕ → List ℕ) (Good : Calls) (known : (side : Side) (name : List ℕ) → Good side name → Known image p symbols Good side name) where
  abbrev on : Frame → List Frame → ℕ → State
  on frame below t = record { top = frame; below = below; objects = []; ticks = t }

  -- a frame behind an instruction that put an integer into a slot
  abbrev with_int : Frame → ℕ → ℕ → Frame
  with_int frame k n = record frame { at = frame.at + 1; words = written frame.words k (word_of n ∷ []) }

  -- an instruction that puts what was evaluated into a slot
  abbrev ValueDoes : Frame → List Frame → ℕ → ℕ → Evaluated ℕ → Type 0
  ValueDoes frame below t k (gives n left) = Comes image (on frame below t) (on (with_int frame k n) below left)
  ValueDoes frame below t k (stops done) = ⊥
  ValueDoes frame below t k (stops spent) = Reaches image (on frame below t) out_of_ticks
  ValueDoes frame below t k (stops stuck) = ⊥

  runs_at : (frame : Frame) (below : List Frame) (t : ℕ) (i : Instr) (a : AtInstr image frame i) → Runs image (on frame below t) a.function
  runs_at frame below t i a = record { found = a.found; slots = a.slots; small = a.small }

  int_does : (frame : Frame) (below : List Frame) (t k n : ℕ) → AtInstr image frame (Op.Int (slot k) (pos n)) → k + 1 ≤ length frame.words → ValueDoes frame below t k (gives n t)
  int_does frame below t k n a fits run r =
      let s = on frame below t in
      let runs = runs_at frame below t (Op.Int (slot k) (pos n)) a in
      goes (step_of image s a.function runs (Op.Int (slot k) (pos n)) _ a.here (int_acts image s a.function runs k (pos n) fits)) r

  -- a call, its callee's frame, and what the caller goes on with
  module _ (side : Side) (name : List ℕ) (k : Known image p symbols Good side name) (frame : Frame) (below : List Frame) (to : ℕ)
      (a : AtInstr image frame (Op.Call (symbols side name) [] (slot to) one_word)) (fits : to + 1 ≤ length frame.words) where
    abbrev callee : Function
    callee = function_of (symbols side name) k.exported (symbols k.body.side) k.body.term

    abbrev inner : ℕ → List Word → Frame
    inner at words = record { function = k.number; at = at; words = words; to = to }

    abbrev caller : List Frame
    caller = record frame { at = frame.at + 1 } ∷ below

    enters : (t : ℕ) → step image (on frame below t) ≡ Goes (on (inner 0 (Empty ∷ [])) caller t)
    enters t =
        let runs = runs_at frame below t (Op.Call (symbols side name) [] (slot to) one_word) a in
        step_of image (on frame below t) a.function runs (Op.Call (symbols side name) [] (slot to) one_word) _ a.here
        (call_acts image (on frame below t) a.function runs to k.number (symbols side name) (symbols side name) k.exported (symbols k.body.side) k.body.term k.named k.found fits)

    inner_runs : (at t : ℕ) (w : Word) → Runs image (on (inner at (w ∷ [])) caller t) callee
    inner_runs at t w = record { found = k.found; slots = refl; small = one_small }

    call_spent : Reaches image (on frame below 0) out_of_ticks
    call_spent = goes (enters 0) (ends (step_of image (on (inner 0 (Empty ∷ [])) caller 0) callee (inner_runs 0 0 Empty) Op.Tick _ refl refl))

    begins : (left : ℕ) → Comes image (on frame below (suc left)) (on (inner 1 (Empty ∷ [])) caller left)
    begins left run r = goes (enters (suc left)) (goes (step_of image (on (inner 0 (Empty ∷ [])) caller (suc left)) callee (inner_runs 0 (suc left) Empty) Op.Tick _ refl refl) r)

    returns : (n left : ℕ) → Comes image (on (inner 2 (word_of n ∷ [])) caller left) (on (with_int frame to n) below left)
    returns n left run r =
        let s = on (inner 2 (word_of n ∷ [])) caller left in
        goes (step_of image s callee (inner_runs 2 left (word_of n)) (Op.Return (slot 0) one_word) _ refl
        (return_acts image s callee (inner_runs 2 left (word_of n)) (word_of n) (record frame { at = frame.at + 1 }) below refl refl refl fits)) r

    -- what the body does, the call does
    through : (left : ℕ) (e : Evaluated ℕ) → ValueDoes (inner 1 (Empty ∷ [])) caller left 0 e → ValueDoes frame below (suc left) to e
    through left (gives n last) comes = λ run r. begins left run (comes run (returns n last run r))
    through left (stops done) h = absurd h
    through left (stops spent) h = begins left out_of_ticks h
    through left (stops stuck) h = absurd h

    body_at : AtInstr image (inner 1 (Empty ∷ [])) (term_code (symbols k.body.side) 0 k.body.term)
    body_at = record { function = callee; found = k.found; here = refl; slots = refl; small = one_small }

  -- a term, where its calls do what they give
  term_does : (side : Side) (x : Term) (frame : Frame) (below : List Frame) (t k : ℕ) → GoodTerm Good side x → AtInstr image frame (term_code (symbols side) k x) → k + 1 ≤ length frame.words
      → ((name : List ℕ) → Good side name → AtInstr image frame (Op.Call (symbols side name) [] (slot k) one_word) → ValueDoes frame below t k (call_of p t side name))
      → ValueDoes frame below t k (value_of x t (call_of p t side))
  term_does side (term.Integer n) frame below t k good a fits calls = int_does frame below t k n a fits
  term_does side (term.Call name) frame below t k good a fits calls = calls name good a

  call_does : (t : ℕ) (side : Side) (name : List ℕ) → Good side name → (frame : Frame) (below : List Frame) (to : ℕ) → AtInstr image frame (Op.Call (symbols side name) [] (slot to) one_word) → to + 1 ≤ length frame.words
      → ValueDoes frame below t to (call_of p t side name)
  call_does zero side name good frame below to a fits =
      let k = known side name good in
      subst (λ (o : Option Body). ValueDoes frame below 0 to (not_entered o)) (sym k.is) (call_spent side name k frame below to a fits)
  call_does (suc left) side name good frame below to a fits =
      let k = known side name good in
      let inside = term_does k.body.side k.body.term (inner side name k frame below to a fits 1 (Empty ∷ [])) (caller side name k frame below to a fits) left 0 k.calls (body_at side name k frame below to a fits) le_one
      (λ other good' a'. call_does left k.body.side other good' (inner side name k frame below to a fits 1 (Empty ∷ [])) (caller side name k frame below to a fits) 0 a' le_one) in
      subst (λ (o : Option Body). ValueDoes frame below (suc left) to (entered o left (call_of p left))) (sym k.is) (through side name k frame below to a fits left (value_of k.body.term left (call_of p left k.body.side)) inside)

  -- The top level of a client, with n slots.
  module _ (number : ℕ) (start : Function) (found : slice_get image.functions number ≡ Some start) (n : ℕ) (slots : start.slots ≡ replicate n one_word) (small : n ≤ most_words) where
    abbrev top : ℕ → List Word → Frame
    top at words = record { function = number; at = at; words = words; to = 0 }

    abbrev st : ℕ → List Word → ℕ → State
    st at words ticks = on (top at words) [] ticks

    top_at : (at : ℕ) (words : List Word) (i : Instr) → length words ≡ n → slice_get start.code at ≡ Some i → AtInstr image (top at words) i
    top_at at words i long here = record {
      function = start;
      found = found;
      here = here;
      slots = slots ∙ ap (λ (m : ℕ). replicate m one_word) (sym long);
      small = omega (arith, small);
    }

    st_runs : (at t : ℕ) (words : List Word) → length words ≡ n → Runs image (st at words t) start
    st_runs at t words long = record { found = found; slots = slots ∙ ap (λ (m : ℕ). replicate m one_word) (sym long); small = omega (arith, small) }

    -- what the code of terms does, by what the terms evaluate to: before are the values that are there already
    abbrev TermsDo : ℕ → List Term → List ℕ → List Word → ℕ → Evaluated (List ℕ) → Type 0
    TermsDo at terms before rest t (gives ns left) = (rest' : List Word) × (length rest' + length ns ≡ length rest) × Comes image (st at (filled before rest) t) (st (at + length terms) (filled (before ++ ns) rest') left)
    TermsDo at terms before rest t (stops done) = ⊥
    TermsDo at terms before rest t (stops spent) = Reaches image (st at (filled before rest) t) out_of_ticks
    TermsDo at terms before rest t (stops stuck) = ⊥

    -- one term's value, and then the others
    then_terms : (at v t left : ℕ) (x : Term) (terms : List Term) (before : List ℕ) (w : Word) (rest : List Word) → Comes image (st at (filled before (w ∷ rest)) t) (st (at + 1) (filled (before ++ v ∷ []) rest) left)
        → (e : Evaluated (List ℕ)) → TermsDo (at + 1) terms (before ++ v ∷ []) rest left e → TermsDo at (x ∷ terms) before (w ∷ rest) t (with_value v e)
    then_terms at v t left x terms before w rest first (gives ns last) (rest', long, more) = (
      rest',
      omega arith,
      λ run r.
          let place : at + suc (length terms) ≡ at + 1 + length terms = omega arith in
          let values : before ++ v ∷ ns ≡ (before ++ v ∷ []) ++ ns = sym (append_assoc before (v ∷ []) ns) in
          first run (more run (rw (← place, ← values) r)),
    )
    then_terms at v t left x terms before w rest first (stops done) h = absurd h
    then_terms at v t left x terms before w rest first (stops spent) h = first out_of_ticks h
    then_terms at v t left x terms before w rest first (stops stuck) h = absurd h

    by_value : (at k t : ℕ) (x : Term) (ts : List Term) (before : List ℕ) (w : Word) (rest : List Word) → k ≡ length before
        → (e : Evaluated ℕ) → ValueDoes (top at (filled before (w ∷ rest))) [] t k e
        → ((v left : ℕ) → TermsDo (at + 1) ts (before ++ v ∷ []) rest left (values_of p left ts))
        → TermsDo at (x ∷ ts) before (w ∷ rest) t (and_then e (λ left. values_of p left ts))
    by_value at k t x ts before w rest e (gives v left) does more =
        then_terms at v t left x ts before w rest (λ run r. does run (rw (filled-put before v w rest k e) r)) (values_of p left ts) (more v left)
    by_value at k t x ts before w rest e (stops done) does more = absurd does
    by_value at k t x ts before w rest e (stops spent) does more = does
    by_value at k t x ts before w rest e (stops stuck) does more = absurd does

    terms_do : (terms : List Term) (at k t : ℕ) (before : List ℕ) (rest : List Word) → k ≡ length before → length before + length rest ≡ n → length terms ≤ length rest
        → At start.code at (terms_code (symbols client_side) k terms) → GoodTerms Good terms → TermsDo at terms before rest t (values_of p t terms)
    terms_do [] at k t before rest e long fits code good =
        let place : at + 0 ≡ at = omega arith in (
          rest,
          omega arith,
          λ run r.
              subst (λ (l : List ℕ). Reaches image (st at (filled l rest) t) run) (append-nil before) (subst (λ (a : ℕ). Reaches image (st a (filled (before ++ []) rest) t) run) place r),
        )
    terms_do (x ∷ ts) at k t before [] e long fits code good = absurd (omega arith)
    terms_do (x ∷ ts) at k t before (w ∷ rest) e long fits code good =
        let whole : length (filled before (w ∷ rest)) ≡ n = filled-length before (w ∷ rest) ∙ long in
        let room : k + 1 ≤ length (filled before (w ∷ rest)) = omega (arith, filled-length before (w ∷ rest)) in
        let longer : (v : ℕ) → length (before ++ v ∷ []) ≡ length before + 1 = λ v. length-append before (v ∷ []) in
        let a : AtInstr image (top at (filled before (w ∷ rest))) (term_code (symbols client_side) k x) = top_at at (filled before (w ∷ rest)) (term_code (symbols client_side) k x) whole code.0 in
        by_value at k t x ts before w rest e (value_of x t (call_of p t client_side))
        (term_does client_side x (top at (filled before (w ∷ rest))) [] t k good.0 a room (λ name g b. call_does t client_side name g (top at (filled before (w ∷ rest))) [] k b room))
        (λ v left. terms_do ts (at + 1) (k + 1) left (before ++ v ∷ []) rest (ap (λ (m : ℕ). m + 1) e ∙ sym (longer v)) (omega (arith, longer v)) (omega arith) code.1 good.1)

    -- code that stands in front of other code
    At-front : (xs ys : List Instr) (at : ℕ) → At start.code at (xs ++ ys) → At start.code at xs
    At-front [] ys at h = tt
    At-front (x ∷ xs) ys at h = (h.0, At-front xs ys (at + 1) h.1)

    At-back : (xs ys : List Instr) (at : ℕ) → At start.code at (xs ++ ys) → At start.code (at + length xs) ys
    At-back [] ys at h = let place : at + 0 ≡ at = omega arith in subst (λ (a : ℕ). At start.code a ys) (sym place) h
    At-back (x ∷ xs) ys at h = let place : at + 1 + length xs ≡ at + suc (length xs) = omega arith in subst (λ (a : ℕ). At start.code a ys) place (At-back xs ys (at + 1) h.1)

    terms_code-length : (terms : List Term) (k : ℕ) → length (terms_code (symbols client_side) k terms) ≡ length terms
    terms_code-length [] k = refl
    terms_code-length (t ∷ ts) k = ap suc (terms_code-length ts (k + 1))

    -- a run of the machine that is this run of the source
    abbrev Does : State → List ℕ → Ending → Type 0
    Does s out done = Reaches image s (record { out = out; ending = Done })
    Does s out spent = Reaches image s (record { out = out; ending = Budget })
    Does s out stuck = ⊥

    Does-line : (s s' : State) (line out : List ℕ) (e : Ending) → ((run : Run) → Reaches image s' run → Reaches image s (machine_after line run)) → Does s' out e → Does s (line ++ out) e
    Does-line s s' line out done comes h = comes _ h
    Does-line s s' line out spent comes h = comes _ h
    Does-line s s' line out stuck comes h = h

    -- the line of a print, behind the code of its terms
    print_step : (at t : ℕ) (terms : List Term) (ns : List ℕ) (rest : List Word) → length (filled ns rest) ≡ n → slice_get start.code at ≡ Some (Op.Print (slots_of 0 terms)) → length terms ≡ length ns
        → (run : Run) → Reaches image (st (at + 1) (filled ns rest) t) run → Reaches image (st at (filled ns rest) t) (machine_after (line_of ns) run)
    print_step at t terms ns rest long here same run r =
        let s = st at (filled ns rest) t in
        let runs = st_runs at t (filled ns rest) long in
        writes (step_of image s start runs (Op.Print (slots_of 0 terms)) _ here (print_acts image s start runs ns rest terms refl same)) r

    last_step : (at t : ℕ) (words : List Word) → length words ≡ n → start.result ≡ layout.Words 0 → slice_get start.code at ≡ Some (Op.Return (slot 0) (layout.Words 0)) → step image (st at words t) ≡ Ends Done
    last_step at t words long none here =
        let s = st at words t in
        let runs = st_runs at t words long in
        step_of image s start runs (Op.Return (slot 0) (layout.Words 0)) _ here (last_acts image s start runs refl none)

    abbrev rest_code : List Print → List Instr
    rest_code ps = prints_code (symbols client_side) ps ++ Op.Return (slot 0) (layout.Words 0) ∷ []

    prints_do : (ps : List Print) (at t : ℕ) (words : List Word) → FitsIn ps n → length words ≡ n → start.result ≡ layout.Words 0 → At start.code at (rest_code ps) → GoodPrints Good ps
        → Does (st at words t) (prints_of p t ps).out (prints_of p t ps).ending
    prints_do [] at t words fits long none code good = ends (last_step at t words long none code.0)
    prints_do (x ∷ ps) at t words fits long none code good =
        by_values (values_of p t x.terms) (count_of p t x.terms)
        (terms_do x.terms at 0 t [] words refl (omega (arith, long)) (omega (arith, long, fits.0)) (At-front (terms_code (symbols client_side) 0 x.terms) _ at parts) good.0)
        (λ left words' same. prints_do ps (at + length x.terms + 1) left words' fits.1 (same ∙ long) none behind.1 good.1)
      where
        parts : At start.code at (terms_code (symbols client_side) 0 x.terms ++ (Op.Print (slots_of 0 x.terms) ∷ rest_code ps))
        parts = subst (At start.code at) (append_assoc (print_code (symbols client_side) x.terms) (prints_code (symbols client_side) ps) (Op.Return (slot 0) (layout.Words 0) ∷ []) ∙ append_assoc (terms_code (symbols client_side) 0 x.terms) (Op.Print (slots_of 0 x.terms) ∷ []) (rest_code ps)) code

        behind : At start.code (at + length x.terms) (Op.Print (slots_of 0 x.terms) ∷ rest_code ps)
        behind = subst (λ (m : ℕ). At start.code (at + m) (Op.Print (slots_of 0 x.terms) ∷ rest_code ps)) (terms_code-length x.terms 0) (At-back (terms_code (symbols client_side) 0 x.terms) _ at parts)

        by_values : (e : Evaluated (List ℕ)) → CountIs e (length x.terms) → TermsDo at x.terms [] words t e
            → ((left : ℕ) (words' : List Word) → length words' ≡ length words → Does (st (at + length x.terms + 1) words' left) (prints_of p left ps).out (prints_of p left ps).ending)
            → Does (st at words t) (printed e (λ left. prints_of p left ps)).out (printed e (λ left. prints_of p left ps)).ending
        by_values (gives ns left) count (rest', same, comes) more =
            let whole : length (filled ns rest') ≡ length words = filled-length ns rest' ∙ (let e : length ns + length rest' ≡ length words = omega arith in e) in
            Does-line (st at words t) (st (at + length x.terms + 1) (filled ns rest') left) (line_of ns) _ _
            (λ run r. comes _ (print_step (at + length x.terms) left x.terms ns rest' (whole ∙ long) behind.0 (sym count) run r))
            (more left (filled ns rest') whole)
        by_values (stops done) count h more = absurd h
        by_values (stops spent) count h more = h
        by_values (stops stuck) count h more = absurd h

-- enough slots for each print
fits_most : (ps : List Print) (n : ℕ) → most_terms ps ≤ n → FitsIn ps n
fits_most [] n le = tt
fits_most (p ∷ ps) n le = (omega arith, fits_most ps n (omega arith))

length-replicate_empty : (n : ℕ) → length (replicate n Empty) ≡ n
length-replicate_empty zero = refl
length-replicate_empty (suc n) = ap suc (length-replicate_empty n)

instr-behind : (xs : List Instr) (y : Instr) (zs : List Instr) → slice_get (xs ++ y ∷ zs) (length xs) ≡ Some y
instr-behind [] y zs = refl
instr-behind (x ∷ xs) y zs = instr-behind xs y zs

-- the code behind other code
At-behind : (xs before : List Instr) → At (before ++ xs) (length before) xs
At-behind [] before = tt
At-behind (x ∷ xs) before =
    let longer : length (before ++ x ∷ []) ≡ length before + 1 = length-append before (x ∷ []) in
    let rest : At (before ++ x ∷ xs) (length (before ++ x ∷ [])) xs = subst (λ (code : List Instr). At code (length (before ++ x ∷ [])) xs) (append_assoc before (x ∷ []) xs) (At-behind xs (before ++ x ∷ [])) in
    (instr-behind before x xs, subst (λ (n : ℕ). At (before ++ x ∷ xs) n xs) longer rest)

-- An image in which the client's top level has this number does what the source does, for each number of ticks.
module _ (image : Image) (p : Program) (symbols : Side → List ℕ → List ℕ) (Good : Calls) (known : (side : Side) (name : List ℕ) → Good side name → Known image p symbols Good side name)
    (ps : List Print) (number : ℕ) (named : start_number image ≡ Some number) (found : slice_get image.functions number ≡ Some (start_function (symbols client_side) ps))
    (small : most_terms ps ≤ most_words) (good : GoodPrints Good ps) where
  abbrev start : Function
  start = start_function (symbols client_side) ps

  abbrev words : List Word
  words = replicate (most_terms ps) Empty

  abbrev begin : ℕ → ℕ → State
  begin at t = st image p symbols Good known number start found (most_terms ps) refl small at words t

  -- where the image starts
  starts : (ticks : ℕ) → start_in image number start ticks ≡ begin 0 ticks
  starts ticks =
      let none : most_terms ps - 0 ≡ most_terms ps = omega arith in
      ap (λ (m : ℕ). on image p symbols Good known (record { function = number; at = 0; words = replicate (m - 0) Empty; to = 0 }) [] ticks) (room_slots image (most_terms ps) small)
      ∙ ap (λ (m : ℕ). on image p symbols Good known (record { function = number; at = 0; words = replicate m Empty; to = 0 }) [] ticks) none

  executes : (ticks : ℕ) (run : Run) → Reaches image (begin 0 ticks) run → Executes image ticks run
  executes ticks run r = record { number = number; function = start; named = named; found = found; reaches = subst (λ (s : State). Reaches image s run) (sym (starts ticks)) r }

  tick_runs : (at t : ℕ) → Runs image (begin at t) start
  tick_runs at t = st_runs image p symbols Good known number start found (most_terms ps) refl small at t words (length-replicate_empty (most_terms ps))

  by_ending : (t : ℕ) (out : List ℕ) (e : Ending) → Does image p symbols Good known number start found (most_terms ps) refl small (begin 1 t) out e → EndsResult image (suc t) out e
  by_ending t out done h = executes (suc t) _ (goes (step_of image (begin 0 (suc t)) start (tick_runs 0 (suc t)) Op.Tick _ refl refl) h)
  by_ending t out spent h = executes (suc t) _ (goes (step_of image (begin 0 (suc t)) start (tick_runs 0 (suc t)) Op.Tick _ refl refl) h)
  by_ending t out stuck h = h

  pub does : (ticks : ℕ) → DoesResult image ticks (run_of p ps ticks)
  does zero = executes 0 _ (ends (step_of image (begin 0 0) start (tick_runs 0 0) Op.Tick _ refl refl))
  does (suc t) = by_ending t _ _
      (prints_do image p symbols Good known number start found (most_terms ps) refl small ps 1 t words
      (fits_most ps _ (omega arith)) (length-replicate_empty (most_terms ps)) refl
      (At-behind (prints_code (symbols client_side) ps ++ Op.Return (slot 0) (layout.Words 0) ∷ []) (Op.Tick ∷ [])) good)
