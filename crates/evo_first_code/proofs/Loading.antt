-- An image of timed functions without jumps may be run.
use Rattle.std.proofs.Common.{◌≡◌, ℕ, zero, suc, ◌+◌, ◌<◌, Bool, true, false, List, [], ◌∷◌, ◌++◌, length, take, Option, Some, None, refl, ◌∙◌, ap, subst, arith, ◌⊎◌, inl, inr}
use Rattle.std.specs.Prelude.{slice_get, if◌then◌else◌, IsSome, ◌&&◌}
use Rattle.std.specs.Option.{option_or}
use Rattle.std.specs.List.{list_all}
use Rattle.std.specs.Str.{bytes_eq}
use Rattle.std.proofs.lemmas.List.{length-append, length-map, map-append, take_at, drop_at}
use Rattle.evo_base.specs.Names.{position_of}
use Rattle.evo_base.proofs.Names.{slice_get-position_of}
use Rattle.evo_code.specs.Named.{number_from}
use Rattle.evo_code.specs.Loads.{may_call, is_tick, begins_well}
use Rattle.evo_code.specs.declared.instr.Instr.{Instr}
use Rattle.evo_code.specs.declared.instr.Instr.TheVariants as Op
use Rattle.evo_code.specs.declared.object.Function.{Function}
use Rattle.evo_code.specs.declared.object.Level.{Level}
use Rattle.evo_code.specs.declared.object.Level.TheVariants as level
use Rattle.evo_code.specs.declared.object.Object.{Object}
use Rattle.evo_code.specs.declared.image.Image.{Image}
use Rattle.evo_execution.specs.Tables.{symbols_of, function_number, start_number, start_symbol}
use Rattle.evo_execution.specs.Loaded.{level_fits, is_there, numbered, instr_loads, code_loads, function_loads, IsLoaded}
use Rattle.evo_first_code.specs.Works.{is_straight, IsTimed, AreTimed, linked}
use Rattle.evo_first_code.proofs.Images.{Names, equal, left_true, right_true, both_true, timed-append}

timed_at : (fs : List Function) (k : ℕ) (f : Function) → AreTimed fs → slice_get fs k ≡ Some f → IsTimed f
timed_at [] k f all e = absurd cc
timed_at (g ∷ fs) zero f all e = let same : g ≡ f = cc in subst IsTimed same all.0
timed_at (g ∷ fs) (suc k) f all e = timed_at fs k f all.1 e

module _ (image : Image) (all : AreTimed image.functions) where
  call_fits : (o : Option ℕ) → level_fits (may_call level.Timed) (numbered image o) ≡ true
  call_fits None = refl
  call_fits (Some k) = at (slice_get image.functions k) refl
    where
      at : (o : Option Function) → slice_get image.functions k ≡ o → level_fits (may_call level.Timed) o ≡ true
      at None e = refl
      at (Some f) e = ap (may_call level.Timed) (timed_at image.functions k f all e).level_is

  instr_fits : (code : List Instr) (at : ℕ) (i : Instr) → is_straight i ≡ true → instr_loads image level.Timed code at i ≡ true
  instr_fits code at (Op.Jump target) e = absurd cc
  instr_fits code at (Op.Unless test target) e = absurd cc
  instr_fits code at (Op.Call f args to z) e = call_fits (function_number image f)
  instr_fits code at i e = refl

  code_fits : (code : List Instr) (at : ℕ) (is : List Instr) → list_all is_straight is ≡ true → code_loads image level.Timed code at is ≡ true
  code_fits code at [] e = refl
  code_fits code at (i ∷ is) e = both_true (instr_loads image level.Timed code at i) (code_loads image level.Timed code (at + 1) is) (instr_fits code at i (left_true _ _ e)) (code_fits code (at + 1) is (right_true _ _ e))

  function_fits : (f : Function) → IsTimed f → function_loads image f ≡ true
  function_fits f t =
      ap (λ (l : Level). begins_well l f.code && code_loads image l f.code 0 f.code) t.level_is
      ∙ both_true (is_tick (slice_get f.code 0)) (code_loads image level.Timed f.code 0 f.code) (ap is_tick t.begins) (code_fits f.code 0 f.code t.straight)

  functions_fit : (fs : List Function) → AreTimed fs → list_all (function_loads image) fs ≡ true
  functions_fit [] h = refl
  functions_fit (f ∷ fs) h = both_true (function_loads image f) (list_all (function_loads image) fs) (function_fits f h.0) (functions_fit fs h.1)

-- ---- where a run begins

-- a number that was found is the place of a symbol
within : (k : ℕ) (ts : Names) (s : List ℕ) (j : ℕ) → number_from k ts s ≡ Some j → (i : ℕ) × (j ≡ k + i) × (i < length ts)
within k [] s j e = absurd cc
within k (t ∷ ts) s j e = at (bytes_eq t s) e (λ q. within (k + 1) ts s j q)
  where
    at : (b : Bool) → (if b then Some k else number_from (k + 1) ts s) ≡ Some j → (number_from (k + 1) ts s ≡ Some j → (i : ℕ) × (j ≡ k + 1 + i) × (i < length ts)) → (i : ℕ) × (j ≡ k + i) × (i < suc (length ts))
    at true q more = let same : k ≡ j = cc in (0, omega arith, omega arith)
    at false q more = let m = more q in (suc m.0, omega (arith, m.1), omega (arith, m.2))

-- a symbol that stands somewhere has a number
has : (k : ℕ) (ts : Names) (s : List ℕ) (i : ℕ) → slice_get ts i ≡ Some s → number_from k ts s ≡ None → ⊥
has k [] s i e none = absurd cc
has k (t ∷ ts) s zero e none = let same : t ≡ s = cc in let yes : bytes_eq t s ≡ true = equal t s same in let none' : Some k ≡ None = rw yes at none in absurd cc
has k (t ∷ ts) s (suc i) e none = at (bytes_eq t s) none (λ q. has (k + 1) ts s i e q)
  where
    at : (b : Bool) → (if b then Some k else number_from (k + 1) ts s) ≡ None → (number_from (k + 1) ts s ≡ None → ⊥) → ⊥
    at true q more = absurd cc
    at false q more = more q

there : (fs : List Function) (j : ℕ) → j < length fs → is_there (slice_get fs j) ≡ true
there [] j lt = absurd (omega arith)
there (f ∷ fs) zero lt = refl
there (f ∷ fs) (suc j) lt = there fs j (omega arith)

-- a symbol of two lists stands in one of them
in_either : (xs ys : Names) (i : ℕ) (s : List ℕ) → slice_get (xs ++ ys) i ≡ Some s → (slice_get xs i ≡ Some s) ⊎ ((j : ℕ) × (slice_get ys j ≡ Some s))
in_either [] ys i s e = inr (i, e)
in_either (x ∷ xs) ys zero s e = inl e
in_either (x ∷ xs) ys (suc i) s e = in_either xs ys i s e

module _ (library client : Object) where
  abbrev theirs : List Function
  theirs = library.functions

  abbrev own : List Function
  own = client.functions

  abbrev begin : Option ℕ → Option ℕ → Option ℕ
  begin a b = option_or a b

  symbols-length : (fs : List Function) → length (symbols_of fs) ≡ length fs
  symbols-length fs = length-map fs (λ (f : Function). f.symbol)

  pub start_is : start_number (linked library client) ≡ option_or (number_from (length theirs) (symbols_of own) start_symbol) (number_from 0 (symbols_of theirs) start_symbol)
  start_is =
      ap (λ (fs : List Function). option_or (number_from (length theirs) (symbols_of fs) start_symbol) (number_from 0 (symbols_of (take (length theirs) (theirs ++ own))) start_symbol)) (drop_at theirs own (length theirs) refl)
      ∙ ap (λ (fs : List Function). option_or (number_from (length theirs) (symbols_of own) start_symbol) (number_from 0 (symbols_of fs) start_symbol)) (take_at theirs own (length theirs) refl)

  in_image : (j : ℕ) → j < length theirs + length own → is_there (numbered (linked library client) (Some j)) ≡ true
  in_image j lt = there (theirs ++ own) j (let long : length (theirs ++ own) ≡ length theirs + length own = length-append theirs own in omega arith)

  found_start : (i : ℕ) → slice_get (symbols_of theirs ++ symbols_of own) i ≡ Some start_symbol → (a b : Option ℕ) → number_from (length theirs) (symbols_of own) start_symbol ≡ a → number_from 0 (symbols_of theirs) start_symbol ≡ b
      → is_there (numbered (linked library client) (option_or a b)) ≡ true
  found_start i e (Some j) b p q =
      let w = within (length theirs) (symbols_of own) start_symbol j p in
      in_image j (omega (arith, w.1, w.2, symbols-length own))
  found_start i e None (Some j) p q =
      let w = within 0 (symbols_of theirs) start_symbol j q in
      in_image j (omega (arith, w.1, w.2, symbols-length theirs))
  found_start i e None None p q = nowhere (in_either (symbols_of theirs) (symbols_of own) i start_symbol e)
    where
      nowhere : (slice_get (symbols_of theirs) i ≡ Some start_symbol) ⊎ ((j : ℕ) × (slice_get (symbols_of own) j ≡ Some start_symbol)) → is_there None ≡ true
      nowhere (inl h) = absurd (has 0 (symbols_of theirs) start_symbol i h q)
      nowhere (inr h) = absurd (has (length theirs) (symbols_of own) start_symbol h.0 h.1 p)

  begins : (o : Option ℕ) → position_of start_symbol (symbols_of (theirs ++ own)) ≡ o → IsSome o → is_there (numbered (linked library client) (start_number (linked library client))) ≡ true
  begins None e h = absurd cc
  begins (Some i) e h =
      let at : slice_get (symbols_of theirs ++ symbols_of own) i ≡ Some start_symbol =
      subst (λ (l : Names). slice_get l i ≡ Some start_symbol) (map-append (λ (f : Function). f.symbol) theirs own) (slice_get-position_of start_symbol (symbols_of (theirs ++ own)) i e) in
      ap (λ (o : Option ℕ). is_there (numbered (linked library client) o)) start_is
      ∙ found_start i at (number_from (length theirs) (symbols_of own) start_symbol) (number_from 0 (symbols_of theirs) start_symbol) refl refl

  -- two objects of timed functions of which one has a top level
  pub loads_of : AreTimed theirs → AreTimed own → IsSome (position_of start_symbol (symbols_of (theirs ++ own))) → IsLoaded (linked library client)
  loads_of p q some =
      let all : AreTimed (theirs ++ own) = timed-append theirs own p q in
      both_true (list_all (function_loads (linked library client)) (theirs ++ own)) (is_there (numbered (linked library client) (start_number (linked library client))))
      (functions_fit (linked library client) all (theirs ++ own) all) (begins (position_of start_symbol (symbols_of (theirs ++ own))) refl some)
