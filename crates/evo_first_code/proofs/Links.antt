-- A client's object works with every new library that breaks no rule.
use Rattle.std.proofs.Common.{◌≡◌, ℕ, suc, ◌+◌, ◌≤◌, Bool, true, false, List, [], ◌∷◌, ◌++◌, length, map, Option, Some, None, refl, sym, ◌∙◌, ap, subst, arith, inl, inr}
use Rattle.std.specs.Prelude.{slice_get, if◌then◌else◌, IsSome, is_some, filter, not, ◌⊎◌, Result, Ok, Err, IfOk}
use Rattle.std.specs.Option.{option_map, option_or}
use Rattle.std.specs.Str.{bytes_eq}
use Rattle.std.proofs.lemmas.Slice.Eq.{bytes_eq-Decides}
use Rattle.std.proofs.lemmas.List.{map-append}
use Rattle.std.specs.declared.alloc.AllocError.{AllocError}
use Rattle.evo_base.specs.Names.{position_of, AreDistinct}
use Rattle.evo_base.proofs.Names.{slice_get-position_of, position_of-distinct}
use Rattle.evo_first_form.specs.declared.Access.{Access}
use Rattle.evo_first_form.specs.declared.Access.TheVariants.{Internal, Public, Inlinable}
use Rattle.evo_first_form.specs.declared.Function.{Function as Declared}
use Rattle.evo_first_form.specs.declared.Declaration.{Declaration}
use Rattle.evo_first_form.specs.declared.Print.{Print}
use Rattle.evo_first_form.specs.declared.Term.{Term}
use Rattle.evo_first_form.specs.declared.Term.TheVariants.{Integer, Call}
use Rattle.evo_first_form.specs.declared.Client.{Client}
use Rattle.evo_first_form.specs.declared.Interface.{Interface}
use Rattle.evo_first_form.specs.Interface.{names_of, declared_names, declarations_of, declaration_of, is_visible, interface_of}
use Rattle.evo_first_form.specs.Calls.{calls_of, calls_of_terms, calls_of_term, calls_of_body}
use Rattle.evo_first_form.specs.Copies.{copied_body, is_copied, calls_of_copies}
use Rattle.evo_first_form.specs.Accepted.{IsAcceptedLibrary, IsAcceptedInterface, IsAcceptedClient, AreKnown, AreBodiesKnown, AreCopiesKnown, callable}
use Rattle.evo_first_form.specs.Rules.{BreaksNoRule}
use Rattle.evo_copies.proofs.Facts.{CopyFacts, facts_of, Covers}
use Rattle.evo_code.specs.declared.object.Function.{Function}
use Rattle.evo_code.specs.declared.object.Object.{Object}
use Rattle.evo_code.specs.declared.image.Image.{Image}
use Rattle.evo_code.specs.Layouts.{most_words}
use Rattle.evo_code.specs.Named.{number_from}
use Rattle.evo_execution.specs.Tables.{symbols_of, function_number, start_number, start_symbol}
use Rattle.evo_execution.specs.Loaded.{IsLoaded}
use Rattle.evo_first_code.specs.Meaning.{Program, Side, client_side, library_side, body_of, written_body, on_library, on_client, run_of}
use Rattle.evo_first_code.specs.Objects.{symbol_of, copy_symbol, client_symbol, function_of, library_functions, copy_functions, start_function, function_import, needed, imports_of, library_object, client_object, most_terms}
use Rattle.evo_first_code.specs.Works.{AreTimed, DoesResult, AreExported, exports, linked, IsClientObject, LinksWith, WorksWithEvery}
use Rattle.evo_first_code.proofs.Images.{Names, get-symbol, equal, apart, get-front, get-behind, numbered_at, distinct_behind, same_name, library_symbols, copy_symbols, all_symbols, all_distinct, library_at, copy_at, timed-append, library-timed, copies-timed, start-timed}
use Rattle.evo_first_code.proofs.Loading.{start_is, loads_of}
use Rattle.evo_first_code.proofs.Simulates.{Calls, GoodTerm, Known, GoodTerms, GoodPrints, does}

some_of : (o : Option ℕ) → IsSome (option_map suc o) → IsSome o
some_of None h = absurd cc
some_of (Some i) h = refl

some_suc : (o : Option ℕ) → IsSome o → IsSome (option_map suc o)
some_suc None h = absurd cc
some_suc (Some i) h = refl

-- a place among names and one more
some_among : (name x : List ℕ) (xs : Names) → IsSome (position_of name (x ∷ xs)) → (name ≡ x) ⊎ IsSome (position_of name xs)
some_among name x xs some = at (bytes_eq name x) refl some
  where
    at : (b : Bool) → bytes_eq name x ≡ b → IsSome (if b then Some 0 else option_map suc (position_of name xs)) → (name ≡ x) ⊎ IsSome (position_of name xs)
    at true is h = inl ((bytes_eq-Decides name x).0 is)
    at false is h = inr (some_of (position_of name xs) h)

-- a function of the old interface is in the new one, where none is removed
kept : (new old : Names) (name : List ℕ) → filter (λ (n : List ℕ). not (is_some (position_of n new))) old ≡ [] → IsSome (position_of name old) → IsSome (position_of name new)
kept new [] name none some = absurd cc
kept new (x ∷ xs) name none some = by_first (is_some (position_of x new)) refl none (some_among name x xs some) (λ e h. kept new xs name e h)
  where
    by_first : (b : Bool) → is_some (position_of x new) ≡ b
        → (if not b then x ∷ filter (λ (n : List ℕ). not (is_some (position_of n new))) xs else filter (λ (n : List ℕ). not (is_some (position_of n new))) xs) ≡ []
        → (name ≡ x) ⊎ IsSome (position_of name xs)
        → (filter (λ (n : List ℕ). not (is_some (position_of n new))) xs ≡ [] → IsSome (position_of name xs) → IsSome (position_of name new))
        → IsSome (position_of name new)
    by_first true is e (inl same) rest = subst (λ (n : List ℕ). IsSome (position_of n new)) (sym same) is
    by_first true is e (inr more) rest = rest e more
    by_first false is e one rest = absurd cc

-- a function that stands in a library has a body
written : (fs : List Declared) (name : List ℕ) → IsSome (position_of name (names_of fs)) → IsSome (written_body fs name)
written [] name some = absurd cc
written (f ∷ fs) name some = at (bytes_eq name f.name) some (written fs name)
  where
    at : (b : Bool) → IsSome (if b then Some 0 else option_map suc (position_of name (names_of fs))) → (IsSome (position_of name (names_of fs)) → IsSome (written_body fs name)) → IsSome (if b then Some f.body else written_body fs name)
    at true h rest = refl
    at false h rest = rest (some_of _ h)

abbrev visible_names : List Declared → Names
visible_names fs = declared_names (declarations_of fs)

-- what clients see stands in the library
seen : (fs : List Declared) (name : List ℕ) → IsSome (position_of name (declared_names (declarations_of fs))) → IsSome (position_of name (names_of fs))
seen [] name some = absurd cc
seen (f ∷ fs) name some = at (is_visible f.access) (bytes_eq name f.name) some (seen fs name)
  where
    at : (v b : Bool) → IsSome (position_of name (declared_names (map declaration_of (if v then f ∷ filter (λ (g : Declared). is_visible g.access) fs else filter (λ (g : Declared). is_visible g.access) fs))))
        → (IsSome (position_of name (visible_names fs)) → IsSome (position_of name (names_of fs))) → IsSome (position_of name (names_of (f ∷ fs)))
    at true b h rest = from_first (bytes_eq name f.name) h
      where
        from_first : (b : Bool) → IsSome (if b then Some 0 else option_map suc (position_of name (visible_names fs))) → IsSome (if b then Some 0 else option_map suc (position_of name (names_of fs)))
        from_first true h = refl
        from_first false h = some_suc _ (rest (some_of _ h))
    at false b h rest = later (bytes_eq name f.name)
      where
        later : (b : Bool) → IsSome (if b then Some 0 else option_map suc (position_of name (names_of fs)))
        later true = refl
        later false = some_suc _ (rest h)

-- what clients see is exported
exported : (library : List ℕ) (fs : List Declared) (name : List ℕ) → AreDistinct (names_of fs) → IsSome (position_of name (declared_names (declarations_of fs))) → exports (library_functions library fs) (symbol_of library name) ≡ true
exported library [] name distinct some = absurd cc
exported library (f ∷ fs) name distinct some =
    at (is_visible f.access) (bytes_eq name f.name) refl refl some (exported library fs name (λ i j n p q. let z : suc i ≡ suc j = distinct (suc i) (suc j) n p q in omega arith))
  where
    twice : name ≡ f.name → IsSome (position_of name (names_of fs)) → ⊥
    twice same h = by (position_of name (names_of fs)) refl h
      where
        by : (o : Option ℕ) → position_of name (names_of fs) ≡ o → IsSome o → ⊥
        by None e h = absurd cc
        by (Some i) e h =
            let z : 0 ≡ suc i = distinct 0 (suc i) name (ap Some (sym same)) (slice_get-position_of name (names_of fs) i e) in
            absurd (omega arith)

    here : bytes_eq name f.name ≡ true → exports (library_functions library (f ∷ fs)) (symbol_of library name) ≡ is_visible f.access
    here is = let yes : bytes_eq (symbol_of library name) (symbol_of library f.name) ≡ true = equal _ _ (ap (symbol_of library) ((bytes_eq-Decides name f.name).0 is)) in rw yes refl

    there : bytes_eq name f.name ≡ false → exports (library_functions library (f ∷ fs)) (symbol_of library name) ≡ exports (library_functions library fs) (symbol_of library name)
    there is =
        let no : bytes_eq (symbol_of library name) (symbol_of library f.name) ≡ false = apart _ _ (λ e. absurd (let y = equal name f.name (same_name library name f.name e) in let z : true ≡ false = sym y ∙ is in cc)) in
        rw no refl

    at : (v b : Bool) → is_visible f.access ≡ v → bytes_eq name f.name ≡ b
        → IsSome (position_of name (declared_names (map declaration_of (if v then f ∷ filter (λ (g : Declared). is_visible g.access) fs else filter (λ (g : Declared). is_visible g.access) fs))))
        → (IsSome (position_of name (visible_names fs)) → exports (library_functions library fs) (symbol_of library name) ≡ true)
        → exports (library_functions library (f ∷ fs)) (symbol_of library name) ≡ true
    at true true v is h rest = here is ∙ v
    at true false v is h rest = there is ∙ rest (some_of _ (rw is at h))
    at false true v is h rest = absurd (twice ((bytes_eq-Decides name f.name).0 is) (seen fs name h))
    at false false v is h rest = there is ∙ rest h

-- what an inlinable body may call, any body may
all_callable : (fs : List Declared) (access : Access) (calls : Names) → AreKnown (callable access fs) calls → AreKnown (names_of fs) calls
all_callable fs Internal calls h = h
all_callable fs Public calls h = h
all_callable fs Inlinable [] h = tt
all_callable fs Inlinable (n ∷ ns) h = (seen fs n h.0, all_callable fs Inlinable ns h.1)

-- what a written body calls stands in the library
written_calls : (all fs : List Declared) (name : List ℕ) (term : Term) → AreBodiesKnown all fs → written_body fs name ≡ Some term → AreKnown (names_of all) (calls_of_term term)
written_calls all [] name term h e = absurd cc
written_calls all (f ∷ fs) name term h e = by (bytes_eq name f.name) e (written_calls all fs name term h.1)
  where
    by : (b : Bool) → (if b then Some f.body else written_body fs name) ≡ Some term → (written_body fs name ≡ Some term → AreKnown (names_of all) (calls_of_term term)) → AreKnown (names_of all) (calls_of_term term)
    by true e rest = let same : f.body ≡ term = cc in subst (λ (t : Term). AreKnown (names_of all) (calls_of_term t)) same (all_callable all f.access (calls_of_term f.body) h.0)
    by false e rest = rest e

-- what a body that clients copy calls is declared
copied_calls : (names : Names) (ds : List Declaration) (name : List ℕ) → AreCopiesKnown names ds → AreKnown names (calls_of_body (copied_body ds name))
copied_calls names [] name h = tt
copied_calls names (d ∷ ds) name h = by (bytes_eq name d.name) (copied_calls names ds name h.1)
  where
    by : (b : Bool) → AreKnown names (calls_of_body (copied_body ds name)) → AreKnown names (calls_of_body (if b then d.body else copied_body ds name))
    by true rest = h.0
    by false rest = rest

known-both : (names xs ys : Names) → AreKnown names xs → AreKnown names ys → AreKnown names (xs ++ ys)
known-both names [] ys p q = q
known-both names (x ∷ xs) ys p q = (p.0, known-both names xs ys p.1 q)

all_copies_known : (names : Names) (ds : List Declaration) (copies : Names) → AreCopiesKnown names ds → AreKnown names (calls_of_copies ds copies)
all_copies_known names ds [] h = tt
all_copies_known names ds (n ∷ copies) h = known-both names (calls_of_body (copied_body ds n)) (calls_of_copies ds copies) (copied_calls names ds n h) (all_copies_known names ds copies h)

-- An old interface, a new library that breaks no rule against it, and a client with its copies.
module _ (old : Interface) (fs : List Declared) (prints : List Print) (copies : Names) (good : IsAcceptedLibrary old.name fs) (keeps : BreaksNoRule old (interface_of old.name fs))
    (accepted : IsAcceptedInterface old) (called : AreKnown (declared_names old.functions) (calls_of prints)) (facts : CopyFacts old.functions prints copies) (small : most_terms prints ≤ most_words) where
  abbrev ds : List Declaration
  ds = old.functions

  abbrev library : List ℕ
  library = old.name

  abbrev program : Program
  program = record { old = ds; new = fs }

  abbrev symbols : Side → List ℕ → List ℕ
  symbols client_side = client_symbol library ds
  symbols library_side = symbol_of library

  abbrev start : Function
  start = start_function (client_symbol library ds) prints

  abbrev own : List Function
  own = copy_functions library ds copies ++ start ∷ []

  abbrev theirs : List Function
  theirs = library_functions library fs

  abbrev built : Object
  built = client_object library ds prints copies

  abbrev image : Image
  image = linked (library_object library fs) built

  abbrev all : List Function
  all = theirs ++ own

  own_symbols : symbols_of own ≡ map (copy_symbol library) copies ++ start_symbol ∷ []
  own_symbols =
      map-append (λ (f : Function). f.symbol) (copy_functions library ds copies) (start ∷ [])
      ∙ ap (λ (l : Names). l ++ start_symbol ∷ []) (copy_symbols library ds copies facts.inlinable)

  all_in_two : symbols_of all ≡ symbols_of theirs ++ symbols_of own
  all_in_two = map-append (λ (f : Function). f.symbol) theirs own

  image_symbols : symbols_of all ≡ all_symbols library (names_of fs) copies
  image_symbols =
      all_in_two
      ∙ ap (λ (l : Names). l ++ symbols_of own) (library_symbols library fs)
      ∙ ap (λ (l : Names). map (symbol_of library) (names_of fs) ++ l) own_symbols

  distinct : AreDistinct (symbols_of all)
  distinct = subst AreDistinct (sym image_symbols) (all_distinct library (names_of fs) copies good.distinct facts.distinct)

  own_distinct : AreDistinct (symbols_of own)
  own_distinct = distinct_behind (symbols_of theirs) (symbols_of own) (subst AreDistinct all_in_two distinct)

  numbered : (k : ℕ) (f : Function) → slice_get all k ≡ Some f → function_number image f.symbol ≡ Some k
  numbered k f there = let place : 0 + k ≡ k = omega arith in numbered_at 0 all k f distinct there ∙ ap (λ (n : ℕ). Some n) place

  -- what the old interface declares is in the new library
  in_new : (name : List ℕ) → IsSome (position_of name (declared_names ds)) → IsSome (position_of name (declared_names (declarations_of fs)))
  in_new name h = kept (declared_names (declarations_of fs)) (declared_names ds) name keeps h

  -- the calls that a run makes: of a library's function, and of the client's copy or of a function that clients do not copy
  abbrev GoodCall : List ℕ → Option Term → Type 0
  GoodCall name None = IsSome (written_body fs name)
  GoodCall name (Some term) = IsSome (position_of name copies)

  abbrev Good : Calls
  Good client_side name = GoodCall name (copied_body ds name)
  Good library_side name = IsSome (written_body fs name)

  good_call : (name : List ℕ) → (is_copied ds name ≡ true → IsSome (position_of name copies)) → IsSome (position_of name (declared_names ds)) → Good client_side name
  good_call name covers h = by (copied_body ds name) covers
    where
      by : (o : Option Term) → (is_some o ≡ true → IsSome (position_of name copies)) → GoodCall name o
      by None c = written fs name (seen fs name (in_new name h))
      by (Some term) c = c refl

  library_term : (term : Term) → AreKnown (names_of fs) (calls_of_term term) → GoodTerm Good library_side term
  library_term (Integer n) h = tt
  library_term (Call name) h = written fs name h.0

  client_term : (term : Term) → AreKnown (declared_names ds) (calls_of_term term) → Covers ds copies (calls_of_term term) → GoodTerm Good client_side term
  client_term (Integer n) h c = tt
  client_term (Call name) h c = good_call name c.0 h.0

  -- the function of a library's body in the image
  from_library : (side : Side) (name : List ℕ) (term : Term) → written_body fs name ≡ Some term → symbols side name ≡ symbol_of library name → body_of program side name ≡ Some (record { side = library_side; term = term }) → Known image program symbols Good side name
  from_library side name term e symbol body =
      let p = library_at library fs name term e in
      let there : slice_get image.functions p.place ≡ Some (function_of (symbol_of library name) p.exported (symbol_of library) term) = get-front theirs own p.place _ p.found in
      record {
        body = record { side = library_side; term = term };
        is = body;
        calls = library_term term (written_calls fs fs name term good.bodies e);
        number = p.place;
        exported = p.exported;
        named = ap (function_number image) symbol ∙ numbered p.place _ there;
        found = there ∙ ap (λ (s : List ℕ). Some (function_of s p.exported (symbol_of library) term)) (sym symbol);
      }

  known_library : (name : List ℕ) (o : Option Term) → written_body fs name ≡ o → IsSome o → Known image program symbols Good library_side name
  known_library name None e h = absurd cc
  known_library name (Some term) e h = from_library library_side name term e refl (ap on_library e)

  not_copied : (name : List ℕ) → copied_body ds name ≡ None → client_symbol library ds name ≡ symbol_of library name
  not_copied name e = ap (λ (o : Option Term). if is_some o then copy_symbol library name else symbol_of library name) e

  is_copy : (name : List ℕ) (term : Term) → copied_body ds name ≡ Some term → client_symbol library ds name ≡ copy_symbol library name
  is_copy name term e = ap (λ (o : Option Term). if is_some o then copy_symbol library name else symbol_of library name) e

  known_new : (name : List ℕ) → copied_body ds name ≡ None → (o : Option Term) → written_body fs name ≡ o → IsSome o → Known image program symbols Good client_side name
  known_new name none None e h = absurd cc
  known_new name none (Some term) e h =
      from_library client_side name term e (not_copied name none) (ap (λ (o : Option Term). on_client o (on_library (written_body fs name))) none ∙ ap on_library e)

  known_copy : (name : List ℕ) (term : Term) → copied_body ds name ≡ Some term → (o : Option ℕ) → position_of name copies ≡ o → IsSome o → Known image program symbols Good client_side name
  known_copy name term e None f h = absurd cc
  known_copy name term e (Some i) f h =
      let p = copy_at library ds copies name term facts.inlinable (subst (λ (o : Option ℕ). IsSome o) (sym f) refl) e in
      let in_own : slice_get own p.place ≡ Some (function_of (copy_symbol library name) false (client_symbol library ds) term) = get-front (copy_functions library ds copies) (start ∷ []) p.place _ p.found in
      let there : slice_get image.functions (length (library_functions library fs) + p.place) ≡ Some (function_of (copy_symbol library name) false (client_symbol library ds) term) = get-behind (library_functions library fs) own p.place ∙ in_own in
      let calls = ap calls_of_body e in
      record {
        body = record { side = client_side; term = term };
        is = ap (λ (o : Option Term). on_client o (on_library (written_body fs name))) e;
        calls = client_term term
            (subst (AreKnown (declared_names ds)) calls (copied_calls (declared_names ds) ds name accepted.bodies))
            (subst (Covers ds copies) calls (facts.closed i name (slice_get-position_of name copies i f)));
        number = length (library_functions library fs) + p.place;
        exported = false;
        named = ap (function_number image) (is_copy name term e) ∙ numbered _ _ there;
        found = there ∙ ap (λ (s : List ℕ). Some (function_of s false (client_symbol library ds) term)) (sym (is_copy name term e));
      }

  known_client : (name : List ℕ) (o : Option Term) → copied_body ds name ≡ o → GoodCall name o → Known image program symbols Good client_side name
  known_client name None e h = known_new name e (written_body fs name) refl h
  known_client name (Some term) e h = known_copy name term e (position_of name copies) refl h

  known : (side : Side) (name : List ℕ) → Good side name → Known image program symbols Good side name
  known client_side name h = known_client name (copied_body ds name) refl h
  known library_side name h = known_library name (written_body fs name) refl h

  -- the top level
  abbrev number : ℕ
  number = length (library_functions library fs) + length (copy_functions library ds copies)

  last_of : (xs : List Function) (f : Function) → slice_get (xs ++ f ∷ []) (length xs) ≡ Some f
  last_of [] f = refl
  last_of (x ∷ xs) f = last_of xs f

  last_is : slice_get own (length (copy_functions library ds copies)) ≡ Some start
  last_is = last_of (copy_functions library ds copies) start

  found : slice_get image.functions number ≡ Some start
  found = get-behind theirs own (length (copy_functions library ds copies)) ∙ last_is

  named : start_number image ≡ Some number
  named =
      start_is (library_object library fs) built
      ∙ ap (λ (o : Option ℕ). option_or o (number_from 0 (symbols_of theirs) start_symbol)) (numbered_at (length theirs) own (length (copy_functions library ds copies)) start own_distinct last_is)

  terms_good : (terms : List Term) (more : Names) → AreKnown (declared_names ds) (calls_of_terms terms ++ more) → Covers ds copies (calls_of_terms terms ++ more)
      → GoodTerms Good terms × AreKnown (declared_names ds) more × Covers ds copies more
  terms_good [] more h c = (tt, h, c)
  terms_good (Integer n ∷ ts) more h c = let p = terms_good ts more h c in ((tt, p.0), p.1, p.2)
  terms_good (Call name ∷ ts) more h c = let p = terms_good ts more h.1 c.1 in ((good_call name c.0 h.0, p.0), p.1, p.2)

  prints_good : (ps : List Print) → AreKnown (declared_names ds) (calls_of ps) → Covers ds copies (calls_of ps) → GoodPrints Good ps
  prints_good [] h c = tt
  prints_good (x ∷ ps) h c = let p = terms_good x.terms (calls_of ps) h c in (p.0, prints_good ps p.1 p.2)

  pub image_does : (ticks : ℕ) → DoesResult image ticks (run_of program prints ticks)
  image_does = does image program symbols Good known prints number named found small (prints_good prints called facts.client)

  -- the top level stands among all symbols
  start_stands : IsSome (position_of start_symbol (symbols_of all))
  start_stands = subst (λ (o : Option ℕ). IsSome o) (sym (position_of-distinct start_symbol (symbols_of all) number distinct (get-symbol all number start found))) refl

  loads : IsLoaded image
  loads =
      loads_of (library_object library fs) built (library-timed library fs)
      (timed-append (copy_functions library ds copies) (start ∷ []) (copies-timed library ds copies) (start-timed (client_symbol library ds) prints, tt)) start_stands

  -- what the client needs is exported
  needed_exported : (calls : Names) → AreKnown (declared_names ds) calls → AreExported theirs (needed library ds calls)
  needed_exported [] h = tt
  needed_exported (n ∷ ns) h = by (is_copied ds n) (needed_exported ns h.1)
    where
      by : (b : Bool) → AreExported theirs (needed library ds ns)
          → AreExported theirs (map (λ (m : List ℕ). function_import (symbol_of library m)) (if not b then n ∷ filter (λ m. not (is_copied ds m)) ns else filter (λ m. not (is_copied ds m)) ns))
      by true rest = rest
      by false rest = (exported library fs n good.distinct (in_new n h.0), rest)

  imports_exported : AreExported theirs (imports_of library ds prints copies)
  imports_exported = needed_exported (calls_of prints ++ calls_of_copies ds copies) (known-both (declared_names ds) (calls_of prints) (calls_of_copies ds copies) called (all_copies_known (declared_names ds) ds copies accepted.bodies))

  pub image_links : LinksWith (library_object library fs) built
  image_links = record { distinct = distinct; starts = start_stands; loads = loads; library_needs = tt; client_needs = imports_exported }

-- the object of an accepted client works with every new library
pub works : (old : Interface) (client : Client) (object : Object) → IsAcceptedInterface old → IsAcceptedClient old client → IsClientObject old client.prints object → WorksWithEvery old client object
works old client object interface accepted is fs good keeps =
    let facts = facts_of old.functions client.prints is.copies is.reached in (
      subst (LinksWith (library_object old.name fs)) (sym is.is) (image_links old fs client.prints is.copies good keeps interface accepted.known facts is.fits),
      λ ticks.
          subst (λ (o : Object). DoesResult (linked (library_object old.name fs) o) ticks (run_of (record { old = old.functions; new = fs }) client.prints ticks)) (sym is.is)
          (image_does old fs client.prints is.copies good keeps interface accepted.known facts is.fits ticks),
    )

-- each function of a client's object begins with a tick
pub object-timed : (old : Interface) (prints : List Print) (object : Object) → IsClientObject old prints object → AreTimed object.functions
object-timed old prints object is =
    subst (λ (o : Object). AreTimed o.functions) (sym is.is)
    (timed-append _ _ (copies-timed old.name old.functions is.copies) (start-timed (client_symbol old.name old.functions) prints, tt))

-- what is answered is such an object
pub answer_works : (old : Interface) (client : Client) (prints : List Print) → prints ≡ client.prints → IsAcceptedInterface old → IsAcceptedClient old client → (r : Result Object AllocError) → IfOk r (IsClientObject old prints) → IfOk r (WorksWithEvery old client)
answer_works old client prints e interface accepted (Ok object) is = works old client object interface accepted (subst (λ (ps : List Print). IsClientObject old ps object) e is)
answer_works old client prints e interface accepted (Err x) is = tt

pub answer_timed : (old : Interface) (prints : List Print) (r : Result Object AllocError) → IfOk r (IsClientObject old prints) → IfOk r (λ o. AreTimed o.functions)
answer_timed old prints (Ok object) is = object-timed old prints object is
answer_timed old prints (Err x) is = tt
