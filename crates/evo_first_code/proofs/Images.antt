-- Symbols are apart, and are found in an image.
use Rattle.std.proofs.Common.{◌≡◌, ℕ, zero, suc, ◌+◌, ◌<◌, Bool, true, false, List, [], ◌∷◌, ◌++◌, length, map, Option, Some, None, refl, sym, ◌∙◌, ap, arith, append_assoc}
use Rattle.std.specs.Prelude.{slice_get, if◌then◌else◌, IsSome, ◌&&◌}
use Rattle.std.specs.List.{list_all}
use Rattle.std.specs.Option.{option_map}
use Rattle.std.specs.Str.{bytes_eq}
use Rattle.std.proofs.lemmas.Slice.Eq.{bytes_eq-Decides}
use Rattle.std.proofs.lemmas.List.{append_cancel_left, append_cancel_right}
use Rattle.evo_base.specs.Names.{position_of, AreDistinct}
use Rattle.evo_base.proofs.Names.{slice_get-position_of, position_of-within}
use Rattle.evo_first_form.specs.declared.Function.{Function as Declared}
use Rattle.evo_first_form.specs.declared.Declaration.{Declaration}
use Rattle.evo_first_form.specs.declared.Term.{Term}
use Rattle.evo_first_form.specs.declared.Term.TheVariants as term
use Rattle.evo_first_form.specs.declared.Print.{Print}
use Rattle.evo_first_form.specs.Interface.{names_of}
use Rattle.evo_first_form.specs.Copies.{copied_body}
use Rattle.evo_copies.specs.Reach.{AreInlinable}
use Rattle.evo_code.specs.declared.instr.Instr.{Instr}
use Rattle.evo_code.specs.declared.instr.Instr.TheVariants as Op
use Rattle.evo_code.specs.declared.layout.Layout.TheVariants as layout
use Rattle.evo_code.specs.declared.object.Function.{Function}
use Rattle.evo_code.specs.Named.{number_from}
use Rattle.evo_execution.specs.Tables.{symbols_of, start_symbol}
use Rattle.evo_first_code.specs.Linking.{StandsTwice}
use Rattle.evo_first_code.specs.Meaning.{written_body}
use Rattle.evo_first_code.specs.Objects.{symbol_of, copy_symbol, client_symbol, function_of, library_function, library_functions, with_copy, copy_functions, slot, terms_code, slots_of, print_code, prints_code, start_function}
use Rattle.evo_first_code.specs.Works.{is_straight, IsTimed, AreTimed}

pub left_true : (a b : Bool) → (a && b) ≡ true → a ≡ true
left_true true b e = refl
left_true false b e = absurd cc

pub right_true : (a b : Bool) → (a && b) ≡ true → b ≡ true
right_true true b e = e
right_true false b e = absurd cc

pub both_true : (a b : Bool) → a ≡ true → b ≡ true → (a && b) ≡ true
both_true true b p q = q
both_true false b p q = absurd cc

abbrev pub Names : Type 0
Names = List (List ℕ)

-- Lists.
pub get-front : {A : Type 0} (xs ys : List A) (i : ℕ) (x : A) → slice_get xs i ≡ Some x → slice_get (xs ++ ys) i ≡ Some x
get-front [] ys i x e = absurd cc
get-front (y ∷ xs) ys zero x e = e
get-front (y ∷ xs) ys (suc i) x e = get-front xs ys i x e

pub get-behind : {A : Type 0} (xs ys : List A) (i : ℕ) → slice_get (xs ++ ys) (length xs + i) ≡ slice_get ys i
get-behind [] ys i = let e : 0 + i ≡ i = omega arith in ap (slice_get ys) e
get-behind (x ∷ xs) ys i = let e : suc (length xs) + i ≡ suc (length xs + i) = omega arith in ap (slice_get (x ∷ (xs ++ ys))) e ∙ get-behind xs ys i

get-next : (xs ys : Names) (x : List ℕ) → slice_get (xs ++ x ∷ ys) (length xs) ≡ Some x
get-next [] ys x = refl
get-next (y ∷ xs) ys x = get-next xs ys x

pub get-symbol : (fs : List Function) (k : ℕ) (f : Function) → slice_get fs k ≡ Some f → slice_get (symbols_of fs) k ≡ Some f.symbol
get-symbol [] k f e = absurd cc
get-symbol (g ∷ fs) zero f e = let same : g ≡ f = cc in ap (λ (h : Function). Some h.symbol) same
get-symbol (g ∷ fs) (suc k) f e = get-symbol fs k f e

pub equal : (xs ys : List ℕ) → xs ≡ ys → bytes_eq xs ys ≡ true
equal xs ys e = (bytes_eq-Decides xs ys).1 e

pub apart : (xs ys : List ℕ) → (xs ≡ ys → ⊥) → bytes_eq xs ys ≡ false
apart xs ys ne = at (bytes_eq xs ys) refl
  where
    at : (b : Bool) → bytes_eq xs ys ≡ b → bytes_eq xs ys ≡ false
    at true is = absurd (ne ((bytes_eq-Decides xs ys).0 is))
    at false is = is

-- where symbols are distinct, the number of one is its place
numbered_from : (k : ℕ) (ts : Names) (i : ℕ) (s : List ℕ) → AreDistinct ts → slice_get ts i ≡ Some s → number_from k ts s ≡ Some (k + i)
numbered_from k [] i s distinct e = absurd cc
numbered_from k (t ∷ ts) zero s distinct e =
    let same : t ≡ s = cc in
    let yes : bytes_eq t s ≡ true = equal t s same in
    let place : k ≡ k + 0 = omega arith in
    rw yes (ap (λ (n : ℕ). Some n) place)
numbered_from k (t ∷ ts) (suc i) s distinct e =
    let no : bytes_eq t s ≡ false = apart t s (λ same. let z : 0 ≡ suc i = distinct 0 (suc i) s (ap (λ (n : List ℕ). Some n) same) e in absurd (omega arith)) in
    let place : k + 1 + i ≡ k + suc i = omega arith in
    rw no (numbered_from (k + 1) ts i s (λ a b n p q. let z : suc a ≡ suc b = distinct (suc a) (suc b) n p q in omega arith) e ∙ ap (λ (n : ℕ). Some n) place)

pub numbered_at : (k : ℕ) (fs : List Function) (i : ℕ) (f : Function) → AreDistinct (symbols_of fs) → slice_get fs i ≡ Some f → number_from k (symbols_of fs) f.symbol ≡ Some (k + i)
numbered_at k fs i f distinct e = numbered_from k (symbols_of fs) i f.symbol distinct (get-symbol fs i f e)

-- the symbols behind others are distinct where all are
pub distinct_behind : (xs ys : Names) → AreDistinct (xs ++ ys) → AreDistinct ys
distinct_behind xs ys distinct i j n p q =
    let z : length xs + i ≡ length xs + j = distinct (length xs + i) (length xs + j) n (get-behind xs ys i ∙ p) (get-behind xs ys j ∙ q) in
    omega arith

-- a name that is there and stands again is there twice
pub stands_twice : (before : Names) (name : List ℕ) (rest : Names) → IsSome (position_of name before) → StandsTwice name (before ++ name ∷ rest)
stands_twice before name rest some = at (position_of name before) refl some
  where
    at : (p : Option ℕ) → position_of name before ≡ p → IsSome p → StandsTwice name (before ++ name ∷ rest)
    at None e h = absurd cc
    at (Some i) e h =
        let lt : i < length before = position_of-within name before i e in
        record {
          first = i;
          second = length before;
          apart = λ same. absurd (omega arith);
          at_first = get-front before (name ∷ rest) i name (slice_get-position_of name before i e);
          at_second = get-next before rest name;
        }

-- where a symbol stands twice, the symbols are not distinct
pub not_distinct : (symbol : List ℕ) (symbols : Names) → StandsTwice symbol symbols → AreDistinct symbols → ⊥
not_distinct symbol symbols twice distinct = twice.apart (distinct twice.first twice.second symbol twice.at_first twice.at_second)

-- what stands twice in a part stands twice in the whole
pub twice_behind : (symbol : List ℕ) (before symbols : Names) → StandsTwice symbol symbols → StandsTwice symbol (before ++ symbols)
twice_behind symbol before symbols twice = record {
  first = length before + twice.first;
  second = length before + twice.second;
  apart = λ same. twice.apart (omega arith);
  at_first = get-behind before symbols twice.first ∙ twice.at_first;
  at_second = get-behind before symbols twice.second ∙ twice.at_second;
}

-- two lists of distinct names without a common one
pub distinct-append : (xs ys : Names) → AreDistinct xs → AreDistinct ys → ((i j : ℕ) (x : List ℕ) → slice_get xs i ≡ Some x → slice_get ys j ≡ Some x → ⊥) → AreDistinct (xs ++ ys)
distinct-append [] ys dx dy apart i j x e f = dy i j x e f
distinct-append (y ∷ xs) ys dx dy apart i j x e f =
    at i j e f (λ a b p q. distinct-append xs ys (λ c d n r s. let z : suc c ≡ suc d = dx (suc c) (suc d) n r s in omega arith) dy (λ c d n r s. apart (suc c) d n r s) a b x p q)
  where
    later : (n : ℕ) (xs' : Names) → ((k : ℕ) → slice_get xs' k ≡ Some x → ⊥) → ((k : ℕ) → slice_get ys k ≡ Some x → ⊥) → slice_get (xs' ++ ys) n ≡ Some x → ⊥
    later n [] absent none g = none n g
    later zero (z ∷ xs') absent none g = absent 0 g
    later (suc n) (z ∷ xs') absent none g = later n xs' (λ k h. absent (suc k) h) none g

    at : (i j : ℕ) → slice_get (y ∷ (xs ++ ys)) i ≡ Some x → slice_get (y ∷ (xs ++ ys)) j ≡ Some x → ((a b : ℕ) → slice_get (xs ++ ys) a ≡ Some x → slice_get (xs ++ ys) b ≡ Some x → a ≡ b) → i ≡ j
    at zero zero e f same = refl
    at zero (suc j) e f same = absurd (later j xs (λ k g. let z : 0 ≡ suc k = dx 0 (suc k) x e g in absurd (omega arith)) (λ k g. apart 0 k x e g) f)
    at (suc i) zero e f same = absurd (later i xs (λ k g. let z : 0 ≡ suc k = dx 0 (suc k) x f g in absurd (omega arith)) (λ k g. apart 0 k x f g) e)
    at (suc i) (suc j) e f same = ap suc (same i j e f)

-- where a name's image stands, the name stands
record NameAt (v : List ℕ → List ℕ) (names : Names) (i : ℕ) (symbol : List ℕ) : Type 0 where
  name : List ℕ
  stands : slice_get names i ≡ Some name
  is : v name ≡ symbol

name_at : (v : List ℕ → List ℕ) (names : Names) (i : ℕ) (symbol : List ℕ) → slice_get (map v names) i ≡ Some symbol → NameAt v names i symbol
name_at v [] i symbol e = absurd cc
name_at v (n ∷ names) zero symbol e = record { name = n; stands = refl; is = cc }
name_at v (n ∷ names) (suc i) symbol e = let p = name_at v names i symbol e in record { name = p.name; stands = p.stands; is = p.is }

distinct-map : (v : List ℕ → List ℕ) → ((a b : List ℕ) → v a ≡ v b → a ≡ b) → (names : Names) → AreDistinct names → AreDistinct (map v names)
distinct-map v one names distinct i j symbol p q =
    let a = name_at v names i symbol p in
    let b = name_at v names j symbol q in
    let same : b.name ≡ a.name = one b.name a.name (b.is ∙ sym a.is) in
    distinct i j a.name a.stands (b.stands ∙ ap (λ (n : List ℕ). Some n) same)

-- Symbols.
last_is : (xs ys : List ℕ) (a b : ℕ) → xs ++ a ∷ [] ≡ ys ++ b ∷ [] → a ≡ b
last_is [] [] a b e = cc
last_is [] (y ∷ []) a b e = absurd cc
last_is [] (y ∷ z ∷ ys) a b e = absurd cc
last_is (x ∷ []) [] a b e = absurd cc
last_is (x ∷ z ∷ xs) [] a b e = absurd cc
last_is (x ∷ xs) (y ∷ ys) a b e = let rest : xs ++ a ∷ [] ≡ ys ++ b ∷ [] = cc in last_is xs ys a b rest

module _ (library : List ℕ) where
  pub same_name : (a b : List ℕ) → symbol_of library a ≡ symbol_of library b → a ≡ b
  same_name a b e =
      let behind : 46 ∷ (a ++ 40 ∷ 41 ∷ []) ≡ 46 ∷ (b ++ 40 ∷ 41 ∷ []) = append_cancel_left library _ _ e in
      let rest : a ++ 40 ∷ 41 ∷ [] ≡ b ++ 40 ∷ 41 ∷ [] = cc in
      append_cancel_right a b (40 ∷ 41 ∷ []) rest

  same_copy : (a b : List ℕ) → copy_symbol library a ≡ copy_symbol library b → a ≡ b
  same_copy a b e = same_name a b (append_cancel_right (symbol_of library a) (symbol_of library b) (35 ∷ 99 ∷ 111 ∷ 112 ∷ 121 ∷ []) e)

  -- the last characters of the three kinds of symbols differ
  symbol_shape : (name : List ℕ) → symbol_of library name ≡ (library ++ 46 ∷ (name ++ 40 ∷ [])) ++ 41 ∷ []
  symbol_shape name = sym (append_assoc library (46 ∷ (name ++ 40 ∷ [])) (41 ∷ []) ∙ ap (λ (l : List ℕ). library ++ 46 ∷ l) (append_assoc name (40 ∷ []) (41 ∷ [])))

  copy_shape : (name : List ℕ) → copy_symbol library name ≡ (symbol_of library name ++ 35 ∷ 99 ∷ 111 ∷ 112 ∷ []) ++ 121 ∷ []
  copy_shape name = sym (append_assoc (symbol_of library name) (35 ∷ 99 ∷ 111 ∷ 112 ∷ []) (121 ∷ []))

  abbrev start_front : List ℕ
  start_front = 109 ∷ 97 ∷ 105 ∷ 110 ∷ 35 ∷ 115 ∷ 116 ∷ 97 ∷ 114 ∷ []

  pub not_start : (name : List ℕ) → symbol_of library name ≡ start_symbol → ⊥
  not_start name e = let last = last_is (library ++ 46 ∷ (name ++ 40 ∷ [])) start_front 41 116 (sym (symbol_shape name) ∙ e) in absurd (omega arith)

  copy_not_start : (name : List ℕ) → copy_symbol library name ≡ start_symbol → ⊥
  copy_not_start name e = let last = last_is (symbol_of library name ++ 35 ∷ 99 ∷ 111 ∷ 112 ∷ []) start_front 121 116 (sym (copy_shape name) ∙ e) in absurd (omega arith)

  not_copy : (a b : List ℕ) → symbol_of library a ≡ copy_symbol library b → ⊥
  not_copy a b e = let last = last_is (library ++ 46 ∷ (a ++ 40 ∷ [])) (symbol_of library b ++ 35 ∷ 99 ∷ 111 ∷ 112 ∷ []) 41 121 (sym (symbol_shape a) ∙ e ∙ copy_shape b) in absurd (omega arith)

  -- the symbols of a library's functions, of copies and of the top level
  pub library_symbols : (fs : List Declared) → symbols_of (library_functions library fs) ≡ map (symbol_of library) (names_of fs)
  library_symbols [] = refl
  library_symbols (f ∷ fs) = ap (λ (l : Names). symbol_of library f.name ∷ l) (library_symbols fs)

  pub copy_symbols : (ds : List Declaration) (copies : Names) → AreInlinable ds copies → symbols_of (copy_functions library ds copies) ≡ map (copy_symbol library) copies
  copy_symbols ds [] all = refl
  copy_symbols ds (n ∷ copies) all = by (copied_body ds n) all.0 (copy_symbols ds copies all.1)
    where
      by : (o : Option Term) → IsSome o → symbols_of (copy_functions library ds copies) ≡ map (copy_symbol library) copies → symbols_of (with_copy library ds n o (copy_functions library ds copies)) ≡ map (copy_symbol library) (n ∷ copies)
      by None some rest = absurd cc
      by (Some t) some rest = ap (λ (l : Names). copy_symbol library n ∷ l) rest

  abbrev pub all_symbols : Names → Names → Names
  all_symbols names copies = map (symbol_of library) names ++ (map (copy_symbol library) copies ++ start_symbol ∷ [])

  one_distinct : AreDistinct (start_symbol ∷ [])
  one_distinct zero zero x e f = refl
  one_distinct zero (suc j) x e f = absurd cc
  one_distinct (suc i) j x e f = absurd cc

  only_start : (j : ℕ) (x : List ℕ) → slice_get (start_symbol ∷ []) j ≡ Some x → x ≡ start_symbol
  only_start zero x e = cc
  only_start (suc j) x e = absurd cc

  among : (copies : Names) (j : ℕ) (x : List ℕ) → slice_get (map (copy_symbol library) copies ++ start_symbol ∷ []) j ≡ Some x → ((n : List ℕ) → copy_symbol library n ≡ x → ⊥) → x ≡ start_symbol
  among [] j x e none = only_start j x e
  among (n ∷ copies) zero x e none = absurd (none n cc)
  among (n ∷ copies) (suc j) x e none = among copies j x e none

  pub all_distinct : (names copies : Names) → AreDistinct names → AreDistinct copies → AreDistinct (all_symbols names copies)
  all_distinct names copies dn dc =
      distinct-append (map (symbol_of library) names) (map (copy_symbol library) copies ++ start_symbol ∷ [])
      (distinct-map (symbol_of library) same_name names dn)
      (distinct-append (map (copy_symbol library) copies) (start_symbol ∷ []) (distinct-map (copy_symbol library) same_copy copies dc) one_distinct
      (λ i j x e f. let a = name_at (copy_symbol library) copies i x e in copy_not_start a.name (a.is ∙ only_start j x f)))
      (λ i j x e f.
      let a = name_at (symbol_of library) names i x e in
      let is = among copies j x f (λ n g. not_copy a.name n (a.is ∙ sym g)) in
      not_start a.name (a.is ∙ is))

  -- the function of a body that is written in a library
  pub record LibraryAt (fs : List Declared) (name : List ℕ) (term : Term) : Type 0 where
    pub place : ℕ
    pub exported : Bool
    pub found : slice_get (library_functions library fs) place ≡ Some (function_of (symbol_of library name) exported (symbol_of library) term)

  pub library_at : (fs : List Declared) (name : List ℕ) (term : Term) → written_body fs name ≡ Some term → LibraryAt fs name term
  library_at [] name term e = absurd cc
  library_at (f ∷ fs) name term e = by (bytes_eq name f.name) refl e (library_at fs name term)
    where
      by : (b : Bool) → bytes_eq name f.name ≡ b → (if b then Some f.body else written_body fs name) ≡ Some term → (written_body fs name ≡ Some term → LibraryAt fs name term) → LibraryAt (f ∷ fs) name term
      by true is s rest =
          let same : f.name ≡ name = sym ((bytes_eq-Decides name f.name).0 is) in
          let body : f.body ≡ term = cc in
          record {
            place = 0;
            exported = (library_function library f).exported;
            found = ap (λ (n : List ℕ). Some (function_of (symbol_of library n) (library_function library f).exported (symbol_of library) f.body)) same
                ∙ ap (λ (t : Term). Some (function_of (symbol_of library name) (library_function library f).exported (symbol_of library) t)) body;
          }
      by false is s rest = let p = rest s in record { place = suc p.place; exported = p.exported; found = p.found }

  -- the copy of a function
  pub record CopyAt (ds : List Declaration) (copies : Names) (name : List ℕ) (term : Term) : Type 0 where
    pub place : ℕ
    pub found : slice_get (copy_functions library ds copies) place ≡ Some (function_of (copy_symbol library name) false (client_symbol library ds) term)

  pub copy_at : (ds : List Declaration) (copies : Names) (name : List ℕ) (term : Term) → AreInlinable ds copies → IsSome (position_of name copies) → copied_body ds name ≡ Some term → CopyAt ds copies name term
  copy_at ds [] name term all some e = absurd cc
  copy_at ds (n ∷ copies) name term all some e =
      let q = by (bytes_eq name n) (copied_body ds n) refl refl all.0 some (λ h. copy_at ds copies name term all.1 h e) in
      record { place = q.0; found = q.1 }
    where
      some_of : (o : Option ℕ) → IsSome (option_map suc o) → IsSome o
      some_of None h = absurd cc
      some_of (Some i) h = refl

      by : (b : Bool) (o : Option Term) → bytes_eq name n ≡ b → copied_body ds n ≡ o → IsSome o → IsSome (if b then Some 0 else option_map suc (position_of name copies)) → (IsSome (position_of name copies) → CopyAt ds copies name term)
          → ((k : ℕ) × (slice_get (with_copy library ds n o (copy_functions library ds copies)) k ≡ Some (function_of (copy_symbol library name) false (client_symbol library ds) term)))
      by b None is f has h rest = absurd cc
      by true (Some t) is f has h rest =
          let same : n ≡ name = sym ((bytes_eq-Decides name n).0 is) in
          let body : t ≡ term = let q : Some t ≡ Some term = sym f ∙ ap (copied_body ds) same ∙ e in cc in
          (0, ap (λ (m : List ℕ). Some (function_of (copy_symbol library m) false (client_symbol library ds) t)) same ∙ ap (λ (u : Term). Some (function_of (copy_symbol library name) false (client_symbol library ds) u)) body)
      by false (Some t) is f has h rest = let p = rest (some_of _ h) in (suc p.place, p.found)

-- Functions that begin with a tick, and have no jump.
pub timed-append : (xs ys : List Function) → AreTimed xs → AreTimed ys → AreTimed (xs ++ ys)
timed-append [] ys p q = q
timed-append (x ∷ xs) ys p q = (p.0, timed-append xs ys p.1 q)

function-timed : (symbol : List ℕ) (exported : Bool) (symbols : List ℕ → List ℕ) (t : Term) → IsTimed (function_of symbol exported symbols t)
function-timed symbol exported symbols (term.Integer n) = record { level_is = refl; begins = refl; straight = refl }
function-timed symbol exported symbols (term.Call name) = record { level_is = refl; begins = refl; straight = refl }

pub library-timed : (library : List ℕ) (fs : List Declared) → AreTimed (library_functions library fs)
library-timed library [] = tt
library-timed library (d ∷ fs) = (function-timed _ _ _ d.body, library-timed library fs)

pub copies-timed : (library : List ℕ) (ds : List Declaration) (copies : Names) → AreTimed (copy_functions library ds copies)
copies-timed library ds [] = tt
copies-timed library ds (n ∷ copies) = by (copied_body ds n) (copies-timed library ds copies)
  where
    by : (o : Option Term) → AreTimed (copy_functions library ds copies) → AreTimed (with_copy library ds n o (copy_functions library ds copies))
    by None rest = rest
    by (Some t) rest = (function-timed _ _ _ t, rest)

straight-append : (xs ys : List Instr) → list_all is_straight xs ≡ true → list_all is_straight ys ≡ true → list_all is_straight (xs ++ ys) ≡ true
straight-append [] ys p q = q
straight-append (x ∷ xs) ys p q = both_true (is_straight x) (list_all is_straight (xs ++ ys)) (left_true _ _ p) (straight-append xs ys (right_true _ _ p) q)

terms-straight : (symbols : List ℕ → List ℕ) (ts : List Term) (k : ℕ) → list_all is_straight (terms_code symbols k ts) ≡ true
terms-straight symbols [] k = refl
terms-straight symbols (term.Integer n ∷ ts) k = terms-straight symbols ts (k + 1)
terms-straight symbols (term.Call name ∷ ts) k = terms-straight symbols ts (k + 1)

prints-straight : (symbols : List ℕ → List ℕ) (ps : List Print) → list_all is_straight (prints_code symbols ps) ≡ true
prints-straight symbols [] = refl
prints-straight symbols (p ∷ ps) =
    straight-append (print_code symbols p.terms) (prints_code symbols ps) (straight-append (terms_code symbols 0 p.terms) (Op.Print (slots_of 0 p.terms) ∷ []) (terms-straight symbols p.terms 0) refl) (prints-straight symbols ps)

pub start-timed : (symbols : List ℕ → List ℕ) (ps : List Print) → IsTimed (start_function symbols ps)
start-timed symbols ps = record {
  level_is = refl;
  begins = refl;
  straight = straight-append (prints_code symbols ps) (Op.Return (slot 0) (layout.Words 0) ∷ []) (prints-straight symbols ps) refl;
}
