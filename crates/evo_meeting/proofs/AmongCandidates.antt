-- What meets a declaration is among its candidates.
use Rattle.std.proofs.Common.{◌≡◌, ℕ, zero, suc, ◌+◌, ◌<◌, ◌≤◌, List, [], ◌∷◌, ◌++◌, map, Bool, true, false, ◌&&◌, ◌||◌, cond, Option, Some, None, slice_get, IsTrue, refl, sym, ap, subst, ◌∙◌, arith, nat_lt, length, get_or, ap₂, ◌⊎◌, inl, inr, if◌then◌else◌}
use Rattle.std.specs.List.{list_any}
use Rattle.std.specs.Option.{option_map, option_map_or}
use Rattle.std.specs.Str.{bytes_eq}
use Rattle.std.proofs.lemmas.Option.{slice_get-map, slice_get_read, slice_get_within}
use Rattle.std.proofs.lemmas.Slice.Eq.{bytes_eq-Decides}
use Rattle.std.proofs.lemmas.List.Folds.{list_any-append}
use Rattle.evo_declarations.specs.Groups.{numbers_from, numbers_of, group_of}
use Rattle.evo_names.specs.declared.declared_name.DeclaredName.{DeclaredName}
use Rattle.evo_names.specs.Listed.{Text}
use Rattle.evo_names.specs.Meets.{meets, MeetAt, IsTwice, NoneTwice}
use Rattle.evo_meeting.specs.declared.spot.Spot.{Spot}
use Rattle.evo_meeting.specs.declared.buckets.Buckets.{Buckets}
use Rattle.evo_meeting.specs.Spots.{spot_view, spot_views}
use Rattle.evo_meeting.specs.Candidates.{IsBucketed, is_called, spot_text, call_text, candidates, candidates_by, met_at, met_among}
use Rattle.evo_meeting.proofs.Equal.{one_spot, one_call, text_uncalled}

or_left : (a b : Bool) → a ≡ true → (a || b) ≡ true
or_left true b e = refl
or_left false b e = absurd cc

or_right : (a b : Bool) → b ≡ true → (a || b) ≡ true
or_right true b e = refl
or_right false b e = e

-- ---- numbers of a text

here : (b : Bool) (p : ℕ → Bool) (i : ℕ) (rest : List ℕ) → b ≡ true → p i ≡ true → list_any p (if b then i ∷ rest else rest) ≡ true
here true p i rest e at = or_left (p i) (list_any p rest) at
here false p i rest e at = absurd cc

later : (b : Bool) (p : ℕ → Bool) (i : ℕ) (rest : List ℕ) → list_any p rest ≡ true → list_any p (if b then i ∷ rest else rest) ≡ true
later true p i rest e = or_right (p i) (list_any p rest) e
later false p i rest e = e

any_from : (p : ℕ → Bool) (n : Text) (i k : ℕ) (xs : List Text) → slice_get xs k ≡ Some n → p (i + k) ≡ true → list_any p (numbers_from i n xs) ≡ true
any_from p n i k [] at e = absurd cc
any_from p n i zero (x ∷ xs) at e =
    let same : n ≡ x = cc in
    let first : i + 0 ≡ i = omega arith in
    here (bytes_eq n x) p i (numbers_from (i + 1) n xs) ((bytes_eq-Decides n x).1 same) (subst (λ m. p m ≡ true) first e)
any_from p n i (suc k) (x ∷ xs) at e =
    let next : i + suc k ≡ i + 1 + k = omega arith in
    later (bytes_eq n x) p i (numbers_from (i + 1) n xs) (any_from p n (i + 1) k xs at (subst (λ m. p m ≡ true) next e))

-- a test that passes at a number where a list has a text passes among the numbers of that text
pub any_of : {A : Type 0} (f : A → Text) (p : ℕ → Bool) (xs : List A) (k : ℕ) (x : A) (n : Text) → slice_get xs k ≡ Some x → f x ≡ n → p k ≡ true → list_any p (numbers_of n (map f xs)) ≡ true
any_of f p xs k x n at same e =
    let there : slice_get (map f xs) k ≡ Some n = slice_get-map f xs k ∙ ap (λ o. option_map f o) at ∙ ap Some same in
    let first : k ≡ 0 + k = omega arith in
    any_from p n 0 k (map f xs) there (subst (λ m. p m ≡ true) first e)

-- ---- what meets

before_meets : (names : List DeclaredName) (number : ℕ) (d a : DeclaredName) (i : ℕ) → slice_get names i ≡ Some a → i < number → meets a d ≡ true → met_at names number d i ≡ true
before_meets names number d a i at less e =
    let first : nat_lt i number ≡ true = grind arith in
    let second : option_map_or (λ (x : DeclaredName). meets x d) (slice_get names i) false ≡ true = rw at e in
    rw (first, second) refl

among_by : (c b : Bool) (names : List DeclaredName) (number : ℕ) (d a : DeclaredName) (i : ℕ) → is_called d.sort ≡ c → is_called a.sort ≡ b → slice_get names i ≡ Some a → met_at names number d i ≡ true → meets a d ≡ true → list_any (met_at names number d) (candidates_by c names d) ≡ true
among_by false b names number d a i cd ca at met e = any_of spot_text (met_at names number d) names i a (spot_text d) at (one_spot a d e) met
among_by true true names number d a i cd ca at met e =
    list_any-append (met_at names number d) (numbers_of (call_text d) (map call_text names)) (numbers_of (spot_text d) (map call_text names))
    ∙ or_left (list_any (met_at names number d) (numbers_of (call_text d) (map call_text names))) (list_any (met_at names number d) (numbers_of (spot_text d) (map call_text names))) (any_of call_text (met_at names number d) names i a (call_text d) at (one_call a d ca cd e) met)
among_by true false names number d a i cd ca at met e =
    list_any-append (met_at names number d) (numbers_of (call_text d) (map call_text names)) (numbers_of (spot_text d) (map call_text names))
    ∙ or_right (list_any (met_at names number d) (numbers_of (call_text d) (map call_text names))) (list_any (met_at names number d) (numbers_of (spot_text d) (map call_text names))) (any_of call_text (met_at names number d) names i a (spot_text d) at (text_uncalled a ca ∙ one_spot a d e) met)

pub complete : (names : List DeclaredName) (number : ℕ) (d a : DeclaredName) (i : ℕ) → slice_get names i ≡ Some a → i < number → meets a d ≡ true → met_among names number d (candidates names d) ≡ true
unfolding met_among candidates
complete names number d a i at less e = among_by (is_called d.sort) (is_called a.sort) names number d a i refl refl at (before_meets names number d a i at less e) e

-- an earlier one that meets
pub record Earlier (names : List DeclaredName) (number : ℕ) (d : DeclaredName) : Type 0 where
  pub place : ℕ
  pub before : place < number
  pub other : DeclaredName
  pub at : slice_get names place ≡ Some other
  pub met : IsTrue (meets other d)

found : (names : List DeclaredName) (number : ℕ) (d : DeclaredName) (i : ℕ) (t : Bool) (o : Option DeclaredName) → nat_lt i number ≡ t → slice_get names i ≡ o → (t && option_map_or (λ (a : DeclaredName). meets a d) o false) ≡ true → Earlier names number d
found names number d i true (Some a) less at e = record { place = i; before = grind arith; other = a; at = at; met = subst (λ (b : Bool). IsTrue b) (sym e) refl }
found names number d i true None less at e = absurd cc
found names number d i false o less at e = absurd cc

earlier_in : (names : List DeclaredName) (number : ℕ) (d : DeclaredName) (numbers : List ℕ) → list_any (met_at names number d) numbers ≡ true → Earlier names number d
earlier_in names number d [] e = absurd cc
earlier_in names number d (i ∷ is) e = by (met_at names number d i) refl e (earlier_in names number d is)
  where
    by : (b : Bool) → met_at names number d i ≡ b → (b || list_any (met_at names number d) is) ≡ true → (list_any (met_at names number d) is ≡ true → Earlier names number d) → Earlier names number d
    by true at e rest = found names number d i (nat_lt i number) (slice_get names i) refl refl at
    by false at e rest = rest e

pub earlier : (names : List DeclaredName) (number : ℕ) (d : DeclaredName) (numbers : List ℕ) → met_among names number d numbers ≡ true → Earlier names number d
unfolding met_among
earlier names number d numbers e = earlier_in names number d numbers e

-- ---- as the list is gone through

pub twice_at : (names : List DeclaredName) (start j : ℕ) (d : DeclaredName) → start ≤ j → slice_get names j ≡ Some d → met_among names j d (candidates names d) ≡ true → IsTwice names start d.place
twice_at names start j d le at e =
    let one = earlier names j d (candidates names d) e in
    record { i = one.place; j = j; from_start = le; before = one.before; meet = record { earlier = one.other; later = d; at_i = one.at; at_j = at; met = one.met }; place = refl }

is_true : (b : Bool) → IsTrue b → b ≡ true
is_true true e = refl
is_true false e = absurd cc

pub none_at : (names : List DeclaredName) (j i : ℕ) (d : DeclaredName) → slice_get names j ≡ Some d → met_among names j d (candidates names d) ≡ false → i < j → MeetAt names i j → ⊥
none_at names j i d at e less m =
    let later = m.later in
    let there = m.at_j in
    let same : later ≡ d = cc in
    let meet : meets m.earlier d ≡ true = subst (λ (x : DeclaredName). meets m.earlier x ≡ true) same (is_true (meets m.earlier later) m.met) in
    let yes = complete names j d m.earlier i m.at_i less meet in
    cc

-- none below a number meets an earlier one
abbrev pub NoneBelow : List DeclaredName → ℕ → ℕ → Type 0
NoneBelow names start n = (i j : ℕ) → start ≤ j → j < n → i < j → MeetAt names i j → ⊥

pub none_yet : (names : List DeclaredName) (start : ℕ) → NoneBelow names start start
none_yet names start = λ i j le less before m. absurd (omega arith)

pub none_more : (names : List DeclaredName) (start n : ℕ) (d : DeclaredName) → NoneBelow names start n → slice_get names n ≡ Some d → met_among names n d (candidates names d) ≡ false → NoneBelow names start (n + 1)
none_more names start n d below at e = λ i j le less before m. by i j le before m (lt_or_eq j n less)
  where
    lt_or_eq : (j n : ℕ) → j < n + 1 → (j < n) ⊎ (j ≡ n)
    lt_or_eq j n less = grind arith

    by : (i j : ℕ) → start ≤ j → i < j → MeetAt names i j → (j < n) ⊎ (j ≡ n) → ⊥
    by i j le before m (inl less) = below i j le less before m
    by i j le before m (inr same) = none_at names n i d at e (subst (λ k. i < k) same before) (subst (λ k. MeetAt names i k) same m)

pub none_all : (names : List DeclaredName) (start n : ℕ) → NoneBelow names start n → length names ≤ n → NoneTwice names start
none_all names start n below all = λ i j le before m. (let inside = slice_get_within names j m.later m.at_j in below i j le (omega arith) before m)

-- ---- spots

pub view_at : (spots : List Spot) (i : ℕ) (s : Spot) → i < length spots → s ≡ get_or spots i s → slice_get (spot_views spots) i ≡ Some (spot_view s)
view_at spots i s less is = slice_get-map spot_view spots i ∙ ap (option_map spot_view) (slice_get_read spots (length spots) i s refl less is)

-- ---- by the buckets

pub met_uncalled : (names : List DeclaredName) (number : ℕ) (d : DeclaredName) (b : Buckets) (t : Text) (x : Bool) → IsBucketed names b → is_called d.sort ≡ false → t ≡ spot_text d → x ≡ met_among names number d (group_of b.by_spot t) → x ≡ met_among names number d (candidates names d)
unfolding candidates
met_uncalled names number d b t x grouped not_called same e =
    e ∙ ap (met_among names number d) (grouped.0 t ∙ ap (λ n. numbers_of n (map spot_text names)) same ∙ sym (ap (λ (c : Bool). candidates_by c names d) not_called))

among_append : (names : List DeclaredName) (number : ℕ) (d : DeclaredName) (ms ns : List ℕ) → met_among names number d (ms ++ ns) ≡ (met_among names number d ms || met_among names number d ns)
unfolding met_among
among_append names number d ms ns = list_any-append (met_at names number d) ms ns

pub met_called : (names : List DeclaredName) (number : ℕ) (d : DeclaredName) (b : Buckets) (c t : Text) (x y : Bool) → IsBucketed names b → is_called d.sort ≡ true → c ≡ call_text d → t ≡ spot_text d → x ≡ met_among names number d (group_of b.by_call c) → y ≡ met_among names number d (group_of b.by_call t) → (x || y) ≡ met_among names number d (candidates names d)
unfolding candidates
met_called names number d b c t x y grouped called same_c same_t e f =
    ap₂ (λ p q. p || q) (e ∙ ap (met_among names number d) (grouped.1 c ∙ ap (λ n. numbers_of n (map call_text names)) same_c)) (f ∙ ap (met_among names number d) (grouped.1 t ∙ ap (λ n. numbers_of n (map call_text names)) same_t))
    ∙ sym (among_append names number d (numbers_of (call_text d) (map call_text names)) (numbers_of (spot_text d) (map call_text names)))
    ∙ ap (met_among names number d) (sym (ap (λ (k : Bool). candidates_by k names d) called))
