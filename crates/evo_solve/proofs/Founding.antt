-- The ways among classes are the paths of conformances.
use Rattle.std.proofs.Common.{◌≡◌, ℕ, zero, suc, ◌+◌, ◌*◌, ◌/◌, ◌%◌, ◌<◌, ◌≤◌, List, [], ◌∷◌, ◌++◌, length, set, Option, Some, None, slice_get, ◌==◌, Bool, true, false, ◌⊎◌, inl, inr, refl, sym, ◌∙◌, ap, subst, arith, append_assoc, eq-eqb}
use Rattle.std.proofs.lemmas.Bool.{eqb-true}
use Rattle.std.proofs.lemmas.List.{get_or-set_same, get_or-set_other, length-set, append-nil}
use Rattle.std.proofs.lemmas.Nat.{mul-add-lt, div-mul-add, mod-mul-add, same_from_place}
use Rattle.evo_base.specs.declared.key.Key.{Key}
use Rattle.evo_resolved.specs.declared.resolved_type.RType.{RType}
use Rattle.evo_resolved.specs.declared.path.ConfPath.{ConfPath}
use Rattle.evo_resolved.specs.declared.path.ConfStart.{ConfStart}
use Rattle.evo_resolved.specs.declared.path.ConfStart.TheVariants as conf
use Rattle.evo_names.specs.Listed.{Text}
use Rattle.evo_solve.specs.declared.path.Path.{Path}
use Rattle.evo_solve.specs.declared.path.Word.{Word}
use Rattle.evo_solve.specs.declared.universe.Node.{Node}
use Rattle.evo_solve.specs.declared.classes.Classes.{Classes}
use Rattle.evo_solve.specs.declared.declarations.Subtable.{Subtable}
use Rattle.evo_solve.specs.declared.declarations.Protocol.{Protocol}
use Rattle.evo_solve.specs.declared.declarations.DeclaredConformance.{DeclaredConformance}
use Rattle.evo_solve.specs.Equal.{path_of}
use Rattle.evo_solve.specs.Universe.{HasPath, InRange, IsSolved, Walks, Has, rep}
use Rattle.evo_solve.specs.Words.{table_words}
use Rattle.evo_solve.specs.Ways.{IsNumber, after, Leads, stays, goes, Starts, by_word, by_declaration, Route, Goal, IsWay, IsFirstPath, PathOrNone, Lex}
use Rattle.evo_solve.specs.Search.{subtables_by, subtables_of, MovesBy, Arrives, StartAt, Level, Chosen, Followed, IsPlace, value, at, nones}
use Rattle.evo_solve.specs.Found.{IsStart, of_word, of_conformance, StartsTo, Extended, FirstWay, IsKeyOf, FoundOrNone}
use Rattle.evo_solve.proofs.Lists.{at_front, at_end, at_place, below_length}
use Rattle.evo_solve.proofs.Growing.{before_or_at}
use Rattle.evo_solve.proofs.Walking.{has_taken, has_back, has_one, equal_has, both_equal, path_has}

-- ---- protocols by number

pub number_one : (ps : List Protocol) (key : Key) (m n : ℕ) → IsNumber ps key m → IsNumber ps key n → m ≡ n
number_one ps key m n a b = go (less_or m n) (less_or n m)
  where
    less_or : (x y : ℕ) → (x < y) ⊎ (y ≤ x)
    less_or x zero = inr (omega arith)
    less_or zero (suc y) = inl (omega arith)
    less_or (suc x) (suc y) = elim (less_or x y) [ inl h ↦ inl (omega arith) | inr h ↦ inr (omega arith) ]

    go : (m < n) ⊎ (n ≤ m) → (n < m) ⊎ (m ≤ n) → m ≡ n
    go (inl l) other = absurd (b.none_before m a.protocol l a.at a.own)
    go one (inl l) = absurd (a.none_before n b.protocol l b.at b.own)
    go (inr k) (inr l) = omega arith

pub number_in : (ps : List Protocol) (key : Key) (n : ℕ) → IsNumber ps key n → n < length ps
number_in ps key n a = below_length ps n a.protocol a.at

-- ---- classes in range

module _ (nodes : List Node) (reps : List ℕ) (range : InRange nodes reps) where
  walks_in : (ns : List Text) (c d : ℕ) → c < length nodes → Walks nodes reps c ns d → d < length nodes
  walks_in [] c d inside w = subst (λ z. z < length nodes) w inside
  walks_in (n ∷ ns) c d inside w = let h = w.1 in walks_in ns w.0 d (subst (λ z. z < length nodes) h.6 (range.inside h.0 (below_length nodes h.0 h.1 h.3))) w.2

  pub has_in : (p : Path) (c : ℕ) → Has nodes reps p c → c < length nodes
  has_in p c h = let r = h.1 in walks_in p.names h.0 c (subst (λ z. z < length nodes) r.5 (range.inside r.0 (below_length nodes r.0 r.1 r.2))) h.2

-- ---- ways and paths

module _ (g : Classes) (ps : List Protocol) (t m : ℕ) where
  protocol_at : (q j : ℕ) (step : Subtable) → slice_get (subtables_of ps q) j ≡ Some step → (p : Protocol) × (slice_get ps q ≡ Some p) × (slice_get p.subtables j ≡ Some step)
  protocol_at q j step e = go (slice_get ps q) refl e
    where
      go : (o : Option Protocol) → slice_get ps q ≡ o → slice_get (subtables_by o) j ≡ Some step → (p : Protocol) × (slice_get ps q ≡ Some p) × (slice_get p.subtables j ≡ Some step)
      go None f e = absurd (cc e)
      go (Some p) f e = (p, f, e)

  has_after : (p : Path) (c d : ℕ) (o : Option Text) → Has g.nodes.items g.reps.items p c → MovesBy g.nodes.items g.reps.items c d o → Has g.nodes.items g.reps.items (after p o) d
  has_after p c d None h move = subst (Has g.nodes.items g.reps.items p) move h
  has_after p c d (Some n) h move = has_taken g.nodes.items g.reps.items p n c d h move

  has_before : (p : Path) (d : ℕ) (o : Option Text) → Has g.nodes.items g.reps.items (after p o) d → (c : ℕ) × Has g.nodes.items g.reps.items p c × MovesBy g.nodes.items g.reps.items c d o
  has_before p d None h = (d, h, refl)
  has_before p d (Some n) h = has_back g.nodes.items g.reps.items p n d h

  pub arrives_leads : (js : List ℕ) (ks : List Key) (c q : ℕ) (p : Path) → Arrives g ps t m js ks c q → Has g.nodes.items g.reps.items p c → (end : Path) × Leads ps p q js ks end m × Has g.nodes.items g.reps.items end t
  arrives_leads [] [] c q p a h = (p, subst (λ z. Leads ps p z [] [] p m) (sym a.1) stays, subst (Has g.nodes.items g.reps.items p) a.0 h)
  arrives_leads [] (k ∷ ks) c q p a h = absurd a
  arrives_leads (j ∷ js) [] c q p a h = absurd a
  arrives_leads (j ∷ js) (k ∷ ks) c q p a h =
      let r = arrives_leads js ks a.1 a.0.protocol (after p a.0.associated) a.5 (has_after p c a.1 a.0.associated h a.3) in
      let at = protocol_at q j a.0 a.2 in
      (r.0, goes at.0 a.0 at.1 at.2 a.4 r.1, r.2)

  pub leads_arrives : {p end : Path} {q n : ℕ} {js : List ℕ} {ks : List Key} → Leads ps p q js ks end n → n ≡ m → Has g.nodes.items g.reps.items end t → (c : ℕ) × Has g.nodes.items g.reps.items p c × Arrives g ps t m js ks c q
  leads_arrives stays e h = (t, h, (refl, e))
  leads_arrives (goes {p} {r} {n} {j} protocol step at_p at_s is l) e h =
      let a = leads_arrives l e h in
      let b = has_before p a.0 step.associated a.1 in
      let here : slice_get (subtables_of ps n) j ≡ Some step = ap (λ o. slice_get (subtables_by o) j) at_p ∙ at_s in
      (b.0, b.1, (step, a.0, here, b.2, is, a.2))

-- ---- places without a distance

pub unknown_more : (xs : List (Option ℕ)) → ((s : ℕ) → value xs s ≡ None) → (s : ℕ) → value (xs ++ None ∷ []) s ≡ None
unknown_more [] all zero = refl
unknown_more [] all (suc s) = refl
unknown_more (x ∷ xs) all zero = all 0
unknown_more (x ∷ xs) all (suc s) = unknown_more xs (λ s. all (suc s)) s

pub nones_more : (xs : List (Option ℕ)) → nones (xs ++ None ∷ []) ≡ nones xs + 1
nones_more [] = refl
nones_more (None ∷ xs) = let e = nones_more xs in omega arith
nones_more (Some d ∷ xs) = nones_more xs

pub longer : {A : Type 0} (xs : List A) (x : A) → length (xs ++ x ∷ []) ≡ length xs + 1
longer [] x = refl
longer (y ∷ ys) x = let e = longer ys x in omega arith

-- ---- starts

module _ (g : Classes) (ps : List Protocol) where
  pub starts_none : {A : Type 0} (items : List A) (of_item : A → RType × Key) → StartsTo g ps items of_item 0 []
  starts_none items of_item = record { size = refl; each = λ i x less at. absurd (omega arith) }

  pub starts_more : {A : Type 0} (items : List A) (of_item : A → RType × Key) (n : ℕ) (starts : List (Option ℕ)) (x : A) (o : Option ℕ) → StartsTo g ps items of_item n starts → slice_get items n ≡ Some x → IsStart g ps (of_item x).0 (of_item x).1 o → StartsTo g ps items of_item (n + 1) (starts ++ o ∷ [])
  starts_more {A} items of_item n starts x o s at is = record {
    size = longer starts ∙ ap (λ k. k + 1) s.size;
    each = λ i y less at_y. go i y at_y (before_or_at i n less);
  }
    where
      longer : (xs : List (Option ℕ)) → length (xs ++ o ∷ []) ≡ length xs + 1
      longer [] = refl
      longer (y ∷ ys) = let e = longer ys in omega arith

      go : (i : ℕ) (y : A) → slice_get items i ≡ Some y → (i < n) ⊎ (i ≡ n) → (r : Option ℕ) × (slice_get (starts ++ o ∷ []) i ≡ Some r) × IsStart g ps (of_item y).0 (of_item y).1 r
      go i y at_y (inl less) = let h = s.each i y less at_y in (h.0, at_front starts (o ∷ []) i h.0 h.1, h.2)
      go i y at_y (inr e) =
          let same : x ≡ y = (let a = subst (λ z. slice_get items z ≡ Some y) e at_y in cc (a, at)) in
          (o, subst (λ k. slice_get (starts ++ o ∷ []) k ≡ Some o) (s.size ∙ sym e) (at_end starts o), subst (λ z. IsStart g ps (of_item z).0 (of_item z).1 o) same is)

  pub extended_none : (declared : List DeclaredConformance) (old : List (Option ℕ)) → Extended g ps declared 0 old old
  extended_none declared old = record { more = []; is = sym (append-nil old); starts = starts_none declared of_conformance }

  pub extended_more : (declared : List DeclaredConformance) (n : ℕ) (old mid new : List (Option ℕ)) (x : DeclaredConformance) (o : Option ℕ) → Extended g ps declared n old mid → slice_get declared n ≡ Some x → IsStart g ps x.conformer x.protocol o → new ≡ mid ++ o ∷ [] → Extended g ps declared (n + 1) old new
  extended_more declared n old mid new x o e at is is_new = record {
    more = e.more ++ o ∷ [];
    is = is_new ∙ ap (λ l. l ++ o ∷ []) e.is ∙ append_assoc old e.more (o ∷ []);
    starts = starts_more declared of_conformance n e.more x o e.starts at is;
  }

-- ---- the first level

module _ (g : Classes) (ps : List Protocol) (t m : ℕ) (in_t : t < length g.nodes.items) (in_m : m < length ps) where
  -- one place has the distance 0, and no other any
  pub level_zero : (none distances : List (Option ℕ)) → length none ≡ length ps * length g.nodes.items → ((s : ℕ) → value none s ≡ None) → distances ≡ set none (t * length ps + m) (Some 0) → Level g ps t m 0 distances
  level_zero none distances size all is = record {
    size = ap length is ∙ length-set none (t * length ps + m) (Some 0) ∙ size;
    exact = record {
      zero = λ c q p e. here c q p e;
      down = λ c q d p e. absurd (let h = only c q (suc d) p e in omega arith);
      least = λ c q d js ks p e a. let h = only c q d p e in omega arith;
    };
    missing = λ c q js ks p e a. far c q js ks p e a;
    bound = λ c q d p e. let h = only c q d p e in omega arith;
  }
    where
      inside : t * length ps + m < length none
      inside = subst (λ n. t * length ps + m < n) (sym size) (mul-add-lt t (length ps) m (length g.nodes.items) in_t in_m)

      at_it : value distances (t * length ps + m) ≡ Some 0
      at_it = ap (λ l. value l (t * length ps + m)) is ∙ get_or-set_same none (t * length ps + m) (Some 0) None inside

      elsewhere : (s : ℕ) → (s == (t * length ps + m)) ≡ false → value distances s ≡ None
      elsewhere s f =
          let differ : s ≡ t * length ps + m → ⊥ = λ e. absurd (let h : ((t * length ps + m) == (t * length ps + m)) ≡ false = subst (λ z. (z == (t * length ps + m)) ≡ false) e f in cc (h, eq-eqb (t * length ps + m) (t * length ps + m) refl)) in
          ap (λ l. value l s) is ∙ get_or-set_other none (t * length ps + m) s (Some 0) None differ ∙ all s

      place : (c q d : ℕ) → value distances (c * length ps + q) ≡ Some d → (b : Bool) → ((c * length ps + q) == (t * length ps + m)) ≡ b → c * length ps + q ≡ t * length ps + m
      place c q d e true f = eqb-true (c * length ps + q) (t * length ps + m) f
      place c q d e false f = absurd (let n = elsewhere (c * length ps + q) f in cc (n, e))

      here : (c q : ℕ) → IsPlace g ps c q → value distances (c * length ps + q) ≡ Some 0 → (c ≡ t) × (q ≡ m)
      here c q p e = same_from_place c q t m (length ps) p.1 in_m (place c q 0 e ((c * length ps + q) == (t * length ps + m)) refl)

      only : (c q d : ℕ) → IsPlace g ps c q → value distances (c * length ps + q) ≡ Some d → d ≡ 0
      only c q d p e =
          let i = place c q d e ((c * length ps + q) == (t * length ps + m)) refl in
          let a : value distances (t * length ps + m) ≡ Some d = subst (λ z. value distances z ≡ Some d) i e in
          cc (a, at_it)

      far : (c q : ℕ) (js : List ℕ) (ks : List Key) → IsPlace g ps c q → value distances (c * length ps + q) ≡ None → Arrives g ps t m js ks c q → 0 < length js
      far c q [] [] p e a = absurd (let i : c * length ps + q ≡ t * length ps + m = ap (λ z. z * length ps + q) a.0 ∙ ap (λ z. t * length ps + z) a.1 in let b = subst (λ z. value distances z ≡ None) i e in cc (b, at_it))
      far c q [] (k ∷ ks) p e a = absurd a
      far c q (j ∷ js) [] p e a = absurd a
      far c q (j ∷ js) (k ∷ ks) p e a = omega arith

  pub first_way_from : (starts distances : List (Option ℕ)) (i : ℕ) (names : List Key) → (chosen : Chosen g ps t m starts distances i) → Followed g ps t m (chosen.place / length ps) (chosen.place % length ps) chosen.far [] names → FirstWay g ps t m starts i names
  first_way_from starts distances i names chosen f = record {
    place = chosen.place;
    steps = f.0;
    start = chosen.start;
    arrives = subst (λ l. Arrives g ps t m f.0 l (chosen.place / length ps) (chosen.place % length ps)) (sym f.2) f.3;
    first = λ j s js ks at_j a. go j s js ks at_j a (chosen.first j s js ks at_j a) (compared i j);
  }
    where
      same_start : (j s : ℕ) → i ≡ j → StartAt starts j s → s ≡ chosen.place
      same_start j s e at_j = let a = subst (λ z. slice_get starts z ≡ Some (Some s)) (sym e) at_j in let b = chosen.start in cc (a, b)

      compared : (x y : ℕ) → (x < y) ⊎ ((x ≡ y) ⊎ (y < x))
      compared zero zero = inr (inl refl)
      compared zero (suc y) = inl (omega arith)
      compared (suc x) zero = inr (inr (omega arith))
      compared (suc x) (suc y) = elim (compared x y) [ inl h ↦ inl (omega arith) | inr (inl h) ↦ inr (inl (ap suc h)) | inr (inr h) ↦ inr (inr (omega arith)) ]

      go : (j s : ℕ) (js : List ℕ) (ks : List Key) → StartAt starts j s → Arrives g ps t m js ks (s / length ps) (s % length ps) → (chosen.far < length js) ⊎ ((chosen.far ≡ length js) × (i ≤ j)) → (i < j) ⊎ ((i ≡ j) ⊎ (j < i)) → (length f.0 < length js) ⊎ ((length f.0 ≡ length js) × Lex (i ∷ f.0) (j ∷ js))
      go j s js ks at_j a (inl l) other = inl (subst (λ z. z < length js) (sym f.4) l)
      go j s js ks at_j a (inr e) (inl l) = inr (f.4 ∙ e.0, inl l)
      go j s js ks at_j a (inr e) (inr (inr l)) = absurd (let k = e.1 in omega arith)
      go j s js ks at_j a (inr e) (inr (inl h)) =
          let place = same_start j s h at_j in
          let here : Arrives g ps t m js ks (chosen.place / length ps) (chosen.place % length ps) = subst (λ z. Arrives g ps t m js ks (z / length ps) (z % length ps)) place a in
          inr (f.4 ∙ e.0, inr (h, f.5 js ks here (sym e.0)))

-- ---- the paths of a goal

module _ (goal : Goal) (g : Classes) (n m : ℕ) (solved : IsSolved goal.signature.requirements g.nodes.items g.reps.items) (range : InRange g.nodes.items g.reps.items) (has : HasPath g.nodes.items n (path_of goal.type)) (number : IsNumber goal.declarations.protocols goal.protocol m) (words : List Word) (is_words : words ≡ table_words goal.signature) (required more starts : List (Option ℕ)) (to_words : StartsTo g goal.declarations.protocols words of_word (length words) required) (to_declared : StartsTo g goal.declarations.protocols goal.declarations.conformances of_conformance (length goal.declarations.conformances) more) (is_starts : starts ≡ required ++ more) where
  abbrev ps : List Protocol
  ps = goal.declarations.protocols

  abbrev t : ℕ
  t = rep g.reps.items n

  behind_at : {A : Type 0} (xs ys : List A) (j : ℕ) (y : A) → slice_get ys j ≡ Some y → slice_get (xs ++ ys) (length xs + j) ≡ Some y
  behind_at [] ys j y e = let i : j ≡ 0 + j = omega arith in subst (λ k. slice_get ys k ≡ Some y) i e
  behind_at (x ∷ xs) ys j y e = let i : suc (length xs + j) ≡ suc (length xs) + j = omega arith in subst (λ k. slice_get (x ∷ (xs ++ ys)) k ≡ Some y) i (behind_at xs ys j y e)

  -- a conformance with a class and a number is at its start's place
  place_of : (i : ℕ) (s : RType) (key : Key) (o : Option ℕ) → slice_get starts i ≡ Some o → IsStart g ps s key o → (c q : ℕ) → Has g.nodes.items g.reps.items (path_of s) c → IsNumber ps key q → (place : ℕ) × StartAt starts i place × (place / length ps ≡ c) × (place % length ps ≡ q)
  place_of i s key None at_i is c q h k = absurd (is c q h k)
  place_of i s key (Some place) at_i is c q h k =
      let same_c : is.0 ≡ c = has_one g.nodes.items g.reps.items solved.size solved.grown solved.linked (path_of s) is.0 c is.2 h in
      let same_q : is.1 ≡ q = number_one ps key is.1 q is.3 k in
      let low = number_in ps key is.1 is.3 in
      (place, at_i, ap (λ z. z / length ps) is.4 ∙ div-mul-add is.0 (length ps) is.1 low ∙ same_c, ap (λ z. z % length ps) is.4 ∙ mod-mul-add is.0 (length ps) is.1 low ∙ same_q)

  start_place : {i : ℕ} {start : ConfStart} {p : Path} {key : Key} → Starts (table_words goal.signature) goal.declarations.conformances i start p key → (c q : ℕ) → Has g.nodes.items g.reps.items p c → IsNumber ps key q → (place : ℕ) × StartAt starts i place × (place / length ps ≡ c) × (place % length ps ≡ q)
  start_place (by_word {i} w at) c q h k =
      let at_words : slice_get words i ≡ Some w = subst (λ l. slice_get l i ≡ Some w) (sym is_words) at in
      let s = to_words.each i w (below_length words i w at_words) at_words in
      place_of i w.subject w.protocol s.0 (subst (λ l. slice_get l i ≡ Some s.0) (sym is_starts) (at_front required more i s.0 s.1)) s.2 c q h k
  start_place (by_declaration {n} i d at e) c q h k =
      let s = to_declared.each i d (below_length goal.declarations.conformances i d at) at in
      let number_is : length required + i ≡ n = ap (λ z. z + i) (to_words.size ∙ ap length is_words) ∙ sym e in
      place_of n d.conformer d.protocol s.0 (subst (λ l. slice_get l n ≡ Some s.0) (sym is_starts) (subst (λ z. slice_get (required ++ more) z ≡ Some s.0) number_is (behind_at required more i s.0 s.1))) s.2 c q h k

  -- each path is a way among classes
  way_arrives : (route : Route) (path : ConfPath) → IsWay goal route path → (place : ℕ) × StartAt starts route.start place × Arrives g ps t m route.steps path.steps (place / length ps) (place % length ps)
  way_arrives route path way =
      let here = path_has goal.signature.requirements g.nodes.items g.reps.items solved n (path_of goal.type) has in
      let there = (equal_has goal.signature.requirements g.nodes.items g.reps.items solved way.equal).1 t here in
      let a = leads_arrives g ps t m way.leads (number_one ps goal.protocol way.last_number m way.last_is number) there in
      let s = start_place way.starts a.0 way.first_number a.1 way.first_is in
      (s.0, s.1, subst (λ z. Arrives g ps t m route.steps path.steps z (s.0 % length ps)) (sym s.2) (subst (λ z. Arrives g ps t m route.steps path.steps a.0 z) (sym s.3) a.2))

  pub no_path : ((i s : ℕ) (js : List ℕ) (ks : List Key) → StartAt starts i s → Arrives g ps t m js ks (s / length ps) (s % length ps) → ⊥) → (route : Route) (path : ConfPath) → IsWay goal route path → ⊥
  no_path none route path way = let a = way_arrives route path way in none route.start a.0 route.steps path.steps a.1 a.2

  -- a way from a conformance is a path
  way_of : (i : ℕ) (start : ConfStart) (s : RType) (key : Key) (o : Option ℕ) (names : List Key) (w : FirstWay g ps t m starts i names) → slice_get starts i ≡ Some o → IsStart g ps s key o → Starts (table_words goal.signature) goal.declarations.conformances i start (path_of s) key → IsWay goal (record { start = i; steps = w.steps }) (record { start = start; steps = names })
  way_of i start s key None names w at_i is starts_it = absurd (let a = w.start in cc (a, at_i))
  way_of i start s key (Some place) names w at_i is starts_it =
      let same : w.place ≡ place = (let a = w.start in cc (a, at_i)) in
      let low = number_in ps key is.1 is.3 in
      let c_is : w.place / length ps ≡ is.0 = ap (λ z. z / length ps) (same ∙ is.4) ∙ div-mul-add is.0 (length ps) is.1 low in
      let q_is : w.place % length ps ≡ is.1 = ap (λ z. z % length ps) (same ∙ is.4) ∙ mod-mul-add is.0 (length ps) is.1 low in
      let a : Arrives g ps t m w.steps names is.0 is.1 = subst (λ z. Arrives g ps t m w.steps names z is.1) c_is (subst (λ z. Arrives g ps t m w.steps names (w.place / length ps) z) q_is w.arrives) in
      let l = arrives_leads g ps t m w.steps names is.0 is.1 (path_of s) a is.2 in
      let here = path_has goal.signature.requirements g.nodes.items g.reps.items solved n (path_of goal.type) has in
      record {
        origin = path_of s;
        end = l.0;
        first_protocol = key;
        first_number = is.1;
        last_number = m;
        starts = starts_it;
        first_is = is.3;
        leads = l.1;
        last_is = number;
        equal = both_equal goal.signature.requirements g.nodes.items g.reps.items solved l.0 (path_of goal.type) t l.2 here;
      }

  pub first_path : (i : ℕ) (start : ConfStart) (names : List Key) → IsKeyOf words goal.declarations.conformances i start → FirstWay g ps t m starts i names → IsFirstPath goal (record { start = start; steps = names })
  first_path i start names key w = record {
    route = record { start = i; steps = w.steps };
    way = go start key;
    first = λ other p way. let a = way_arrives other p way in w.first other.start a.0 other.steps p.steps a.1 a.2;
  }
    where
      go : (start : ConfStart) → IsKeyOf words goal.declarations.conformances i start → IsWay goal (record { start = i; steps = w.steps }) (record { start = start; steps = names })
      go (conf.Required x) k =
          let word = at_place words i k.1 in
          let s = to_words.each i word.0 k.1 word.1 in
          subst (λ z. IsWay goal (record { start = i; steps = w.steps }) (record { start = conf.Required z; steps = names })) (sym k.0)
          (way_of i (conf.Required i) word.0.subject word.0.protocol s.0 names w (subst (λ l. slice_get l i ≡ Some s.0) (sym is_starts) (at_front required more i s.0 s.1)) s.2 (by_word word.0 (subst (λ l. slice_get l i ≡ Some word.0) is_words word.1)))
      go (conf.Declared x) k =
          let d = k.1 in
          let s = to_declared.each k.0 d (below_length goal.declarations.conformances k.0 d k.2) k.2 in
          let number_is : length required + k.0 ≡ i = ap (λ z. z + k.0) to_words.size ∙ sym k.3 in
          subst (λ z. IsWay goal (record { start = i; steps = w.steps }) (record { start = conf.Declared z; steps = names })) (sym k.4)
          (way_of i (conf.Declared d.key) d.conformer d.protocol s.0 names w (subst (λ l. slice_get l i ≡ Some s.0) (sym is_starts) (subst (λ z. slice_get (required ++ more) z ≡ Some s.0) number_is (behind_at required more k.0 s.0 s.1))) s.2 (by_declaration k.0 d k.2 (k.3 ∙ ap (λ z. length z + k.0) is_words)))

-- ---- starts are places

at_either : (xs ys : List (Option ℕ)) (i : ℕ) (x : Option ℕ) → slice_get (xs ++ ys) i ≡ Some x → (slice_get xs i ≡ Some x) ⊎ ((j : ℕ) × (slice_get ys j ≡ Some x))
at_either [] ys i x e = inr (i, e)
at_either (y ∷ xs) ys zero x e = inl e
at_either (y ∷ xs) ys (suc i) x e = at_either xs ys i x e

module _ (g : Classes) (ps : List Protocol) (range : InRange g.nodes.items g.reps.items) where
  start_inside : (t : RType) (key : Key) (s : ℕ) → IsStart g ps t key (Some s) → s < length ps * length g.nodes.items
  start_inside t key s is = subst (λ z. z < length ps * length g.nodes.items) (sym is.4) (mul-add-lt is.0 (length ps) is.1 (length g.nodes.items) (has_in g.nodes.items g.reps.items range (path_of t) is.0 is.2) (number_in ps key is.1 is.3))

  starts_inside : {A : Type 0} (items : List A) (of_item : A → RType × Key) (starts : List (Option ℕ)) → StartsTo g ps items of_item (length items) starts → (i s : ℕ) → slice_get starts i ≡ Some (Some s) → s < length ps * length g.nodes.items
  starts_inside items of_item starts to i s at =
      let less : i < length items = (let l = below_length starts i (Some s) at in let size = to.size in omega arith) in
      let x = at_place items i less in
      let o = to.each i x.0 less x.1 in
      let same : o.0 ≡ Some s = (let a = o.1 in cc (a, at)) in
      start_inside (of_item x.0).0 (of_item x.0).1 s (subst (IsStart g ps (of_item x.0).0 (of_item x.0).1) same o.2)

  pub all_inside : (words : List Word) (declared : List DeclaredConformance) (required starts : List (Option ℕ)) → StartsTo g ps words of_word (length words) required → Extended g ps declared (length declared) required starts → (i s : ℕ) → StartAt starts i s → s < length ps * length g.nodes.items
  all_inside words declared required starts to extended i s at = elim (at_either required extended.more i (Some s) (subst (λ l. slice_get l i ≡ Some (Some s)) extended.is at)) [
    | inl a ↦ starts_inside words of_word required to i s a
    | inr b ↦ starts_inside declared of_conformance extended.more extended.starts b.0 s b.1
  ]

  pub starts_size : (words : List Word) (declared : List DeclaredConformance) (required starts : List (Option ℕ)) → StartsTo g ps words of_word (length words) required → Extended g ps declared (length declared) required starts → length starts ≡ length words + length declared
  starts_size words declared required starts to extended =
      let a = to.size in
      let b = extended.starts.size in
      ap length extended.is ∙ both required extended.more ∙ (omega arith)
    where
      both : (xs ys : List (Option ℕ)) → length (xs ++ ys) ≡ length xs + length ys
      both [] ys = omega arith
      both (x ∷ xs) ys = let e = both xs ys in omega arith

-- ---- what joins the parts

pub path_answer : (goal : Goal) (g : Classes) (n m : ℕ) → IsSolved goal.signature.requirements g.nodes.items g.reps.items → InRange g.nodes.items g.reps.items → HasPath g.nodes.items n (path_of goal.type) → IsNumber goal.declarations.protocols goal.protocol m →
    (given_ps : List Protocol) → given_ps ≡ goal.declarations.protocols → (declared : List DeclaredConformance) → declared ≡ goal.declarations.conformances →
    (words one other : List Word) → words ≡ table_words goal.signature → one ≡ words → other ≡ words → (required starts given : List (Option ℕ)) → given ≡ starts →
    StartsTo g given_ps one of_word (length one) required → Extended g given_ps declared (length declared) required starts → (t : ℕ) → t ≡ rep g.reps.items n → (o : Option ConfPath) → FoundOrNone g given_ps t m other declared given o → PathOrNone goal o
path_answer goal g n m solved range has number given_ps e_ps declared e_d words one other is_words e_one e_other required starts given e_s to extended t e_t o found = go o f5
  where
    to_words : StartsTo g goal.declarations.protocols words of_word (length words) required
    to_words = subst (λ z. StartsTo g goal.declarations.protocols z of_word (length z) required) e_one (subst (λ z. StartsTo g z one of_word (length one) required) e_ps to)

    to_declared : Extended g goal.declarations.protocols goal.declarations.conformances (length goal.declarations.conformances) required starts
    to_declared = subst (λ z. Extended g goal.declarations.protocols z (length z) required starts) e_d (subst (λ z. Extended g z declared (length declared) required starts) e_ps extended)

    f1 : FoundOrNone g goal.declarations.protocols t m other declared given o
    f1 = subst (λ z. FoundOrNone g z t m other declared given o) e_ps found

    f2 : FoundOrNone g goal.declarations.protocols (rep g.reps.items n) m other declared given o
    f2 = subst (λ z. FoundOrNone g goal.declarations.protocols z m other declared given o) e_t f1

    f3 : FoundOrNone g goal.declarations.protocols (rep g.reps.items n) m words declared given o
    f3 = subst (λ z. FoundOrNone g goal.declarations.protocols (rep g.reps.items n) m z declared given o) e_other f2

    f4 : FoundOrNone g goal.declarations.protocols (rep g.reps.items n) m words goal.declarations.conformances given o
    f4 = subst (λ z. FoundOrNone g goal.declarations.protocols (rep g.reps.items n) m words z given o) e_d f3

    f5 : FoundOrNone g goal.declarations.protocols (rep g.reps.items n) m words goal.declarations.conformances starts o
    f5 = subst (λ z. FoundOrNone g goal.declarations.protocols (rep g.reps.items n) m words goal.declarations.conformances z o) e_s f4

    go : (o : Option ConfPath) → FoundOrNone g goal.declarations.protocols (rep g.reps.items n) m words goal.declarations.conformances starts o → PathOrNone goal o
    go None none = no_path goal g n m solved range has number words is_words required to_declared.more starts to_words to_declared.starts to_declared.is none
    go (Some path) f = first_path goal g n m solved range has number words is_words required to_declared.more starts to_words to_declared.starts to_declared.is f.start path.start path.steps f.key f.way
