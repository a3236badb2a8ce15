-- Walks along names: what was met so far and what is left are the whole.
use Rattle.std.proofs.Common.{◌≡◌, ℕ, suc, ◌+◌, ◌≤◌, ◌<◌, List, [], ◌∷◌, ◌++◌, Option, Some, None, true, false, slice_get, refl, sym, ap, subst, ◌∙◌, arith}
use Rattle.evo_base.specs.declared.key.Key.{Key}
use Rattle.evo_resolved.specs.declared.resolved_type.RType.{RType}
use Rattle.evo_members.specs.declared.located.Located.{Located}
use Rattle.evo_members.specs.Located.{around_of, start_at, start_by, start_in, start_of}
use Rattle.evo_tree.specs.declared.name.TypeName.{TypeName}
use Rattle.evo_tree.specs.declared.declaration.DeclKind.TheOpen as de
use Rattle.evo_resolved.specs.declared.resolved_type.RType.TheVariants as ty
use Rattle.std.specs.Option.{option_and_then, option_map, option_map_or}
use Rattle.evo_type_names.specs.Aliases.{alias_at, alias_by, written_by}
use Rattle.evo_names.specs.Listed.{Text, Kind, World, Declaration, declarations, list_of}
use Rattle.evo_names.specs.Seen.{Viewpoint}
use Rattle.evo_names.specs.Written.{Around, Start, Scope, fixed, via, view, written_in, Leads, whole, further, elsewhere, behind, beginning, joined}
use Rattle.evo_names.proofs.OneMeaning.{one_meaning}
use Rattle.evo_type_names.specs.declared.meaning.Meaning.{Meaning}
use Rattle.evo_type_names.specs.declared.meaning.TypeHead.{TypeHead}
use Rattle.evo_type_names.specs.declared.meaning.TypeHead.TheVariants as head
use Rattle.evo_type_names.specs.declared.beginning.Begun.{Begun}
use Rattle.evo_type_names.specs.Prefixes.{beginning_view}
use Rattle.evo_type_names.specs.declared.walk.Outcome.{Outcome}
use Rattle.evo_type_names.specs.declared.walk.Outcome.TheVariants as outcome
use Rattle.evo_type_names.specs.declared.walk.Entered.{Entered}
use Rattle.evo_type_names.specs.declared.walk.Entered.TheVariants as entered
use Rattle.evo_type_names.specs.Known.{size, Within, Under, Added, IsEntered, IsOutcome, IsStepped, IsTaken, IsTried, IsWalked, Says, goes_on, Stepped, Walked, met_by, parameter_type, type_of, type_view}
use Rattle.evo_type_names.proofs.Joined.{joined_assoc}

once : (a : Option Key) → joined [] (list_of a) ≡ list_of a
once None = refl
once (Some k) = refl

kept_list : (a : Option Key) (first later : List Key) → joined [] (joined (joined (list_of a) first) later) ≡ joined (joined (list_of a) first) later
kept_list a first later =
    sym (joined_assoc [] (joined (list_of a) first) later)
    ∙ ap (λ (l : List Key). joined l later) (sym (joined_assoc [] (list_of a) first) ∙ ap (λ (l : List Key). joined l first) (once a))

zero_le : (n : ℕ) → 0 ≤ n
zero_le n = omega arith

same_le : (n : ℕ) → n ≤ n
same_le n = omega arith

front_le : (m n : ℕ) → suc (m + 0) ≤ suc (m + n)
front_le m n = omega arith

later_le : (m n : ℕ) → n ≤ suc (m + n)
later_le m n = omega arith

pred_le : (m k : ℕ) → suc m ≤ k → m ≤ k
pred_le m k le = omega (arith, le)

under_le : (l m n : ℕ) → l ≤ m → l < suc (m + n)
under_le l m n a = omega (arith, a)

below_le : (l m n : ℕ) → l ≤ m → m ≤ n → l ≤ n
below_le l m n a b = omega (arith, a, b)

-- what is left leads to a type, and it is no further than this
pub record RestOf (w : World) (v : Viewpoint) (t : RType) (ns : List Text) (n : ℕ) : Type 0 where
  pub later : List Key
  pub type : RType
  pub leads : Leads w v (fixed t) ns later type
  pub size_within : size leads ≤ n

-- a walk that has come to a type with names left
pub record Onward (w : World) (v : Viewpoint) (x : Start) (ns : List Text) (old now : List Key) (t : RType) (rest : List Text) : Type 0 where
  pub found : List Key
  pub met : now ≡ joined old found
  pub forth : (later : List Key) (u : RType) → Leads w v (fixed t) rest later u → Leads w v x ns (joined found later) u
  pub back : (all : List Key) (u : RType) (d : Leads w v x ns all u) → RestOf w v t rest (size d)

some_same : {A : Type 0} {x y : A} → Some x ≡ Some y → x ≡ y
some_same e = cc

module _ {w : World} where
  -- each is told once
  kept : {v : Viewpoint} {x : Start} {ns : List Text} {met : List Key} {t : RType} → Leads w v x ns met t → joined [] met ≡ met
  kept whole = refl
  kept (further x is d) = kept d
  kept (elsewhere {a = a} x rest first later t is d e eq) = ap (joined []) eq ∙ kept_list a first later ∙ sym eq

  -- a start alone is no further than what follows from it
  pub in_front : {v : Viewpoint} {x : Start} {ns : List Text} {met : List Key} {u : RType} (d : Leads w v x ns met u) → Within w x (size d)
  in_front {v} (whole {t = t}) = record { view = v; met = []; type = t; leads = whole; size_within = zero_le 0 }
  in_front {v} (further {t = t} x is d) = record { view = v; met = []; type = t; leads = whole; size_within = zero_le (suc (size d)) }
  in_front {v} (elsewhere {a = a} x rest first later t is d e eq) =
      record { view = v; met = joined (list_of a) first; type = t; leads = elsewhere x rest first [] t is d whole refl; size_within = front_le (size d) (size e) }

  pub wider : {x : Start} {m n : ℕ} → m ≤ n → Within w x m → Within w x n
  wider {m = m} {n = n} le i = record { view = i.view; met = i.met; type = i.type; leads = i.leads; size_within = below_le (size i.leads) m n i.size_within le }

  more : {v : Viewpoint} {t : RType} {ns : List Text} {m n : ℕ} → m ≤ n → RestOf w v t ns m → RestOf w v t ns n
  more {m = m} {n = n} le r = record { later = r.later; type = r.type; leads = r.leads; size_within = below_le (size r.leads) m n r.size_within le }

  rest_at : {v : Viewpoint} {t u type : RType} {ns : List Text} {later : List Key} {n : ℕ} → t ≡ u → (e : Leads w v (fixed u) ns later type) → size e ≤ n → RestOf w v t ns n
  rest_at {v} {t} {u} {type} {ns} {later} {n} same e le = subst (λ (r : RType). RestOf w v r ns n) (sym same) (record { later = later; type = type; leads = e; size_within = le })

  forth_by : {v : Viewpoint} {x : Start} {ns : List Text} {first later : List Key} {t u : RType} → Leads w v x [] first t → Leads w v (fixed t) ns later u → Leads w v x ns (joined first later) u
  forth_by {v} {x} {ns} {first} {later} {t} {u} whole e = subst (λ (ks : List Key). Leads w v (fixed t) ns ks u) (sym (kept e)) e
  forth_by {later = later} (elsewhere x rest f l t is d whole eq) e = elsewhere x rest f later t is d e (ap (λ (ks : List Key). joined ks later) eq)

  back_by : {v : Viewpoint} {x : Start} {ns : List Text} {first met : List Key} {t u : RType} → Leads w v x [] first t → (d : Leads w v x ns met u) → RestOf w v t ns (size d)
  back_by one whole = rest_at (one_meaning w one whole).1 whole (zero_le 0)
  back_by one (further x is e) = rest_at (one_meaning w one whole).1 (further x is e) (same_le (suc (size e)))
  back_by {v} one (elsewhere {a = a} x rest first later t is d e eq) = rest_at (one_meaning w one (elsewhere {v = v} x rest first [] t is d whole refl)).1 e (later_le (size d) (size e))

  pub on_start : (v : Viewpoint) (t : RType) (ns : List Text) (old : List Key) → Onward w v (fixed t) ns old old t ns
  on_start v t ns old = record {
    found = [];
    met = refl;
    forth = λ later u e. subst (λ (ks : List Key). Leads w v (fixed t) ns ks u) (sym (kept e)) e;
    back = λ all u d. record { later = all; type = u; leads = d; size_within = same_le (size d) };
  }

  step_back : {v : Viewpoint} {t : RType} {n : Text} {rest : List Text} {y : Start} {first : List Key} {s : RType} {k : ℕ} → behind w v t n ≡ Some y → Leads w v y [] first s → {later : List Key} {u : RType} (d : Leads w v (fixed t) (n ∷ rest) later u) → size d ≤ k → RestOf w v s rest k
  step_back {v} {first = first} {s = s} {k = k} is one (further x at e) le =
      let same : Some x ≡ Some _ = sym at ∙ is in
      more (pred_le (size e) k le) (back_by (subst (λ (y : Start). Leads w v y [] first s) (some_same (sym same)) one) e)

  pub on_step : (v : Viewpoint) (x : Start) (ns : List Text) (old now new : List Key) (t s : RType) (n : Text) (rest : List Text) (y : Start) → Onward w v x ns old now t (n ∷ rest) → behind w v t n ≡ Some y → Added w y now new s → Onward w v x ns old new s rest
  on_step v x ns old now new t s n rest y before is added = record {
    found = joined before.found added.first;
    met = added.met ∙ ap (λ (l : List Key). joined l added.first) before.met ∙ joined_assoc old before.found added.first;
    forth = λ later u e. subst (λ (ks : List Key). Leads w v x ns ks u) (sym (joined_assoc before.found added.first later)) (before.forth (joined added.first later) u (further y is (forth_by (added.leads v) e)));
    back = λ all u d. (let r = before.back all u d in step_back is (added.leads v) r.leads r.size_within);
  }

  pub on_end : (v : Viewpoint) (x : Start) (ns : List Text) (old now : List Key) (t : RType) → Onward w v x ns old now t [] → Walked w v x ns old now t
  on_end v x ns old now t o = record { first = o.found; leads = o.forth [] t whole; met = o.met }

  step_none : {v : Viewpoint} {t : RType} {n : Text} {rest : List Text} → ((y : Start) → behind w v t n ≡ Some y → (v' : Viewpoint) (met : List Key) (u : RType) → Leads w v' y [] met u → ⊥) → {later : List Key} {u : RType} → Leads w v (fixed t) (n ∷ rest) later u → ⊥
  step_none none (further x at e) = let i = in_front e in none x at i.view i.met i.type i.leads

  pub on_nothing : (v : Viewpoint) (x : Start) (ns : List Text) (old now : List Key) (t : RType) (n : Text) (rest : List Text) → Onward w v x ns old now t (n ∷ rest) → ((y : Start) → behind w v t n ≡ Some y → (v' : Viewpoint) (met : List Key) (u : RType) → Leads w v' y [] met u → ⊥) → (met : List Key) (u : RType) → Leads w v x ns met u → ⊥
  on_nothing v x ns old now t n rest o none met u d = step_none none (o.back met u d).leads

  step_wants : {v : Viewpoint} {t : RType} {n : Text} {rest : List Text} {y : Start} {k : ℕ} → behind w v t n ≡ Some y → {later : List Key} {u : RType} (d : Leads w v (fixed t) (n ∷ rest) later u) → size d ≤ k → Within w y k
  step_wants {k = k} is (further x at e) le = subst (λ (s : Start). Within w s k) (some_same (sym at ∙ is)) (wider (pred_le (size e) k le) (in_front e))

  pub on_wants : (v : Viewpoint) (x : Start) (ns : List Text) (old now : List Key) (t : RType) (n : Text) (rest : List Text) (y : Start) → Onward w v x ns old now t (n ∷ rest) → behind w v t n ≡ Some y → (met : List Key) (u : RType) (d : Leads w v x ns met u) → Within w y (size d)
  on_wants v x ns old now t n rest y o is met u d = let r = o.back met u d in step_wants is r.leads r.size_within

  -- ---- a start, and then the names

  pub chain_on : (v : Viewpoint) (x : Start) (ns : List Text) (old mid new : List Key) (s t : RType) → Added w x old mid s → Walked w v (fixed s) ns mid new t → Walked w v x ns old new t
  chain_on v x ns old mid new s t added walked = record {
    first = joined added.first walked.first;
    leads = forth_by (added.leads v) walked.leads;
    met = walked.met ∙ ap (λ (l : List Key). joined l walked.first) added.met ∙ joined_assoc old added.first walked.first;
  }

  pub chain : (v : Viewpoint) (x : Start) (ns : List Text) (old mid new : List Key) (s t : RType) (e : Entered) → Added w x old mid s → IsWalked w v (fixed s) ns e mid new t → IsWalked w v x ns e old new t
  chain v x ns old mid new s t entered.On added walked = chain_on v x ns old mid new s t added walked
  chain v x ns old mid new s t entered.Nothing added none = λ met u d. (let r = back_by (added.leads v) d in none r.later r.type r.leads)
  chain v x ns old mid new s t (entered.Wants y) added wants = λ met u d. (let r = back_by (added.leads v) d in wider r.size_within (wants r.later r.type r.leads))

  pub first_nothing : (v : Viewpoint) (x : Start) (ns : List Text) → ((v' : Viewpoint) (met : List Key) (u : RType) → Leads w v' x [] met u → ⊥) → (met : List Key) (u : RType) → Leads w v x ns met u → ⊥
  first_nothing v x ns none met u d = let i = in_front d in none i.view i.met i.type i.leads

  pub first_wants : (v : Viewpoint) (x y : Start) (ns : List Text) → x ≡ y → (met : List Key) (u : RType) (d : Leads w v x ns met u) → Within w y (size d)
  first_wants v x y ns same met u d = subst (λ (s : Start). Within w s (size d)) same (in_front d)

module _ (w : World) where
  -- ---- what is entered

  pub entered_fixed : (t u : RType) (old new : List Key) → u ≡ t → new ≡ old → Added w (fixed t) old new u
  entered_fixed t u old new same kept = subst (λ (r : RType). Added w (fixed t) old new r) (sym same) (record { first = []; leads = λ v. whole; met = kept })

  pub entered_known : (x : Start) (o : Option Meaning) (e : Entered) (old new : List Key) (t : RType) → Says w x o → IsTaken o e old new t → IsEntered w x e old new t
  entered_known x None e old new t says is = subst (λ (e : Entered). IsEntered w x e old new t) (sym is) says
  entered_known x (Some m) e old new t says is = subst (λ (e : Entered). IsEntered w x e old new t) (sym is.0) (subst (λ (u : RType). Added w x old new u) (sym is.2) (record { first = met_by m; leads = says; met = is.1 }))

  -- ---- behind a parameter

  longer : (v : Viewpoint) (i : ℕ) (ps : List Text) (n : Text) → behind w v (parameter_type i ps) n ≡ Some (fixed (parameter_type i (ps ++ n ∷ [])))
  longer v i [] n = refl
  longer v i (p ∷ ps) n = refl

  pub stepped_parameter : (v : Viewpoint) (i : ℕ) (ps : List Text) (n : Text) (old new : List Key) (u : RType) → u ≡ parameter_type i (ps ++ n ∷ []) → new ≡ old → Stepped w v (parameter_type i ps) n old new u
  stepped_parameter v i ps n old new u same kept = record { start = fixed (parameter_type i (ps ++ n ∷ [])); behind_it = longer v i ps n; added = entered_fixed (parameter_type i (ps ++ n ∷ [])) u old new same kept }

  pub stepped : (v : Viewpoint) (before : RType) (n : Text) (y : Start) (e : Entered) (old new : List Key) (u : RType) → behind w v before n ≡ Some y → IsEntered w y e old new u → IsStepped w v before n e old new u
  stepped v before n y entered.On old new u is added = record { start = y; behind_it = is; added = added }
  stepped v before n y entered.Nothing old new u is none = λ x at v' met t d. none v' met t (subst (λ (s : Start). Leads w v' s [] met t) (some_same (sym at ∙ is)) d)
  stepped v before n y (entered.Wants l) old new u is wants = is ∙ ap (λ (s : Start). Some s) wants

  pub first_entered : (v : Viewpoint) (x : Start) (ns : List Text) (e : Entered) (old new : List Key) (t : RType) → IsEntered w x e old new t → goes_on e ≡ false → IsWalked w v x ns e old new t
  first_entered v x ns entered.On old new t is not = absurd cc
  first_entered v x ns entered.Nothing old new t is not = first_nothing v x ns is
  first_entered v x ns (entered.Wants y) old new t is not = first_wants v x (start_of w y) ns is

  pub then_walked : (v : Viewpoint) (x : Start) (ns : List Text) (b e : Entered) (old mid new : List Key) (s t : RType) → IsEntered w x b old mid s → goes_on b ≡ true → IsWalked w v (fixed s) ns e mid new t → IsWalked w v x ns e old new t
  then_walked v x ns entered.On e old mid new s t is on walked = chain v x ns old mid new s t e is walked
  then_walked v x ns entered.Nothing e old mid new s t is on walked = absurd cc
  then_walked v x ns (entered.Wants y) e old mid new s t is on walked = absurd cc

  pub on_go : (v : Viewpoint) (x : Start) (ns : List Text) (e : Entered) (old now new : List Key) (t u : RType) (n : Text) (rest all : List Text) → all ≡ n ∷ rest → Onward w v x ns old now t all → IsStepped w v t n e now new u → goes_on e ≡ true → Onward w v x ns old new u rest
  on_go v x ns entered.On old now new t u n rest all same o is on = on_step v x ns old now new t u n rest is.start (subst (λ (l : List Text). Onward w v x ns old now t l) same o) is.behind_it is.added
  on_go v x ns entered.Nothing old now new t u n rest all same o is on = absurd cc
  on_go v x ns (entered.Wants y) old now new t u n rest all same o is on = absurd cc

  pub on_stop : (v : Viewpoint) (x : Start) (ns : List Text) (e : Entered) (old now new : List Key) (t u : RType) (n : Text) (rest all : List Text) → all ≡ n ∷ rest → Onward w v x ns old now t all → IsStepped w v t n e now new u → goes_on e ≡ false → IsWalked w v x ns e old new u
  on_stop v x ns entered.On old now new t u n rest all same o is off = absurd cc
  on_stop v x ns entered.Nothing old now new t u n rest all same o is off = on_nothing v x ns old now t n rest (subst (λ (l : List Text). Onward w v x ns old now t l) same o) is
  on_stop v x ns (entered.Wants y) old now new t u n rest all same o is off = on_wants v x ns old now t n rest (start_of w y) (subst (λ (l : List Text). Onward w v x ns old now t l) same o) is

  pub on_all : (v : Viewpoint) (x : Start) (ns : List Text) (old now : List Key) (t : RType) (all : List Text) → all ≡ [] → Onward w v x ns old now t all → Walked w v x ns old now t
  on_all v x ns old now t all same o = on_end v x ns old now t (subst (λ (l : List Text). Onward w v x ns old now t l) same o)

  -- ---- what is written in a scope

  same_begun : (s : Scope) (ms : List Text) (p q : Start × List Text) → beginning w s ms ≡ Some p → beginning w s ms ≡ Some q → p ≡ q
  same_begun s ms p q e f = some_same (sym e ∙ f)

  pub tried_is : (a : Option Key) (s : Scope) (ms : List Text) (x : Start) (rest : List Text) (o : Outcome) → beginning w s ms ≡ Some (x, rest) → IsOutcome w (view s) x rest (list_of a) o → IsTried w (via a s ms) o
  tried_is a s ms x rest (outcome.Means m) is walked = λ v. elsewhere x rest walked.first [] (type_of m) is walked.leads whole walked.met
  tried_is a s ms x rest outcome.Nothing is none = λ v met t d. no_lead a s ms x rest is none d
    where
      no_lead : (a : Option Key) (s : Scope) (ms : List Text) (x : Start) (rest : List Text) → beginning w s ms ≡ Some (x, rest) → ((met : List Key) (u : RType) → Leads w (view s) x rest met u → ⊥) → {v : Viewpoint} {met : List Key} {t : RType} → Leads w v (via a s ms) [] met t → ⊥
      no_lead a s ms x rest is none (elsewhere y more first later t at d e eq) =
          subst (λ (p : Start × List Text). (met : List Key) (u : RType) → Leads w (view s) p.0 p.1 met u → ⊥) (same_begun s ms (x, rest) (y, more) is at) none first t d
  tried_is a s ms x rest (outcome.Wants l) is wants = λ v met t d. want a s ms x rest is wants d
    where
      want : (a : Option Key) (s : Scope) (ms : List Text) (x : Start) (rest : List Text) → beginning w s ms ≡ Some (x, rest) → ((met : List Key) (u : RType) (d : Leads w (view s) x rest met u) → Within w (start_of w l) (size d)) → {v : Viewpoint} {met : List Key} {t : RType} (d : Leads w v (via a s ms) [] met t) → Under w (start_of w l) (size d)
      want a s ms x rest is wants (elsewhere y more first later t at d e eq) =
          let i = subst (λ (p : Start × List Text). (met : List Key) (u : RType) (d : Leads w (view s) p.0 p.1 met u) → Within w (start_of w l) (size d)) (same_begun s ms (x, rest) (y, more) is at) wants first t d in
          record { view = i.view; met = i.met; type = i.type; leads = i.leads; size_under = under_le (size i.leads) (size d) (size e) i.size_within }

  pub tried_none : (a : Option Key) (s : Scope) (ms : List Text) → beginning w s ms ≡ None → IsTried w (via a s ms) outcome.Nothing
  tried_none a s ms none = λ v met t d. no_lead d
    where
      no_lead : {v : Viewpoint} {met : List Key} {t : RType} → Leads w v (via a s ms) [] met t → ⊥
      no_lead (elsewhere y more first later t at d e eq) = absurd (let both = sym none ∙ at in cc)

  pub tried_fixed : (x : Start) (t : RType) (m : Meaning) → x ≡ fixed t → met_by m ≡ [] → type_of m ≡ t → IsTried w x (outcome.Means m)
  tried_fixed x t m is none same = λ v. subst (λ (y : Start). Leads w v y [] (met_by m) (type_of m)) (sym is) (subst (λ (ks : List Key). Leads w v (fixed t) [] ks (type_of m)) (sym none) (subst (λ (u : RType). Leads w v (fixed t) [] [] u) (sym same) whole))

  -- ---- what is written in a place

  start_kind : (d : Declaration) (a : Around) (k : Kind) → start_by d a k ≡ option_map_or (written_in d.world a (alias_by d k)) (written_by k) (fixed ty.NoValue)
  start_kind d a (de.TypeAlias i t) = refl
  start_kind d a (de.AssociatedType i ts None) = refl
  start_kind d a (de.AssociatedType i ts (Some t)) = refl
  start_kind d a (de.Function i h b) = refl
  start_kind d a (de.Initialiser h b) = refl
  start_kind d a (de.Property k i t x) = refl
  start_kind d a (de.Case i ps) = refl
  start_kind d a (de.Nominal k i ts ds) = refl
  start_kind d a (de.Extension t ts ds) = refl

  pub nothing_there : (l : Located) (m : Meaning) → None ≡ slice_get (declarations w) l.number → met_by m ≡ [] → type_of m ≡ ty.NoValue → IsTried w (start_of w l) (outcome.Means m)
  unfolding start_of
  nothing_there l m none met is = tried_fixed (start_at w (around_of l.around) l.number) ty.NoValue m (ap (λ (o : Option Declaration). option_map_or (start_in (around_of l.around)) o (fixed ty.NoValue)) (sym none)) met is

  start_here : (l : Located) (d : Declaration) → Some d ≡ slice_get (declarations w) l.number → start_of w l ≡ start_by d (around_of l.around) d.entry.kind
  unfolding start_of
  start_here l d at = ap (λ (o : Option Declaration). option_map_or (start_in (around_of l.around)) o (fixed ty.NoValue)) (sym at)

  alias_here : (l : Located) (d : Declaration) → Some d ≡ slice_get (declarations w) l.number → alias_at w l.number ≡ alias_by d d.entry.kind
  alias_here l d at = ap (λ (o : Option Declaration). option_and_then (λ (e : Declaration). alias_by e e.entry.kind) o) (sym at)

  pub unwritten : (l : Located) (d : Declaration) (m : Meaning) → Some d ≡ slice_get (declarations w) l.number → None ≡ written_by d.entry.kind → met_by m ≡ [] → type_of m ≡ ty.NoValue → IsTried w (start_of w l) (outcome.Means m)
  unwritten l d m at none met is = tried_fixed (start_of w l) ty.NoValue m (start_here l d at ∙ start_kind d (around_of l.around) d.entry.kind ∙ ap (λ (o : Option TypeName). option_map_or (written_in d.world (around_of l.around) (alias_by d d.entry.kind)) o (fixed ty.NoValue)) (sym none)) met is

  pub written_there : (l : Located) (d : Declaration) (t : TypeName) (a : Option Key) (o : Outcome) → Some d ≡ slice_get (declarations w) l.number → Some t ≡ written_by d.entry.kind → a ≡ alias_at w l.number → IsTried w (written_in d.world (around_of l.around) a t) o → IsTried w (start_of w l) o
  written_there l d t a o at is same tried =
      let here : start_of w l ≡ written_in d.world (around_of l.around) a t =
      start_here l d at ∙ start_kind d (around_of l.around) d.entry.kind
      ∙ ap (λ (o : Option TypeName). option_map_or (written_in d.world (around_of l.around) (alias_by d d.entry.kind)) o (fixed ty.NoValue)) (sym is)
      ∙ ap (λ (b : Option Key). written_in d.world (around_of l.around) b t) (sym (same ∙ alias_here l d at)) in
      subst (λ (x : Start). IsTried w x o) (sym here) tried

  pub entered_start : (x : Start) (t : RType) (old new : List Key) → x ≡ fixed t → new ≡ old → Added w x old new t
  entered_start x t old new same kept = subst (λ (y : Start). Added w y old new t) (sym same) (record { first = []; leads = λ v. whole; met = kept })

  pub stepped_head : (v : Viewpoint) (h : TypeHead) (i : ℕ) (ps more : List Text) (n : Text) (old : List Key) → h ≡ head.Parameter i → more ≡ ps ++ n ∷ [] → Stepped w v (type_view h ps) n old old (type_view h more)
  stepped_head v h i ps more n old is same =
      subst (λ (x : TypeHead). Stepped w v (type_view x ps) n old old (type_view x more)) (sym is) (stepped_parameter v i ps n old old (parameter_type i more) (ap (parameter_type i) same) refl)

  pub begun_is : (o : Option Begun) (b : Begun) (all : Option (Start × List Text)) → o ≡ Some b → option_map (beginning_view w) o ≡ all → all ≡ Some (beginning_view w b)
  begun_is o b all is same = sym same ∙ ap (option_map (beginning_view w)) is
