-- The type that stands for a class.
use Rattle.std.proofs.Common.{◌≡◌, ℕ, zero, suc, ◌<◌, ◌≤◌, List, [], ◌∷◌, length, take, Option, Some, None, Result, Ok, Err, IfOk, slice_get, ◌⊎◌, inl, inr, refl, sym, ◌∙◌, ap, subst, arith}
use Rattle.evo_resolved.specs.declared.resolved_type.RType.{RType}
use Rattle.evo_resolved.specs.declared.resolved_type.RType.TheVariants as ty
use Rattle.evo_resolved.specs.declared.declaration.RRequirement.{RRequirement}
use Rattle.evo_names.specs.Listed.{Text}
use Rattle.evo_solve.specs.declared.path.Path.{Path}
use Rattle.evo_solve.specs.declared.universe.Node.{Node}
use Rattle.evo_solve.specs.Equal.{Equal, held, same, turned, joined, member, taken, alone, parameter, path_of}
use Rattle.evo_solve.specs.Canonical.{IsNamed, IsFormed, IsCanonical, IsConsistent, NotAfter, number}
use Rattle.evo_solve.specs.Universe.{HasPath, InRange, RootAt, Has, IsSolved, Sound, Least, best_of, rep, type_by, type_of, Agree, Alike}
use Rattle.evo_solve.proofs.Lists.{below_length, take_all}
use Rattle.evo_solve.proofs.Growing.{path_eq}
use Rattle.evo_solve.proofs.Walking.{equal_has, both_equal, path_has}
use Rattle.evo_solve.proofs.Ordered.{not_longer, shorter, paths_same}

pub in_range : (written : List RRequirement) (nodes : List Node) (reps : List ℕ) → IsSolved written nodes reps → InRange nodes reps
in_range written nodes reps solved = record {
  size = solved.size;
  grown = solved.grown;
  inside = λ i less. go i (at_place nodes i less);
  linked = solved.linked;
}
  where
    at_place : (xs : List Node) (i : ℕ) → i < length xs → (x : Node) × (slice_get xs i ≡ Some x)
    at_place [] i inside = absurd (omega arith)
    at_place (x ∷ xs) zero inside = (x, refl)
    at_place (x ∷ xs) (suc i) inside = at_place xs i (omega arith)

    go : (i : ℕ) → (x : Node) × (slice_get nodes i ≡ Some x) → rep reps i < length nodes
    go i x = let s = solved.sound.each i x.0 x.1 in below_length nodes (rep reps i) s.0 s.1

pub solved_given : (written : List RRequirement) (nodes given : List Node) (reps given_reps : List ℕ) → given ≡ nodes → given_reps ≡ reps → IsSolved written nodes reps → IsSolved written given given_reps
solved_given written nodes given reps given_reps e f solved = subst (λ l. IsSolved written l given_reps) (sym e) (subst (IsSolved written nodes) (sym f) solved)

pub has_given : (nodes given : List Node) (i : ℕ) (p : Path) → given ≡ nodes → HasPath nodes i p → HasPath given i p
has_given nodes given i p e has = subst (λ l. HasPath l i p) (sym e) has

pub ok_map : {A E : Type 0} (r : Result A E) (P Q : A → Type 0) → ((x : A) → P x → Q x) → IfOk r P → IfOk r Q
ok_map (Ok x) P Q f p = f x p
ok_map (Err e) P Q f p = tt

named_path : (t : RType) → IsNamed t → path_of t ≡ alone t
named_path (ty.Named k) n = refl
named_path ty.NoValue n = refl
named_path (ty.Param i) n = absurd n
named_path (ty.Assoc i ns) n = absurd n

named_formed : (t : RType) → IsNamed t → IsFormed t
named_formed (ty.Named k) n = tt
named_formed ty.NoValue n = tt
named_formed (ty.Param i) n = absurd n
named_formed (ty.Assoc i ns) n = absurd n

-- a type is a named one, or a path over a parameter
named_or : (t : RType) → IsNamed t ⊎ ((i : ℕ) × (ns : List Text) × (path_of t ≡ parameter i ns))
named_or (ty.Named k) = inl tt
named_or ty.NoValue = inl tt
named_or (ty.Param i) = inr (i, [], refl)
named_or (ty.Assoc i ns) = inr (i, ns, refl)

path_type : (t : RType) (ns : List Text) (i : ℕ) → t ≡ ty.Param i → path_of (type_by t ns) ≡ parameter i ns
path_type t ns i e = ap (λ z. path_of (type_by z ns)) e ∙ go ns
  where
    go : (ns : List Text) → path_of (type_by (ty.Param i) ns) ≡ parameter i ns
    go [] = refl
    go (n ∷ ns) = refl

formed_type : (t : RType) (ns : List Text) (i : ℕ) → t ≡ ty.Param i → IsFormed (type_by t ns)
formed_type t ns i e = subst (λ z. IsFormed (type_by z ns)) (sym e) (go ns)
  where
    go : (ns : List Text) → IsFormed (type_by (ty.Param i) ns)
    go [] = tt
    go (n ∷ ns) = tt

module _ (written : List RRequirement) (nodes : List Node) (reps : List ℕ) (solved : IsSolved written nodes reps) (t : RType) (n : ℕ) (has : HasPath nodes n (path_of t)) where
  here : Has nodes reps (path_of t) (rep reps n)
  here = path_has written nodes reps solved n (path_of t) has

  root_has : (u : RType) (c : ℕ) → RootAt nodes reps u c → Has nodes reps (alone u) c
  root_has u c r = (c, r, refl)

  has_root : (u : RType) (c : ℕ) → Has nodes reps (alone u) c → RootAt nodes reps u c
  has_root u c h = subst (RootAt nodes reps u) h.2 h.1

  pub class_in : (bests : List (Option Path)) → length bests ≡ length nodes → rep reps n < length bests
  class_in bests size = let inside = (in_range written nodes reps solved).inside n (below_length nodes n has.0 has.1) in omega arith

  pub named_canonical : IsConsistent written → (u : RType) → IsNamed u → RootAt nodes reps u (rep reps n) → IsCanonical written t u
  named_canonical consistent u is_named root =
      let e : Equal written (path_of t) (alone u) = both_equal written nodes reps solved (path_of t) (alone u) (rep reps n) here (root_has u (rep reps n) root) in
      record {
        equal = subst (Equal written (path_of t)) (sym (named_path u is_named)) e;
        formed = named_formed u is_named;
        named = λ v is_named_v d. consistent u v is_named is_named_v (joined (turned e) d);
        first = λ i ns d. inl is_named;
      }

  module _ (unnamed : (u : RType) → IsNamed u → RootAt nodes reps u (rep reps n) → ⊥) (bests : List (Option Path)) (k : ℕ) (enough : length (path_of t).names < k) (least : Least nodes reps k bests) (sound : Sound nodes reps bests) where
    over : (i : ℕ) × (ns : List Text) × (path_of t ≡ parameter i ns)
    over = elim (named_or t) [ inl is ↦ absurd (unnamed t is (has_root t (rep reps n) (subst (λ p. Has nodes reps p (rep reps n)) (named_path t is) here))) | inr o ↦ o ]

    best : (d : Path) × (best_of bests (rep reps n) ≡ Some d) × NotAfter d (path_of t)
    best =
        let e = over.2 in
        let i = least over.0 over.1 (rep reps n) (subst (λ p. length p.names < k) e enough) (subst (λ p. Has nodes reps p (rep reps n)) e here) in
        (i.0, i.1, subst (NotAfter i.0) (sym e) i.2)

    pub is_some_path : best_of bests (rep reps n) ≡ None → ⊥
    is_some_path e = let b = best.1 in cc (b, e)

    pub path_canonical : (b : Path) → best_of bests (rep reps n) ≡ Some b → IsCanonical written t (type_of b)
    path_canonical b at =
        let o = sound.over (rep reps n) b at in
        let is_path : path_of (type_of b) ≡ b = path_type b.first b.names o.0 o.1 ∙ sym (path_eq b (parameter o.0 b.names) o.1 refl) in
        record {
          equal = subst (Equal written (path_of t)) (sym is_path) (both_equal written nodes reps solved (path_of t) b (rep reps n) here (sound.has (rep reps n) b at));
          formed = formed_type b.first b.names o.0 o.1;
          named = λ u is d. absurd (unnamed u is (has_root u (rep reps n) ((equal_has written nodes reps solved d).0 (rep reps n) here)));
          first = λ i ns d. inr (subst (λ p. NotAfter p (parameter i ns)) (sym is_path) (go i ns d (less_or_more (length ns) k)));
        }
      where
        less_or_more : (a b : ℕ) → (a < b) ⊎ (b ≤ a)
        less_or_more a zero = inr (omega arith)
        less_or_more zero (suc b) = inl (omega arith)
        less_or_more (suc a) (suc b) = elim (less_or_more a b) [ inl h ↦ inl (omega arith) | inr h ↦ inr (omega arith) ]

        go : (i : ℕ) (ns : List Text) → Equal written (path_of t) (parameter i ns) → (length ns < k) ⊎ (k ≤ length ns) → NotAfter b (parameter i ns)
        go i ns d (inl less) =
            let j = least i ns (rep reps n) less ((equal_has written nodes reps solved d).0 (rep reps n) here) in
            let same : j.0 ≡ b = (let a = j.1 in cc (a, at)) in
            subst (λ z. NotAfter z (parameter i ns)) same j.2
        go i ns d (inr more) =
            let d_b : best.0 ≡ b = (let a = best.1 in cc (a, at)) in
            let low = not_longer b (path_of t) (subst (λ z. NotAfter z (path_of t)) d_b best.2) in
            shorter b (parameter i ns) (bounded (length b.names) (length (path_of t).names) (length ns) low (omega arith))
          where
            bounded : (x y z : ℕ) → (y < x → ⊥) → y < z → x < z
            bounded x y z no_more less = omega arith

-- ---- equal types have one canonical type

param_same : (t u : RType) → (IsNamed t → ⊥) → (IsNamed u → ⊥) → IsFormed t → IsFormed u → number (path_of t).first ≡ number (path_of u).first → (path_of t).names ≡ (path_of u).names → t ≡ u
param_same (ty.Named k) u a b f g e h = absurd (a tt)
param_same ty.NoValue u a b f g e h = absurd (a tt)
param_same t (ty.Named k) a b f g e h = absurd (b tt)
param_same t ty.NoValue a b f g e h = absurd (b tt)
param_same (ty.Param i) (ty.Param j) a b f g e h = ap ty.Param e
param_same (ty.Param i) (ty.Assoc j []) a b f g e h = absurd g
param_same (ty.Param i) (ty.Assoc j (n ∷ ns)) a b f g e h = absurd (cc h)
param_same (ty.Assoc i []) (ty.Param j) a b f g e h = absurd f
param_same (ty.Assoc i (n ∷ ns)) (ty.Param j) a b f g e h = absurd (cc h)
param_same (ty.Assoc i ns) (ty.Assoc j ms) a b f g e h = cc

pub one_canonical : (written : List RRequirement) (a b x y : RType) → Equal written (path_of a) (path_of b) → IsCanonical written a x → IsCanonical written b y → x ≡ y
one_canonical written a b x y e c d = go (named_or x) (named_or y)
  where
    to_y : Equal written (path_of a) (path_of y)
    to_y = joined e d.equal

    to_x : Equal written (path_of b) (path_of x)
    to_x = joined (turned e) c.equal

    at_x : IsNamed x → x ≡ y
    at_x is = sym (d.named x is (subst (Equal written (path_of b)) (named_path x is) to_x))

    at_y : IsNamed y → x ≡ y
    at_y is = c.named y is (subst (Equal written (path_of a)) (named_path y is) to_y)

    go : IsNamed x ⊎ ((i : ℕ) × (ns : List Text) × (path_of x ≡ parameter i ns)) → IsNamed y ⊎ ((i : ℕ) × (ns : List Text) × (path_of y ≡ parameter i ns)) → x ≡ y
    go (inl is) other = at_x is
    go one (inl is) = at_y is
    go (inr p) (inr q) = by (c.first q.0 q.1 (subst (Equal written (path_of a)) q.2 to_y)) (d.first p.0 p.1 (subst (Equal written (path_of b)) p.2 to_x))
      where
        by : IsNamed x ⊎ NotAfter (path_of x) (parameter q.0 q.1) → IsNamed y ⊎ NotAfter (path_of y) (parameter p.0 p.1) → x ≡ y
        by (inl is) other = at_x is
        by one (inl is) = at_y is
        by (inr m) (inr n) =
            let s = paths_same (path_of x) (path_of y) (subst (NotAfter (path_of x)) (sym q.2) m) (subst (NotAfter (path_of y)) (sym p.2) n) in
            param_same x y (not_named x p) (not_named y q) c.formed d.formed s.0 s.1
          where
            not_named : (t : RType) → ((i : ℕ) × (ns : List Text) × (path_of t ≡ parameter i ns)) → IsNamed t → ⊥
            not_named (ty.Named k) p is = let e = ap (λ (z : Path). z.first) p.2 in cc e
            not_named ty.NoValue p is = let e = ap (λ (z : Path). z.first) p.2 in cc e
            not_named (ty.Param i) p is = is
            not_named (ty.Assoc i ns) p is = is

-- ---- conflicts

module _ (written : List RRequirement) (nodes : List Node) (reps : List ℕ) (solved : IsSolved written nodes reps) where
  -- two equal paths are one, or begin with types of the universe
  rooted_or : {p q : Path} → Equal written p q → (p ≡ q) ⊎ (((c : ℕ) × RootAt nodes reps p.first c) × ((d : ℕ) × RootAt nodes reps q.first d))
  rooted_or (held k l place r at) =
      let h = solved.held k l place r at in
      let a = path_has written nodes reps solved h.0 (path_of l.ty) h.2 in
      let b = path_has written nodes reps solved h.1 (path_of r.ty) h.3 in
      inr ((a.0, a.1), (b.0, b.1))
  rooted_or same = inl refl
  rooted_or (turned d) = elim (rooted_or d) [ inl e ↦ inl (sym e) | inr h ↦ inr (h.1, h.0) ]
  rooted_or (joined {p} {q} {r} d e) = go (rooted_or d) (rooted_or e)
    where
      go : (p ≡ q) ⊎ (((c : ℕ) × RootAt nodes reps p.first c) × ((d : ℕ) × RootAt nodes reps q.first d)) → (q ≡ r) ⊎ (((c : ℕ) × RootAt nodes reps q.first c) × ((d : ℕ) × RootAt nodes reps r.first d)) → (p ≡ r) ⊎ (((c : ℕ) × RootAt nodes reps p.first c) × ((d : ℕ) × RootAt nodes reps r.first d))
      go (inl a) (inl b) = inl (a ∙ b)
      go (inl a) (inr h) = inr (subst (λ (z : Path). (c : ℕ) × RootAt nodes reps z.first c) (sym a) h.0, h.1)
      go (inr h) (inl b) = inr (h.0, subst (λ (z : Path). (c : ℕ) × RootAt nodes reps z.first c) b h.1)
      go (inr h) (inr k) = inr (h.0, k.1)
  rooted_or (member {p} {q} n d) = elim (rooted_or d) [ inl e ↦ inl (ap (λ z. taken z n) e) | inr h ↦ inr h ]

  pub consistent_from : Agree nodes reps → IsConsistent written
  consistent_from agree t u is_t is_u d = go (rooted_or d)
    where
      go : (alone t ≡ alone u) ⊎ (((c : ℕ) × RootAt nodes reps t c) × ((d : ℕ) × RootAt nodes reps u d)) → t ≡ u
      go (inl e) = ap (λ (z : Path). z.first) e
      go (inr h) =
          let has = (equal_has written nodes reps solved d).0 h.0.0 (h.0.0, h.0.1, refl) in
          agree t u h.0.0 is_t is_u h.0.1 (subst (RootAt nodes reps u) has.2 has.1)

  pub agree_from : IsConsistent written → Agree nodes reps
  agree_from consistent t u c is_t is_u a b = consistent t u is_t is_u (both_equal written nodes reps solved (alone t) (alone u) c (c, a, refl) (c, b, refl))

none_equal : {p q : Path} → Equal [] p q → p ≡ q
none_equal (held k l place r at) = absurd (cc at)
none_equal same = refl
none_equal (turned d) = sym (none_equal d)
none_equal (joined d e) = none_equal d ∙ none_equal e
none_equal (member n d) = ap (λ z. taken z n) (none_equal d)

pub consistent_none : IsConsistent []
consistent_none t u is_t is_u d = ap (λ (z : Path). z.first) (none_equal d)

pub consistent_all : (written given : List RRequirement) (n : ℕ) → given ≡ written → n ≡ length given → IsConsistent (take n given) → IsConsistent written
consistent_all written given n e size c = subst IsConsistent (ap (λ k. take k given) size ∙ take_all given ∙ e) c

pub agree_couples : (nodes : List Node) (reps : List ℕ) → ((k m : ℕ) (x y : Node) → slice_get nodes k ≡ Some x → slice_get nodes m ≡ Some y → rep reps k ≡ rep reps m → Alike x y) → Agree nodes reps
agree_couples nodes reps couples t u c is_t is_u a b =
    sym a.4 ∙ couples a.0 b.0 a.1 b.1 a.2 b.2 (a.5 ∙ sym b.5) (a.3, subst IsNamed (sym a.4) is_t) (b.3, subst IsNamed (sym b.4) is_u) ∙ b.4

pub couple_apart : (nodes : List Node) (reps : List ℕ) (i j : ℕ) (x y : Node) → slice_get nodes i ≡ Some x → slice_get nodes j ≡ Some y → rep reps i ≡ rep reps j → Agree nodes reps → Alike x y
couple_apart nodes reps i j x y at_x at_y one agree nx ny = agree x.path.first y.path.first (rep reps i) nx.1 ny.1 (i, x, at_x, nx.0, refl, refl) (j, y, at_y, ny.0, refl, sym one)
