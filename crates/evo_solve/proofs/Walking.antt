-- Which paths lead to which class: a path leads to one at most, equal paths to the same, and paths that lead to one class are equal.
use Rattle.std.proofs.Common.{◌≡◌, ℕ, zero, suc, ◌<◌, List, [], ◌∷◌, ◌++◌, length, Some, slice_get, refl, sym, ◌∙◌, subst, arith, append_assoc}
use Rattle.std.proofs.lemmas.List.{append-nil}
use Rattle.evo_resolved.specs.declared.resolved_type.RType.{RType}
use Rattle.evo_resolved.specs.declared.declaration.RRequirement.{RRequirement}
use Rattle.evo_names.specs.Listed.{Text}
use Rattle.evo_solve.specs.declared.path.Path.{Path}
use Rattle.evo_solve.specs.declared.universe.Node.{Node}
use Rattle.evo_solve.specs.declared.universe.Origin.{Origin}
use Rattle.evo_solve.specs.declared.universe.Origin.TheVariants.{Root, Taken}
use Rattle.evo_solve.specs.Equal.{Equal, held, same, turned, joined, member, taken, behind, path_of}
use Rattle.evo_solve.specs.Universe.{Grown, HasPath, Linked, LinkedBy, RootAt, Child, Walks, Has, IsSolved, rep}
use Rattle.evo_solve.proofs.Lists.{below_length}
use Rattle.evo_solve.proofs.Growing.{path_eq}
use Rattle.evo_solve.proofs.Closing.{rooted, branched, same_node}

module _ (nodes : List Node) (reps : List ℕ) where
  pub walks_taken : (ns : List Text) (c : ℕ) (n : Text) (d e : ℕ) → Walks nodes reps c ns d → Child nodes reps d n e → Walks nodes reps c (ns ++ n ∷ []) e
  walks_taken [] c n d e w h = (e, subst (λ z. Child nodes reps z n e) (sym w) h, refl)
  walks_taken (m ∷ ms) c n d e w h = (w.0, w.1, walks_taken ms w.0 n d e w.2 h)

  pub walks_back : (ns : List Text) (c : ℕ) (n : Text) (e : ℕ) → Walks nodes reps c (ns ++ n ∷ []) e → (d : ℕ) × Walks nodes reps c ns d × Child nodes reps d n e
  walks_back [] c n e w = (c, refl, subst (λ z. Child nodes reps c n z) w.2 w.1)
  walks_back (m ∷ ms) c n e w = let b = walks_back ms w.0 n e w.2 in (b.0, (w.0, w.1, b.1), b.2)

  pub has_taken : (p : Path) (n : Text) (d e : ℕ) → Has nodes reps p d → Child nodes reps d n e → Has nodes reps (taken p n) e
  has_taken p n d e h c = (h.0, h.1, walks_taken p.names h.0 n d e h.2 c)

  pub has_back : (p : Path) (n : Text) (e : ℕ) → Has nodes reps (taken p n) e → (d : ℕ) × Has nodes reps p d × Child nodes reps d n e
  has_back p n e h = let b = walks_back p.names h.0 n e h.2 in (b.0, (h.0, h.1, b.1), b.2)

module _ (nodes : List Node) (reps : List ℕ) (size : length reps ≡ length nodes) (grown : Grown nodes) (linked : (i j : ℕ) (x y : Node) → slice_get nodes i ≡ Some x → slice_get nodes j ≡ Some y → Linked reps x y → rep reps i ≡ rep reps j) where
  pub root_one : (t : RType) (c d : ℕ) → RootAt nodes reps t c → RootAt nodes reps t d → c ≡ d
  root_one t c d a b =
      let l : Linked reps a.1 b.1 = subst (λ o. LinkedBy reps a.1 b.1 o b.1.origin) (sym a.3) (subst (λ o. LinkedBy reps a.1 b.1 Root o) (sym b.3) (a.4 ∙ sym b.4)) in
      sym a.5 ∙ linked a.0 b.0 a.1 b.1 a.2 b.2 l ∙ b.5

  pub child_one : (c : ℕ) (n : Text) (d e : ℕ) → Child nodes reps c n d → Child nodes reps c n e → d ≡ e
  child_one c n d e a b =
      let s = branched nodes grown a.0 a.2 n a.1 a.3 a.4 in
      let t = branched nodes grown b.0 b.2 n b.1 b.3 b.4 in
      let less_s : a.2 < length reps = (let k = below_length nodes a.2 s.0 s.1 in omega arith) in
      let less_t : b.2 < length reps = (let k = below_length nodes b.2 t.0 t.1 in omega arith) in
      let l : Linked reps a.1 b.1 = subst (λ o. LinkedBy reps a.1 b.1 o b.1.origin) (sym a.4) (subst (λ o. LinkedBy reps a.1 b.1 (Taken a.2 n) o) (sym b.4) (less_s, less_t, a.5 ∙ sym b.5, refl)) in
      sym a.6 ∙ linked a.0 b.0 a.1 b.1 a.3 b.3 l ∙ b.6

  walks_one : (ns : List Text) (c d e : ℕ) → Walks nodes reps c ns d → Walks nodes reps c ns e → d ≡ e
  walks_one [] c d e a b = sym a ∙ b
  walks_one (n ∷ ns) c d e a b =
      let same_next = child_one c n a.0 b.0 a.1 b.1 in
      walks_one ns b.0 d e (subst (λ z. Walks nodes reps z ns d) same_next a.2) b.2

  -- a path leads to one class
  pub has_one : (p : Path) (c d : ℕ) → Has nodes reps p c → Has nodes reps p d → c ≡ d
  has_one p c d a b = walks_one p.names b.0 c d (subst (λ z. Walks nodes reps z p.names c) (root_one p.first a.0 b.0 a.1 b.1) a.2) b.2

  -- a node's path leads to its class
  node_has : (b i : ℕ) (x : Node) → i < b → slice_get nodes i ≡ Some x → Has nodes reps x.path (rep reps i)
  node_has zero i x below at = absurd (omega arith)
  node_has (suc b) i x below at = go x.origin refl (λ p y less. node_has b p y less)
    where
      go : (o : Origin) → x.origin ≡ o → ((p : ℕ) (y : Node) → p < b → slice_get nodes p ≡ Some y → Has nodes reps y.path (rep reps p)) → Has nodes reps x.path (rep reps i)
      go Root is more =
          let e = rooted nodes grown i x at is in
          (rep reps i, (i, x, at, is, refl, refl), subst (λ ns. Walks nodes reps (rep reps i) ns (rep reps i)) (sym e) refl)
      go (Taken p n) is more =
          let s = branched nodes grown i p n x at is in
          subst (λ q. Has nodes reps q (rep reps i)) (sym s.2) (has_taken nodes reps s.0.path n (rep reps p) (rep reps i) (more p s.0 (let h = s.3 in omega arith) s.1) (i, x, p, at, is, refl, refl))

  pub has_node : (i : ℕ) (x : Node) → slice_get nodes i ≡ Some x → Has nodes reps x.path (rep reps i)
  has_node i x at = node_has (suc i) i x (omega arith) at

module _ (written : List RRequirement) (nodes : List Node) (reps : List ℕ) (solved : IsSolved written nodes reps) where
  abbrev pub Together : Path → Path → Type 0
  Together p q = ((c : ℕ) → Has nodes reps p c → Has nodes reps q c) × ((c : ℕ) → Has nodes reps q c → Has nodes reps p c)

  sides : (p q : Path) (i j : ℕ) → HasPath nodes i p → HasPath nodes j q → rep reps i ≡ rep reps j → (c : ℕ) → Has nodes reps p c → Has nodes reps q c
  sides p q i j a b e c h =
      let one : Has nodes reps p (rep reps i) = subst (λ z. Has nodes reps z (rep reps i)) a.2 (has_node nodes reps solved.size solved.grown solved.linked i a.0 a.1) in
      let other : Has nodes reps q (rep reps j) = subst (λ z. Has nodes reps z (rep reps j)) b.2 (has_node nodes reps solved.size solved.grown solved.linked j b.0 b.1) in
      let at : rep reps j ≡ c = sym e ∙ has_one nodes reps solved.size solved.grown solved.linked p (rep reps i) c one h in
      subst (λ z. Has nodes reps q z) at other

  taken_too : (p q : Path) (n : Text) → ((c : ℕ) → Has nodes reps p c → Has nodes reps q c) → (c : ℕ) → Has nodes reps (taken p n) c → Has nodes reps (taken q n) c
  taken_too p q n f c h = let b = has_back nodes reps p n c h in has_taken nodes reps q n b.0 c (f b.0 b.1) b.2

  -- equal paths lead to one class
  pub equal_has : {p q : Path} → Equal written p q → Together p q
  equal_has (held k l place r at) =
      let h = solved.held k l place r at in
      (sides (path_of l.ty) (path_of r.ty) h.0 h.1 h.2 h.3 h.4, sides (path_of r.ty) (path_of l.ty) h.1 h.0 h.3 h.2 (sym h.4))
  equal_has same = (λ c h. h, λ c h. h)
  equal_has (turned d) = let t = equal_has d in (t.1, t.0)
  equal_has (joined d e) = let t = equal_has d in let u = equal_has e in (λ c h. u.0 c (t.0 c h), λ c h. t.1 c (u.1 c h))
  equal_has (member {p} {q} n d) = let t = equal_has d in (taken_too p q n t.0, taken_too q p n t.1)

  -- from the node of a class, names lead to the node of another
  walks_equal : (ns : List Text) (p : Path) (c d : ℕ) (x : Node) → slice_get nodes c ≡ Some x → Equal written p x.path → Walks nodes reps c ns d → (y : Node) × (slice_get nodes d ≡ Some y) × Equal written (behind p ns) y.path
  walks_equal [] p c d x at e w = (x, subst (λ z. slice_get nodes z ≡ Some x) w at, subst (λ z. Equal written z x.path) (sym (path_eq (behind p []) p refl (append-nil p.names))) e)
  walks_equal (n ∷ ns) p c d x at e w =
      let h = w.1 in
      let s = branched nodes solved.grown h.0 h.2 n h.1 h.3 h.4 in
      let above = solved.sound.each h.2 s.0 s.1 in
      let u_x : above.0 ≡ x = same_node nodes c above.0 x (subst (λ z. slice_get nodes z ≡ Some above.0) h.5 above.1) at in
      let parent : Equal written p s.0.path = joined e (subst (λ z. Equal written z.path s.0.path) u_x (turned above.2)) in
      let here : Equal written (taken p n) h.1.path = subst (λ z. Equal written (taken p n) z) (sym s.2) (member n parent) in
      let r = solved.sound.each h.0 h.1 h.3 in
      let next = walks_equal ns (taken p n) w.0 d r.0 (subst (λ z. slice_get nodes z ≡ Some r.0) h.6 r.1) (joined here r.2) w.2 in
      (next.0, next.1, subst (λ z. Equal written z next.0.path) (path_eq (behind (taken p n) ns) (behind p (n ∷ ns)) refl (append_assoc p.names (n ∷ []) ns)) next.2)

  has_equal : (p : Path) (c : ℕ) → Has nodes reps p c → (y : Node) × (slice_get nodes c ≡ Some y) × Equal written p y.path
  has_equal p c h =
      let r = h.1 in
      let e = rooted nodes solved.grown r.0 r.1 r.2 r.3 in
      let root : Path = record { first = p.first; names = [] } in
      let is : r.1.path ≡ root = path_eq r.1.path root r.4 e in
      let s = solved.sound.each r.0 r.1 r.2 in
      walks_equal p.names root h.0 c s.0 (subst (λ z. slice_get nodes z ≡ Some s.0) r.5 s.1) (subst (λ z. Equal written z s.0.path) is s.2) h.2

  -- paths that lead to one class are equal
  pub both_equal : (p q : Path) (c : ℕ) → Has nodes reps p c → Has nodes reps q c → Equal written p q
  both_equal p q c a b =
      let s = has_equal p c a in
      let t = has_equal q c b in
      joined s.2 (subst (λ z. Equal written z.path q) (same_node nodes c t.0 s.0 t.1 s.1) (turned t.2))

  pub path_has : (i : ℕ) (p : Path) → HasPath nodes i p → Has nodes reps p (rep reps i)
  path_has i p h = subst (λ z. Has nodes reps z (rep reps i)) h.2 (has_node nodes reps solved.size solved.grown solved.linked i h.0 h.1)
