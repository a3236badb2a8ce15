-- A type has at most one first path.
use Rattle.std.proofs.Common.{◌≡◌, ℕ, List, [], ◌∷◌, length, Some, slice_get, inl, inr, refl, sym, ◌∙◌, ap, subst, arith}
use Rattle.evo_base.specs.declared.key.Key.{Key}
use Rattle.evo_resolved.specs.declared.path.ConfPath.{ConfPath}
use Rattle.evo_resolved.specs.declared.path.ConfStart.{ConfStart}
use Rattle.evo_resolved.specs.declared.path.ConfStart.TheVariants as conf
use Rattle.evo_solve.specs.declared.path.Path.{Path}
use Rattle.evo_solve.specs.declared.path.Word.{Word}
use Rattle.evo_solve.specs.declared.declarations.Subtable.{Subtable}
use Rattle.evo_solve.specs.declared.declarations.Protocol.{Protocol}
use Rattle.evo_solve.specs.declared.declarations.DeclaredConformance.{DeclaredConformance}
use Rattle.evo_solve.specs.Words.{table_words}
use Rattle.evo_solve.specs.Equal.{path_of}
use Rattle.evo_solve.specs.Ways.{IsNumber, Leads, stays, goes, Starts, by_word, by_declaration, Route, Goal, NotAfter, IsFirstPath, Lex}
use Rattle.evo_solve.proofs.Lists.{below_length}
use Rattle.evo_solve.proofs.Founding.{number_one}

lex_one : (xs ys : List ℕ) → length xs ≡ length ys → Lex xs ys → Lex ys xs → xs ≡ ys
lex_one [] [] e a b = refl
lex_one [] (y ∷ ys) e a b = absurd (omega arith)
lex_one (x ∷ xs) [] e a b = absurd (omega arith)
lex_one (x ∷ xs) (y ∷ ys) e (inl a) (inl b) = absurd (omega arith)
lex_one (x ∷ xs) (y ∷ ys) e (inl a) (inr b) = absurd (let c = b.0 in omega arith)
lex_one (x ∷ xs) (y ∷ ys) e (inr a) (inl b) = absurd (let c = a.0 in omega arith)
lex_one (x ∷ xs) (y ∷ ys) e (inr a) (inr b) = let tail = lex_one xs ys (omega arith) a.1 b.1 in let head = a.0 in cc

one_route : (p q : Route) → NotAfter p q → NotAfter q p → (p.start ≡ q.start) × (p.steps ≡ q.steps)
one_route p q (inl a) (inl b) = absurd (omega arith)
one_route p q (inl a) (inr b) = absurd (let c = b.0 in omega arith)
one_route p q (inr a) (inl b) = absurd (let c = a.0 in omega arith)
one_route p q (inr a) (inr b) = let e = lex_one (p.start ∷ p.steps) (q.start ∷ q.steps) (let c = a.0 in omega arith) a.1 b.1 in (cc e, cc e)

one_start : (words : List Word) (declared : List DeclaredConformance) {i j : ℕ} {s t : ConfStart} {p q : Path} {k l : Key} → Starts words declared i s p k → Starts words declared j t q l → i ≡ j → (s ≡ t) × (p ≡ q) × (k ≡ l)
one_start words declared (by_word {i} w at_w) (by_word {i = j} v at_v) e =
    let w_v : w ≡ v = (let a = subst (λ z. slice_get words z ≡ Some w) e at_w in cc (a, at_v)) in
    (ap conf.Required e, ap (λ (z : Word). path_of z.subject) w_v, ap (λ (z : Word). z.protocol) w_v)
one_start words declared (by_word {i} w at_w) (by_declaration {n} j d at_d is) e = absurd (let l = below_length words i w at_w in omega arith)
one_start words declared (by_declaration {n} i d at_d is) (by_word {i = j} w at_w) e = absurd (let l = below_length words j w at_w in omega arith)
one_start words declared (by_declaration {n = m} i d at_d is_m) (by_declaration {n = n} j f at_f is_n) e =
    let i_j : i ≡ j = omega arith in
    let d_f : d ≡ f = (let a = subst (λ z. slice_get declared z ≡ Some d) i_j at_d in cc (a, at_f)) in
    (ap (λ (z : DeclaredConformance). conf.Declared z.key) d_f, ap (λ (z : DeclaredConformance). path_of z.conformer) d_f, ap (λ (z : DeclaredConformance). z.protocol) d_f)

-- steps of one way have the same names
one_names : (ps : List Protocol) {p q x y : Path} {n m a b : ℕ} {js hs : List ℕ} {ks ls : List Key} → Leads ps p n js ks x a → Leads ps q m hs ls y b → n ≡ m → js ≡ hs → ks ≡ ls
one_names ps stays stays e f = refl
one_names ps stays (goes protocol step at_p at_s is l) e f = absurd (cc f)
one_names ps (goes protocol step at_p at_s is l) stays e f = absurd (cc f)
one_names ps (goes {j} {js} {ks} {k} protocol step at_p at_s is_k l) (goes {j = i} {js = hs} {ks = ls} {k = v} other next at_o at_n is_v d) e f =
    let i_j : j ≡ i = cc f in
    let rest : js ≡ hs = cc f in
    let protocols : protocol ≡ other = (let a = subst (λ z. slice_get ps z ≡ Some protocol) e at_p in cc (a, at_o)) in
    let steps : step ≡ next = (let a = subst (λ (z : Protocol). slice_get z.subtables j ≡ Some step) protocols at_s in let b = subst (λ z. slice_get other.subtables z ≡ Some step) i_j a in cc (b, at_n)) in
    let tail = one_names ps l d (ap (λ (z : Subtable). z.protocol) steps) rest in
    let head : k ≡ v = is_k ∙ ap (λ (z : Subtable). z.name) steps ∙ sym is_v in
    cc

pub one_first_path : (g : Goal) (p q : ConfPath) → IsFirstPath g p → IsFirstPath g q → p ≡ q
one_first_path g p q a b =
    let r = one_route a.route b.route (a.first b.route q b.way) (b.first a.route p a.way) in
    let s = one_start (table_words g.signature) g.declarations.conformances a.way.starts b.way.starts r.0 in
    let n : a.way.first_number ≡ b.way.first_number = number_one g.declarations.protocols b.way.first_protocol a.way.first_number b.way.first_number (subst (λ k. IsNumber g.declarations.protocols k a.way.first_number) s.2 a.way.first_is) b.way.first_is in
    let names : p.steps ≡ q.steps = one_names g.declarations.protocols a.way.leads b.way.leads n r.1 in
    path_eq p q s.0 names
  where
    path_eq : (p q : ConfPath) → p.start ≡ q.start → p.steps ≡ q.steps → p ≡ q
    path_eq p q h n = λ i. record { start = h i; steps = n i }
