-- The order of paths is total, and taking an associated name keeps it.
use Rattle.std.proofs.Common.{◌≡◌, ℕ, ◌<◌, List, [], ◌∷◌, ◌++◌, length, true, false, refl, sym, ◌∙◌, ap, arith, length-append}
use Rattle.std.specs.Ordering.{nat_cmp, ordering_then, ordering_reverse, is_gt, is_lt, MatchOrdering}
use Rattle.std.specs.Cmp.{IsTotalOrder}
use Rattle.std.specs.Cmp.Lexicographic.{slice_cmp}
use Rattle.std.specs.declared.cmp.Ordering.{Ordering}
use Rattle.std.specs.declared.cmp.Ordering.TheVariants.{Less, Equal, Greater}
use Rattle.std.proofs.lemmas.Cmp.{nat_cmp_total, nat_list_cmp_total, lists_total, then_total, on_total, tied_itself, upto, ranked}
use Rattle.evo_names.specs.Listed.{Text}
use Rattle.evo_solve.specs.declared.path.Path.{Path}
use Rattle.evo_solve.specs.Equal.{taken}
use Rattle.evo_solve.specs.Canonical.{name_order, names_order, number, path_order, NotAfter}

pub names_total : IsTotalOrder names_order
names_total = lists_total nat_list_cmp_total

pub path_total : IsTotalOrder path_order
path_total = then_total (on_total (λ (p : Path). length p.names) nat_cmp_total) (then_total (on_total (λ (p : Path). number p.first) nat_cmp_total) (on_total (λ (p : Path). p.names) names_total))

pub not_after_refl : (p : Path) → NotAfter p p
not_after_refl p = ap is_gt (tied_itself path_total p)

pub not_after_trans : (p q r : Path) → NotAfter p q → NotAfter q r → NotAfter p r
not_after_trans p q r a b = upto path_total p q r a b

-- where one does not come before the other, that does not come after it
pub not_before : (p q : Path) → is_lt (path_order p q) ≡ false → NotAfter q p
not_before p q e = go (path_order p q) (path_order q p) e (path_total.antisymm q p)
  where
    go : (o r : Ordering) → is_lt o ≡ false → r ≡ ordering_reverse o → is_gt r ≡ false
    go Less r e f = absurd (cc e)
    go Equal r e f = ap is_gt f
    go Greater r e f = ap is_gt f

pub before_not_after : (p q : Path) → is_lt (path_order p q) ≡ true → NotAfter p q
before_not_after p q e = go (path_order p q) e
  where
    go : (o : Ordering) → is_lt o ≡ true → is_gt o ≡ false
    go Less e = refl
    go Equal e = refl
    go Greater e = absurd (cc e)

-- ---- what an order says of lengths and numbers

nat_less : (a b : ℕ) → nat_cmp a b ≡ Less → a < b
nat_less a b e = let r : MatchOrdering Less (a < b) (a ≡ b) (b < a) = ranked a b Less (sym e) in r

nat_same : (a b : ℕ) → nat_cmp a b ≡ Equal → a ≡ b
nat_same a b e = let r : MatchOrdering Equal (a < b) (a ≡ b) (b < a) = ranked a b Equal (sym e) in r

nat_more : (a b : ℕ) → nat_cmp a b ≡ Greater → b < a
nat_more a b e = let r : MatchOrdering Greater (a < b) (a ≡ b) (b < a) = ranked a b Greater (sym e) in r

nat_of_less : (a b : ℕ) → a < b → nat_cmp a b ≡ Less
nat_of_less a b less = go (nat_cmp a b) refl
  where
    go : (o : Ordering) → nat_cmp a b ≡ o → nat_cmp a b ≡ Less
    go Less e = e
    go Equal e = absurd (let f = nat_same a b e in omega arith)
    go Greater e = absurd (let f = nat_more a b e in omega arith)

nat_of_same : (a b : ℕ) → a ≡ b → nat_cmp a b ≡ Equal
nat_of_same a b same = go (nat_cmp a b) refl
  where
    go : (o : Ordering) → nat_cmp a b ≡ o → nat_cmp a b ≡ Equal
    go Less e = absurd (let f = nat_less a b e in omega arith)
    go Equal e = e
    go Greater e = absurd (let f = nat_more a b e in omega arith)

-- a path that does not come after another is not longer
pub not_longer : (p q : Path) → NotAfter p q → length q.names < length p.names → ⊥
not_longer p q a longer = go (nat_cmp (length p.names) (length q.names)) refl a
  where
    go : (o : Ordering) → nat_cmp (length p.names) (length q.names) ≡ o → is_gt (ordering_then o (ordering_then (nat_cmp (number p.first) (number q.first)) (names_order p.names q.names))) ≡ false → ⊥
    go Less e a = let f = nat_less (length p.names) (length q.names) e in omega arith
    go Equal e a = let f = nat_same (length p.names) (length q.names) e in omega arith
    go Greater e a = cc a

-- a shorter path does not come after
pub shorter : (p q : Path) → length p.names < length q.names → NotAfter p q
shorter p q less = ap (λ o. is_gt (ordering_then o (ordering_then (nat_cmp (number p.first) (number q.first)) (names_order p.names q.names)))) (nat_of_less (length p.names) (length q.names) less)

-- ---- names that are taken

names_taken : (a b : List Text) (n : Text) → length a ≡ length b → names_order (a ++ n ∷ []) (b ++ n ∷ []) ≡ names_order a b
names_taken [] [] n e = ap (λ o. ordering_then o Equal) (tied_itself nat_list_cmp_total n)
names_taken [] (y ∷ ys) n e = absurd (omega arith)
names_taken (x ∷ xs) [] n e = absurd (omega arith)
names_taken (x ∷ xs) (y ∷ ys) n e = ap (ordering_then (name_order x y)) (names_taken xs ys n (omega arith))

pub not_after_taken : (p q : Path) (n : Text) → NotAfter p q → NotAfter (taken p n) (taken q n)
not_after_taken p q n a = go (nat_cmp (length p.names) (length q.names)) refl a
  where
    rest : Ordering
    rest = ordering_then (nat_cmp (number p.first) (number q.first)) (names_order (p.names ++ n ∷ []) (q.names ++ n ∷ []))

    go : (o : Ordering) → nat_cmp (length p.names) (length q.names) ≡ o → is_gt (ordering_then o (ordering_then (nat_cmp (number p.first) (number q.first)) (names_order p.names q.names))) ≡ false → NotAfter (taken p n) (taken q n)
    go Less e a = let f = nat_less (length p.names) (length q.names) e in shorter (taken p n) (taken q n) (omega (arith, length-append p.names (n ∷ []), length-append q.names (n ∷ [])))
    go Equal e a =
        let f = nat_same (length p.names) (length q.names) e in
        let g = nat_of_same (length (p.names ++ n ∷ [])) (length (q.names ++ n ∷ [])) (omega (arith, length-append p.names (n ∷ []), length-append q.names (n ∷ []))) in
        ap (λ o. is_gt (ordering_then o (ordering_then (nat_cmp (number p.first) (number q.first)) (names_order (p.names ++ n ∷ []) (q.names ++ n ∷ []))))) g
        ∙ ap (λ o. is_gt (ordering_then (nat_cmp (number p.first) (number q.first)) o)) (names_taken p.names q.names n f) ∙ a
    go Greater e a = absurd (cc a)

-- ---- what is equal in the order

name_same : (a b : Text) → name_order a b ≡ Equal → a ≡ b
name_same [] [] e = refl
name_same [] (y ∷ ys) e = absurd (cc e)
name_same (x ∷ xs) [] e = absurd (cc e)
name_same (x ∷ xs) (y ∷ ys) e = go (nat_cmp x y) refl e (name_same xs ys)
  where
    go : (o : Ordering) → nat_cmp x y ≡ o → ordering_then o (slice_cmp nat_cmp xs ys) ≡ Equal → (slice_cmp nat_cmp xs ys ≡ Equal → xs ≡ ys) → x ∷ xs ≡ y ∷ ys
    go Less d e more = absurd (cc e)
    go Equal d e more = let h = nat_same x y d in let t = more e in cc
    go Greater d e more = absurd (cc e)

pub names_same : (a b : List Text) → names_order a b ≡ Equal → a ≡ b
names_same [] [] e = refl
names_same [] (y ∷ ys) e = absurd (cc e)
names_same (x ∷ xs) [] e = absurd (cc e)
names_same (x ∷ xs) (y ∷ ys) e = go (name_order x y) refl e (names_same xs ys)
  where
    go : (o : Ordering) → name_order x y ≡ o → ordering_then o (names_order xs ys) ≡ Equal → (names_order xs ys ≡ Equal → xs ≡ ys) → x ∷ xs ≡ y ∷ ys
    go Less d e more = absurd (cc e)
    go Equal d e more = let h = name_same x y d in let t = more e in cc
    go Greater d e more = absurd (cc e)

-- paths of which neither comes after the other have one number and the same names
pub paths_same : (p q : Path) → NotAfter p q → NotAfter q p → (number p.first ≡ number q.first) × (p.names ≡ q.names)
paths_same p q a b = parts (nat_cmp (length p.names) (length q.names)) refl (tied (path_order p q) (path_order q p) a b (path_total.antisymm q p))
  where
    tied : (o r : Ordering) → is_gt o ≡ false → is_gt r ≡ false → r ≡ ordering_reverse o → o ≡ Equal
    tied Less r a b e = absurd (cc (sym b ∙ ap is_gt e))
    tied Equal r a b e = refl
    tied Greater r a b e = absurd (cc a)

    deeper : (o : Ordering) → nat_cmp (number p.first) (number q.first) ≡ o → ordering_then o (names_order p.names q.names) ≡ Equal → (number p.first ≡ number q.first) × (p.names ≡ q.names)
    deeper Less e f = absurd (cc f)
    deeper Equal e f = (nat_same (number p.first) (number q.first) e, names_same p.names q.names f)
    deeper Greater e f = absurd (cc f)

    parts : (o : Ordering) → nat_cmp (length p.names) (length q.names) ≡ o → ordering_then o (ordering_then (nat_cmp (number p.first) (number q.first)) (names_order p.names q.names)) ≡ Equal → (number p.first ≡ number q.first) × (p.names ≡ q.names)
    parts Less e f = absurd (cc f)
    parts Equal e f = deeper (nat_cmp (number p.first) (number q.first)) refl f
    parts Greater e f = absurd (cc f)
