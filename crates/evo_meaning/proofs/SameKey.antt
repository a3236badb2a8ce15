-- The test of keys is equality.
use Rattle.std.proofs.Common.{◌≡◌, ℕ, zero, suc, Bool, true, false, ◌&&◌, ◌==◌, List, [], ◌∷◌, Option, Some, None, refl, sym, ap, ◌∙◌, subst, bytes_eq, eqb-true}
use Rattle.evo_base.specs.declared.key.ProtocolName.{ProtocolName}
use Rattle.evo_base.specs.declared.key.Mark.{Mark}
use Rattle.evo_base.specs.declared.key.Key.{Key}
use Rattle.evo_base.specs.declared.key.Mark.TheVariants as mark
use Rattle.evo_names.specs.Listed.{Text}
use Rattle.evo_names.specs.Meets.{same_names, same_labels}
use Rattle.evo_meaning.specs.Keys.{mark_number, mark_names, same_marks, same_key}
use Rattle.evo_meaning.specs.Laws.{SameKeyIsEquality}
use Rattle.std.specs.Cmp.Lexicographic.{bytes_decides}
use Rattle.std.proofs.Math.Bool.{true≢false}
use Rattle.std.proofs.lemmas.Bool.{eq-eqb}

abbrev first : List Text → Text
first [] = []
first (x ∷ xs) = x

abbrev second : List Text → Text
second [] = []
second (x ∷ xs) = first xs

abbrev protocol : List Text → ProtocolName
protocol xs = record { «module» = first xs; name = second xs }

abbrev at : List Mark → ℕ → Mark
at [] n = mark.Get
at (m ∷ ms) zero = m
at (m ∷ ms) (suc n) = at ms n

-- the mark of a number and the names that it holds
abbrev mark_of : ℕ → List Text → Mark
mark_of n xs = at (mark.Get ∷ mark.Set ∷ mark.Requirement ∷ mark.RequirementGet ∷ mark.RequirementSet ∷ mark.Case ∷ mark.Is ∷ mark.Take ∷ mark.New ∷ mark.Size ∷ mark.Instance ∷ mark.Class ∷ mark.Protocol ∷ mark.Copy ∷ mark.Override ∷ mark.Start ∷ mark.Conformance (protocol xs) ∷ mark.Inherited (protocol xs) ∷ mark.Associated (protocol xs) ∷ mark.Thunk (first xs) ∷ []) n

back : (m : Mark) → mark_of (mark_number m) (mark_names m) ≡ m
back mark.Get = refl
back mark.Set = refl
back mark.Requirement = refl
back mark.RequirementGet = refl
back mark.RequirementSet = refl
back mark.Case = refl
back mark.Is = refl
back mark.Take = refl
back mark.New = refl
back mark.Size = refl
back mark.Instance = refl
back mark.Class = refl
back mark.Protocol = refl
back mark.Copy = refl
back mark.Override = refl
back mark.Start = refl
back (mark.Conformance p) = refl
back (mark.Inherited p) = refl
back (mark.Associated p) = refl
back (mark.Thunk s) = refl

-- marks with one number and the same names are equal
pub one_mark : (a b : Mark) → mark_number a ≡ mark_number b → mark_names a ≡ mark_names b → a ≡ b
one_mark a b e f = sym (back a) ∙ ap (λ n. mark_of n (mark_names a)) e ∙ ap (mark_of (mark_number b)) f ∙ back b

pub left : (a b : Bool) → (a && b) ≡ true → a ≡ true
left true b e = refl
left false b e = e

pub right : (a b : Bool) → (a && b) ≡ true → b ≡ true
right true b e = e
right false b e = absurd (true≢false (sym e))

texts : (a b : List Text) → same_names a b ≡ true → a ≡ b
texts [] [] e = refl
texts [] (y ∷ ys) e = absurd (true≢false (sym e))
texts (x ∷ xs) [] e = absurd (true≢false (sym e))
texts (x ∷ xs) (y ∷ ys) e = rw ((bytes_decides x y).0 (left (bytes_eq x y) (same_names xs ys) e), texts xs ys (right (bytes_eq x y) (same_names xs ys) e)) refl

labels : (a b : Option (List Text)) → same_labels a b ≡ true → a ≡ b
labels None None e = refl
labels None (Some ys) e = absurd (true≢false (sym e))
labels (Some xs) None e = absurd (true≢false (sym e))
labels (Some xs) (Some ys) e = ap Some (texts xs ys e)

marks : (a b : List Mark) → same_marks a b ≡ true → a ≡ b
marks [] [] e = refl
marks [] (y ∷ ys) e = absurd (true≢false (sym e))
marks (x ∷ xs) [] e = absurd (true≢false (sym e))
marks (x ∷ xs) (y ∷ ys) e =
    let here : ((mark_number x == mark_number y) && same_names (mark_names x) (mark_names y)) ≡ true = left _ (same_marks xs ys) e in
    rw (one_mark x y (eqb-true (mark_number x) (mark_number y) (left _ _ here)) (texts _ _ (right (mark_number x == mark_number y) _ here)), marks xs ys (right ((mark_number x == mark_number y) && same_names (mark_names x) (mark_names y)) (same_marks xs ys) e)) refl

abbrev with_parts : Text → List Text → Text → Option (List Text) → List Mark → Key
with_parts m c n ls ms = record { «module» = m; context = c; base = n; labels = ls; part = record { marks = ms } }

-- keys that the test takes are equal
pub one_key : (a b : Key) → same_key a b ≡ true → a ≡ b
unfolding same_key
one_key a b e =
    let e1 : (bytes_eq a.base b.base && bytes_eq a.module b.module && same_names a.context b.context && same_labels a.labels b.labels) ≡ true = left _ (same_marks a.part.marks b.part.marks) e in
    let e2 : (bytes_eq a.base b.base && bytes_eq a.module b.module && same_names a.context b.context) ≡ true = left _ (same_labels a.labels b.labels) e1 in
    let e3 : (bytes_eq a.base b.base && bytes_eq a.module b.module) ≡ true = left _ (same_names a.context b.context) e2 in
    joined a b
    ((bytes_decides a.base b.base).0 (left (bytes_eq a.base b.base) _ e3))
    ((bytes_decides a.module b.module).0 (right (bytes_eq a.base b.base) _ e3))
    (texts a.context b.context (right (bytes_eq a.base b.base && bytes_eq a.module b.module) _ e2))
    (labels a.labels b.labels (right (bytes_eq a.base b.base && bytes_eq a.module b.module && same_names a.context b.context) _ e1))
    (marks a.part.marks b.part.marks (right (bytes_eq a.base b.base && bytes_eq a.module b.module && same_names a.context b.context && same_labels a.labels b.labels) _ e))
  where
    joined : (a b : Key) → a.base ≡ b.base → a.module ≡ b.module → a.context ≡ b.context → a.labels ≡ b.labels → a.part.marks ≡ b.part.marks → a ≡ b
    joined a b base module' context labels' marks' =
        ap (λ (i : Text). with_parts a.module a.context i a.labels a.part.marks) base ∙ ap (λ (i : Text). with_parts i a.context b.base a.labels a.part.marks) module' ∙ ap (λ (i : List Text). with_parts b.module i b.base a.labels a.part.marks) context ∙ ap (λ (i : Option (List Text)). with_parts b.module b.context b.base i a.part.marks) labels' ∙ ap (λ (i : List Mark). with_parts b.module b.context b.base b.labels i) marks'

-- ---- the way back

joined_tests : {a b : Bool} → a ≡ true → b ≡ true → (a && b) ≡ true
joined_tests {a} {b} e f = rw (e, f) refl

number_refl : (n : ℕ) → (n == n) ≡ true
number_refl n = eq-eqb n n refl

same_names_refl : (xs : List Text) → same_names xs xs ≡ true
same_names_refl [] = refl
same_names_refl (x ∷ xs) = joined_tests ((bytes_decides x x).1 refl) (same_names_refl xs)

same_labels_refl : (ls : Option (List Text)) → same_labels ls ls ≡ true
same_labels_refl None = refl
same_labels_refl (Some xs) = same_names_refl xs

same_marks_refl : (ms : List Mark) → same_marks ms ms ≡ true
same_marks_refl [] = refl
same_marks_refl (m ∷ ms) = joined_tests (joined_tests (number_refl (mark_number m)) (same_names_refl (mark_names m))) (same_marks_refl ms)

pub same_key_refl : (a : Key) → same_key a a ≡ true
unfolding same_key
same_key_refl a = joined_tests (joined_tests (joined_tests (joined_tests ((bytes_decides a.base a.base).1 refl) ((bytes_decides a.module a.module).1 refl)) (same_names_refl a.context)) (same_labels_refl a.labels)) (same_marks_refl a.part.marks)

pub same_key_is_equality : SameKeyIsEquality
same_key_is_equality a b = (one_key a b, λ e. subst (λ k. same_key a k ≡ true) e (same_key_refl a))
