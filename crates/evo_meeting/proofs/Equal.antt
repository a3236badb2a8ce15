-- Equal names have equal texts, and the tests on names tell equality.
use Rattle.std.proofs.Common.{◌≡◌, ℕ, List, [], ◌∷◌, ◌++◌, Bool, true, false, ◌&&◌, ◌||◌, not, cond, Option, Some, None, refl, sym, ap, ap₂, ◌∙◌}
use Rattle.std.specs.Bool.{Decides}
use Rattle.std.proofs.lemmas.Slice.Eq.{bytes_eq-Decides}
use Rattle.evo_names.specs.declared.declared_name.Sort.{Sort}
use Rattle.evo_names.specs.declared.declared_name.Sort.TheVariants as sort
use Rattle.evo_names.specs.declared.declared_name.DeclaredName.{DeclaredName}
use Rattle.evo_names.specs.Listed.{Text}
use Rattle.evo_names.specs.Meets.{same_name, same_names, same_labels, is_excused, covers, clash, meets}
use Rattle.evo_meeting.specs.Candidates.{is_called, spot_text, labels_text, call_text}

name_is : (a b : Text) → same_name a b ≡ true → a ≡ b
name_is a b e = (bytes_eq-Decides a b).0 e

name_same : (a : Text) → same_name a a ≡ true
name_same a = (bytes_eq-Decides a a).1 refl

names_is : (a b : List Text) → same_names a b ≡ true → a ≡ b
names_is [] [] e = refl
names_is [] (y ∷ ys) e = absurd cc
names_is (x ∷ xs) [] e = absurd cc
names_is (x ∷ xs) (y ∷ ys) e = by (same_name x y) refl e (names_is xs ys)
  where
    by : (r : Bool) → same_name x y ≡ r → (r && same_names xs ys) ≡ true → (same_names xs ys ≡ true → xs ≡ ys) → (x ∷ xs) ≡ (y ∷ ys)
    by true is e rest = ap₂ (λ a b. a ∷ b) (name_is x y is) (rest e)
    by false is e rest = absurd cc

names_same : (a : List Text) → same_names a a ≡ true
names_same [] = refl
names_same (x ∷ xs) = let n = name_same x in let r = names_same xs in rw (n, r) refl

names_same_by : (a b : List Text) → a ≡ b → same_names a b ≡ true
names_same_by a b e = rw (← e) (names_same a)

-- that lists of names are the same is that they are equal
pub same_names-Decides : (a b : List Text) → Decides (same_names a b) (a ≡ b)
same_names-Decides a b = (names_is a b, names_same_by a b)

labels_is : (a b : Option (List Text)) → same_labels a b ≡ true → a ≡ b
labels_is None None e = refl
labels_is None (Some ys) e = absurd cc
labels_is (Some xs) None e = absurd cc
labels_is (Some xs) (Some ys) e = ap Some (names_is xs ys e)

and_first : (a b c : Bool) → ((a && b) && c) ≡ true → a ≡ true
and_first true b c e = refl
and_first false b c e = absurd cc

and_second : (a b c : Bool) → ((a && b) && c) ≡ true → b ≡ true
and_second true true c e = refl
and_second true false c e = absurd cc
and_second false b c e = absurd cc

and_third : (a b c : Bool) → ((a && b) && c) ≡ true → c ≡ true
and_third true true c e = e
and_third true false c e = absurd cc
and_third false b c e = absurd cc

-- what meets stands in one place and has one name
pub one_spot : (a d : DeclaredName) → meets a d ≡ true → spot_text a ≡ spot_text d
unfolding spot_text
one_spot a d e =
    let base = name_is a.base d.base (and_first (same_name a.base d.base) (same_names a.context d.context) (clash a d) e) in
    let context = names_is a.context d.context (and_second (same_name a.base d.base) (same_names a.context d.context) (clash a d) e) in
    rw (base, context) refl

called_covers : (s : Sort) (d : DeclaredName) → is_called s ≡ true → covers s d ≡ false
called_covers sort.Function d e = refl
called_covers sort.Initialiser d e = refl
called_covers sort.Property d e = absurd cc
called_covers sort.Type d e = absurd cc
called_covers sort.Case d e = absurd cc
called_covers sort.Alias d e = absurd cc

by_labels : (l x : Bool) {c f : Bool} → c ≡ false → f ≡ false → cond l x (c || f) ≡ true → l ≡ true
by_labels true x {c} {f} p q e = refl
by_labels false x {c} {f} p q e = let none : (c || f) ≡ false = rw (p, q) refl in absurd cc

called_labels : (a d : DeclaredName) → is_called a.sort ≡ true → is_called d.sort ≡ true → meets a d ≡ true → same_labels a.labels d.labels ≡ true
called_labels a d ca cd e = by_labels (same_labels a.labels d.labels) (not (is_excused a d) && not (is_excused d a)) (called_covers a.sort d ca) (called_covers d.sort a cd) (and_third (same_name a.base d.base) (same_names a.context d.context) (clash a d) e)

pub text_called : (d : DeclaredName) → is_called d.sort ≡ true → call_text d ≡ spot_text d ++ labels_text d.labels
unfolding call_text
text_called d e = rw e refl

pub text_uncalled : (d : DeclaredName) → is_called d.sort ≡ false → call_text d ≡ spot_text d
unfolding call_text
text_uncalled d e = rw e refl

-- and, where both are called, has one text with its labels
pub one_call : (a d : DeclaredName) → is_called a.sort ≡ true → is_called d.sort ≡ true → meets a d ≡ true → call_text a ≡ call_text d
one_call a d ca cd e =
    let labels = labels_is a.labels d.labels (called_labels a d ca cd e) in
    text_called a ca ∙ ap₂ (λ s l. s ++ labels_text l) (one_spot a d e) labels ∙ sym (text_called d cd)
