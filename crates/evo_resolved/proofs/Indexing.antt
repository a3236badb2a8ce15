-- An index finds each declaration by its text.
use Rattle.std.proofs.Common.{◌≡◌, ◌≢◌, ◌⊎◌, inl, inr, ℕ, zero, suc, ◌+◌, ◌<◌, List, [], ◌∷◌, ◌++◌, length, get_or, Bool, ap₂, Option, Some, None, IsSome, slice_get, slice_set, true, false, refl, sym, ap, subst, ◌∙◌, arith}
use Rattle.std.specs.Option.{option_and_then}
use Rattle.std.specs.Str.{bytes_eq}
use Rattle.std.proofs.lemmas.Bool.Decides.{eqb_tells}
use Rattle.std.proofs.lemmas.Slice.Eq.{bytes_eq-Decides}
use Rattle.std.proofs.Math.Dec.{eqb}
use Rattle.evo_base.specs.Names.{position_of, Inserts}
use Rattle.evo_base.proofs.Names.{slice_get-position_of, position_of-within, position_of-push-new, position_of-push-other, position_of-append-Some}
use Rattle.evo_resolved.specs.declared.keyed.KeyIndex.{KeyIndex}
use Rattle.evo_base.specs.declared.key.Key.{Key}
use Rattle.evo_resolved.specs.Indexed.{bucket, IsLatest, newest_of, Indexed, Added}
use Rattle.evo_resolved.proofs.Writes.{set_here, set_other, set_length}

abbrev Tells : List ℕ → List ℕ → Type 0
Tells a b = (a ≡ b) ⊎ (a ≢ b)

-- texts are equal or not
pub texts : (a b : List ℕ) → Tells a b
texts a b = by (bytes_eq a b) refl
  where
    by : (r : Bool) → bytes_eq a b ≡ r → Tells a b
    by true is = inl ((bytes_eq-Decides a b).0 is)
    by false is = inr (λ same. let yes : bytes_eq a b ≡ true = (bytes_eq-Decides a b).1 same in cc)

-- ---- one more declaration

-- a later declaration with another text leaves the last one
latest_more : {A : Type 0} (own : A → Key) (text : List ℕ) (spots : List A) (n : ℕ) (s : A) → slice_get spots n ≡ Some s → bucket (own s) ≢ text → (o : Option ℕ) → IsLatest own text spots n o → IsLatest own text spots (n + 1) o
latest_more {A} own text spots n s at differ None h = λ j z less e is. by j z less e is (eqb_tells j n)
  where
    by : (j : ℕ) (z : A) → j < n + 1 → slice_get spots j ≡ Some z → bucket (own z) ≡ text → ((eqb j n ≡ true) × (j ≡ n)) ⊎ ((eqb j n ≡ false) × (j ≢ n)) → ⊥
    by j z less e is (inl p) =
        let here : slice_get spots n ≡ Some z = subst (λ (k : ℕ). slice_get spots k ≡ Some z) p.1 e in
        let same : z ≡ s = cc in
        differ (ap (λ (x : A). bucket (own x)) (sym same) ∙ is)
    by j z less e is (inr p) = let other = p.1 in h j z (omega arith) e is
latest_more {A} own text spots n s at differ (Some i) h = (omega (arith, h.0), h.1, λ j z after less e is. by j z after less e is (eqb_tells j n))
  where
    by : (j : ℕ) (z : A) → i < j → j < n + 1 → slice_get spots j ≡ Some z → bucket (own z) ≡ text → ((eqb j n ≡ true) × (j ≡ n)) ⊎ ((eqb j n ≡ false) × (j ≢ n)) → ⊥
    by j z after less e is (inl p) =
        let here : slice_get spots n ≡ Some z = subst (λ (k : ℕ). slice_get spots k ≡ Some z) p.1 e in
        let same : z ≡ s = cc in
        differ (ap (λ (x : A). bucket (own x)) (sym same) ∙ is)
    by j z after less e is (inr p) = let other = p.1 in h.2 j z after (omega arith) e is

-- the declaration itself is the last one with its text
latest_here : {A : Type 0} (own : A → Key) (text : List ℕ) (spots : List A) (n : ℕ) → ((z : A) → slice_get spots n ≡ Some z → bucket (own z) ≡ text) → IsLatest own text spots (n + 1) (Some n)
latest_here {A} own text spots n has = (omega arith, has, λ j z after less e is. absurd (omega arith))

get_push : {A : Type 0} (xs : List A) (y : A) (i : ℕ) (o : A) → slice_get (xs ++ y ∷ []) i ≡ Some o → ((i < length xs) × (slice_get xs i ≡ Some o)) ⊎ ((i ≡ length xs) × (o ≡ y))
get_push [] y zero o e = inr (refl, cc)
get_push [] y (suc i) o e = absurd cc
get_push (x ∷ xs) y zero o e = inl (omega arith, e)
get_push (x ∷ xs) y (suc i) o e = by (get_push xs y i o e)
  where
    by : ((i < length xs) × (slice_get xs i ≡ Some o)) ⊎ ((i ≡ length xs) × (o ≡ y)) → ((suc i < length (x ∷ xs)) × (slice_get (x ∷ xs) (suc i) ≡ Some o)) ⊎ ((suc i ≡ length (x ∷ xs)) × (o ≡ y))
    by (inl p) = let less = p.0 in inl (omega arith, p.1)
    by (inr p) = let same = p.0 in inr (omega arith, p.1)

push_length : {A : Type 0} (xs : List A) (y : A) → length (xs ++ y ∷ []) ≡ length xs + 1
push_length [] y = omega arith
push_length (x ∷ xs) y = let l = push_length xs y in omega arith

pub indexed_more : {A : Type 0} (own : A → Key) (spots : List A) (n : ℕ) (old new : KeyIndex) (s : A) → Indexed own spots n old → slice_get spots n ≡ Some s → Added old new (bucket (own s)) n → Indexed own spots (n + 1) new
indexed_more {A} own spots n old new s h at added = record {
  count = added.count;
  size = ap length added.previous ∙ push_length old.previous.items (newest_of old (bucket (own s))) ∙ ap (λ (k : ℕ). k + 1) h.size;
  newest = λ text. newest text (texts text (bucket (own s)));
  previous = λ i z o e f. previous i z o e (get_push old.previous.items (newest_of old (bucket (own s))) i o (sym (ap (λ (l : List (Option ℕ)). slice_get l i) added.previous) ∙ f));
}
  where
    newest : (text : List ℕ) → Tells text (bucket (own s)) → IsLatest own text spots (n + 1) (newest_of new text)
    newest text (inl same) =
        let here : newest_of new text ≡ Some n = ap (newest_of new) same ∙ added.here in
        subst (IsLatest own text spots (n + 1)) (sym here) (latest_here own text spots n (λ z e. let one : z ≡ s = cc in ap (λ (x : A). bucket (own x)) one ∙ sym same))
    newest text (inr differ) =
        let other = latest_more own text spots n s at (λ e. differ (sym e)) (newest_of old text) (h.newest text) in
        subst (IsLatest own text spots (n + 1)) (sym (added.others text differ)) other

    previous : (i : ℕ) (z : A) (o : Option ℕ) → slice_get spots i ≡ Some z → ((i < length old.previous.items) × (slice_get old.previous.items i ≡ Some o)) ⊎ ((i ≡ length old.previous.items) × (o ≡ newest_of old (bucket (own s)))) → IsLatest own (bucket (own z)) spots i o
    previous i z o e (inl p) = h.previous i z o e p.1
    previous i z o e (inr p) =
        let here : i ≡ n = p.0 ∙ h.size in
        let there : slice_get spots n ≡ Some z = subst (λ (k : ℕ). slice_get spots k ≡ Some z) here e in
        let same : s ≡ z = cc in
        let one : IsLatest own (bucket (own z)) spots n (newest_of old (bucket (own z))) = h.newest (bucket (own z)) in
        let is : o ≡ newest_of old (bucket (own z)) = p.1 ∙ ap (λ (x : A). newest_of old (bucket (own x))) same in
        subst (λ (k : ℕ). IsLatest own (bucket (own z)) spots k o) (sym here) (subst (IsLatest own (bucket (own z)) spots n) (sym is) one)

-- ---- a text that is there, and a new one

pub get_of : {A : Type 0} (xs : List A) (i : ℕ) (x d : A) → i < length xs → x ≡ get_or xs i d → slice_get xs i ≡ Some x
get_of [] i x d less e = absurd (omega arith)
get_of (y ∷ ys) zero x d less e = ap Some (sym e)
get_of (y ∷ ys) (suc i) x d less e = get_of ys i x d (omega arith) e

pub at_within : (old : KeyIndex) (text : List ℕ) (at : ℕ) → Some at ≡ position_of text old.names → length old.newest.items ≡ length old.names → at < length old.newest.items
at_within old text at place count = let less = position_of-within text old.names at (sym place) in omega arith

pub added_known : (old new : KeyIndex) (text : List ℕ) (at number before : ℕ) → Some at ≡ position_of text old.names → length old.newest.items ≡ length old.names → new.names ≡ old.names → new.newest.items ≡ slice_set old.newest.items at number → before ≡ get_or old.newest.items at before
    → new.previous.items ≡ old.previous.items ++ Some before ∷ [] → Added old new text number
added_known old new text at number before place count names newest read previous = record {
  count = ap length newest ∙ set_length old.newest.items at number ∙ count ∙ ap length (sym names);
  previous = previous ∙ ap (λ (o : Option ℕ). old.previous.items ++ o ∷ []) (sym was);
  here = here;
  others = λ t differ. others t differ (position_of t old.names) refl;
}
  where
    get : slice_get old.newest.items at ≡ Some before
    get = get_of old.newest.items at before before (at_within old text at place count) read

    was : newest_of old text ≡ Some before
    was = ap (option_and_then (slice_get old.newest.items)) (sym place) ∙ get

    placed : (t : List ℕ) → position_of t new.names ≡ position_of t old.names
    placed t = ap (position_of t) names

    reads : (t : List ℕ) → newest_of new t ≡ option_and_then (slice_get (slice_set old.newest.items at number)) (position_of t old.names)
    reads t = ap₂ (λ (l : List ℕ) (o : Option ℕ). option_and_then (slice_get l) o) newest (placed t)

    here : newest_of new text ≡ Some number
    here = reads text ∙ ap (option_and_then (slice_get (slice_set old.newest.items at number))) (sym place) ∙ set_here old.newest.items at before number get

    others : (t : List ℕ) → (t ≡ text → ⊥) → (o : Option ℕ) → position_of t old.names ≡ o → newest_of new t ≡ newest_of old t
    others t differ None is = reads t ∙ ap (option_and_then (slice_get (slice_set old.newest.items at number))) is ∙ sym (ap (option_and_then (slice_get old.newest.items)) is)
    others t differ (Some j) is =
        let apart : j ≡ at → ⊥ = λ same. differ (let one = slice_get-position_of t old.names j is in let two = slice_get-position_of text old.names at (sym place) in let three : slice_get old.names at ≡ Some t = subst (λ (k : ℕ). slice_get old.names k ≡ Some t) same one in let equal : t ≡ text = cc in equal) in
        reads t ∙ ap (option_and_then (slice_get (slice_set old.newest.items at number))) is ∙ set_other old.newest.items at j number apart ∙ sym (ap (option_and_then (slice_get old.newest.items)) is)

get_front : {A : Type 0} (xs : List A) (y : A) (i : ℕ) → i < length xs → slice_get (xs ++ y ∷ []) i ≡ slice_get xs i
get_front [] y i less = absurd (omega arith)
get_front (x ∷ xs) y zero less = refl
get_front (x ∷ xs) y (suc i) less = get_front xs y i (omega arith)

get_end : {A : Type 0} (xs : List A) (y : A) → slice_get (xs ++ y ∷ []) (length xs) ≡ Some y
get_end [] y = refl
get_end (x ∷ xs) y = get_end xs y

pub added_new : (old new : KeyIndex) (text : List ℕ) (number : ℕ) (b : Bool) → None ≡ position_of text old.names → length old.newest.items ≡ length old.names → Inserts old.names new.names text b → new.newest.items ≡ old.newest.items ++ number ∷ []
    → new.previous.items ≡ old.previous.items ++ None ∷ [] → Added old new text number
added_new old new text number false absent count inserts newest previous = let no = subst (λ (o : Option ℕ). IsSome o) (sym absent) inserts.0 in absurd cc
added_new old new text number true absent count inserts newest previous = record {
  count = ap length newest ∙ push_length old.newest.items number ∙ ap (λ (k : ℕ). k + 1) count ∙ sym (push_length old.names text) ∙ ap length (sym inserts.1);
  previous = previous ∙ ap (λ (o : Option ℕ). old.previous.items ++ o ∷ []) (sym was);
  here = here;
  others = λ t differ. others t differ (position_of t old.names) refl;
}
  where
    was : newest_of old text ≡ None
    was = ap (option_and_then (slice_get old.newest.items)) (sym absent)

    reads : (t : List ℕ) → newest_of new t ≡ option_and_then (slice_get (old.newest.items ++ number ∷ [])) (position_of t (old.names ++ text ∷ []))
    reads t = ap₂ (λ (l : List ℕ) (o : Option ℕ). option_and_then (slice_get l) o) newest (ap (position_of t) inserts.1)

    here : newest_of new text ≡ Some number
    here = reads text ∙ ap (option_and_then (slice_get (old.newest.items ++ number ∷ []))) (position_of-push-new text old.names (sym absent)) ∙ subst (λ (k : ℕ). slice_get (old.newest.items ++ number ∷ []) k ≡ Some number) count (get_end old.newest.items number)

    others : (t : List ℕ) → (t ≡ text → ⊥) → (o : Option ℕ) → position_of t old.names ≡ o → newest_of new t ≡ newest_of old t
    others t differ None is =
        reads t ∙ ap (option_and_then (slice_get (old.newest.items ++ number ∷ []))) (position_of-push-other t text old.names (λ e. differ (sym e)) is) ∙ sym (ap (option_and_then (slice_get old.newest.items)) is)
    others t differ (Some j) is =
        let less = position_of-within t old.names j is in
        reads t ∙ ap (option_and_then (slice_get (old.newest.items ++ number ∷ []))) (position_of-append-Some t old.names (text ∷ []) j is) ∙ get_front old.newest.items number j (omega (arith, count)) ∙ sym (ap (option_and_then (slice_get old.newest.items)) is)
