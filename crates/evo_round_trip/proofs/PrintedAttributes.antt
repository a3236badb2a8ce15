-- Attributes are written in their order, and read again.
use Rattle.std.proofs.Common.{◌≡◌, ℕ, zero, suc, List, [], ◌++◌, map, Bool, true, false, not, codes, Option, Some, None, refl, sym, ◌∙◌, ap, ap₂, subst, inl, inr, cond, append_assoc, append-nil}
use Rattle.std.specs.Prelude.{◌==◌}
use Rattle.std.specs.List.{flat_map, filter}
use Rattle.std.specs.Str.{bytes_eq}
use Rattle.std.proofs.lemmas.List.{map-append}
use Rattle.std.proofs.lemmas.Bool.{not-true}
use Rattle.evo_base.specs.declared.place.Place.{Place}
use Rattle.evo_lex.specs.Front.{when}
use Rattle.evo_tree.specs.declared.declaration.AttrKind.{AttrKind}
use Rattle.evo_tree.specs.declared.declaration.AttrKind.TheVariants as attr
use Rattle.evo_tree.specs.declared.declaration.Attr.{Attr}
use Rattle.evo_tree.specs.declared.terminal.Terminal.TheVariants as t
use Rattle.evo_tree.specs.Terminals.{number_of}
use Rattle.evo_tree.specs.Pieces.{Piece, is_terminal}
use Rattle.evo_tree.specs.Declarations.{attribute_number, is_attribute, has_attribute, ordered_attributes, attribute, attribute_of, unless_attribute, attribute_word, AvailableTail, Attribute, Attributes}
use Rattle.evo_tree.specs.Bare.{origin, bare_attr}
use Rattle.evo_tree.specs.Canonical.{availability_text, attr_text}
use Rattle.evo_round_trip.proofs.Written.{Written, Sound, joined}
use Rattle.evo_round_trip.proofs.Matching.{FromText, IsName}
use Rattle.evo_round_trip.proofs.Printed.{Text, any, begins, is_free, Matched, leads_free}
use Rattle.evo_round_trip.proofs.Prints.{Prints, Taken, Writes, print_only, print_nothing, print_or, print_led, print_nested, print_then, print_firm}
use Rattle.evo_parse_expr.proofs.Tests.{when_some, number_is}
use Rattle.evo_round_trip.proofs.Tokens.{frozen_is_name, inlinable_is_name, usable_from_inline_is_name, available_is_name}
use Rattle.evo_round_trip.proofs.TokensOfWords.{name_is_token}
use Rattle.evo_round_trip.proofs.Spellings.{sign, named}
use Rattle.evo_round_trip.proofs.TakenTokens.{like_of, taken_mark, taken_word}
use Rattle.evo_round_trip.proofs.Heads.{is_calm, leads_calm}
use Rattle.evo_round_trip.proofs.PrintedTypes.{SameBy}
use Rattle.evo_round_trip.proofs.PrintedAvailability.{availability_prints}
use Rattle.evo_round_trip.proofs.OrderedKinds.{some, AtMostOne, MayFollow, one_nil, one_same, any_filter, any_map, map_filter, among_four}
use Rattle.evo_round_trip.proofs.Fronts.{Fronted, AllFine, fine_append, fine_filter, spelled_fine, front}

-- ---- an attribute

-- an attribute without its `@`
abbrev kind_text : AttrKind → Text
kind_text attr.Frozen = codes "frozen"
kind_text attr.Inlinable = codes "inlinable"
kind_text attr.UsableFromInline = codes "usableFromInline"
kind_text (attr.Available a) = codes "available(" ++ (availability_text a ++ codes ")")

text_is : (k : AttrKind) → attr_text k ≡ (codes "@" ++ kind_text k) ++ codes " "
text_is attr.Frozen = refl
text_is attr.Inlinable = refl
text_is attr.UsableFromInline = refl
text_is (attr.Available a) = ap (λ z. codes "@available(" ++ z) (sym (append_assoc (availability_text a) (codes ")") (codes " ")))

-- the word of an attribute is a name, and is read again
abbrev Worded : AttrKind → Type 0
Worded k = IsName (kind_text k) × (attribute_of (kind_text k) ≡ Some k)

worded : (text : List ℕ) (k : AttrKind) → attribute_of text ≡ Some k → Worded k
worded text k e = go (bytes_eq text (codes "frozen")) (bytes_eq text (codes "inlinable")) (bytes_eq text (codes "usableFromInline")) e
  where
    go : (a b c : Bool) → cond a (Some attr.Frozen) (cond b (Some attr.Inlinable) (cond c (Some attr.UsableFromInline) None)) ≡ Some k → Worded k
    go true b c e = let is : attr.Frozen ≡ k = cc in subst Worded is (frozen_is_name, refl)
    go false true c e = let is : attr.Inlinable ≡ k = cc in subst Worded is (inlinable_is_name, refl)
    go false false true e = let is : attr.UsableFromInline ≡ k = cc in subst Worded is (usable_from_inline_is_name, refl)
    go false false false e = absurd (cc)

-- an attribute that is taken behind others is one that is not among them
word_means : (s : List Attr) (u : Piece) (k : AttrKind) → attribute_word s u ≡ Some k → (is_terminal t.Identifier u ≡ true) × (attribute_of u.text ≡ Some k) × (has_attribute k s ≡ false)
unfolding attribute_word
word_means s u k e = go (is_terminal t.Identifier u) refl (attribute_of u.text) refl e
  where
    go : (b : Bool) → is_terminal t.Identifier u ≡ b → (o : Option AttrKind) → attribute_of u.text ≡ o → cond b (unless_attribute s o) None ≡ Some k → (is_terminal t.Identifier u ≡ true) × (attribute_of u.text ≡ Some k) × (has_attribute k s ≡ false)
    go false i o j e = absurd (cc)
    go true i None j e = absurd (cc)
    go true i (Some l) j e =
        let (test, is) = when_some (not (has_attribute l s)) l k e in
        (i, j ∙ ap (λ z. Some z) is, subst (λ z. has_attribute z s ≡ false) is (not-true (has_attribute l s) test))

word_again : (s : List Attr) (u : Piece) (k : AttrKind) → is_terminal t.Identifier u ≡ true → attribute_of u.text ≡ Some k → has_attribute k s ≡ false → attribute_word s u ≡ Some k
unfolding attribute_word
word_again s u k i j none = ap (λ b. cond b (unless_attribute s (attribute_of u.text)) None) i ∙ ap (unless_attribute s) j ∙ ap (λ b. when (not b) k) none

abbrev SameKind : AttrKind → AttrKind → Type 0
SameKind k l = k ≡ l

taken_attribute : {A : Type 0} {Near : A → Type 0} → Taken true any is_calm (λ (k : AttrKind). named [] (kind_text k)) Near SameKind (attribute_word []) (λ a. attribute_word [])
taken_attribute = record {
  holds = λ u k gen passes takes.
      let means = word_means [] u k takes in
      let good = worded u.text k means.1 in (
        name_is_token [] (kind_text k) refl good.0,
        refl,
        λ a near m f.
            let like = like_of true m (named [] (kind_text k)) f in
            (k, word_again [] m k (number_is t.Identifier m (ap number_of like.terminal)) (ap attribute_of like.text ∙ good.1) refl, refl),
      );
}

available_prints : {A : Type 0} {Near : A → Type 0} (d : ℕ) (p : Place) (p' : A → Place) →
    Prints true any false is_free (λ z. codes "@available" ++ z) (λ a. codes "@" ++ kind_text a.kind) Near (SameBy bare_attr) (AvailableTail d p) (λ a. AvailableTail d (p' a))
available_prints d p p' = print_or
    (print_nested d (print_led {e' = false} {q = is_calm} (taken_mark t.OpenParenthesis [] refl refl (λ u g i. refl)) (λ c ws b. leads_calm _ (sign [] t.OpenParenthesis) ws (λ k. refl) refl b)
    (λ c. print_then {e' = false} (print_firm availability_prints) (λ w i. i) (λ w i. i)
    (λ a. print_led {e' = true} {q = is_free} (taken_mark t.CloseParenthesis [] refl refl (λ u g i. refl)) (λ c ws b. leads_free _ (sign [] t.CloseParenthesis) ws refl b)
    (λ c. print_only refl (λ x near. ap (λ z. record { place = origin; kind = attr.Available z }) near.0.1))))))
    print_nothing

attribute_prints : (d : ℕ) → Writes false false is_calm (λ a. codes "@" ++ kind_text a.kind) (SameBy bare_attr) (Attribute d []) (Attribute d [])
attribute_prints d = print_led {e' = false} {q = is_calm} (taken_mark t.At [] refl refl (λ u g i. refl)) (λ c ws b. leads_calm _ (sign [] t.At) ws (λ k. refl) refl b)
    (λ p. print_or
    (print_led {e' = true} {q = is_free} taken_attribute (λ k ws b. leads_free _ (named [] (kind_text k)) ws refl b)
    (λ k. print_only (ap (λ z. codes "@" ++ z) (append-nil (kind_text k))) (λ a near. ap (λ z. record { place = origin; kind = z }) near.1)))
    (print_led {e' = false} {q = is_free} (taken_word (codes "available") [] refl available_is_name refl) (λ c ws b. leads_free _ (named [] (codes "available")) ws refl b)
    (λ c. available_prints d p (λ a. a.0.1))))

-- ---- attributes behind others

abbrev number : Attr → ℕ
number a = attribute_number a.kind

-- all but `@available` stand at most once
abbrev single : ℕ → Bool
single n = not (n == 3)

-- what `@available` spells
is_available : (d : ℕ) (p : Place) (us : List Piece) (a : Attr) → AvailableTail d p us a → number a ≡ 3
is_available zero p us a (inl s) = absurd s
is_available zero p us a (inr s) = absurd s
is_available (suc d) p us a (inl (u, c, vs, at, takes, (av, ws, xs, at', s, (v, c', ys, at'', takes', only)))) = ap number only.1
is_available (suc d) p us a (inr s) = absurd s

attribute_laws : (d : ℕ) → Fronted bare_attr number single (Attribute d) (λ a. attr_text a.kind)
attribute_laws d = record {
  out = λ a. codes "@" ++ kind_text a.kind;
  text_is = λ a. text_is a.kind;
  num_bare = λ a. refl;
  law = attribute_prints d;
  alone = alone;
  may = may;
  into = into;
}
  where
    alone : (s : List Attr) (us : List Piece) (a : Attr) → Attribute d s us a → Attribute d [] us a
    alone s us a (u, p, vs, at, takes, inl (v, k, ws, at', takes', only)) = let means = word_means s v k takes' in (u, p, vs, at, takes, inl (v, k, ws, at', word_again [] v k means.0 means.1 refl, only))
    alone s us a (u, p, vs, at, takes, inr r) = (u, p, vs, at, takes, inr r)

    may : (s : List Attr) (us : List Piece) (a : Attr) → Attribute d s us a → MayFollow number single a s
    may s us a (u, p, vs, at, takes, inl (v, k, ws, at', takes', only)) h = subst (λ (z : Attr). has_attribute z.kind s ≡ false) (sym only.1) (word_means s v k takes').2
    may s us a (u, p, vs, at, takes, inr (v, c, ws, at', takes', r)) h = let bad : not (3 == 3) ≡ true = subst (λ n. single n ≡ true) (is_available d p ws a r) h in absurd (cc)

    into : (s : List Attr) (us : List Piece) (a : Attr) → MayFollow number single a s → Attribute d [] us a → Attribute d s us a
    into s us a free (u, p, vs, at, takes, inl (v, k, ws, at', takes', only)) =
        let means = word_means [] v k takes' in
        let none : has_attribute k s ≡ false = subst (λ (z : Attr). single (number z) ≡ true → has_attribute z.kind s ≡ false) only.1 free (one k v.text means.1) in
        (u, p, vs, at, takes, inl (v, k, ws, at', word_again s v k means.0 means.1 none, only))
      where
        one : (k : AttrKind) (text : List ℕ) → attribute_of text ≡ Some k → single (attribute_number k) ≡ true
        one attr.Frozen text e = refl
        one attr.Inlinable text e = refl
        one attr.UsableFromInline text e = refl
        one (attr.Available av) text e = let bad = (worded text (attr.Available av) e).1 in absurd (cc)
    into s us a free (u, p, vs, at, takes, inr r) = (u, p, vs, at, takes, inr r)

-- ---- in their order

kept : (a : Attr) (xs : List Attr) → filter (λ x. number x == number a) (ordered_attributes xs) ≡ filter (λ x. number x == number a) xs
unfolding ordered_attributes
kept a xs = go a.kind
  where
    go : (k : AttrKind) → filter (λ x. number x == attribute_number k) (ordered_attributes xs) ≡ filter (λ x. number x == attribute_number k) xs
    go attr.Frozen = among_four number (λ k. k) 0 xs ∙ simp append-nil
    go attr.Inlinable = among_four number (λ k. k) 1 xs ∙ simp append-nil
    go attr.UsableFromInline = among_four number (λ k. k) 2 xs ∙ simp append-nil
    go (attr.Available av) = among_four number (λ k. k) 3 xs ∙ refl

ordered_again : (xs : List Attr) → ordered_attributes (ordered_attributes xs) ≡ ordered_attributes xs
unfolding ordered_attributes
ordered_again xs = ap₂ (λ a b. a ++ b) (ap₂ (λ a b. a ++ b) (ap₂ (λ a b. a ++ b) zeroth first) second) third
  where
    zeroth : filter (is_attribute 0) (ordered_attributes xs) ≡ filter (is_attribute 0) xs
    zeroth = among_four number (λ k. k) 0 xs ∙ simp append-nil

    first : filter (is_attribute 1) (ordered_attributes xs) ≡ filter (is_attribute 1) xs
    first = among_four number (λ k. k) 1 xs ∙ simp append-nil

    second : filter (is_attribute 2) (ordered_attributes xs) ≡ filter (is_attribute 2) xs
    second = among_four number (λ k. k) 2 xs ∙ simp append-nil

    third : filter (is_attribute 3) (ordered_attributes xs) ≡ filter (is_attribute 3) xs
    third = among_four number (λ k. k) 3 xs ∙ refl

ordered_bare : (xs : List Attr) → map bare_attr (ordered_attributes xs) ≡ ordered_attributes (map bare_attr xs)
unfolding ordered_attributes
ordered_bare xs =
    map-append bare_attr ((part 0 ++ part 1) ++ part 2) (part 3) ∙ ap₂ (λ a b. a ++ b)
    (map-append bare_attr (part 0 ++ part 1) (part 2) ∙ ap₂ (λ a b. a ++ b) (map-append bare_attr (part 0) (part 1) ∙ ap₂ (λ a b. a ++ b) (here 0) (here 1)) (here 2)) (here 3)
  where
    part : ℕ → List Attr
    part n = filter (is_attribute n) xs

    here : (n : ℕ) → map bare_attr (filter (is_attribute n) xs) ≡ filter (is_attribute n) (map bare_attr xs)
    here n = map_filter bare_attr (is_attribute n) (is_attribute n) (λ a. refl) xs

fine_ordered : (d : ℕ) (xs : List Attr) → AllFine (Attribute d) xs → AllFine (Attribute d) (ordered_attributes xs)
unfolding ordered_attributes
fine_ordered d xs fine = fine_append (Attribute d) ((part 0 ++ part 1) ++ part 2) (part 3) (fine_append (Attribute d) (part 0 ++ part 1) (part 2) (fine_append (Attribute d) (part 0) (part 1) (here 0) (here 1)) (here 2)) (here 3)
  where
    part : ℕ → List Attr
    part n = filter (is_attribute n) xs

    here : (n : ℕ) → AllFine (Attribute d) (filter (is_attribute n) xs)
    here n = fine_filter (Attribute d) (is_attribute n) xs fine

has_ordered : (k : AttrKind) (xs : List Attr) → has_attribute k (ordered_attributes xs) ≡ has_attribute k xs
has_ordered k xs = any_filter (λ x. number x == attribute_number k) (ordered_attributes xs) ∙ ap some (kept (attribute origin k) xs) ∙ sym (any_filter (λ x. number x == attribute_number k) xs)

has_bare : (k : AttrKind) (xs : List Attr) → has_attribute k xs ≡ has_attribute k (map bare_attr xs)
has_bare k xs = any_map bare_attr (is_attribute (attribute_number k)) (is_attribute (attribute_number k)) (λ a. refl) xs

-- what is read again is the same in its order
again_same : (xs ys : List Attr) → map bare_attr (ordered_attributes xs) ≡ map bare_attr ys →
    (map bare_attr (ordered_attributes ys) ≡ map bare_attr (ordered_attributes xs)) × ((k : AttrKind) → has_attribute k ys ≡ has_attribute k xs)
again_same xs ys same = (
  ordered_bare ys ∙ ap ordered_attributes (sym same) ∙ sym (ordered_bare (ordered_attributes xs)) ∙ ap (map bare_attr) (ordered_again xs),
  λ k. has_bare k ys ∙ ap (has_attribute k) (sym same) ∙ sym (has_bare k (ordered_attributes xs)) ∙ has_ordered k xs,
)

-- attributes are written in their order before `ys`, and read again
pub attributes_front : (d : ℕ) (us : List Piece) (attrs : List Attr) → FromText us → Attributes d us attrs → (ys : List Written) → begins false is_calm ys ≡ true → Sound ys →
    (zs : List Written) × (joined zs ≡ flat_map (λ a. attr_text a.kind) (ordered_attributes attrs) ++ joined ys) × Sound zs × (begins false is_calm zs ≡ true)
    × ((ms : List Piece) → Matched false ms zs → (ns : List Piece) × (ps : List Piece) × (attrs' : List Attr) × (ms ≡ ns ++ ps) × Attributes d ns attrs' × (map bare_attr (ordered_attributes attrs') ≡ map bare_attr (ordered_attributes attrs)) × ((k : AttrKind) → has_attribute k attrs' ≡ has_attribute k attrs) × Matched false ps ys)
attributes_front d us attrs gen run ys begun sound =
    let start = spelled_fine (attribute_laws d) [] us attrs gen run (one_nil number single) in
    let one : AtMostOne number single (ordered_attributes attrs) = one_same number single attrs (ordered_attributes attrs) (λ a. kept a attrs) start.0 in
    let (zs, written, sound', begun', again) = front (attribute_laws d) [] (ordered_attributes attrs) (fine_ordered d attrs start.1) one ys begun sound in (
      zs,
      written,
      sound',
      begun',
      λ ms fits.
          let (ns, ps, attrs', cut, run', same, rest) = again [] refl ms fits in
          let sames = again_same attrs attrs' same in
          (ns, ps, attrs', cut, run', sames.0, sames.1, rest),
    )
