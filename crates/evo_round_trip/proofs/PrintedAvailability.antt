-- What stands in `@available(..)` is written.
use Rattle.std.proofs.Common.{◌≡◌, ℕ, ◌-◌, ◌^◌, ◌≤◌, lit<, List, [], ◌∷◌, ◌++◌, Bool, true, false, codes, Some, None, refl, sym, ◌∙◌, ap, ap₂, subst, inl, inr, cond, append_assoc, append-nil, arith}
use Rattle.std.specs.Prelude.{◌&&◌, nat_le}
use Rattle.std.specs.Fmt.{decimal}
use Rattle.std.specs.Str.{bytes_eq}
use Rattle.std.proofs.lemmas.Slice.Eq.{bytes_eq-Decides}
use Rattle.evo_base.specs.declared.place.Place.{Place}
use Rattle.evo_combinators.specs.Rule.{Empty, One, TokenThen, Then}
use Rattle.evo_lex.specs.Front.{when, integer_value}
use Rattle.evo_tree.specs.declared.declaration.Availability.{Availability}
use Rattle.evo_tree.specs.declared.declaration.Availability.TheVariants as availability
use Rattle.evo_tree.specs.declared.terminal.Role.TheVariants as role
use Rattle.evo_tree.specs.declared.terminal.Terminal.TheVariants as t
use Rattle.evo_tree.specs.Terminals.{number_of}
use Rattle.evo_tree.specs.Pieces.{Piece, mark, word, integer, is_terminal}
use Rattle.evo_tree.specs.Expressions.{Rule}
use Rattle.evo_tree.specs.Declarations.{standing, introduced, Number, Minor, IsAvailability}
use Rattle.evo_tree.specs.Bare.{origin}
use Rattle.evo_tree.specs.Canonical.{availability_text}
use Rattle.evo_round_trip.proofs.Written.{Written, is_gap}
use Rattle.evo_round_trip.proofs.Matching.{FromText, IsGenuine, IsName}
use Rattle.evo_round_trip.proofs.Printed.{Text, any, any_begins, is_apart, is_free, leads_free}
use Rattle.evo_round_trip.proofs.Prints.{Writes, Taken, print_in, print_only, print_or, print_led, print_then}
use Rattle.evo_parse_expr.proofs.Tests.{both_and, number_is}
use Rattle.evo_round_trip.proofs.Tokens.{deprecated_is_name, unavailable_is_name, mac_os_is_name}
use Rattle.evo_round_trip.proofs.TokensOfWords.{name_is_token}
use Rattle.evo_round_trip.proofs.TokensOfIntegers.{integer_value_is}
use Rattle.evo_round_trip.proofs.Spellings.{sign, named, numeral}
use Rattle.evo_round_trip.proofs.TakenTokens.{like_of, taken_mark, taken_word, taken_integer}
use Rattle.evo_round_trip.proofs.Heads.{is_calm, leads_apart, leads_dot}
use Rattle.evo_round_trip.proofs.PrintedTypes.{print_of}

-- ---- numbers

small : 2 ^ 32 - 1 ≤ 2 ^ 63
small = omega arith

number_prints : {p : Written → Bool} (gap : Text) → is_gap gap ≡ true → ((n : ℕ) → p (numeral gap n) ≡ true) → Writes true false p (λ n. gap ++ decimal n) (λ n m. n ≡ m) Number Number
number_prints gap blank begun = print_led {e' = true} {q = is_free} (taken_integer (2 ^ 32 - 1) gap small blank (λ u n g i. begun n)) (λ v ws b. leads_free _ (numeral gap v.1) ws refl b)
    (λ v. print_only (ap (λ z. gap ++ z) (append-nil (decimal v.1))) (λ a near. near.1))

abbrev Dotted : Rule ℕ
Dotted = TokenThen (mark t.Dot) (λ _. Number)

dotted_prints : Writes true false is_free (λ n. codes "." ++ decimal n) (λ n m. n ≡ m) Dotted Dotted
dotted_prints = print_led {e' = false} {q = is_calm} (taken_mark t.Dot [] refl refl (λ u g i. refl)) (λ c ws b. leads_dot _ ws b)
    (λ c. print_in (λ n z h. ap (λ v. codes "." ++ v) h) (number_prints [] refl (λ n. refl)))

-- a minor number that is left out is 0, which is written
minor_dotted : (us : List Piece) (n : ℕ) → FromText us → Minor us n → (vs : List Piece) × FromText vs × Dotted vs n
unfolding mark integer
minor_dotted us n gen (inl s) = (us, gen, s)
minor_dotted us n gen (inr only) = subst (λ z. (vs : List Piece) × FromText vs × Dotted vs z) (sym only.1) (u ∷ v ∷ [], (dot, (λ h. refl, λ h. absurd (cc)), (number, (tt, tt), tt)), (u, origin, v ∷ [], refl, refl, (v, (origin, 0), [], refl, zero_again, (refl, refl))))
  where
    u : Piece
    u = record { terminal = t.Dot; role = role.Unattached; below = false; place = origin; text = codes "." }

    v : Piece
    v = record { terminal = t.Integer; role = role.Unattached; below = false; place = origin; text = decimal 0 }

    dot : IsGenuine u
    dot = record { name = λ e. absurd (cc); self_type = λ e. absurd (cc) }

    number : IsGenuine v
    number = record { name = λ e. absurd (cc); self_type = λ e. absurd (cc) }

    zero_value : integer_value (decimal 0) ≡ 0
    zero_value = integer_value_is 0 (lit< tt)

    zero_again : when {A = Place × ℕ} (nat_le (integer_value (decimal 0)) (2 ^ 32 - 1)) (origin, integer_value (decimal 0)) ≡ Some (origin, 0)
    zero_again = ap (λ (k : ℕ). when {A = Place × ℕ} (nat_le k (2 ^ 32 - 1)) (origin, k)) zero_value

minor_prints : Writes true false is_free (λ n. codes "." ++ decimal n) (λ n m. n ≡ m) Minor Minor
minor_prints = record {
  holds = λ us n gen fst s.
      let (vs, gen', s') = minor_dotted us n gen s in
      let (ws, written, sound, begun, make) = dotted_prints.holds vs n gen' (any_begins vs) s' in
      (ws, written, sound, begun, λ a near ms f. let (m, r, same) = make tt tt ms f in (m, inl r, same));
}

-- ---- words

abbrev standing_text : Availability → Text
standing_text availability.Deprecated = codes "deprecated"
standing_text availability.Unavailable = codes "unavailable"
standing_text (availability.Introduced r) = []

-- what the word says
abbrev Stands : Availability → Type 0
Stands a = IsName (standing_text a) × ((m : Piece) → m.terminal ≡ t.Identifier → m.text ≡ standing_text a → standing m ≡ Some a) × (availability_text a ≡ codes "*, " ++ standing_text a)

deprecated_stands : Stands availability.Deprecated
unfolding standing
deprecated_stands = (deprecated_is_name, λ m is text. ap (λ b. cond b (Some availability.Deprecated) (cond (is_terminal t.Identifier m && bytes_eq m.text (codes "unavailable")) (Some availability.Unavailable) None)) (both_and (is_terminal t.Identifier m) _ (number_is t.Identifier m (ap number_of is)) ((bytes_eq-Decides m.text (codes "deprecated")).1 text)), refl)

unavailable_stands : Stands availability.Unavailable
unfolding standing
unavailable_stands = (unavailable_is_name, again, refl)
  where
    other : bytes_eq (codes "unavailable") (codes "deprecated") ≡ false
    other = refl

    again : (m : Piece) → m.terminal ≡ t.Identifier → m.text ≡ codes "unavailable" → standing m ≡ Some availability.Unavailable
    again m is text =
        let name : is_terminal t.Identifier m ≡ true = number_is t.Identifier m (ap number_of is) in
        ap₂ (λ a b. cond (a && b) (Some availability.Deprecated) (cond (is_terminal t.Identifier m && bytes_eq m.text (codes "unavailable")) (Some availability.Unavailable) None)) name (ap (λ z. bytes_eq z (codes "deprecated")) text ∙ other)
        ∙ ap (λ b. cond b (Some availability.Unavailable) None) (both_and (is_terminal t.Identifier m) _ name ((bytes_eq-Decides m.text (codes "unavailable")).1 text))

stands : (u : Piece) (a : Availability) → standing u ≡ Some a → Stands a
unfolding standing
stands u a takes = go (is_terminal t.Identifier u && bytes_eq u.text (codes "deprecated")) (is_terminal t.Identifier u && bytes_eq u.text (codes "unavailable")) takes
  where
    go : (b c : Bool) → cond b (Some availability.Deprecated) (cond c (Some availability.Unavailable) None) ≡ Some a → Stands a
    go true c e = let is : availability.Deprecated ≡ a = cc in subst Stands is deprecated_stands
    go false true e = let is : availability.Unavailable ≡ a = cc in subst Stands is unavailable_stands
    go false false e = absurd (cc)

abbrev SameAvailability : Availability → Availability → Type 0
SameAvailability a b = a ≡ b

taken_standing : {A : Type 0} {Near : A → Type 0} → Taken true any is_apart (λ (a : Availability). named (codes " ") (standing_text a)) Near SameAvailability standing (λ a. standing)
taken_standing = record {
  holds = λ u a gen passes takes. (
    name_is_token (codes " ") (standing_text a) refl (stands u a takes).0,
    refl,
    λ x near m f.
        let like = like_of true m (named (codes " ") (standing_text a)) f in
        (a, (stands u a takes).1 m like.terminal like.text, refl),
  );
}

-- `*` and a word
abbrev Starred : Rule Availability
Starred = TokenThen (mark t.Star) (λ _. TokenThen (mark t.Comma) (λ _. One standing))

starred_prints : Writes false false is_calm availability_text SameAvailability Starred Starred
starred_prints = print_of leaf (print_led {before = λ z. z} {out = λ a. codes "*, " ++ standing_text a} {e' = false} {q = is_free} (taken_mark t.Star [] refl refl (λ u g i. refl)) (λ c ws b. leads_free _ (sign [] t.Star) ws refl b)
    (λ c. print_led {e' = false} {q = is_apart} (taken_mark t.Comma [] refl refl (λ u g i. refl)) (λ c' ws b. leads_apart _ (sign [] t.Comma) ws refl b)
    (λ c'. print_led {e' = true} {q = is_free} taken_standing (λ a ws b. leads_free _ (named (codes " ") (standing_text a)) ws refl b)
    (λ a. print_only (ap (λ z. codes "*, " ++ z) (append-nil (standing_text a))) (λ x near. near.1)))))
  where
    leaf : (us : List Piece) (a : Availability) → Starred us a → (z : Text) → z ≡ codes "*, " ++ standing_text a → z ≡ availability_text a
    leaf us a (u, c, vs, at, takes, (v, c', ws, at', takes', (w, b, xs, at'', takes'', only))) z h = h ∙ sym (subst Stands (sym only.1) (stands w b takes'')).2

-- a release, and `*`
abbrev Released : Rule Availability
Released = TokenThen (word (codes "macOS")) (λ _. Then Number (λ n. Then Minor (λ m. TokenThen (mark t.Comma) (λ _. TokenThen (mark t.Star) (λ _. Empty (introduced n m))))))

released_leaf : (n m : Text) → codes "macOS" ++ ((codes " " ++ n) ++ ((codes "." ++ m) ++ codes ", *")) ≡ (codes "macOS " ++ ((n ++ codes ".") ++ m)) ++ codes ", *"
released_leaf n m = simp append_assoc

released_prints : Writes false false is_calm availability_text SameAvailability Released Released
released_prints = print_led {e' = false} {q = is_apart} (taken_word (codes "macOS") [] refl mac_os_is_name refl) (λ c ws b. leads_apart _ (named [] (codes "macOS")) ws refl b)
    (λ c. print_then {e' = false} (number_prints (codes " ") refl (λ n. refl)) (λ w i. i) (λ w i. i)
    (λ n. print_then {e' = false} minor_prints (λ w i. i) (λ w i. i)
    (λ m. print_led {e' = false} {q = is_apart} (taken_mark t.Comma [] refl refl (λ u g i. refl)) (λ c ws b. leads_apart _ (sign [] t.Comma) ws refl b)
    (λ c'. print_led {e' = true} {q = is_free} (taken_mark t.Star (codes " ") refl refl (λ u g i. refl)) (λ c ws b. leads_free _ (sign (codes " ") t.Star) ws refl b)
    (λ c''. print_only (released_leaf (decimal n) (decimal m)) (λ a near. ap₂ (λ x y. introduced x y) near.0.0.0.1 near.0.0.1))))))

pub availability_prints : Writes false false is_calm availability_text SameAvailability IsAvailability IsAvailability
availability_prints = print_or starred_prints released_prints
