-- Types are written, alone and in lists: types with `&`, types with commas, and behind `:`.
use Rattle.std.proofs.Common.{◌≡◌, ℕ, List, [], ◌∷◌, ◌++◌, map, Bool, true, false, codes, refl, sym, ◌∙◌, ap, ap₂, subst, append_assoc, append-nil}
use Rattle.std.specs.List.{flat_map, join_by}
use Rattle.evo_combinators.specs.Rule.{Empty, One, TokenThen, Or}
use Rattle.evo_round_trip.proofs.Alike.{AllLike}
use Rattle.evo_tree.specs.declared.name.TypeName.{TypeName}
use Rattle.evo_tree.specs.declared.terminal.Terminal.{Terminal}
use Rattle.evo_tree.specs.declared.terminal.Terminal.TheVariants as t
use Rattle.evo_tree.specs.Pieces.{Piece, mark}
use Rattle.evo_tree.specs.Expressions.{Rule}
use Rattle.evo_tree.specs.Types.{plain_name, IsType}
use Rattle.evo_tree.specs.Declarations.{Separated, Protocols, Conforming, Inherited}
use Rattle.evo_tree.specs.Bare.{origin, bare_type}
use Rattle.evo_tree.specs.Canonical.{type_text, listed, unless_empty, constraint_text, inherited_text}
use Rattle.evo_tree.specs.Canonical as canonical
use Rattle.evo_round_trip.proofs.Written.{Written, joined, is_gap}
use Rattle.evo_round_trip.proofs.Printed.{Text, is_apart, is_flush, is_free, leads_free}
use Rattle.evo_round_trip.proofs.Prints.{Prints, Writes, print_alone, print_in, print_only, print_or, print_led, print_then, print_after, print_many, print_behind, print_firm, print_more}
use Rattle.evo_round_trip.proofs.Spellings.{sign, named}
use Rattle.evo_round_trip.proofs.Tokens.{spelling, has_spelling}
use Rattle.evo_round_trip.proofs.TakenTokens.{taken_mark}
use Rattle.evo_round_trip.proofs.TakenTypes.{head_word, taken_type_head, taken_plain_name}
use Rattle.evo_round_trip.proofs.Heads.{is_calm, calm_flush, leads_apart, leads_dot}
use Rattle.evo_round_trip.proofs.ExpressionTrees.{like_map}

-- the same, with other words for what is written of the values that the rule spells
pub print_of : {A B : Type 0} {firm : Bool} {g : Piece → Bool} {e : Bool} {p : Written → Bool} {before before' : Text → Text} {out out' : B → Text} {Near : A → Type 0} {Same : B → B → Type 0} {S : Rule B} {S' : A → Rule B} →
    ((us : List Piece) (b : B) → S us b → (z : Text) → before z ≡ out b → before' z ≡ out' b) → Prints firm g e p before out Near Same S S' → Prints firm g e p before' out' Near Same S S'
print_of h cs = record { holds = λ us b gen fst s. let (ws, written, sound, begun, make) = cs.holds us b gen fst s in (ws, h us b s (joined ws) written, sound, begun, make) }

-- ---- a type

abbrev pub SameType : TypeName → TypeName → Type 0
SameType a b = bare_type a ≡ bare_type b

abbrev SameText : Text → Text → Type 0
SameText a b = a ≡ b

all_same : (xs ys : List Text) → AllLike SameText xs ys → xs ≡ ys
all_same [] [] h = refl
all_same [] (y ∷ ys) h = absurd h
all_same (x ∷ xs) [] h = absurd h
all_same (x ∷ xs) (y ∷ ys) h = ap₂ (λ z w. z ∷ w) h.0 (all_same xs ys h.1)

part_prints : Writes true false is_free (λ n. codes "." ++ n) SameText (TokenThen (mark t.Dot) (λ _. One plain_name)) (TokenThen (mark t.Dot) (λ _. One plain_name))
part_prints = print_led {e' = false} {q = is_calm} (taken_mark t.Dot [] refl refl (λ u g i. refl)) (λ c ws b. leads_dot _ ws b)
    (λ c. print_led {e' = true} {q = is_free} (taken_plain_name [] refl (λ text. refl)) (λ n ws b. leads_free _ (named [] n) ws refl b)
    (λ n. print_only (ap (λ z. codes "." ++ z) (append-nil n)) (λ a near. near.1)))

-- a type is written
pub type_prints : Writes false false is_calm type_text SameType IsType IsType
type_prints = print_then
    (print_led {e' = true} {q = is_free} (taken_type_head [] refl (λ text. refl)) (λ v ws b. leads_free _ (head_word [] v.1) ws refl b) (λ v. print_only {p = is_free} (append-nil v.1) (λ a near. near.1)))
    (λ w i. i) (λ w i. i)
    (λ v. print_after {q = is_free} (print_many {out = λ n. codes "." ++ n} (λ w i. i) part_prints) (λ w i. i) (λ w i. i) (λ w i. i)
    (λ ns. print_only (ap (λ z. v.1 ++ z) (append-nil (flat_map (λ n. codes "." ++ n) ns))) (λ a near. ap₂ (λ x y. record { place = origin; names = x ∷ y }) near.0.1 (all_same ns a.1 near.1))))

-- behind a blank
pub type_behind : Writes false false is_apart (λ x. codes " " ++ type_text x) SameType IsType IsType
type_behind = print_behind (codes " ") refl refl (print_more (λ h. h) calm_flush type_prints)

-- ---- lists

abbrev pub SameTypes : List TypeName → List TypeName → Type 0
SameTypes xs ys = map bare_type xs ≡ map bare_type ys

-- what is separated is not empty
pub some_separated : {B : Type 0} (k : Terminal) (S : Rule B) (us : List Piece) (bs : List B) → Separated k S us bs → (x : B) × (xs : List B) × (bs ≡ x ∷ xs)
some_separated k S us bs (x, vs, ws, at, s, (xs, ys, zs, cut, many, only)) = (x, xs, only.1)

-- the same but for places, which `bare` takes away
abbrev pub SameBy : {B : Type 0} → (B → B) → B → B → Type 0
SameBy bare a b = bare a ≡ bare b

abbrev pub SameAllBy : {B : Type 0} → (B → B) → List B → List B → Type 0
SameAllBy bare xs ys = map bare xs ≡ map bare ys

abbrev pub mark_text : Text → Terminal → Text
mark_text gap k = gap ++ (spelling k ++ codes " ")

further_leaf : (gap mark rest z : Text) → z ≡ codes " " ++ rest → gap ++ (mark ++ z) ≡ (gap ++ (mark ++ codes " ")) ++ rest
further_leaf gap mark rest z h = ap (λ v. gap ++ (mark ++ v)) h ∙ sym (simp append_assoc)

module _ {B : Type 0} {p : Written → Bool} {out : B → Text} (bare : B → B) (S : Rule B) (k : Terminal) (gap : List ℕ) (has : has_spelling k ≡ true) (blank : is_gap gap ≡ true) (free : is_free (sign gap k) ≡ true) where
  -- a list with a mark between each two is written, with a blank behind the mark
  pub separated_prints : ((w : Written) → p w ≡ true → is_flush w ≡ true) → Writes false false p out (SameBy bare) S S → Writes false false p (join_by out (mark_text gap k)) (SameAllBy bare) (Separated k S) (Separated k S)
  separated_prints flush law = print_then law (λ w i. i) (λ w i. i)
      (λ x. print_after {q = is_free} (print_many {out = λ b. mark_text gap k ++ out b} (λ w i. i) further) (λ w i. i) (λ w i. i) (λ w i. i)
      (λ xs. print_only (ap (λ z. out x ++ z) (append-nil (flat_map (λ b. mark_text gap k ++ out b) xs))) (λ a near. ap₂ (λ v w. v ∷ w) near.0.1 (like_map bare xs a.1 near.1))))
    where
      further : Writes true false is_free (λ b. mark_text gap k ++ out b) (SameBy bare) (TokenThen (mark k) (λ _. S)) (TokenThen (mark k) (λ _. S))
      further = print_led {e' = false} {q = is_apart} (taken_mark k gap has blank (λ u g i. free)) (λ c ws b. leads_apart _ (sign gap k) ws refl b)
          (λ c. print_in (λ b z h. further_leaf gap (spelling k) (out b) z h) (print_firm (print_behind (codes " ") refl refl (print_more (λ h. h) flush law))))

-- types with `&`
pub protocols_print : Writes false false is_calm canonical.joined SameTypes Protocols Protocols
protocols_print = separated_prints bare_type IsType t.And (codes " ") refl refl refl calm_flush type_prints

-- types with commas
pub types_print : Writes false false is_calm (listed type_text) SameTypes (Separated t.Comma IsType) (Separated t.Comma IsType)
types_print = separated_prints bare_type IsType t.Comma [] refl refl refl calm_flush type_prints

-- a list behind a colon and a blank, where it has items
pub behind_colon : {B : Type 0} {p : Written → Bool} {out : List B → Text} (bare : B → B) (S : Rule B) (k : Terminal) → ((w : Written) → p w ≡ true → is_flush w ≡ true) →
    Writes false false p out (SameAllBy bare) (Separated k S) (Separated k S) →
    Writes true true is_free (unless_empty (codes ": ") out []) (SameAllBy bare) (Or (TokenThen (mark t.Colon) (λ _. Separated k S)) (Empty [])) (Or (TokenThen (mark t.Colon) (λ _. Separated k S)) (Empty []))
behind_colon {B} {p} {out} bare S k flush law = print_or
    (print_led {e' = false} {q = is_apart} (taken_mark t.Colon [] refl refl (λ u g i. refl)) (λ c ws b. leads_apart _ (sign [] t.Colon) ws refl b)
    (λ c. print_of leaf (print_alone (print_firm (print_behind (codes " ") refl refl (print_more (λ h. h) flush law))))))
    (print_only refl (λ a near. refl))
  where
    leaf : (us : List Piece) (bs : List B) → Separated k S us bs → (z : Text) → z ≡ codes " " ++ out bs → codes ":" ++ z ≡ unless_empty (codes ": ") out [] bs
    leaf us bs s z h = let (x, xs, is) = some_separated k S us bs s in
        ap (λ v. codes ":" ++ v) h ∙ subst (λ v. codes ":" ++ (codes " " ++ out v) ≡ unless_empty (codes ": ") out [] v) (sym is) (sym (append-nil (codes ": " ++ out (x ∷ xs))))

-- [ ":" protos ]
pub conforming_prints : Writes true true is_free constraint_text SameTypes Conforming Conforming
conforming_prints = behind_colon bare_type IsType t.And calm_flush protocols_print

-- inherit
pub inherited_prints : Writes true true is_free inherited_text SameTypes Inherited Inherited
inherited_prints = behind_colon bare_type IsType t.Comma calm_flush types_print
