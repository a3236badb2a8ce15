-- Patterns and the labels of clauses are written.
use Rattle.std.proofs.Common.{◌≡◌, ℕ, ◌-◌, ◌^◌, ◌≤◌, List, [], ◌∷◌, ◌++◌, map, Bool, true, false, codes, Option, Some, None, refl, sym, ◌∙◌, ap, ap₂, append_assoc, append-nil, arith}
use Rattle.std.specs.List.{flat_map, join_by}
use Rattle.std.specs.Option.{option_map}
use Rattle.std.specs.Fmt.{decimal}
use Rattle.std.proofs.lemmas.List.Concat.{flat_map-append}
use Rattle.evo_base.specs.declared.place.Place.{Place}
use Rattle.evo_combinators.specs.Rule.{Empty, TokenThen, One, Then}
use Rattle.evo_round_trip.proofs.Alike.{AllLike}
use Rattle.evo_tree.specs.declared.name.Identifier.{Identifier}
use Rattle.evo_tree.specs.declared.name.TypeName.{TypeName}
use Rattle.evo_tree.specs.declared.statement.Binding.{Binding}
use Rattle.evo_tree.specs.declared.statement.Pattern.{Pattern}
use Rattle.evo_tree.specs.declared.statement.Pattern.TheVariants as pattern
use Rattle.evo_tree.specs.declared.statement.ClauseLabel.{ClauseLabel}
use Rattle.evo_tree.specs.declared.statement.ClauseLabel.TheVariants as label
use Rattle.evo_tree.specs.declared.terminal.Terminal.{Terminal}
use Rattle.evo_tree.specs.declared.terminal.Terminal.TheVariants as t
use Rattle.evo_tree.specs.Pieces.{mark, identifier, integer, string}
use Rattle.evo_tree.specs.Types.{type_head}
use Rattle.evo_round_trip.proofs.TakenTypes.{head_word, taken_type_head}
use Rattle.evo_tree.specs.Statements.{attached_minus, binding, path_of, case_of_type, BindingPattern, PayloadPattern, Subs, PayloadTail, Payload, Path, Magnitude, IsPattern, Patterns, Label}
use Rattle.evo_tree.specs.Bare.{origin, bare_identifier, bare_type, bare_binding, bare_pattern, bare_clause_label}
use Rattle.evo_tree.specs.Canonical.{Text, boolean_text, name_text, type_text, bound_text, binding_text, pattern_text, string_text, optional, listed}
use Rattle.evo_round_trip.proofs.Written.{Written, is_gap}
use Rattle.evo_round_trip.proofs.Printed.{any, is_apart, is_free, leads_free}
use Rattle.evo_round_trip.proofs.Prints.{Prints, Writes, Alone, print_only, print_or, print_led, print_nested, print_then, print_after, print_many, print_behind, print_in, print_firm, print_more, print_onto}
use Rattle.evo_round_trip.proofs.Spellings.{sign, named, numeral, quoted}
use Rattle.evo_round_trip.proofs.TokensOfTerminals.{spelling, has_spelling}
use Rattle.evo_round_trip.proofs.TakenTokens.{taken_mark, taken_name, taken_word, taken_integer, taken_string, taken_attached, SameName}
use Rattle.evo_round_trip.proofs.Tokens.{unknown_is_name}
use Rattle.evo_round_trip.proofs.Heads.{is_head, is_calm, is_number, head_flush, leads_apart, leads_open, leads_calm, leads_dot, leads_minus}
use Rattle.evo_round_trip.proofs.ExpressionTrees.{like_map}

abbrev pub SameBinding : Binding → Binding → Type 0
SameBinding a b = bare_binding a ≡ bare_binding b

abbrev pub SameBindings : Option (List Binding) → Option (List Binding) → Type 0
SameBindings xs ys = option_map (map bare_binding) xs ≡ option_map (map bare_binding) ys

abbrev pub SamePattern : Pattern → Pattern → Type 0
SamePattern a b = bare_pattern a ≡ bare_pattern b

-- ---- what values of a payload are bound to

module _ {A : Type 0} (firm : Bool) (before : Text → Text) (Near : A → Type 0) (gap : List ℕ) (blank : is_gap gap ≡ true) (p : Written → Bool) (l : Option Identifier) (l' : A → Option Identifier)
    (begun : (k : Terminal) → (k ≡ t.Let) → p (sign gap t.Let) ≡ true) (begun' : p (sign gap t.Underscore) ≡ true)
    (written : (n : Option Identifier) → before (gap ++ (bound_text n ++ [])) ≡ binding_text (binding l n))
    (like : (a : A) → Near a → option_map bare_identifier l ≡ option_map bare_identifier (l' a)) where
  same_binding : (a : A) → Near a → (n m : Option Identifier) → option_map bare_identifier n ≡ option_map bare_identifier m → SameBinding (binding l n) (binding (l' a) m)
  same_binding a near n m is = ap₂ (λ v w. record { label = v; name = w }) (like a near) is

  binder_prints : Prints firm any false p before binding_text Near SameBinding (BindingPattern l) (λ a. BindingPattern (l' a))
  binder_prints = print_or
      (print_led {e' = false} {q = is_apart} (taken_mark t.Let gap refl blank (λ u g i. begun t.Let refl)) (λ c ws b. leads_apart _ (sign gap t.Let) ws refl b)
      (λ c. print_led {e' = true} {q = is_free} (taken_name (codes " ") refl (λ u w g i same. refl)) (λ n ws b. leads_free _ (named (codes " ") n.text) ws refl b)
      (λ n. print_only (written (Some n)) (λ a near. same_binding a.0.0 near.0.0 (Some n) (Some a.1) (ap (λ v. Some v) near.1)))))
      (print_led {e' = true} {q = is_free} (taken_mark t.Underscore gap refl blank (λ u g i. begun')) (λ c ws b. leads_free _ (sign gap t.Underscore) ws refl b)
      (λ c. print_only (written None) (λ a near. same_binding a.0 near.0 None None refl)))

sub_prints : Writes false false is_head binding_text SameBinding PayloadPattern PayloadPattern
sub_prints = print_or
    (print_led {e' = false} {q = is_free} (taken_name [] refl (λ u w g i same. refl)) (λ n ws b. leads_free _ (named [] n.text) ws refl b)
    (λ n. print_led {e' = false} {q = is_apart} (taken_mark t.Colon [] refl refl (λ u g i. refl)) (λ c ws b. leads_apart _ (sign [] t.Colon) ws refl b)
    (λ c. binder_prints true (λ z. n.text ++ (codes ":" ++ z)) _ (codes " ") refl is_apart (Some n) (λ a. Some a.0.1) (λ k i. refl) refl (λ m. simp (append_assoc, append-nil)) (λ a near. ap (λ v. Some v) near.0.1))))
    (binder_prints false (λ z. z) Alone [] refl is_head None (λ a. None) (λ k i. refl) refl (λ m. append-nil (bound_text m)) (λ a near. refl))

subs_prints : Writes false false is_head (join_by binding_text (codes ", ")) (λ xs ys. map bare_binding xs ≡ map bare_binding ys) Subs Subs
subs_prints = print_then sub_prints (λ w i. i) (λ w i. i)
    (λ b. print_after {q = is_free} (print_many {out = λ c. codes ", " ++ binding_text c} (λ w i. i) further) (λ w i. i) (λ w i. i) (λ w i. i)
    (λ bs. print_only (ap (λ z. binding_text b ++ z) (append-nil (flat_map (λ c. codes ", " ++ binding_text c) bs))) (λ a near. ap₂ (λ v w. v ∷ w) near.0.1 (like_map bare_binding bs a.1 near.1))))
  where
    further : Writes true false is_free (λ c. codes ", " ++ binding_text c) SameBinding (TokenThen (mark t.Comma) (λ _. PayloadPattern)) (TokenThen (mark t.Comma) (λ _. PayloadPattern))
    further = print_led {e' = false} {q = is_apart} (taken_mark t.Comma [] refl refl (λ u g i. refl)) (λ c ws b. leads_apart _ (sign [] t.Comma) ws refl b)
        (λ c. print_in (λ b z h. ap (λ v. codes "," ++ v) h) (print_firm (print_behind (codes " ") refl refl (print_more (λ h. h) head_flush sub_prints))))

abbrev payload_text : Option (List Binding) → Text
payload_text bs = optional (λ b. codes "(" ++ listed binding_text b ++ codes ")") bs

payload_prints : (d : ℕ) → Writes true true is_free payload_text SameBindings (Payload d) (Payload d)
payload_prints d = print_or
    (print_nested d (print_led {e' = false} {q = is_head} (taken_mark t.OpenParenthesis [] refl refl (λ u g i. refl)) (λ c ws b. leads_open _ ws b)
    (λ c. print_then {q = is_free} rest (λ w i. i) (λ w i. i) (λ bs. print_only {p = is_free} (simp (append_assoc, append-nil)) (λ a near. ap (λ v. Some v) near.1)))))
    (print_only refl (λ a near. refl))
  where
    rest : Writes true false is_head (λ bs. join_by binding_text (codes ", ") bs ++ codes ")") (λ xs ys. map bare_binding xs ≡ map bare_binding ys) PayloadTail PayloadTail
    rest = print_then {e' = false} (print_firm subs_prints) (λ w i. i) (λ w i. i)
        (λ bs. print_led {e' = true} {q = is_free} (taken_mark t.CloseParenthesis [] refl refl (λ u g i. refl)) (λ c ws b. leads_free _ (sign [] t.CloseParenthesis) ws refl b) (λ c. print_only refl (λ a near. near.0.1)))

-- ---- patterns

small : 2 ^ 63 - 1 ≤ 2 ^ 63
small = omega arith

implicit_prints : (d : ℕ) → Writes false false is_head pattern_text SamePattern (TokenThen (mark t.Dot) (λ p. TokenThen identifier (λ n. Then (Payload d) (λ bs. Empty (pattern.Case p None n bs)))))
    (TokenThen (mark t.Dot) (λ p. TokenThen identifier (λ n. Then (Payload d) (λ bs. Empty (pattern.Case p None n bs)))))
implicit_prints d = print_led {e' = false} {q = is_calm} (taken_mark t.Dot [] refl refl (λ u g i. refl)) (λ c ws b. leads_dot _ ws b)
    (λ c. print_led {e' = true} {q = is_free} (taken_name [] refl (λ u w g i same. refl)) (λ n ws b. leads_free _ (named [] n.text) ws refl b)
    (λ n. print_after (payload_prints d) (λ w i. i) (λ w i. i) (λ w i. i)
    (λ bs. print_only (simp append_assoc (ap (λ z. codes "." ++ (n.text ++ z)) (append-nil (payload_text bs)))) (λ a near. ap₂ (λ v w. pattern.Case origin None v w) near.0.1 near.1))))

integer_prints : Writes false false is_head pattern_text SamePattern (TokenThen (integer (2 ^ 63 - 1)) (λ v. Empty (pattern.Integer v.0 v.1))) (TokenThen (integer (2 ^ 63 - 1)) (λ v. Empty (pattern.Integer v.0 v.1)))
integer_prints = print_led {e' = true} {q = is_free} (taken_integer (2 ^ 63 - 1) [] small refl (λ u n g i. refl)) (λ v ws b. leads_free _ (numeral [] v.1) ws refl b)
    (λ v. print_only (append-nil (decimal v.1)) (λ a near. ap (λ n. pattern.Integer origin n) near.1))

negative_prints : Writes false false is_head pattern_text SamePattern (TokenThen attached_minus Magnitude) (TokenThen attached_minus Magnitude)
negative_prints = print_led {e' = false} {q = is_number} (taken_attached (λ u g i. refl)) (λ c ws b. leads_minus ws b)
    (λ c. print_led {e' = true} {q = is_free} (taken_integer (2 ^ 63) [] (omega arith) refl (λ u n g i. refl)) (λ v ws b. leads_free _ (numeral [] v.1) ws refl b)
    (λ v. print_only (ap (λ z. codes "-" ++ z) (append-nil (decimal v.1))) (λ a near. ap (λ n. pattern.Negative origin n) near.1)))

string_prints : Writes false false is_head pattern_text SamePattern (TokenThen string (λ v. Empty (pattern.String v.0 v.1))) (TokenThen string (λ v. Empty (pattern.String v.0 v.1)))
string_prints = print_led {e' = true} {q = is_free} (taken_string [] refl (λ u n g i. refl)) (λ v ws b. leads_free _ (quoted [] v.1) ws refl b)
    (λ v. print_only (append-nil (string_text v.1)) (λ a near. ap (λ n. pattern.String origin n) near.1))

boolean_prints : (k : Terminal) (b : Bool) → has_spelling k ≡ true → spelling k ≡ boolean_text b → is_head (sign [] k) ≡ true →
    Writes false false is_head pattern_text SamePattern (TokenThen (mark k) (λ p. Empty (pattern.Boolean p b))) (TokenThen (mark k) (λ p. Empty (pattern.Boolean p b)))
boolean_prints k b has is begun = print_led {e' = true} {q = is_free} (taken_mark k [] has refl (λ u g i. begun)) (λ c ws h. leads_free _ (sign [] k) ws refl h) (λ c. print_only (append-nil (spelling k) ∙ is) (λ a near. refl))

-- ---- a case of a type

abbrev dotted : List ℕ → Text
dotted m = codes "." ++ m

abbrev path_words : TypeName × Identifier → Text
path_words path = type_text path.0 ++ (codes "." ++ name_text path.1)

-- the text of the type and the case that names are
path_text : (p : Place) (x : List ℕ) (xs : List (List ℕ)) (n : Identifier) (ns : List Identifier) →
    path_words (path_of p (x ∷ xs) n ns) ≡ (x ++ flat_map dotted xs) ++ (codes "." ++ (n.text ++ flat_map (λ m. codes "." ++ name_text m) ns))
path_text p x xs n [] = ap (λ z. (x ++ flat_map dotted xs) ++ (codes "." ++ z)) (sym (append-nil n.text))
path_text p x xs n (m ∷ ms) =
    path_text p x (xs ++ n.text ∷ []) m ms
    ∙ ap (λ z. (x ++ z) ++ (codes "." ++ (m.text ++ flat_map (λ k. codes "." ++ name_text k) ms))) (flat_map-append dotted xs (n.text ∷ []))
    ∙ simp (append_assoc, append-nil)

abbrev SamePath : TypeName × Identifier → TypeName × Identifier → Type 0
SamePath a b = (bare_type a.0 ≡ bare_type b.0) × SameName a.1 b.1

path_like : (p q : Place) (xs ys : List (List ℕ)) (n m : Identifier) (ns ms : List Identifier) → xs ≡ ys → SameName n m → AllLike SameName ns ms → SamePath (path_of p xs n ns) (path_of q ys m ms)
path_like p q xs ys n m [] [] is same likes = (ap (λ z. record { place = origin; names = z }) is, same)
path_like p q xs ys n m [] (y ∷ ms) is same likes = absurd likes
path_like p q xs ys n m (x ∷ ns) [] is same likes = absurd likes
path_like p q xs ys n m (x ∷ ns) (y ∷ ms) is same likes = path_like p q (xs ++ n.text ∷ []) (ys ++ m.text ∷ []) x y ns ms (ap₂ (λ v w. v ++ w ∷ []) is (ap (λ (i : Identifier). i.text) same)) likes.0 likes.1

abbrev SameHead : Place × List ℕ → Place × List ℕ → Type 0
SameHead a b = a.1 ≡ b.1

link_prints : Writes true false is_free (λ m. codes "." ++ name_text m) SameName (TokenThen (mark t.Dot) (λ _. One identifier)) (TokenThen (mark t.Dot) (λ _. One identifier))
link_prints = print_led {e' = false} {q = is_calm} (taken_mark t.Dot [] refl refl (λ u g i. refl)) (λ c ws b. leads_dot _ ws b)
    (λ c. print_led {e' = true} {q = is_free} (taken_name [] refl (λ u w g i same. refl)) (λ n ws b. leads_free _ (named [] n.text) ws refl b)
    (λ n. print_only (ap (λ z. codes "." ++ z) (append-nil n.text)) (λ a near. near.1)))

path_prints : {A : Type 0} (Near : A → Type 0) (head : Place × List ℕ) (head' : A → Place × List ℕ) → ((a : A) → Near a → SameHead head (head' a)) →
    Prints true any false is_free (λ z. head.1 ++ z) path_words Near SamePath (Path head) (λ a. Path (head' a))
path_prints Near head head' like = print_led {e' = false} {q = is_calm} (taken_mark t.Dot [] refl refl (λ u g i. refl)) (λ c ws b. leads_dot _ ws b)
    (λ c. print_led {e' = true} {q = is_free} (taken_name [] refl (λ u w g i same. refl)) (λ n ws b. leads_free _ (named [] n.text) ws refl b)
    (λ n. print_after (print_many (λ w i. i) link_prints) (λ w i. i) (λ w i. i) (λ w i. i)
    (λ ns. print_only (leaf n ns)
    (λ a near. path_like head.0 (head' a.0.0.0).0 (head.1 ∷ []) ((head' a.0.0.0).1 ∷ []) n a.0.1 ns a.1 (ap (λ z. z ∷ []) (like a.0.0.0 near.0.0.0)) near.0.1 near.1))))
  where
    leaf : (n : Identifier) (ns : List Identifier) → head.1 ++ (codes "." ++ (n.text ++ (flat_map (λ m. codes "." ++ name_text m) ns ++ []))) ≡ path_words (path_of head.0 (head.1 ∷ []) n ns)
    leaf n ns = ap (λ z. head.1 ++ (codes "." ++ (n.text ++ z))) (append-nil (flat_map (λ m. codes "." ++ name_text m) ns))
        ∙ ap (λ z. z ++ (codes "." ++ (n.text ++ flat_map (λ m. codes "." ++ name_text m) ns))) (sym (append-nil head.1)) ∙ sym (path_text head.0 head.1 [] n ns)

case_prints : (d : ℕ) → Writes false false is_head pattern_text SamePattern (TokenThen type_head (λ head. Then (Path head) (λ path. Then (Payload d) (λ bs. Empty (case_of_type path head.0 bs)))))
    (TokenThen type_head (λ head. Then (Path head) (λ path. Then (Payload d) (λ bs. Empty (case_of_type path head.0 bs)))))
case_prints d = print_led {e' = false} {q = is_free} (taken_type_head [] refl (λ text. refl)) (λ h ws b. leads_free _ (head_word [] h.1) ws refl b)
    (λ head. print_onto {q = is_free} {e' = true} (λ x y. sym (append_assoc head.1 x y)) (path_prints _ head (λ a. a.1) (λ a near. near.1)) (λ w i. i) (λ w i. i)
    (λ path. print_after (payload_prints d) (λ w i. i) (λ w i. i) (λ w i. i)
    (λ bs. print_only (ap (λ z. path_words path ++ z) (append-nil (payload_text bs)) ∙ simp append_assoc) (λ a near. case_like path a.0.1 bs a.1 near.0.1 near.1))))
  where
    case_like : (p q : TypeName × Identifier) (bs cs : Option (List Binding)) → SamePath p q → SameBindings bs cs → pattern.Case origin (Some (bare_type p.0)) (bare_identifier p.1) (option_map (map bare_binding) bs) ≡ pattern.Case origin (Some (bare_type q.0)) (bare_identifier q.1) (option_map (map bare_binding) cs)
    case_like p q bs cs same is = ap₂ (λ v w. pattern.Case origin (Some v) w (option_map (map bare_binding) bs)) same.0 same.1 ∙ ap (λ z. pattern.Case origin (Some (bare_type q.0)) (bare_identifier q.1) z) is

pub pattern_prints : (d : ℕ) → Writes false false is_head pattern_text SamePattern (IsPattern d) (IsPattern d)
pattern_prints d = print_or (implicit_prints d) (print_or (case_prints d) (print_or negative_prints (print_or integer_prints (print_or string_prints
    (print_or (boolean_prints t.True true refl refl refl) (boolean_prints t.False false refl refl refl))))))

-- ---- labels of clauses

patterns_prints : (d : ℕ) → Writes false false is_head (join_by pattern_text (codes ", ")) (λ xs ys. map bare_pattern xs ≡ map bare_pattern ys) (Patterns d) (Patterns d)
patterns_prints d = print_then (pattern_prints d) (λ w i. i) (λ w i. i)
    (λ b. print_after {q = is_free} (print_many {out = λ c. codes ", " ++ pattern_text c} (λ w i. i) further) (λ w i. i) (λ w i. i) (λ w i. i)
    (λ bs. print_only (ap (λ z. pattern_text b ++ z) (append-nil (flat_map (λ c. codes ", " ++ pattern_text c) bs))) (λ a near. ap₂ (λ v w. v ∷ w) near.0.1 (like_map bare_pattern bs a.1 near.1))))
  where
    further : Writes true false is_free (λ c. codes ", " ++ pattern_text c) SamePattern (TokenThen (mark t.Comma) (λ _. IsPattern d)) (TokenThen (mark t.Comma) (λ _. IsPattern d))
    further = print_led {e' = false} {q = is_apart} (taken_mark t.Comma [] refl refl (λ u g i. refl)) (λ c ws b. leads_apart _ (sign [] t.Comma) ws refl b)
        (λ c. print_in (λ b z h. ap (λ v. codes "," ++ v) h) (print_firm (print_behind (codes " ") refl refl (print_more (λ h. h) head_flush (pattern_prints d)))))

-- a label without its colon
abbrev pub label_words : ClauseLabel → Text
label_words (label.Case ps) = codes "case " ++ listed pattern_text ps
label_words label.Default = codes "default"
label_words label.UnknownDefault = codes "@unknown default"

abbrev pub SameLabel : Place × ClauseLabel → Place × ClauseLabel → Type 0
SameLabel a b = bare_clause_label a.1 ≡ bare_clause_label b.1

pub label_prints : (d : ℕ) → Writes false false is_head (λ l. label_words l.1) SameLabel (Label d) (Label d)
label_prints d = print_or
    (print_led {e' = false} {q = is_apart} (taken_mark t.Case [] refl refl (λ u g i. refl)) (λ c ws b. leads_apart _ (sign [] t.Case) ws refl b)
    (λ c. print_then {q = is_free} {e' = true} (print_firm (print_behind (codes " ") refl refl (print_more (λ h. h) head_flush (patterns_prints d)))) (λ w i. i) (λ w i. i)
    (λ ps. print_only {p = is_free} (ap (λ z. codes "case " ++ z) (append-nil (listed pattern_text ps))) (λ a near. ap (λ z. label.Case z) near.1))))
    (print_or
    (print_led {e' = true} {q = is_free} (taken_mark t.Default [] refl refl (λ u g i. refl)) (λ c ws b. leads_free _ (sign [] t.Default) ws refl b) (λ c. print_only refl (λ a near. refl)))
    (print_led {e' = false} {q = is_calm} (taken_mark t.At [] refl refl (λ u g i. refl)) (λ c ws b. leads_calm _ (sign [] t.At) ws (λ k. refl) refl b)
    (λ c. print_led {e' = false} {q = is_apart} (taken_word (codes "unknown") [] refl unknown_is_name refl) (λ c' ws b. leads_apart _ (named [] (codes "unknown")) ws refl b)
    (λ c'. print_led {e' = true} {q = is_free} (taken_mark t.Default (codes " ") refl refl (λ u g i. refl)) (λ c'' ws b. leads_free _ (sign (codes " ") t.Default) ws refl b) (λ c''. print_only refl (λ a near. refl))))))
