-- Generics and parameters of headers are written.
use Rattle.std.proofs.Common.{◌≡◌, ℕ, List, [], ◌++◌, true, false, codes, Some, refl, sym, ◌∙◌, ap, ap₂, subst, inl, inr, append_assoc, append-nil}
use Rattle.std.specs.Prelude.{not}
use Rattle.std.proofs.lemmas.Bool.{or_left}
use Rattle.evo_base.specs.declared.place.Place.{Place}
use Rattle.evo_combinators.specs.Rule.{Empty, TokenThen, Then}
use Rattle.evo_tree.specs.declared.name.Identifier.{Identifier}
use Rattle.evo_tree.specs.declared.name.TypeName.{TypeName}
use Rattle.evo_tree.specs.declared.declaration.GenericParameter.{GenericParameter}
use Rattle.evo_tree.specs.declared.declaration.ParameterLabel.{ParameterLabel}
use Rattle.evo_tree.specs.declared.declaration.ParameterLabel.TheVariants as label
use Rattle.evo_tree.specs.declared.declaration.Parameter.{Parameter}
use Rattle.evo_tree.specs.declared.scope.Scope.{Scope}
use Rattle.evo_tree.specs.declared.terminal.Terminal.TheVariants as t
use Rattle.evo_tree.specs.Pieces.{Piece, mark, identifier, is_terminal}
use Rattle.evo_tree.specs.Types.{type_head, plain_name, IsType}
use Rattle.evo_tree.specs.Declarations.{Separated, is_protocol, Protocols, Conforming, Generic, parameter, ParameterTail, IsParameter, Parameters, Generics}
use Rattle.evo_tree.specs.Bare.{origin, bare_identifier, bare_type, bare_generic, bare_parameter_label, bare_parameter}
use Rattle.evo_tree.specs.Canonical.{listed, unless_empty, type_text, typed, constraint_text, generic_text, parameter_text}
use Rattle.evo_round_trip.proofs.Printed.{Text, any, is_apart, is_free, leads_free}
use Rattle.evo_round_trip.proofs.Prints.{Prints, Writes, print_only, print_nothing, print_or, print_led, print_nested, print_then, print_after, print_firm}
use Rattle.evo_parse_expr.proofs.Tests.{when_some, and_both, number_is, identifier_number, plain_name_number}
use Rattle.evo_round_trip.proofs.Spellings.{sign, named}
use Rattle.evo_round_trip.proofs.TakenTokens.{taken_mark, taken_name}
use Rattle.evo_round_trip.proofs.TakenTypes.{taken_if}
use Rattle.evo_round_trip.proofs.Heads.{is_calm, calm_flush, apart_free, leads_apart, leads_calm}
use Rattle.evo_round_trip.proofs.Adjacent.{is_snug, is_worded, is_marked, worded_calm, leads_worded, Ends, Keeps, is_head_piece, then_ends, then_keeps, only_keeps, led_ends, name_ends, many_keeps, separated_ends, print_snug}
use Rattle.evo_round_trip.proofs.PrintedTypes.{SameBy, SameAllBy, print_of, some_separated, separated_prints, type_behind, conforming_prints}

-- ---- generics

-- a type ends in a name
pub type_ends : Ends IsType
unfolding type_head
type_ends = then_ends _ _ (name_ends type_head _ head (λ v. only_keeps v)) (λ v. then_keeps _ _ (many_keeps (mark t.Dot) _ (λ c. name_ends plain_name _ plain (λ n. only_keeps n))) (λ ns. only_keeps _))
  where
    head : (u : Piece) (v : Place × List ℕ) → type_head u ≡ Some v → is_head_piece u ≡ true
    head u v takes = (and_both (is_head_piece u) _ (when_some _ (u.place, u.text) v takes).0).0

    plain : (u : Piece) (n : List ℕ) → plain_name u ≡ Some n → is_head_piece u ≡ true
    plain u n takes = or_left (is_terminal t.Identifier u) (is_terminal t.SelfType u) (number_is t.Identifier u (plain_name_number u n takes))

generic_ends : Ends Generic
generic_ends = name_ends identifier _ name (λ n. then_keeps Conforming _ conforming (λ ts. only_keeps _))
  where
    name : (u : Piece) (n : Identifier) → identifier u ≡ Some n → is_head_piece u ≡ true
    name u n takes = or_left (is_terminal t.Identifier u) (is_terminal t.SelfType u) (number_is t.Identifier u (identifier_number u n takes))

    colon : Ends (TokenThen (mark t.Colon) (λ _. Protocols))
    colon = led_ends (mark t.Colon) (λ _. Protocols) (λ c. separated_ends t.And IsType type_ends)

    conforming : Keeps Conforming
    conforming us ts (inl s) = colon us ts s true
    conforming us ts (inr s) = only_keeps [] us ts s

generic_prints : Writes false false is_worded generic_text (SameBy bare_generic) Generic Generic
generic_prints = print_led {e' = true} {q = is_free} (taken_name [] refl (λ u w g i same. refl)) (λ n ws b. leads_free _ (named [] n.text) ws refl b)
    (λ n. print_after {q = is_free} conforming_prints (λ w i. i) (λ w i. i) (λ w i. i)
    (λ ts. print_only (ap (λ z. n.text ++ z) (append-nil (constraint_text ts))) (λ a near. ap₂ (λ v w. record { name = v; protocols = w }) near.0.1 near.1)))

abbrev pub generics_text : List GenericParameter → Text
generics_text = unless_empty (codes "<") (listed generic_text) (codes ">")

-- [ "<" gparam { "," gparam } ">" ]
pub generics_print : (s : Scope) → Writes true true is_snug generics_text (SameAllBy bare_generic) (Generics s) (Generics s)
generics_print s = print_or
    (print_led {e' = false} {q = is_worded} (taken_if (not (is_protocol s)) (taken_mark t.Less [] refl refl (λ u g i. refl))) (λ c ws b. leads_worded _ (sign [] t.Less) ws refl refl b)
    (λ c. print_of leaf (print_snug {out = λ gs. listed generic_text gs ++ codes ">"} {e' = false} (print_firm many) (separated_ends t.Comma Generic generic_ends) (λ w i. i) (λ w i. i)
    (λ gs. print_led {e' = true} {q = is_free} (taken_mark t.Greater [] refl refl (λ u g i. refl)) (λ c ws b. leads_free _ (sign [] t.Greater) ws refl b)
    (λ c. print_only refl (λ a near. near.0.1))))))
    (print_only refl (λ a near. refl))
  where
    many : Writes false false is_worded (listed generic_text) (SameAllBy bare_generic) (Separated t.Comma Generic) (Separated t.Comma Generic)
    many = separated_prints bare_generic Generic t.Comma [] refl refl refl (λ w h. calm_flush w (worded_calm w h)) generic_prints

    leaf : (us : List Piece) (gs : List GenericParameter) → Then (Separated t.Comma Generic) (λ gs. TokenThen (mark t.Greater) (λ _. Empty gs)) us gs → (z : Text) → z ≡ listed generic_text gs ++ codes ">" → codes "<" ++ z ≡ generics_text gs
    leaf us gs (xs, vs, ws, at, s, (u, c, ys, cut, takes, only)) z h =
        let (y, ys, is) = some_separated t.Comma Generic vs xs s in
        ap (λ v. codes "<" ++ v) h ∙ subst (λ v. codes "<" ++ (listed generic_text v ++ codes ">") ≡ generics_text v) (sym (only.1 ∙ is)) refl

-- ---- parameters

-- ":" type
rest_prints : {A : Type 0} {before : Text → Text} {Near : A → Type 0} (p : Place) (l : ParameterLabel) (n : Identifier) (p' : A → Place) (l' : A → ParameterLabel) (n' : A → Identifier) →
    ((a : A) → Near a → (bare_parameter_label l ≡ bare_parameter_label (l' a)) × (bare_identifier n ≡ bare_identifier (n' a))) → ((x : TypeName) → before (typed x) ≡ parameter_text (parameter p l n x)) →
    Prints true any false is_free before parameter_text Near (SameBy bare_parameter) (ParameterTail p l n) (λ a. ParameterTail (p' a) (l' a) (n' a))
rest_prints {before} p l n p' l' n' same leaf = print_led {e' = false} {q = is_apart} (taken_mark t.Colon [] refl refl (λ u g i. refl)) (λ c ws b. leads_apart _ (sign [] t.Colon) ws refl b)
    (λ c. print_then {q = is_apart} (print_firm type_behind) (λ w i. i) apart_free
    (λ x. print_only (ap (λ z. before (codes ": " ++ z)) (append-nil (type_text x)) ∙ leaf x)
    (λ a near. let (labels, names) = same a.0.0 near.0.0 in ap₂ (λ v w. record { place = origin; label = v; name = w; type_name = bare_type x }) labels names ∙ ap (λ v. record { place = origin; label = bare_parameter_label (l' a.0.0); name = bare_identifier (n' a.0.0); type_name = v }) near.1)))

-- param
pub parameter_prints : Writes false false is_calm parameter_text (SameBy bare_parameter) IsParameter IsParameter
parameter_prints = print_or
    (print_led {e' = false} {q = is_apart} (taken_mark t.Underscore [] refl refl (λ u g i. refl)) (λ p ws b. leads_apart _ (sign [] t.Underscore) ws refl b)
    (λ p. print_led {e' = false} {q = is_free} (taken_name (codes " ") refl (λ u w g i same. refl)) (λ n ws b. leads_free _ (named (codes " ") n.text) ws refl b)
    (λ n. rest_prints p label.Blank n (λ a. a.0.1) (λ a. label.Blank) (λ a. a.1) (λ a near. (refl, near.1)) (λ x. refl))))
    (print_led {e' = false} {q = is_free} (taken_name [] refl (λ u w g i same. refl)) (λ m ws b. leads_free _ (named [] m.text) ws refl b)
    (λ m. print_or
    (print_led {e' = false} {q = is_free} (taken_name (codes " ") refl (λ u w g i same. refl)) (λ n ws b. leads_free _ (named (codes " ") n.text) ws refl b)
    (λ n. rest_prints m.place (label.Written m) n (λ a. a.0.1.place) (λ a. label.Written a.0.1) (λ a. a.1) (λ a near. (ap (λ i. label.Written i) near.0.1, near.1)) (λ x. simp append_assoc)))
    (rest_prints m.place label.Same m (λ a. a.1.place) (λ a. label.Same) (λ a. a.1) (λ a near. (refl, near.1)) (λ x. refl))))

abbrev pub parameters_text : List Parameter → Text
parameters_text ps = codes "(" ++ (listed parameter_text ps ++ codes ")")

-- "(" [ param { "," param } ] ")"
pub parameters_print : (d : ℕ) → Writes true false is_marked parameters_text (SameAllBy bare_parameter) (Parameters d) (Parameters d)
parameters_print d = print_or
    (print_nested d (print_led {e' = false} {q = is_calm} (taken_mark t.OpenParenthesis [] refl refl (λ u g i. refl)) (λ c ws b. leads_calm _ (sign [] t.OpenParenthesis) ws (λ k. refl) refl b)
    (λ c. print_or
    (print_led {e' = true} {q = is_free} (taken_mark t.CloseParenthesis [] refl refl (λ u g i. refl)) (λ c ws b. leads_free _ (sign [] t.CloseParenthesis) ws refl b) (λ c. print_only refl (λ a near. refl)))
    (print_then {e' = false} (print_firm many) (λ w i. i) (λ w i. i)
    (λ ps. print_led {e' = true} {q = is_free} (taken_mark t.CloseParenthesis [] refl refl (λ u g i. refl)) (λ c ws b. leads_free _ (sign [] t.CloseParenthesis) ws refl b)
    (λ c. print_only refl (λ a near. near.0.1)))))))
    print_nothing
  where
    many : Writes false false is_calm (listed parameter_text) (SameAllBy bare_parameter) (Separated t.Comma IsParameter) (Separated t.Comma IsParameter)
    many = separated_prints bare_parameter IsParameter t.Comma [] refl refl refl calm_flush parameter_prints
