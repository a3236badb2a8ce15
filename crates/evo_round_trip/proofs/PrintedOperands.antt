-- Operands are written: names with their arguments, members, literals, signs.
use Rattle.std.proofs.Common.{◌≡◌, ℕ, zero, suc, ◌-◌, ◌^◌, ◌≤◌, List, [], ◌∷◌, ◌++◌, map, Bool, true, false, codes, Option, Some, None, refl, sym, ◌∙◌, ap, ap₂, subst, append_assoc, append-nil, arith}
use Rattle.std.specs.Prelude.{◌&&◌, not}
use Rattle.std.specs.List.{flat_map, join_by}
use Rattle.std.specs.Option.{option_map}
use Rattle.std.specs.Fmt.{decimal}
use Rattle.std.proofs.lemmas.Bool.{and_from, and_parts, or_left, or_right}
use Rattle.evo_base.specs.declared.place.Place.{Place}
use Rattle.evo_base.specs.declared.token.TokenKind.{TokenKind}
use Rattle.evo_base.specs.declared.token.TokenKind.TheVariants as kind
use Rattle.evo_combinators.specs.Rule.{Empty, Fail, TokenThen, Then}
use Rattle.evo_round_trip.proofs.Alike.{AllLike}
use Rattle.evo_tree.specs.declared.name.Identifier.{Identifier}
use Rattle.evo_tree.specs.declared.expression.PrefixOperator.{PrefixOperator}
use Rattle.evo_tree.specs.declared.expression.PrefixOperator.TheVariants as prefix
use Rattle.evo_tree.specs.declared.expression.Expr.{Expr}
use Rattle.evo_tree.specs.declared.expression.Expr.TheVariants as e
use Rattle.evo_tree.specs.declared.terminal.Role.TheVariants as role
use Rattle.evo_tree.specs.declared.terminal.Terminal.{Terminal}
use Rattle.evo_tree.specs.declared.terminal.Terminal.TheVariants as t
use Rattle.evo_tree.specs.Terminals.{number_of, terminal_of}
use Rattle.evo_tree.specs.Pieces as pieces
use Rattle.evo_tree.specs.Pieces.{Piece, mark, identifier, integer, string, negative, has_role, is_terminal}
use Rattle.evo_tree.specs.Expressions.{Rule, Nested, members, Argument, ListedArguments, ArgumentsTail, Arguments, Call, Member, GroupTail, SuperTail, Magnitude, Primary, Postfix, UnaryOf, Unary, Levels, IsExpr}
use Rattle.evo_tree.specs.Bare.{bare_argument, bare_member}
use Rattle.evo_tree.specs.Canonical.{string_text, expr_text, optional, name_text, prefix_text, call_arguments}
use Rattle.evo_tree.proofs.SameExpressions.{name_same, super_same, implicit_same, parenthesised_same, prefix_same, members_same}
use Rattle.evo_print.specs.Texts as texts
use Rattle.evo_print.proofs.ExpressionTexts.{argument, arguments_joined, super_text, implicit_text, parenthesised_text, sign_text, path_text}
use Rattle.evo_round_trip.proofs.Written.{Written, is_none, is_integer_kind, is_unattached, leads}
use Rattle.evo_round_trip.proofs.Matching.{FromText, is_sign, is_attached}
use Rattle.evo_round_trip.proofs.Printed.{any, begins, is_apart, is_free, leads_free}
use Rattle.evo_round_trip.proofs.Prints.{Prints, Writes, Alone, print_behind, print_in, print_only, print_nothing, print_or, print_led, print_led_to, print_nested, print_then, print_after, print_many, print_firm, print_more}
use Rattle.evo_parse_expr.proofs.Tests.{number_is}
use Rattle.evo_round_trip.proofs.Spellings.{sign, named, numeral, quoted}
use Rattle.evo_round_trip.proofs.Tokens.{spelling, kind_for, has_spelling, spelled_is}
use Rattle.evo_round_trip.proofs.TakenTokens.{minus, prefixed, prefixed_terminal, sign_terminal, sign_shown, taken_sign, taken_mark, taken_name, taken_call, taken_integer, taken_string, taken_negative}
use Rattle.evo_round_trip.proofs.Heads.{is_head, is_calm, head_flush, apart_free, leads_apart, leads_open, leads_dot, leads_minus, is_number, is_start, Begun, any_head, calm_flush, given_calm, start_parts, start_opens}
use Rattle.evo_round_trip.proofs.ExpressionTrees.{SameExpr, like_map, name_is, integer_text, negative_text, string_is, boolean_is, self_is, self_type_is, integer_same, negative_same, string_same, boolean_same, self_same, self_type_same}
use Rattle.evo_round_trip.proofs.PrintedExpressions.{Expressed, expressed_behind, levels_expressed}

abbrev pub Arg : Type 0
Arg = Option Identifier × Expr

abbrev pub SameArgument : Arg → Arg → Type 0
SameArgument a b = bare_argument a ≡ bare_argument b

abbrev pub SameArguments : List Arg → List Arg → Type 0
SameArguments xs ys = map bare_argument xs ≡ map bare_argument ys

abbrev pub SameCall : Option (List Arg) → Option (List Arg) → Type 0
SameCall xs ys = option_map (map bare_argument) xs ≡ option_map (map bare_argument) ys

abbrev pub Link : Type 0
Link = Identifier × Option (List Arg)

abbrev pub SameLink : Link → Link → Type 0
SameLink a b = bare_member a ≡ bare_member b

abbrev rest_text : List Arg → List ℕ
rest_text xs = join_by argument (codes ", ") xs ++ codes ")"

call_leaf : (xs : List Arg) → codes "(" ++ (rest_text xs ++ []) ≡ call_arguments xs
call_leaf xs = simp (append_assoc, append-nil) (ap (λ z. codes "(" ++ (z ++ codes ")")) (sym (arguments_joined xs)))

module _ (d : ℕ) (I O : Rule Expr) (law : Expressed I) where
  headed : Writes false false is_head expr_text SameExpr I I
  headed = law any is_head any_head

  argument_prints : Writes false false is_head argument SameArgument (Argument d I O) (Argument d I O)
  argument_prints = print_or
      (print_led {e' = false} {q = is_free} (taken_name [] refl (λ u w g i same. refl)) (λ n ws b. leads_free _ (named [] n.text) ws refl b)
      (λ n. print_led {e' = false} {q = is_apart} (taken_mark t.Colon [] refl refl (λ u g i. refl)) (λ c ws b. leads_apart _ (sign [] t.Colon) ws refl b)
      (λ c. print_then {q = is_apart} (print_firm (expressed_behind I law)) (λ w i. i) apart_free
      (λ x. print_only (simp (append_assoc, append-nil)) (λ a near. ap₂ (λ v w. (Some v, w)) near.0.0.1 near.1)))))
      (print_then {q = is_free} headed (λ w i. i) (λ w i. i) (λ x. print_only (append-nil (expr_text x)) (λ a near. ap (λ w. (None, w)) near.1)))

  listed_prints : Writes false false is_head (join_by argument (codes ", ")) SameArguments (ListedArguments d I O) (ListedArguments d I O)
  listed_prints = print_then argument_prints (λ w i. i) (λ w i. i)
      (λ a. print_after {q = is_free} (print_many {out = λ b. codes ", " ++ argument b} (λ w i. i) further) (λ w i. i) (λ w i. i) (λ w i. i)
      (λ as'. print_only (ap (λ z. argument a ++ z) (append-nil (flat_map (λ b. codes ", " ++ argument b) as'))) (λ b near. ap₂ (λ v w. v ∷ w) near.0.1 (like_map bare_argument as' b.1 near.1))))
    where
      further : Writes true false is_free (λ b. codes ", " ++ argument b) SameArgument (TokenThen (mark t.Comma) (λ _. Argument d I O)) (TokenThen (mark t.Comma) (λ _. Argument d I O))
      further = print_led {e' = false} {q = is_apart} (taken_mark t.Comma [] refl refl (λ u g i. refl)) (λ c ws b. leads_apart _ (sign [] t.Comma) ws refl b)
          (λ c. print_in (λ b z h. ap (λ v. codes "," ++ v) h) (print_firm (print_behind (codes " ") refl refl (print_more (λ h. h) head_flush argument_prints))))

  rest_prints : Writes true false is_head rest_text SameArguments (ArgumentsTail d I O) (ArgumentsTail d I O)
  rest_prints = print_or
      (print_led {e' = true} {q = is_free} (taken_mark t.CloseParenthesis [] refl refl (λ u g i. refl)) (λ c ws b. leads_free _ (sign [] t.CloseParenthesis) ws refl b) (λ c. print_only refl (λ a near. refl)))
      (print_then {e' = false} (print_firm listed_prints) (λ w i. i) (λ w i. i)
      (λ as'. print_led {e' = true} {q = is_free} (taken_mark t.CloseParenthesis [] refl refl (λ u g i. refl)) (λ c ws b. leads_free _ (sign [] t.CloseParenthesis) ws refl b)
      (λ c. print_only refl (λ a near. near.0.1))))

  pub call_prints : Writes true false is_free call_arguments SameArguments (Call d I O) (Call d I O)
  call_prints = print_or
      (print_nested d (print_led {e' = false} {q = is_head} (taken_call refl) (λ c ws b. leads_open _ ws b) (λ c. print_in (λ xs z h. ap (λ v. codes "(" ++ v) (h ∙ sym (append-nil (rest_text xs))) ∙ call_leaf xs) rest_prints)))
      print_nothing

  arguments_prints : Writes true true is_free (optional call_arguments) SameCall (Arguments d I O) (Arguments d I O)
  arguments_prints = print_or
      (print_nested d (print_led {e' = false} {q = is_head} (taken_call refl) (λ c ws b. leads_open _ ws b)
      (λ c. print_then rest_prints (λ w i. i) (λ w i. i) (λ as'. print_only {p = is_free} (call_leaf as') (λ a near. ap (λ v. Some v) near.1)))))
      (print_only refl (λ a near. refl))

  member_leaf : (n : Identifier) (xs : Option (List Arg)) → name_text n ++ (optional call_arguments xs ++ []) ≡ texts.call n xs
  member_leaf n xs = ap (λ z. name_text n ++ z) (append-nil (optional call_arguments xs))

  -- a name and its arguments
  member_prints : Writes true false is_calm (λ m. texts.call m.0 m.1) SameLink (Member d I O) (Member d I O)
  member_prints = print_led {e' = true} {q = is_free} (taken_name [] refl (λ u w g i same. refl)) (λ n ws b. leads_free _ (named [] n.text) ws refl b)
      (λ n. print_after arguments_prints (λ w i. i) (λ w i. i) (λ w i. i) (λ xs. print_only (member_leaf n xs) (λ a near. ap₂ (λ v w. (v, w)) near.0.1 near.1)))

  link_prints : Writes true false is_free texts.member SameLink (TokenThen (mark t.Dot) (λ _. Member d I O)) (TokenThen (mark t.Dot) (λ _. Member d I O))
  link_prints = print_led {e' = false} {q = is_calm} (taken_mark t.Dot [] refl refl (λ u g i. refl)) (λ c ws b. leads_dot _ ws b) (λ c. print_in (λ b z h. ap (λ v. codes "." ++ v) h) member_prints)

  links_leaf : (x : Expr) (ms : List Link) → expr_text x ++ (flat_map texts.member ms ++ []) ≡ expr_text (members x ms)
  links_leaf x [] = append-nil (expr_text x)
  links_leaf x (m ∷ ms) = ap (λ z. expr_text x ++ z) (append-nil (flat_map texts.member (m ∷ ms))) ∙ sym (path_text (e.Members x (m ∷ ms)) x (m ∷ ms) refl)

  links_like : (x y : Expr) (ms ns : List Link) → SameExpr x y → AllLike SameLink ms ns → SameExpr (members x ms) (members y ns)
  links_like x y [] [] s l = s
  links_like x y [] (n ∷ ns) s l = absurd l
  links_like x y (m ∷ ms) [] s l = absurd l
  links_like x y (m ∷ ms) (n ∷ ns) s l = (members_same (e.Members x (m ∷ ms)) (e.Members y (n ∷ ns)) x y (m ∷ ms) (n ∷ ns) refl refl).0 (s, like_map bare_member (m ∷ ms) (n ∷ ns) l)

  -- ---- what an operand begins with

  no_integer : t.Integer ≡ t.Identifier → ⊥
  no_integer h = cc

  no_string : t.String ≡ t.Identifier → ⊥
  no_string h = cc

  small : 2 ^ 63 - 1 ≤ 2 ^ 63
  small = omega arith

  module _ (g : Piece → Bool) (p : Written → Bool) (begun : Begun g p) where
    abbrev Operand : Rule Expr → Type 0
    Operand S = Prints {A = Unit {0}} false g false p (λ z. z) expr_text Alone SameExpr S (λ a. S)

    spelled_begins : (k : Terminal) → has_spelling k ≡ true → is_start (kind_for k) ≡ true → (u : Piece) → g u ≡ true → u.terminal ≡ k → p (sign [] k) ≡ true
    spelled_begins k has start u passes is = begun.first u (sign [] k) passes (is ∙ sym (spelled_is k has)) (λ name. absurd (no_spelling (subst (λ z. has_spelling z ≡ true) (sym is ∙ name) has))) refl start
      where
        no_spelling : has_spelling t.Identifier ≡ true → ⊥
        no_spelling h = cc

    name_prints : Operand (TokenThen identifier (λ n. Then (Arguments d I O) (λ as'. Empty (e.Name n as'))))
    name_prints = print_led {e' = true} {q = is_free} (taken_name [] refl (λ u w passes is same. begun.first u (named [] w) passes is (λ name. same) refl refl)) (λ n ws b. leads_free _ (named [] n.text) ws refl b)
        (λ n. print_after arguments_prints (λ w i. i) (λ w i. i) (λ w i. i)
        (λ xs. print_only (member_leaf n xs ∙ sym (name_is n xs)) (λ a near. (name_same (e.Name n xs) (e.Name a.0.1 a.1) n a.0.1 xs a.1 refl refl).0 (near.0.1, near.1))))

    integer_prints : Operand (TokenThen (integer (2 ^ 63 - 1)) (λ v. Empty (e.Integer v.0 v.1)))
    integer_prints = print_led {e' = true} {q = is_free} (taken_integer (2 ^ 63 - 1) [] small refl (λ u n passes is. begun.first u (numeral [] n) passes is (λ name. absurd (no_integer (sym is ∙ name))) refl refl)) (λ v ws b. leads_free _ (numeral [] v.1) ws refl b)
        (λ v. print_only (append-nil (decimal v.1) ∙ sym (integer_text v.0 v.1)) (λ a near. integer_same v.0 a.1.0 v.1 a.1.1 near.1))

    string_prints : Operand (TokenThen string (λ v. Empty (e.String v.0 v.1)))
    string_prints = print_led {e' = true} {q = is_free} (taken_string [] refl (λ u n passes is. begun.first u (quoted [] n) passes is (λ name. absurd (no_string (sym is ∙ name))) refl refl)) (λ v ws b. leads_free _ (quoted [] v.1) ws refl b)
        (λ v. print_only (append-nil (string_text v.1) ∙ sym (string_is v.0 v.1)) (λ a near. string_same v.0 a.1.0 v.1 a.1.1 near.1))

    -- a keyword alone
    word_prints : (k : Terminal) → has_spelling k ≡ true → is_start (kind_for k) ≡ true → (x : Place → Expr) → ((c : Place) → spelling k ++ [] ≡ expr_text (x c)) → ((c c' : Place) → SameExpr (x c) (x c')) → Operand (TokenThen (mark k) (λ c. Empty (x c)))
    word_prints k has start x written same = print_led {e' = true} {q = is_free} (taken_mark k [] has refl (spelled_begins k has start)) (λ c ws b. leads_free _ (sign [] k) ws refl b) (λ c. print_only (written c) (λ a near. same c a.1))

    super_prints : Operand (TokenThen (mark t.Super) (SuperTail d I O))
    super_prints = print_led {e' = false} {q = is_free} (taken_mark t.Super [] refl refl (spelled_begins t.Super refl refl)) (λ c ws b. leads_free _ (sign [] t.Super) ws refl b)
        (λ c. print_led {e' = false} {q = is_calm} (taken_mark t.Dot [] refl refl (λ u h i. refl)) (λ c' ws b. leads_dot _ ws b)
        (λ c'. print_led {e' = false} {q = is_free} (taken_name [] refl (λ u w g i same. refl)) (λ n ws b. leads_free _ (named [] n.text) ws refl b)
        (λ n. print_then call_prints (λ w i. i) (λ w i. i)
        (λ xs. print_only {p = is_free} (simp (append_assoc, append-nil) (sym (simp append_assoc at super_text (e.Super c n xs) c n xs refl)))
        (λ a near. (super_same (e.Super c n xs) (e.Super a.0.0.0.1 a.0.1 a.1) c a.0.0.0.1 n a.0.1 xs a.1 refl refl).0 (near.0.1, near.1))))))

    negative_prints : Operand (TokenThen negative (Magnitude d I O))
    negative_prints = print_led {e' = false} {q = is_number} (taken_negative (λ u passes is. begun.signed u (minus []) passes (or_left (is_terminal t.Minus u) _ (number_is t.Minus u (ap number_of is))) (is ∙ sym (spelled_is t.Minus refl)) refl)) (λ c ws b. leads_minus ws b)
        (λ c. print_led {e' = true} {q = is_free} (taken_integer (2 ^ 63) [] (omega arith) refl (λ u n h i. refl)) (λ v ws b. leads_free _ (numeral [] v.1) ws refl b)
        (λ v. print_only (ap (λ z. codes "-" ++ z) (append-nil (decimal v.1)) ∙ sym (negative_text c v.1)) (λ a near. negative_same c a.0.1 v.1 a.1.1 near.1)))

    group_prints : Operand (Nested d (mark t.OpenParenthesis) (GroupTail d I O))
    group_prints = print_nested d (print_led {e' = false} {q = is_head} (taken_mark t.OpenParenthesis [] refl refl (spelled_begins t.OpenParenthesis refl refl)) (λ c ws b. leads_open _ ws b)
        (λ c. print_then {e' = false} (print_firm headed) (λ w i. i) (λ w i. i)
        (λ x. print_led {e' = true} {q = is_free} (taken_mark t.CloseParenthesis [] refl refl (λ u h i. refl)) (λ c' ws b. leads_free _ (sign [] t.CloseParenthesis) ws refl b)
        (λ c'. print_only (sym (parenthesised_text (e.Parenthesised c x) c x refl))
        (λ a near. (parenthesised_same (e.Parenthesised c x) (e.Parenthesised a.0.0.1 a.0.1) c a.0.0.1 x a.0.1 refl refl).0 near.0.1)))))

    implicit_prints : Operand (TokenThen (mark t.Dot) (λ c. Then (Member d I O) (λ m. Empty (e.ImplicitMember c m.0 m.1))))
    implicit_prints = print_led {e' = false} {q = is_calm} (taken_mark t.Dot [] refl refl (spelled_begins t.Dot refl refl)) (λ c ws b. leads_dot _ ws b)
        (λ c. print_then {q = is_free} member_prints (λ w i. i) (λ w i. i)
        (λ m. print_only (implicit_leaf c m) (λ a near. (implicit_same (e.ImplicitMember c m.0 m.1) (e.ImplicitMember a.0.1 a.1.0 a.1.1) c a.0.1 m.0 a.1.0 m.1 a.1.1 refl refl).0 (ap (λ (z : Link). z.0) near.1, ap (λ (z : Link). z.1) near.1))))
      where
        implicit_leaf : (c : Place) (m : Link) → codes "." ++ (texts.call m.0 m.1 ++ []) ≡ expr_text (e.ImplicitMember c m.0 m.1)
        implicit_leaf c m = ap (λ z. codes "." ++ z) (append-nil (texts.call m.0 m.1)) ∙ sym (implicit_text (e.ImplicitMember c m.0 m.1) c m.0 m.1 refl)

    primary_prints : Operand (Primary d I O)
    primary_prints = print_or name_prints (print_or integer_prints (print_or string_prints
        (print_or (word_prints t.SelfValue refl refl (λ c. e.SelfValue c) (λ c. sym (self_is c)) self_same)
        (print_or (word_prints t.SelfType refl refl (λ c. e.SelfType c) (λ c. sym (self_type_is c)) self_type_same)
        (print_or super_prints
        (print_or (word_prints t.True refl refl (λ c. e.Boolean c true) (λ c. sym (boolean_is c true)) (λ c c'. boolean_same c c' true))
        (print_or (word_prints t.False refl refl (λ c. e.Boolean c false) (λ c. sym (boolean_is c false)) (λ c c'. boolean_same c c' false))
        (print_or negative_prints (print_or group_prints (print_or implicit_prints print_nothing))))))))))

    post_prints : Operand (Postfix d I O)
    post_prints = print_then primary_prints (λ w i. i) (λ w i. i)
        (λ x. print_after {q = is_free} (print_many (λ w i. i) link_prints) (λ w i. i) (λ w i. i) (λ w i. i)
        (λ ms. print_only (links_leaf x ms) (λ a near. links_like x a.0.1 ms a.1 near.0.1 near.1)))

-- ---- signs

-- what stands behind a sign begins no further sign, and no integer behind a minus
abbrev pub after : PrefixOperator → Piece → Bool
after prefix.Minus u = not (is_sign u) && not (is_terminal t.Integer u)
after prefix.Not u = not (is_sign u)

abbrev pub follows : PrefixOperator → Written → Bool
follows prefix.Minus w = (is_calm w && is_start w.kind) && not (is_integer_kind w.kind)
follows prefix.Not w = is_calm w && is_start w.kind

no_contradiction : (b : Bool) → not b ≡ true → b ≡ true → ⊥
no_contradiction true h k = absurd (cc)
no_contradiction false h k = absurd (cc)

after_sign : (o : PrefixOperator) → Begun (after o) (follows o)
after_sign prefix.Minus = record {
  first = λ u w passes same text calm start. and_from _ _ (and_from _ _ calm start) (go u w.kind w.text same (and_parts (not (is_sign u)) _ passes).1);
  signed = λ u w passes is same head. absurd (no_contradiction (is_sign u) (and_parts (not (is_sign u)) _ passes).0 is);
}
  where
    go : (u : Piece) (k : TokenKind) (text : List ℕ) → u.terminal ≡ terminal_of k text → not (is_terminal t.Integer u) ≡ true → not (is_integer_kind k) ≡ true
    go u kind.Integer text same other = absurd (no_contradiction (is_terminal t.Integer u) other (number_is t.Integer u (ap number_of same)))
    go u _ text same other = refl
after_sign prefix.Not = record {
  first = λ u w passes same text calm start. and_from _ _ calm start;
  signed = λ u w passes is same head. absurd (no_contradiction (is_sign u) passes is);
}

leads_sign : (o : PrefixOperator) (ws : List Written) → begins false (follows o) ws ≡ true → leads (prefixed o) ws ≡ true
leads_sign o [] h = absurd (cc)
leads_sign prefix.Minus (w ∷ ws) h =
    let both : (is_calm w && is_start w.kind) ≡ true = (and_parts _ (not (is_integer_kind w.kind)) h).0 in
    let calm : is_calm w ≡ true = (and_parts (is_calm w) (is_start w.kind) both).0 in
    let start : is_start w.kind ≡ true = (and_parts (is_calm w) (is_start w.kind) both).1 in
    and_from _ _ (or_right _ _ (start_parts w.kind start)) (and_from _ _ (and_from _ _ (and_from _ _ (calm_flush w calm) (start_opens w.kind start)) (and_parts _ (not (is_integer_kind w.kind)) h).1) (given_calm kind.Operator w w.role (and_parts (is_none w.gap) (is_unattached w.role) calm).1))
leads_sign prefix.Not (w ∷ ws) h =
    let calm : is_calm w ≡ true = (and_parts (is_calm w) (is_start w.kind) h).0 in
    let start : is_start w.kind ≡ true = (and_parts (is_calm w) (is_start w.kind) h).1 in
    and_from _ _ (or_right _ _ (start_parts w.kind start)) (and_from _ _ (and_from _ _ (and_from _ _ (calm_flush w calm) (start_opens w.kind start)) refl) (given_calm kind.Operator w w.role (and_parts (is_none w.gap) (is_unattached w.role) calm).1))

signs_next : (u : Piece) (vs : List Piece) (c : Place × PrefixOperator) → pieces.sign u ≡ Some c → FromText (u ∷ vs) → begins true (after c.1) vs ≡ true
signs_next u [] c takes gen = refl
signs_next u (v ∷ vs) c takes gen =
    let (terminal, role) = sign_shown u c takes in
    go c.1 terminal role
  where
    attached : is_sign u ≡ true → has_role role.Prefix u ≡ true → is_attached u ≡ true
    attached s r = and_from _ _ s (or_left _ _ r)

    go : (o : PrefixOperator) → u.terminal ≡ sign_terminal o → has_role role.Prefix u ≡ true → after o v ≡ true
    go prefix.Minus is r =
        let minus : is_terminal t.Minus u ≡ true = number_is t.Minus u (ap number_of is) in
        and_from _ _ (ap not (gen.1.0 (attached (or_left _ _ minus) r))) (ap not (gen.1.1 (and_from _ _ minus r)))
    go prefix.Not is r = ap not (gen.1.0 (attached (or_right _ _ (number_is t.Not u (ap number_of is))) r))

module _ (d : ℕ) (I O : Rule Expr) (law : Expressed I) (operand : Expressed O) where
  unary_of_prints : Expressed (UnaryOf d I O)
  unary_of_prints g p begun = print_or
      (print_nested d (print_led_to {e' = false} {q = λ c. follows c.1} (taken_sign (λ u o passes is. begun.signed u (prefixed o) passes (signed u o is) (is ∙ sym (prefixed_terminal o)) refl)) signs_next (λ c ws b. leads_sign c.1 ws b)
      (λ c. print_then {q = is_free} (print_firm (operand (after c.1) (follows c.1) (after_sign c.1))) (λ w i. i) (λ w i. i)
      (λ x. print_only {p = is_free} (ap (λ z. prefix_text c.1 ++ z) (append-nil (expr_text x)) ∙ sym (sign_text (e.Prefix c.0 c.1 x) c.0 c.1 x refl))
      (λ a near. (prefix_same (e.Prefix c.0 c.1 x) (e.Prefix a.0.1.0 a.0.1.1 a.1) c.0 a.0.1.0 c.1 a.0.1.1 x a.1 refl refl).0 (near.0.1, near.1))))))
      (post_prints d I O law g p begun)
    where
      signed : (u : Piece) (o : PrefixOperator) → u.terminal ≡ sign_terminal o → is_sign u ≡ true
      signed u prefix.Minus is = or_left _ _ (number_is t.Minus u (ap number_of is))
      signed u prefix.Not is = or_right _ _ (number_is t.Not u (ap number_of is))

pub nothing_expressed : Expressed Fail
nothing_expressed g p begun = print_nothing

pub unary_expressed : (d : ℕ) → Expressed (Unary d)
unfolding Unary
unary_expressed zero = unary_of_prints zero Fail Fail nothing_expressed nothing_expressed
unary_expressed (suc d) = unary_of_prints (suc d) (Levels (Unary d)) (Unary d) (levels_expressed (Unary d) (unary_expressed d)) (unary_expressed d)

-- an expression is written
pub expressed : (d : ℕ) → Expressed (IsExpr d)
expressed d = levels_expressed (Unary d) (unary_expressed d)
