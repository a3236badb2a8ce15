-- The kinds of members are written.
use Rattle.std.proofs.Common.{◌≡◌, ℕ, List, [], ◌∷◌, ◌++◌, Bool, true, false, codes, Option, Some, None, refl, sym, ◌∙◌, ap, subst, inl, inr, append_assoc, append-nil}
use Rattle.std.specs.Prelude.{◌&&◌, ◌||◌, not, if◌then◌else◌}
use Rattle.std.specs.Option.{option_map}
use Rattle.evo_base.specs.declared.place.Place.{Place}
use Rattle.evo_combinators.specs.Rule.{Empty, TokenThen, Then, Many}
use Rattle.evo_tree.specs.declared.name.Identifier.{Identifier}
use Rattle.evo_tree.specs.declared.name.TypeName.{TypeName}
use Rattle.evo_tree.specs.declared.statement.Block.{Block}
use Rattle.evo_tree.specs.declared.statement.Introducer.TheVariants as introducer
use Rattle.evo_tree.specs.declared.declaration.Attr.{Attr}
use Rattle.evo_tree.specs.declared.declaration.AttrKind.TheVariants as attr
use Rattle.evo_tree.specs.declared.declaration.Header.{Header}
use Rattle.evo_tree.specs.declared.declaration.Payload.{Payload}
use Rattle.evo_tree.specs.declared.declaration.Accessors.{Accessors}
use Rattle.evo_tree.specs.declared.declaration.Accessors.TheVariants as accessors
use Rattle.evo_tree.specs.declared.declaration.DeclKind.{DeclKind}
use Rattle.evo_tree.specs.declared.declaration.DeclKind.TheVariants as k
use Rattle.evo_tree.specs.declared.scope.Scope.{Scope}
use Rattle.evo_tree.specs.declared.terminal.Terminal.{Terminal}
use Rattle.evo_tree.specs.declared.terminal.Terminal.TheVariants as t
use Rattle.evo_tree.specs.Pieces.{Piece, mark}
use Rattle.evo_tree.specs.Expressions.{Rule}
use Rattle.evo_tree.specs.Declarations.{only_if, has_attribute, is_protocol, is_enum, is_frozen, has_storage, has_body, may_stand, may_be_stored, one_kind, Separated, Default, IsCase, FunctionTail, InitialiserTail, VarTail, LetTail, AliasTail, AssociatedTail, CasesTail, MemberKind}
use Rattle.evo_tree.specs.Bare.{bare_type}
use Rattle.evo_tree.specs.Canonical.{Text, type_text, optional, header_text, body_text, accessors_text, constraint_text}
use Rattle.evo_print.specs.Texts.{kind_text}
use Rattle.evo_round_trip.proofs.Written.{Written}
use Rattle.evo_round_trip.proofs.Matching.{FromText}
use Rattle.evo_round_trip.proofs.Printed.{any, any_begins, is_apart, is_free, leads_free, Matched, all_matched, genuine_left, genuine_right}
use Rattle.evo_round_trip.proofs.Prints.{Prints, Writes, Alone, print_only, print_or, print_led, print_then, print_after, print_after_told, print_firm}
use Rattle.evo_round_trip.proofs.Spellings.{sign, named}
use Rattle.evo_round_trip.proofs.Tokens.{spelled_is, spelled_is_token}
use Rattle.evo_parse_expr.proofs.Tests.{number_is}
use Rattle.evo_lex.specs.Front.{when}
use Rattle.evo_tree.specs.Terminals.{number_of}
use Rattle.evo_tree.specs.declared.terminal.Role.TheVariants as role
use Rattle.evo_round_trip.proofs.TakenTokens.{taken_mark, taken_name}
use Rattle.evo_round_trip.proofs.Heads.{is_calm, apart_free, leads_apart}
use Rattle.evo_round_trip.proofs.Adjacent.{is_snug, leads_snug}
use Rattle.evo_round_trip.proofs.PrintedTypes.{type_behind, conforming_prints}
use Rattle.evo_round_trip.proofs.PrintedHeaders.{header_prints, payloads_text, payloads_print}
use Rattle.evo_round_trip.proofs.DeclarationTrees.{SameKind, function_text, initialiser_text, property_text, alias_text, associated_text, case_text, function_same, initialiser_same, property_same, alias_same, associated_same, case_same}
use Rattle.evo_round_trip.proofs.PrintedAccessors.{Blocks, body_told, accessors_told}
use Rattle.evo_round_trip.proofs.PrintedKinds.{Kinds, kinds_text, SameKinds, Attributed, taken_when, OneKind, one_only, one_led, one_then, Kinded, AllOf, kinded_one}
use Rattle.evo_tree.specs.Declarations.{Unless, begins_accessors}
use Rattle.evo_tree.specs.Statements.{IsBlock}
use Rattle.evo_tree.specs.Canonical.{block_text}
use Rattle.evo_round_trip.proofs.Printed.{is_flush}
use Rattle.evo_round_trip.proofs.StatementTrees.{SameBlock}

-- ---- flags that attributes decide

module _ (interface : Bool) (s : Scope) {attrs attrs' : List Attr} (near : Attributed attrs attrs') where
  inlinable : has_attribute attr.Inlinable attrs ≡ has_attribute attr.Inlinable attrs'
  inlinable = sym (near.same attr.Inlinable)

  pub body_flag : has_body interface s attrs ≡ has_body interface s attrs'
  body_flag = ap (λ z. not (is_protocol s) && (not interface || z)) inlinable

  pub stand_flag : may_stand interface s attrs ≡ may_stand interface s attrs'
  stand_flag = ap (λ z. not (is_protocol s && interface && z)) inlinable

  pub stored_flag : may_be_stored interface s attrs ≡ may_be_stored interface s attrs'
  stored_flag = ap (λ z. if interface then is_frozen s && not z else has_storage s) inlinable

-- what holds of each item of a list with marks between
separated_all : {B : Type 0} (m : Terminal) (S : Rule B) (P : B → Type 0) → ((us : List Piece) (b : B) → FromText us → S us b → P b) → (us : List Piece) (bs : List B) → FromText us → Separated m S us bs → AllOf P bs
separated_all {B} m S P each us bs gen (x, vs, ws, cut, one, (xs, v2, w2, cut2, many, (none, is))) =
    let gen' : FromText (vs ++ ws) = subst FromText cut gen in
    subst (AllOf P) (sym is) (each vs x (genuine_left vs ws gen') one, rest v2 xs (genuine_left v2 w2 (subst FromText cut2 (genuine_right vs ws gen'))) many)
  where
    rest : (us : List Piece) (bs : List B) → FromText us → Many (mark m) (λ _. S) us bs → AllOf P bs
    rest us [] gen none = tt
    rest us (b ∷ bs) gen (u, a, vs, ws, at, takes, one, more) =
        let gen' : FromText ((u ∷ vs) ++ ws) = subst FromText at gen in
        (each vs b (genuine_left (u ∷ vs) ws gen').2 one, rest ws bs (genuine_right (u ∷ vs) ws gen') more)

-- ---- the rules

module _ (getter : (d n : ℕ) → Writes false false is_flush (λ b. block_text b n) SameBlock (Unless begins_accessors (IsBlock false d)) (Unless begins_accessors (IsBlock false d))) (interface : Bool) (s : Scope) (d n : ℕ) where
  -- a rule of kinds by the attributes before it
  abbrev pub Told : (List Attr → Rule Kinds) → Type 0
  Told R = (attrs : List Attr) → Prints false any false is_calm (λ z. z) (kinds_text n) (Attributed attrs) SameKinds (R attrs) R

  function_leaf : (i : Identifier) (h : Header) (b : Option Block) → codes "func" ++ (codes " " ++ (i.text ++ (header_text h ++ (body_text n b ++ [])))) ≡ kind_text (k.Function i h b) n ++ []
  function_leaf i h b = turn (header_text h) (body_text n b) ∙ sym (append-nil (kind_text (k.Function i h b) n) ∙ function_text i h b n)
    where
      turn : (v w : Text) → codes "func" ++ (codes " " ++ (i.text ++ (v ++ (w ++ [])))) ≡ codes "func " ++ i.text ++ v ++ w
      turn v w = simp (append_assoc, append-nil)

  -- a function, where a flag lets it stand
  pub function_told : (flag : List Attr → Bool) → ((attrs attrs' : List Attr) → Attributed attrs attrs' → flag attrs ≡ flag attrs') → Told (λ attrs. TokenThen (only_if (flag attrs) (mark t.Func)) (FunctionTail Blocks interface s d attrs))
  function_told flag like attrs = print_led {e' = false} {q = is_apart} (taken_when (flag attrs) flag (λ a near. like attrs a near) (taken_mark t.Func [] refl refl (λ u g i. refl))) (λ c ws b. leads_apart _ (sign [] t.Func) ws refl b)
      (λ c. print_led {e' = false} {q = is_snug} (taken_name (codes " ") refl (λ u w g i same. refl)) (λ i ws b. leads_snug _ (named (codes " ") i.text) ws refl refl b)
      (λ i. print_then {q = is_apart} {e' = true} (header_prints s d true) (λ w i. i) apart_free
      (λ h. print_after_told (body_told false d n (has_body interface s attrs)) (λ a near. body_flag interface s near.0.0.0)
      (λ b. print_only (function_leaf i h b) (λ a near. (function_same i a.0.0.1 h a.0.1 b a.1 near.0.0.1 near.0.1 near.1, tt)))
      apart_free)))

  initialiser_leaf : (h : Header) (b : Option Block) → codes "init" ++ (header_text h ++ (body_text n b ++ [])) ≡ kind_text (k.Initialiser h b) n ++ []
  initialiser_leaf h b = simp (append_assoc, append-nil) (sym (simp append_assoc at initialiser_text h b n))

  initialiser_told : (flag : Bool) → Told (λ attrs. TokenThen (only_if flag (mark t.Init)) (InitialiserTail Blocks interface s d attrs))
  initialiser_told flag attrs = print_led {e' = false} {q = is_snug} (taken_when flag (λ a. flag) (λ a near. refl) (taken_mark t.Init [] refl refl (λ u g i. refl))) (λ c ws b. leads_snug _ (sign [] t.Init) ws refl refl b)
      (λ c. print_then {q = is_apart} {e' = true} (header_prints s d false) (λ w i. i) apart_free
      (λ h. print_after_told (body_told true d n (has_body interface s attrs)) (λ a near. body_flag interface s near.0.0)
      (λ b. print_only (initialiser_leaf h b) (λ a near. (initialiser_same h a.0.1 b a.1 near.0.1 near.1, tt)))
      apart_free))

  var_leaf : (i : Identifier) (ty : TypeName) (x : Accessors) → codes "var" ++ (codes " " ++ (i.text ++ (codes ":" ++ ((codes " " ++ type_text ty) ++ (accessors_text n x ++ []))))) ≡ kind_text (k.Property introducer.Var i ty x) n ++ []
  var_leaf i ty x = simp (append_assoc, append-nil) (sym (simp append_assoc at property_text introducer.Var i ty x n))

  var_told : (flag : List Attr → Bool) → ((attrs attrs' : List Attr) → Attributed attrs attrs' → flag attrs ≡ flag attrs') → Told (λ attrs. TokenThen (only_if (flag attrs) (mark t.Var)) (VarTail Blocks interface s d attrs))
  var_told flag like attrs = print_led {e' = false} {q = is_apart} (taken_when (flag attrs) flag (λ a near. like attrs a near) (taken_mark t.Var [] refl refl (λ u g i. refl))) (λ c ws b. leads_apart _ (sign [] t.Var) ws refl b)
      (λ c. print_led {e' = false} {q = is_free} (taken_name (codes " ") refl (λ u w g i same. refl)) (λ i ws b. leads_free _ (named (codes " ") i.text) ws refl b)
      (λ i. print_led {e' = false} {q = is_apart} (taken_mark t.Colon [] refl refl (λ u g i. refl)) (λ c' ws b. leads_apart _ (sign [] t.Colon) ws refl b)
      (λ c'. print_then {q = is_apart} {e' = true} (print_firm type_behind) (λ w i. i) apart_free
      (λ ty. print_after_told (accessors_told getter d n (has_body interface s attrs) (may_be_stored interface s attrs)) (λ a near. (body_flag interface s near.0.0.0.0, stored_flag interface s near.0.0.0.0))
      (λ x. print_only (var_leaf i ty x) (λ a near. (property_same introducer.Var i a.0.0.0.1 ty a.0.1 x a.1 near.0.0.0.1 near.0.1 near.1, tt)))
      apart_free))))

  let_leaf : (i : Identifier) (ty : TypeName) → codes "let" ++ (codes " " ++ (i.text ++ (codes ":" ++ ((codes " " ++ type_text ty) ++ [])))) ≡ kind_text (k.Property introducer.Let i ty accessors.Stored) n ++ []
  let_leaf i ty = turn (type_text ty) ∙ sym (append-nil (kind_text (k.Property introducer.Let i ty accessors.Stored) n) ∙ property_text introducer.Let i ty accessors.Stored n)
    where
      turn : (v : Text) → codes "let" ++ (codes " " ++ (i.text ++ (codes ":" ++ ((codes " " ++ v) ++ [])))) ≡ codes "let " ++ i.text ++ (codes ": " ++ v) ++ []
      turn v = simp (append_assoc, append-nil)

  let_told : (flag : List Attr → Bool) → ((attrs attrs' : List Attr) → Attributed attrs attrs' → flag attrs ≡ flag attrs') → Told (λ attrs. TokenThen (only_if (flag attrs) (mark t.Let)) LetTail)
  let_told flag like attrs = print_led {e' = false} {q = is_apart} (taken_when (flag attrs) flag (λ a near. like attrs a near) (taken_mark t.Let [] refl refl (λ u g i. refl))) (λ c ws b. leads_apart _ (sign [] t.Let) ws refl b)
      (λ c. print_led {e' = false} {q = is_free} (taken_name (codes " ") refl (λ u w g i same. refl)) (λ i ws b. leads_free _ (named (codes " ") i.text) ws refl b)
      (λ i. print_led {e' = false} {q = is_apart} (taken_mark t.Colon [] refl refl (λ u g i. refl)) (λ c' ws b. leads_apart _ (sign [] t.Colon) ws refl b)
      (λ c'. print_then {q = is_free} {e' = true} (print_firm type_behind) (λ w i. i) (λ w i. i)
      (λ ty. print_only {p = is_free} (let_leaf i ty) (λ a near. (property_same introducer.Let i a.0.0.1 ty a.1 accessors.Stored accessors.Stored near.0.0.1 near.1 refl, tt))))))

  alias_leaf : (i : Identifier) (ty : TypeName) → codes "typealias" ++ (codes " " ++ (i.text ++ (codes " =" ++ ((codes " " ++ type_text ty) ++ [])))) ≡ kind_text (k.TypeAlias i ty) n ++ []
  alias_leaf i ty = simp (append_assoc, append-nil) (sym (simp append_assoc at alias_text i ty n))

  alias_told : (flag : Bool) → Told (λ attrs. TokenThen (only_if flag (mark t.Typealias)) AliasTail)
  alias_told flag attrs = print_led {e' = false} {q = is_apart} (taken_when flag (λ a. flag) (λ a near. refl) (taken_mark t.Typealias [] refl refl (λ u g i. refl))) (λ c ws b. leads_apart _ (sign [] t.Typealias) ws refl b)
      (λ c. print_led {e' = false} {q = is_apart} (taken_name (codes " ") refl (λ u w g i same. refl)) (λ i ws b. leads_apart _ (named (codes " ") i.text) ws refl b)
      (λ i. print_led {e' = false} {q = is_apart} (taken_mark t.Equal (codes " ") refl refl (λ u g i. refl)) (λ c' ws b. leads_apart _ (sign (codes " ") t.Equal) ws refl b)
      (λ c'. print_then {q = is_free} {e' = true} (print_firm type_behind) (λ w i. i) (λ w i. i)
      (λ ty. print_only {p = is_free} (alias_leaf i ty) (λ a near. (alias_same i a.0.0.1 ty a.1 near.0.0.1 near.1, tt))))))

  abbrev default_text : Option TypeName → Text
  default_text x = optional (λ u. codes " = " ++ type_text u) x

  default_prints : Writes true true is_apart default_text (λ x y. option_map bare_type x ≡ option_map bare_type y) Default Default
  default_prints = print_or
      (print_led {e' = false} {q = is_apart} (taken_mark t.Equal (codes " ") refl refl (λ u g i. refl)) (λ c' ws b. leads_apart _ (sign (codes " ") t.Equal) ws refl b)
      (λ c'. print_then {q = is_free} {e' = true} (print_firm type_behind) (λ w i. i) (λ w i. i)
      (λ ty. print_only {p = is_free} (ap (λ z. codes " =" ++ z) (append-nil (codes " " ++ type_text ty))) (λ a near. ap (λ v. Some v) near.1))))
      (print_only refl (λ a near. refl))

  associated_leaf : (i : Identifier) (ts : List TypeName) (ty : Option TypeName) → codes "associatedtype" ++ (codes " " ++ (i.text ++ (constraint_text ts ++ (default_text ty ++ [])))) ≡ kind_text (k.AssociatedType i ts ty) n ++ []
  associated_leaf i ts ty = ap (λ z. codes "associatedtype " ++ (i.text ++ (constraint_text ts ++ z))) (append-nil (default_text ty)) ∙ turn (constraint_text ts) (default_text ty) ∙ sym (append-nil (kind_text (k.AssociatedType i ts ty) n) ∙ associated_text i ts ty n)
    where
      turn : (v w : Text) → codes "associatedtype " ++ (i.text ++ (v ++ w)) ≡ codes "associatedtype " ++ i.text ++ v ++ w
      turn v w = simp append_assoc

  associated_told : (flag : Bool) → Told (λ attrs. TokenThen (only_if flag (mark t.Associatedtype)) AssociatedTail)
  associated_told flag attrs = print_led {e' = false} {q = is_apart} (taken_when flag (λ a. flag) (λ a near. refl) (taken_mark t.Associatedtype [] refl refl (λ u g i. refl))) (λ c ws b. leads_apart _ (sign [] t.Associatedtype) ws refl b)
      (λ c. print_led {e' = true} {q = is_free} (taken_name (codes " ") refl (λ u w g i same. refl)) (λ i ws b. leads_free _ (named (codes " ") i.text) ws refl b)
      (λ i. print_after {q = is_free} conforming_prints (λ w i. i) (λ w i. i) (λ w i. i)
      (λ ts. print_after {q = is_free} default_prints apart_free (λ w i. i) (λ w i. i)
      (λ ty. print_only (associated_leaf i ts ty) (λ a near. (associated_same i a.0.0.1 ts a.0.1 ty a.1 near.0.0.1 near.0.1 near.1, tt))))))

  -- ---- cases: each of several is written by itself

  case_leaf : (i : Identifier) (ps : List Payload) → codes "case" ++ (codes " " ++ (i.text ++ (payloads_text ps ++ []))) ≡ kind_text (k.Case i ps) n ++ []
  case_leaf i ps = turn (payloads_text ps) ∙ sym (append-nil (kind_text (k.Case i ps) n) ∙ case_text i ps n)
    where
      turn : (v : Text) → codes "case" ++ (codes " " ++ (i.text ++ (v ++ []))) ≡ codes "case " ++ i.text ++ v
      turn v = simp (append_assoc, append-nil)

  case_prints : Prints {A = Unit {0}} true any false is_apart (λ z. codes "case" ++ z) (λ x. kind_text x n) Alone SameKind (IsCase d) (λ a. IsCase d)
  case_prints = print_led {e' = true} {q = is_free} (taken_name (codes " ") refl (λ u w g i same. refl)) (λ i ws b. leads_free _ (named (codes " ") i.text) ws refl b)
      (λ i. print_after (payloads_print d) (λ w i. i) (λ w i. i) (λ w i. i)
      (λ ps. print_only (case_leaf i ps ∙ append-nil (kind_text (k.Case i ps) n)) (λ a near. case_same i a.0.1 ps a.1 near.0.1 near.1)))

  -- one case is a list of one
  alone : (p : Place) (us : List Piece) (w : Kinds) → Then (IsCase d) (λ x. Empty (one_kind p x)) us w → CasesTail d p us w
  alone p us w (x, vs, ws, cut, case, (none, is)) = (x ∷ [], vs, ws, cut, (x, vs, [], sym (append-nil vs), case, ([], [], [], refl, refl, (refl, refl))), (none, is))

  abbrev CaseKinds : List Attr → Rule Kinds
  CaseKinds attrs = TokenThen (only_if (is_enum s) (mark t.Case)) (CasesTail d)

  case_kinded : is_enum s ≡ true → (attrs : List Attr) (us : List Piece) (x : DeclKind) → FromText us → IsCase d us x → Kinded CaseKinds n attrs x
  unfolding mark
  case_kinded may attrs us x gen case =
      let (ws, written, sound, begun, make) = case_prints.holds us x gen (any_begins us) case in
      record {
        written = sign [] t.Case ∷ ws;
        text = written;
        sound = (spelled_is_token t.Case refl [] refl role.Unattached, leads_apart _ (sign [] t.Case) ws refl begun, sound);
        begun = refl;
        again = λ attrs' near ms f. matched ws make ms f;
      }
    where
      matched : (ws : List Written) → ((a : Unit {0}) → Alone a → (ms : List Piece) → Matched true ms ws → (x' : DeclKind) × IsCase d ms x' × SameKind x x') →
          (ms : List Piece) → Matched false ms (sign [] t.Case ∷ ws) → (p : Place) × (x' : DeclKind) × CaseKinds attrs ms (one_kind p x') × SameKind x x'
      matched ws make [] f = absurd f
      matched ws make (m ∷ ms) f =
          let (x', case', same) = make tt tt ms (all_matched true ms ws f.1) in
          let is : m.terminal ≡ t.Case = f.0.terminal ∙ spelled_is t.Case refl in (
            m.place,
            x',
            (
              m,
              m.place,
              ms,
              refl,
              ap (λ b. only_if b (mark t.Case) m) may ∙ ap (λ b. when b m.place) (number_is t.Case m (ap number_of is)),
              alone m.place ms (one_kind m.place x') (x', ms, [], sym (append-nil ms), case', (refl, refl)),
            ),
            same,
          )

  -- ---- all kinds of members

  pub kinded_in : (R S : List Attr → Rule Kinds) → ((attrs : List Attr) (us : List Piece) (w : Kinds) → R attrs us w → S attrs us w) → (attrs : List Attr) (xs : List DeclKind) → AllOf (Kinded R n attrs) xs → AllOf (Kinded S n attrs) xs
  kinded_in R S into attrs [] all = tt
  kinded_in R S into attrs (x ∷ xs) (one, all) =
      (record { written = one.written; text = one.text; sound = one.sound; begun = one.begun; again = λ attrs' near ms f. let (p, x', r, same) = one.again attrs' near ms f in (p, x', into attrs' ms (one_kind p x') r, same) }, kinded_in R S into attrs xs all)

  abbrev MembersOf : List Attr → Rule Kinds
  MembersOf attrs = MemberKind Blocks interface s d attrs

  pub member_kinded : (attrs : List Attr) (us : List Piece) (w : Kinds) → FromText us → MembersOf attrs us w → AllOf (Kinded MembersOf n attrs) w.1
  member_kinded attrs us w gen (inl r) =
      kinded_in _ MembersOf (λ a us w r. inl r) attrs w.1 (kinded_one _ n attrs (function_one attrs) function_one (function_told (may_stand interface s) (λ a a' near. stand_flag interface s near) attrs) us w gen r)
    where
      function_one : (attrs : List Attr) → OneKind (TokenThen (only_if (may_stand interface s attrs) (mark t.Func)) (FunctionTail Blocks interface s d attrs))
      function_one attrs = one_led (λ c. one_led (λ i. one_then (λ h. one_then (λ b. one_only c (k.Function i h b)))))
  member_kinded attrs us w gen (inr (inl r)) =
      kinded_in _ MembersOf (λ a us w r. inr (inl r)) attrs w.1 (kinded_one _ n attrs (init_one attrs) init_one (initialiser_told (not (is_protocol s)) attrs) us w gen r)
    where
      init_one : (attrs : List Attr) → OneKind (TokenThen (only_if (not (is_protocol s)) (mark t.Init)) (InitialiserTail Blocks interface s d attrs))
      init_one attrs = one_led (λ c. one_then (λ h. one_then (λ b. one_only c (k.Initialiser h b))))
  member_kinded attrs us w gen (inr (inr (inl r))) =
      kinded_in _ MembersOf (λ a us w r. inr (inr (inl r))) attrs w.1 (kinded_one _ n attrs (var_one attrs) var_one (var_told (may_stand interface s) (λ a a' near. stand_flag interface s near) attrs) us w gen r)
    where
      var_one : (attrs : List Attr) → OneKind (TokenThen (only_if (may_stand interface s attrs) (mark t.Var)) (VarTail Blocks interface s d attrs))
      var_one attrs = one_led (λ c. one_led (λ i. one_led (λ c'. one_then (λ ty. one_then (λ x. one_only c (k.Property introducer.Var i ty x))))))
  member_kinded attrs us w gen (inr (inr (inr (inl r)))) =
      kinded_in _ MembersOf (λ a us w r. inr (inr (inr (inl r)))) attrs w.1 (kinded_one _ n attrs (let_one attrs) let_one (let_told (may_be_stored interface s) (λ a a' near. stored_flag interface s near) attrs) us w gen r)
    where
      let_one : (attrs : List Attr) → OneKind (TokenThen (only_if (may_be_stored interface s attrs) (mark t.Let)) LetTail)
      let_one attrs = one_led (λ c. one_led (λ i. one_led (λ c'. one_then (λ ty. one_only c (k.Property introducer.Let i ty accessors.Stored)))))
  member_kinded attrs us w gen (inr (inr (inr (inr (inl r))))) =
      kinded_in _ MembersOf (λ a us w r. inr (inr (inr (inr (inl r))))) attrs w.1 (kinded_one _ n attrs (alias_one attrs) alias_one (alias_told (not (is_protocol s)) attrs) us w gen r)
    where
      alias_one : (attrs : List Attr) → OneKind (TokenThen (only_if (not (is_protocol s)) (mark t.Typealias)) AliasTail)
      alias_one attrs = one_led (λ c. one_led (λ i. one_led (λ c'. one_then (λ ty. one_only c (k.TypeAlias i ty)))))
  member_kinded attrs us w gen (inr (inr (inr (inr (inr (inl r)))))) =
      kinded_in _ MembersOf (λ a us w r. inr (inr (inr (inr (inr (inl r)))))) attrs w.1 (kinded_one _ n attrs (associated_one attrs) associated_one (associated_told (is_protocol s) attrs) us w gen r)
    where
      associated_one : (attrs : List Attr) → OneKind (TokenThen (only_if (is_protocol s) (mark t.Associatedtype)) AssociatedTail)
      associated_one attrs = one_led (λ c. one_led (λ i. one_then (λ ts. one_then (λ ty. one_only c (k.AssociatedType i ts ty)))))
  member_kinded attrs us w gen (inr (inr (inr (inr (inr (inr (inl (u, c, vs, at, takes, (cases, xs, ys, cut, listed, (none, is)))))))))) =
      let gen' : FromText (u ∷ vs) = subst FromText at gen in
      subst (λ (z : Kinds). AllOf (Kinded MembersOf n attrs) z.1) (sym is)
      (kinded_in CaseKinds MembersOf (λ a us w r. inr (inr (inr (inr (inr (inr (inl r))))))) attrs cases
      (separated_all t.Comma (IsCase d) (Kinded CaseKinds n attrs) (λ us x g case. case_kinded (may (is_enum s) refl takes) attrs us x g case) xs cases (genuine_left xs ys (subst FromText cut gen'.2)) listed))
    where
      may : (b : Bool) → is_enum s ≡ b → only_if (is_enum s) (mark t.Case) u ≡ Some c → is_enum s ≡ true
      may true e takes = e
      may false e takes = absurd (no (subst (λ z. only_if z (mark t.Case) u ≡ Some c) e takes))
        where
          no : None ≡ Some c → ⊥
          no e = absurd (cc)
  member_kinded attrs us w gen (inr (inr (inr (inr (inr (inr (inr r))))))) = absurd r
