-- The declarations of the top level are written: functions, types with their members, and extensions.
use Rattle.std.proofs.Common.{◌≡◌, ℕ, zero, suc, ◌+◌, List, [], ◌∷◌, ◌++◌, map, Bool, true, false, codes, Some, refl, sym, ◌∙◌, ap, subst, inl, inr, append_assoc, append-nil}
use Rattle.std.specs.Prelude.{if◌then◌else◌}
use Rattle.std.specs.List.{flat_map}
use Rattle.evo_base.specs.declared.place.Place.{Place}
use Rattle.evo_lex.specs.Front.{when}
use Rattle.evo_combinators.specs.Rule.{Empty, TokenThen, Then}
use Rattle.evo_tree.specs.declared.name.Identifier.{Identifier}
use Rattle.evo_tree.specs.declared.name.TypeName.{TypeName}
use Rattle.evo_tree.specs.declared.declaration.Attr.{Attr}
use Rattle.evo_tree.specs.declared.declaration.AttrKind.TheVariants as attr
use Rattle.evo_tree.specs.declared.declaration.NominalKind.{NominalKind}
use Rattle.evo_tree.specs.declared.declaration.NominalKind.TheVariants as nominal
use Rattle.evo_tree.specs.declared.declaration.Decl.{Decl}
use Rattle.evo_tree.specs.declared.declaration.DeclKind.TheVariants as k
use Rattle.evo_tree.specs.declared.scope.Scope.{Scope}
use Rattle.evo_tree.specs.declared.scope.Scope.TheVariants as scope
use Rattle.evo_tree.specs.declared.terminal.Role.TheVariants as role
use Rattle.evo_tree.specs.declared.terminal.Terminal.{Terminal}
use Rattle.evo_tree.specs.declared.terminal.Terminal.TheVariants as t
use Rattle.evo_tree.specs.Terminals.{number_of, terminal_of}
use Rattle.evo_tree.specs.Pieces.{Piece, mark}
use Rattle.evo_tree.specs.Expressions.{Rule}
use Rattle.evo_tree.specs.Statements.{IsBlock}
use Rattle.evo_tree.specs.Declarations.{Within, Unless, begins_accessors, scope_of, nominal_word, Lines, DeclarationOf, MemberKind, AreMembers, Members, FunctionTail, NominalTail, ExtensionTail, TopKind, IsDeclaration}
use Rattle.evo_tree.specs.Bare.{bare_decl}
use Rattle.evo_tree.specs.Canonical.{Text, indent, block_text, type_text, inherited_text, nominal_text, decl_text}
use Rattle.evo_print.specs.Texts.{kind_text}
use Rattle.evo_round_trip.proofs.Written.{Written, joined, Sound, IsToken}
use Rattle.evo_round_trip.proofs.Matching.{FromText}
use Rattle.evo_round_trip.proofs.Printed.{any, begins, is_apart, is_flush, is_free, leads_free, Matched, matched_parts, genuine_left, joined_append, sound_append, begins_within, begins_after}
use Rattle.evo_round_trip.proofs.Prints.{Prints, Writes, Taken, print_only, print_nothing, print_or, print_led, print_nested, print_then, print_after, print_after_told, print_firm, print_more}
use Rattle.evo_parse_expr.proofs.Tests.{number_is}
use Rattle.evo_round_trip.proofs.Tokens.{spelling, kind_for, spelled_is, spelled_is_token}
use Rattle.evo_round_trip.proofs.Spellings.{sign, named}
use Rattle.evo_round_trip.proofs.TakenTokens.{like_of, taken_mark, taken_name, SameName}
use Rattle.evo_round_trip.proofs.Heads.{is_calm, apart_free, leads_apart}
use Rattle.evo_round_trip.proofs.ExpressionTrees.{like_map}
use Rattle.evo_round_trip.proofs.PrintedTypes.{SameTypes, type_behind, inherited_prints}
use Rattle.evo_round_trip.proofs.StatementTrees.{SameBlock}
use Rattle.evo_round_trip.proofs.DeclarationTrees.{SameKind, members_text, nominal_is, extension_is, nominal_same, extension_same}
use Rattle.evo_round_trip.proofs.PrintedBlocks.{feed, indent_gap}
use Rattle.evo_round_trip.proofs.PrintedAccessors.{Blocks}
use Rattle.evo_round_trip.proofs.PrintedKinds.{Kinds, kinds_text, SameKinds, Attributed, OneKind, one_only, one_led, one_then, Kinded, AllOf, kinded_one}
use Rattle.evo_round_trip.proofs.PrintedMembers.{function_told, member_kinded, kinded_in}
use Rattle.evo_round_trip.proofs.PrintedDeclarations.{AttributesFront, ModifiersFront, Each, group_each, BelowEach, lines_each, each_line}

abbrev pub GetterPrints : Type 0
GetterPrints = (d n : ℕ) → Writes false false is_flush (λ b. block_text b n) SameBlock (Unless begins_accessors (IsBlock false d)) (Unless begins_accessors (IsBlock false d))

abbrev pub SameDecls : List Decl → List Decl → Type 0
SameDecls xs ys = map bare_decl xs ≡ map bare_decl ys

module _ (getter : GetterPrints) (attributes : AttributesFront) (modifiers : ModifiersFront) (interface : Bool) where
  -- ---- members

  abbrev MemberGroup : Scope → ℕ → Rule (List Decl)
  MemberGroup s d = DeclarationOf s d (MemberKind Blocks interface s d)

  members_below : (s : Scope) (d n : ℕ) (us : List Piece) (xs : List Decl) → FromText us → AreMembers Blocks interface s d us xs → BelowEach (MemberGroup s d) n xs (Lines (MemberGroup s d))
  members_below s d n us xs gen (gs, vs, ws, cut, lines, (none, is)) =
      subst (λ z. BelowEach (MemberGroup s d) n z (Lines (MemberGroup s d))) (sym is)
      (lines_each (MemberGroup s d) n (flat_map (λ g. g) gs)
      (each_line (MemberGroup s d) n (group_each attributes modifiers s d n (MemberKind Blocks interface s d) (member_kinded getter interface s d n)) vs gs (genuine_left vs ws (subst FromText cut gen)) lines))

  -- what stands behind the brace of a type
  abbrev MembersTail : Scope → ℕ → Rule (List Decl)
  MembersTail s d = Then (Within (AreMembers Blocks interface s) d) (λ ms. TokenThen (mark t.CloseBrace) (λ _. Empty ms))

  abbrev RestWritten : Scope → ℕ → ℕ → List Piece → List Decl → Type 0
  RestWritten s d n us xs = (ws : List Written) × (codes " {" ++ joined ws ≡ codes " " ++ members_text xs n) × Sound ws × (begins false is_apart ws ≡ true)
      × ((a : Place) → Unit {0} → (ms : List Piece) → Matched true ms ws → (xs' : List Decl) × MembersTail s d ms xs' × SameDecls xs xs')

  rest_written : (s : Scope) (d n : ℕ) (us : List Piece) (xs : List Decl) → FromText us → MembersTail s d us xs → RestWritten s d n us xs
  unfolding mark
  rest_written s zero n us xs gen (ys, vs, ws, cut, inner, r) = absurd inner
  rest_written s (suc d) n us xs gen (ys, vs, rest, cut, inner, (u, c, v2, at, takes, (none, is))) =
      let lines = members_below s d (n + 1) vs xs (genuine_left vs rest (subst FromText cut gen)) (subst (λ z. AreMembers Blocks interface s d vs z) (sym is) inner) in (
        lines.written ++ close ∷ [],
        ap (λ z. codes " {" ++ z) (joined_append lines.written (close ∷ [])) ∙ text (joined lines.written) (flat_map (λ x. decl_text x (n + 1)) xs) lines.text,
        sound_append lines.written (close ∷ []) lines.sound (spelled_is_token t.CloseBrace refl (feed n) (indent_gap n) role.Unattached, refl, tt) refl,
        begins_after false is_apart lines.written (close ∷ []) lines.begun refl,
        λ a near ms f.
            let (ns, ps, cut', left, right) = matched_parts true ms lines.written (close ∷ []) f in
            let (gs, spelled, sames) = lines.again ns left in
            let (m, one, closes) = closed ps right in
            (flat_map (λ g. g) gs, (flat_map (λ g. g) gs, ns, ps, cut', (gs, ns, [], sym (append-nil ns), spelled, (refl, refl)), (m, m.place, [], one, closes, (refl, refl))), like_map bare_decl xs (flat_map (λ g. g) gs) sames),
      )
    where
      close : Written
      close = sign (feed n) t.CloseBrace

      text : (v w : Text) → v ++ codes "\n" ≡ codes "\n" ++ w → codes " {" ++ (v ++ (feed n ++ codes "}")) ≡ codes " " ++ (codes "{\n" ++ w ++ indent n ++ codes "}")
      text v w e = ap (λ z. codes " {" ++ z) (sym (append_assoc v (codes "\n") (indent n ++ codes "}")) ∙ ap (λ z. z ++ (indent n ++ codes "}")) e) ∙ simp append_assoc

      closed : (ps : List Piece) → Matched true ps (close ∷ []) → (m : Piece) × (ps ≡ m ∷ []) × (mark t.CloseBrace m ≡ Some m.place)
      closed [] f = absurd f
      closed (m ∷ []) f = (m, refl, ap (λ b. when b m.place) (number_is t.CloseBrace m (ap number_of (f.0.0.terminal ∙ spelled_is t.CloseBrace refl))))
      closed (m ∷ p ∷ ps) f = absurd f.1

  members_print : (s : Scope) (d n : ℕ) → Writes true false is_apart (λ ms. codes " " ++ members_text ms n) SameDecls (Members Blocks interface d s) (Members Blocks interface d s)
  members_print s d n = print_or
      (print_nested d (print_led {e' = false} {q = is_apart} (taken_mark t.OpenBrace (codes " ") refl refl (λ u g i. refl)) (λ c ws b. leads_apart _ (sign (codes " ") t.OpenBrace) ws refl b)
      (λ c. record { holds = λ us xs gen fst r. let (ws, written, sound, begun, make) = rest_written s d n us xs gen r in (ws, written, sound, begun, λ a near ms f. make a.1 tt ms f) })))
      print_nothing

  members_told : (s : Scope) (d n : ℕ) → Prints true any true is_apart (λ z. z) (λ ms. codes " " ++ members_text ms n) (λ s'. s ≡ s') SameDecls (Members Blocks interface d s) (λ s'. Members Blocks interface d s')
  members_told s d n = record {
    holds = λ us x gen fst r.
        let (ws, written, sound, begun, make) = (members_print s d n).holds us x gen fst r in
        (ws, written, sound, begins_within false true is_apart is_apart ws (λ h. refl) (λ w h. h) begun, λ a near ms f. let (x', r', same) = make tt tt ms f in (x', subst (λ z. Members Blocks interface d z ms x') near r', same));
  }

  -- ---- types and extensions

  abbrev nominal_terminal : NominalKind → Terminal
  nominal_terminal nominal.Struct = t.Struct
  nominal_terminal nominal.Enum = t.Enum
  nominal_terminal nominal.Class = t.Class
  nominal_terminal nominal.Protocol = t.Protocol

  nominal_token : (m : NominalKind) → IsToken (sign [] (nominal_terminal m)) × (terminal_of (kind_for (nominal_terminal m)) (spelling (nominal_terminal m)) ≡ nominal_terminal m)
  nominal_token nominal.Struct = (spelled_is_token t.Struct refl [] refl role.Unattached, spelled_is t.Struct refl)
  nominal_token nominal.Enum = (spelled_is_token t.Enum refl [] refl role.Unattached, spelled_is t.Enum refl)
  nominal_token nominal.Class = (spelled_is_token t.Class refl [] refl role.Unattached, spelled_is t.Class refl)
  nominal_token nominal.Protocol = (spelled_is_token t.Protocol refl [] refl role.Unattached, spelled_is t.Protocol refl)

  nominal_is_text : (m : NominalKind) → nominal_text m ≡ spelling (nominal_terminal m) ++ codes " "
  nominal_is_text nominal.Struct = refl
  nominal_is_text nominal.Enum = refl
  nominal_is_text nominal.Class = refl
  nominal_is_text nominal.Protocol = refl

  abbrev SameNominal : Place × NominalKind → Place × NominalKind → Type 0
  SameNominal a b = a.1 ≡ b.1

  nominal_again : (m : NominalKind) (p : Piece) → p.terminal ≡ nominal_terminal m → nominal_word p ≡ Some (p.place, m)
  unfolding nominal_word
  nominal_again nominal.Struct p is = simp (ap number_of is)
  nominal_again nominal.Enum p is = simp (ap number_of is)
  nominal_again nominal.Class p is = simp (ap number_of is)
  nominal_again nominal.Protocol p is = simp (ap number_of is)

  taken_nominal : {A : Type 0} {firm : Bool} {g : Piece → Bool} {Near : A → Type 0} → Taken firm g is_calm (λ (c : Place × NominalKind). sign [] (nominal_terminal c.1)) Near SameNominal nominal_word (λ a. nominal_word)
  taken_nominal {firm} = record {
    holds = λ u c gen passes takes. (
      (nominal_token c.1).0,
      calm c.1,
      λ a near m f.
          let like = like_of firm m (sign [] (nominal_terminal c.1)) f in
          ((m.place, c.1), nominal_again c.1 m (like.terminal ∙ (nominal_token c.1).1), refl),
    );
  }
    where
      calm : (m : NominalKind) → is_calm (sign [] (nominal_terminal m)) ≡ true
      calm nominal.Struct = refl
      calm nominal.Enum = refl
      calm nominal.Class = refl
      calm nominal.Protocol = refl

  scope_kept : (m : NominalKind) (attrs attrs' : List Attr) → Attributed attrs attrs' → scope_of m attrs ≡ scope_of m attrs'
  scope_kept nominal.Struct attrs attrs' near = ap (λ b. if b then scope.FrozenStruct else scope.Struct) (sym (near.same attr.Frozen))
  scope_kept nominal.Enum attrs attrs' near = refl
  scope_kept nominal.Class attrs attrs' near = refl
  scope_kept nominal.Protocol attrs attrs' near = refl

  module _ (d n : ℕ) where
    nominal_leaf : (m : NominalKind) (i : Identifier) (ts : List TypeName) (ms : List Decl) →
        spelling (nominal_terminal m) ++ (codes " " ++ (i.text ++ (inherited_text ts ++ ((codes " " ++ members_text ms n) ++ [])))) ≡ kind_text (k.Nominal m i ts ms) n ++ []
    nominal_leaf m i ts ms = turn (spelling (nominal_terminal m)) (inherited_text ts) (members_text ms n)
        ∙ ap (λ z. z ++ i.text ++ inherited_text ts ++ codes " " ++ members_text ms n) (sym (nominal_is_text m)) ∙ sym (append-nil (kind_text (k.Nominal m i ts ms) n) ∙ nominal_is m i ts ms n)
      where
        turn : (u v w : Text) → u ++ (codes " " ++ (i.text ++ (v ++ ((codes " " ++ w) ++ [])))) ≡ (u ++ codes " ") ++ i.text ++ v ++ codes " " ++ w
        turn u v w = simp (append_assoc, append-nil)

    nominal_like : (m m' : NominalKind) (i i' : Identifier) (ts ts' : List TypeName) (ms ms' : List Decl) → m ≡ m' → SameName i i' → SameTypes ts ts' → SameDecls ms ms' → SameKind (k.Nominal m i ts ms) (k.Nominal m' i' ts' ms')
    nominal_like m m' i i' ts ts' ms ms' is names types members = subst (λ z. SameKind (k.Nominal m i ts ms) (k.Nominal z i' ts' ms')) is (nominal_same m i i' ts ts' ms ms' names types members)

    nominal_told : (attrs : List Attr) → Prints false any false is_calm (λ z. z) (kinds_text n) (Attributed attrs) SameKinds (TokenThen nominal_word (NominalTail Blocks interface d attrs)) (λ attrs'. TokenThen nominal_word (NominalTail Blocks interface d attrs'))
    nominal_told attrs = print_led {e' = false} {q = is_apart} taken_nominal (λ c ws b. leads_apart _ (sign [] (nominal_terminal c.1)) ws refl b)
        (λ c. print_led {e' = true} {q = is_free} (taken_name (codes " ") refl (λ u w g i same. refl)) (λ i ws b. leads_free _ (named (codes " ") i.text) ws refl b)
        (λ i. print_after {q = is_free} inherited_prints (λ w i. i) (λ w i. i) (λ w i. i)
        (λ ts. print_more (λ h. h) apart_free (print_after_told (members_told (scope_of c.1 attrs) d n) (λ a near. scope_kept c.1 attrs a.0.0.0 near.0.0.0 ∙ ap (λ m. scope_of m a.0.0.0) near.0.0.1)
        (λ ms. print_only (nominal_leaf c.1 i ts ms) (λ a near. (nominal_like c.1 a.0.0.0.1.1 i a.0.0.1 ts a.0.1 ms a.1 near.0.0.0.1 near.0.0.1 near.0.1 near.1, tt)))
        apart_free))))

    extension_leaf : (ty : TypeName) (ts : List TypeName) (ms : List Decl) → codes "extension" ++ ((codes " " ++ type_text ty) ++ (inherited_text ts ++ ((codes " " ++ members_text ms n) ++ []))) ≡ kind_text (k.Extension ty ts ms) n ++ []
    extension_leaf ty ts ms = turn (type_text ty) (inherited_text ts) (members_text ms n) ∙ sym (append-nil (kind_text (k.Extension ty ts ms) n) ∙ extension_is ty ts ms n)
      where
        turn : (u v w : Text) → codes "extension" ++ ((codes " " ++ u) ++ (v ++ ((codes " " ++ w) ++ []))) ≡ codes "extension " ++ u ++ v ++ codes " " ++ w
        turn u v w = simp (append_assoc, append-nil)

    extension_told : (attrs : List Attr) → Prints false any false is_calm (λ z. z) (kinds_text n) (Attributed attrs) SameKinds (TokenThen (mark t.Extension) (ExtensionTail Blocks interface d)) (λ attrs'. TokenThen (mark t.Extension) (ExtensionTail Blocks interface d))
    extension_told attrs = print_led {e' = false} {q = is_apart} (taken_mark t.Extension [] refl refl (λ u g i. refl)) (λ c ws b. leads_apart _ (sign [] t.Extension) ws refl b)
        (λ c. print_then {q = is_free} {e' = true} (print_firm type_behind) (λ w i. i) (λ w i. i)
        (λ ty. print_after {q = is_free} inherited_prints (λ w i. i) (λ w i. i) (λ w i. i)
        (λ ts. print_more (λ h. h) apart_free (print_after_told {told = λ a. scope.Extension} (members_told scope.Extension d n) (λ a near. refl)
        (λ ms. print_only (extension_leaf ty ts ms) (λ a near. (extension_same ty a.0.0.1 ts a.0.1 ms a.1 near.0.0.1 near.0.1 near.1, tt)))
        apart_free))))

    abbrev TopOf : List Attr → Rule Kinds
    TopOf attrs = TopKind Blocks interface d attrs

    top_kinded : (attrs : List Attr) (us : List Piece) (w : Kinds) → FromText us → TopOf attrs us w → AllOf (Kinded TopOf n attrs) w.1
    top_kinded attrs us w gen (inl r) =
        kinded_in getter interface scope.TopLevel d n _ TopOf (λ a us w r. inl r) attrs w.1 (kinded_one (λ attrs. TokenThen (mark t.Func) (FunctionTail Blocks interface scope.TopLevel d attrs)) n attrs (function_one attrs) function_one
        (function_told getter interface scope.TopLevel d n (λ a. true) (λ a a' near. refl) attrs) us w gen r)
      where
        function_one : (attrs : List Attr) → OneKind (TokenThen (mark t.Func) (FunctionTail Blocks interface scope.TopLevel d attrs))
        function_one attrs = one_led (λ c. one_led (λ i. one_then (λ h. one_then (λ b. one_only c (k.Function i h b)))))
    top_kinded attrs us w gen (inr (inl r)) =
        kinded_in getter interface scope.TopLevel d n _ TopOf (λ a us w r. inr (inl r)) attrs w.1 (kinded_one (λ attrs. TokenThen nominal_word (NominalTail Blocks interface d attrs)) n attrs (nominal_one attrs) nominal_one (nominal_told attrs) us w gen r)
      where
        nominal_one : (attrs : List Attr) → OneKind (TokenThen nominal_word (NominalTail Blocks interface d attrs))
        nominal_one attrs = one_led (λ c. one_led (λ i. one_then (λ ts. one_then (λ ms. one_only c.0 (k.Nominal c.1 i ts ms)))))
    top_kinded attrs us w gen (inr (inr (inl r))) =
        kinded_in getter interface scope.TopLevel d n _ TopOf (λ a us w r. inr (inr (inl r))) attrs w.1 (kinded_one (λ attrs. TokenThen (mark t.Extension) (ExtensionTail Blocks interface d)) n attrs (extension_one attrs) extension_one (extension_told attrs) us w gen r)
      where
        extension_one : (attrs : List Attr) → OneKind (TokenThen (mark t.Extension) (ExtensionTail Blocks interface d))
        extension_one attrs = one_led (λ c. one_then (λ ty. one_then (λ ts. one_then (λ ms. one_only c (k.Extension ty ts ms)))))
    top_kinded attrs us w gen (inr (inr (inr r))) = absurd r

    -- each declaration that one at the top level makes
    pub declaration_each : (us : List Piece) (ds : List Decl) → FromText us → IsDeclaration Blocks interface d us ds → AllOf (Each (IsDeclaration Blocks interface d) n) ds
    declaration_each = group_each attributes modifiers scope.TopLevel d n TopOf top_kinded
