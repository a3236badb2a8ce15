-- Headers are written: results, requirements, and the whole; and the payloads of cases.
use Rattle.std.proofs.Common.{◌≡◌, ℕ, zero, suc, List, [], ◌∷◌, ◌++◌, ◌⊎◌, map, Bool, true, false, codes, Option, Some, None, refl, sym, ◌∙◌, ap, ap₂, subst, inl, inr, cond, append_assoc, append-nil}
use Rattle.std.specs.Prelude.{not}
use Rattle.std.specs.Option.{option_map}
use Rattle.evo_combinators.specs.Rule.{Empty, TokenThen, Or, Then}
use Rattle.evo_tree.specs.declared.name.TypeName.{TypeName}
use Rattle.evo_tree.specs.declared.declaration.GenericParameter.{GenericParameter}
use Rattle.evo_tree.specs.declared.declaration.Parameter.{Parameter}
use Rattle.evo_tree.specs.declared.declaration.Requirement.{Requirement}
use Rattle.evo_tree.specs.declared.declaration.Requirement.TheVariants as requirement
use Rattle.evo_tree.specs.declared.declaration.Header.{Header}
use Rattle.evo_tree.specs.declared.declaration.Payload.{Payload}
use Rattle.evo_tree.specs.declared.scope.Scope.{Scope}
use Rattle.evo_tree.specs.declared.terminal.Role.TheVariants as role
use Rattle.evo_tree.specs.declared.terminal.Terminal.TheVariants as t
use Rattle.evo_tree.specs.Pieces.{Piece, mark}
use Rattle.evo_tree.specs.Expressions.{Rule, Nested}
use Rattle.evo_tree.specs.Types.{IsType}
use Rattle.evo_tree.specs.Declarations.{only_if, Separated, is_protocol, Protocols, IsRequirement, is_void, Result, header, Returns, Requirements, IsHeader, IsPayload, PayloadsTail}
use Rattle.evo_tree.specs.Bare.{origin, bare_type, bare_generic, bare_parameter, bare_requirement, bare_header, bare_payload}
use Rattle.evo_tree.specs.Canonical.{listed, optional, unless_empty, type_text, constraint_text, requirement_text, header_text, payload_text}
use Rattle.evo_tree.specs.Canonical as canonical
use Rattle.evo_round_trip.proofs.Written.{Written, Sound, joined}
use Rattle.evo_round_trip.proofs.Matching.{FromText}
use Rattle.evo_round_trip.proofs.Printed.{Text, any, any_begins, begins, begins_within, is_apart, is_free, Matched, leads_free}
use Rattle.evo_round_trip.proofs.Prints.{Writes, Alone, print_alone, print_in, print_only, print_or, print_led, print_nested, print_then, print_after, print_behind, print_firm, print_more}
use Rattle.evo_round_trip.proofs.Spellings.{sign, named}
use Rattle.evo_round_trip.proofs.Tokens.{spelled}
use Rattle.evo_round_trip.proofs.TakenTokens.{taken_mark, taken_name}
use Rattle.evo_round_trip.proofs.TakenTypes.{taken_infix_mark, taken_if}
use Rattle.evo_round_trip.proofs.Heads.{is_calm, calm_flush, apart_free, leads_apart, leads_infix, leads_calm}
use Rattle.evo_round_trip.proofs.Adjacent.{is_snug, is_marked, marked_free, marked_snug}
use Rattle.evo_round_trip.proofs.PrintedTypes.{SameType, SameTypes, SameBy, SameAllBy, print_of, some_separated, separated_prints, type_prints, type_behind, protocols_print}
use Rattle.evo_round_trip.proofs.PrintedParameters.{generics_text, generics_print, parameters_print}

-- ---- results

abbrev pub SameResult : Option TypeName → Option TypeName → Type 0
SameResult x y = option_map bare_type x ≡ option_map bare_type y

abbrev pub returns_text : Option TypeName → Text
returns_text = optional (λ x. codes " -> " ++ type_text x)

abbrev Arrowed : Bool → Rule TypeName
Arrowed may = TokenThen (only_if may (mark t.Arrow)) (λ _. IsType)

arrowed_prints : (may : Bool) → Writes true false is_apart (λ x. codes " -> " ++ type_text x) SameType (Arrowed may) (Arrowed may)
arrowed_prints may = print_led {e' = false} {q = is_apart} (taken_if may (taken_mark t.Arrow (codes " ") refl refl (λ u g i. refl))) (λ c ws b. leads_apart _ (sign (codes " ") t.Arrow) ws refl b)
    (λ c. print_in (λ x z h. ap (λ v. codes " ->" ++ v) h) (print_firm type_behind))

-- a result is none, or a type that is not `Void` alone
result_is : (d : ℕ) (us : List Piece) (b : Option TypeName) → Result d us b → (b ≡ None) ⊎ ((x : TypeName) × IsType us x × (b ≡ Some x) × (is_void x.names ≡ false))
result_is d us b (inr (x, vs, ws, at, s, only)) = pick (is_void x.names) refl
  where
    pick : (v : Bool) → is_void x.names ≡ v → (b ≡ None) ⊎ ((x : TypeName) × IsType us x × (b ≡ Some x) × (is_void x.names ≡ false))
    pick true e = inl (only.1 ∙ ap (λ z. cond z None (Some x)) e)
    pick false e = inr (x, subst (λ z. IsType z x) (sym (at ∙ ap (λ z. vs ++ z) only.0 ∙ append-nil vs)) s, only.1 ∙ ap (λ z. cond z None (Some x)) e, e)
result_is zero us b (inl s) = absurd s
result_is (suc d) us b (inl (u, c, vs, at, takes, (v, c', ws, at', takes', only))) = inl only.1

-- [ "->" result ]: what is no result is not written
pub returns_print : (d : ℕ) (may : Bool) → Writes true true is_apart returns_text SameResult (Returns d may) (Returns d may)
returns_print d may = record { holds = go }
  where
    Comes : Option TypeName → Type 0
    Comes b = (ws : List Written) × (joined ws ≡ returns_text b) × Sound ws × (begins true is_apart ws ≡ true) × ((a : Unit {0}) → Alone a → (ms : List Piece) → Matched true ms ws → (b' : Option TypeName) × Returns d may ms b' × SameResult b b')

    none : Comes None
    none = ([], refl, tt, refl, λ a near ms fits. (None, inr (empty ms fits, refl), refl))
      where
        empty : (ms : List Piece) → Matched true ms [] → ms ≡ []
        empty [] f = refl
        empty (m ∷ ms) f = absurd f

    again : (ms : List Piece) (x y : TypeName) → is_void x.names ≡ false → SameType x y → Arrowed may ms y → Returns d may ms (Some y)
    again ms x y some same (u, c, vs, at, takes, s) =
        let void : is_void y.names ≡ false = ap is_void (sym (ap (λ (z : TypeName). z.names) same)) ∙ some in
        inl (u, c, vs, at, takes, inr (y, vs, [], sym (append-nil vs), s, (refl, sym (ap (λ z. cond z None (Some y)) void))))

    one : (us : List Piece) (x : TypeName) → FromText us → Arrowed may us x → is_void x.names ≡ false → Comes (Some x)
    one us x gen s some =
        let (ws, written, sound, begun, make) = (arrowed_prints may).holds us x gen (any_begins us) s in (
          ws,
          written,
          sound,
          begins_within false true is_apart is_apart ws (λ t. refl) (λ w i. i) begun,
          λ a near ms fits.
              let (y, r, same) = make tt tt ms fits in
              (Some y, again ms x y some same r, ap (λ z. Some z) same),
        )

    go : (us : List Piece) (b : Option TypeName) → FromText us → begins true any us ≡ true → Returns d may us b → Comes b
    go us b gen fst (inr only) = subst Comes (sym only.1) none
    go us b gen fst (inl (u, c, vs, at, takes, r)) = elim (result_is d vs b r) [
      | inl is ↦ subst Comes (sym is) none
      | inr (x, s, is, some) ↦ subst Comes (sym is) (one us x gen (u, c, vs, at, takes, s) some)
    ]

-- ---- requirements

protocols_behind : Writes false false is_apart (λ ps. codes " " ++ canonical.joined ps) SameTypes Protocols Protocols
protocols_behind = print_behind (codes " ") refl refl (print_more (λ h. h) calm_flush protocols_print)

-- what stands behind the `:` of a requirement
rest_text : Requirement → Text
rest_text (requirement.Conforms a ps) = codes " " ++ canonical.joined ps
rest_text (requirement.Same a p b) = []

-- req
pub requirement_prints : Writes false false is_calm requirement_text (SameBy bare_requirement) IsRequirement IsRequirement
unfolding rest_text
requirement_prints = print_then {e' = false} type_prints (λ w i. i) (λ w i. i)
    (λ a. print_or
    (print_led {e' = false} {q = is_apart} (taken_mark t.Colon [] refl refl (λ u g i. refl)) (λ c ws b. leads_apart _ (sign [] t.Colon) ws refl b)
    (λ c. print_of (leaf a) (print_then {before = λ z. z} {out = rest_text} {q = is_apart} (print_firm protocols_behind) (λ w i. i) apart_free
    (λ ps. print_only (append-nil (codes " " ++ canonical.joined ps)) (λ x near. ap₂ (λ v w. requirement.Conforms v w) near.0.0.1 near.1)))))
    (print_led {e' = false} {q = is_apart} (taken_infix_mark t.EqualEqual (codes " ") refl refl refl) (λ c ws b. leads_infix (spelled (codes " ") t.EqualEqual role.Infix) ws refl b)
    (λ p. print_then {q = is_apart} (print_firm type_behind) (λ w i. i) apart_free
    (λ b. print_only (same_leaf a b) (λ x near. ap₂ (λ v w. requirement.Same v origin w) near.0.0.1 near.1)))))
  where
    same_leaf : (a b : TypeName) → type_text a ++ (codes " " ++ (codes "==" ++ ((codes " " ++ type_text b) ++ []))) ≡ (type_text a ++ codes " == ") ++ type_text b
    same_leaf a b = simp (append_assoc, append-nil)

    leaf : (a : TypeName) (us : List Piece) (r : Requirement) → Then Protocols (λ ps. Empty (requirement.Conforms a ps)) us r → (z : Text) → z ≡ rest_text r → type_text a ++ (codes ":" ++ z) ≡ requirement_text r
    leaf a us r (ps, vs, ws, at, s, only) z h =
        let (x, xs, is) = some_separated t.And IsType vs ps s in
        let is' : r ≡ requirement.Conforms a (x ∷ xs) = only.1 ∙ ap (λ v. requirement.Conforms a v) is in
        ap (λ v. type_text a ++ (codes ":" ++ v)) h ∙ subst (λ v. type_text a ++ (codes ":" ++ rest_text v) ≡ requirement_text v) (sym is') (ap (λ v. type_text a ++ v) (sym (append-nil (codes ": " ++ canonical.joined (x ∷ xs)))))

abbrev pub requirements_text : List Requirement → Text
requirements_text = unless_empty (codes " where ") (listed requirement_text) []

-- [ reqs ]
pub requirements_print : (s : Scope) → Writes true true is_apart requirements_text (SameAllBy bare_requirement) (Requirements s) (Requirements s)
requirements_print s = print_or
    (print_led {e' = false} {q = is_apart} (taken_if (not (is_protocol s)) (taken_mark t.Where (codes " ") refl refl (λ u g i. refl))) (λ c ws b. leads_apart _ (sign (codes " ") t.Where) ws refl b)
    (λ c. print_of leaf (print_alone (print_firm (print_behind (codes " ") refl refl (print_more (λ h. h) calm_flush many))))))
    (print_only refl (λ a near. refl))
  where
    many : Writes false false is_calm (listed requirement_text) (SameAllBy bare_requirement) (Separated t.Comma IsRequirement) (Separated t.Comma IsRequirement)
    many = separated_prints bare_requirement IsRequirement t.Comma [] refl refl refl calm_flush requirement_prints

    leaf : (us : List Piece) (rs : List Requirement) → Separated t.Comma IsRequirement us rs → (z : Text) → z ≡ codes " " ++ listed requirement_text rs → codes " " ++ (codes "where" ++ z) ≡ requirements_text rs
    leaf us rs s z h = let (x, xs, is) = some_separated t.Comma IsRequirement us rs s in
        ap (λ v. codes " where" ++ v) h ∙ subst (λ v. codes " where" ++ (codes " " ++ listed requirement_text v) ≡ requirements_text v) (sym is) (sym (append-nil (codes " where " ++ listed requirement_text (x ∷ xs))))

-- ---- headers

abbrev pub SameHeader : Header → Header → Type 0
SameHeader a b = bare_header a ≡ bare_header b

header_leaf : (gs ps r rs : Text) → gs ++ ((codes "(" ++ (ps ++ codes ")")) ++ (r ++ (rs ++ []))) ≡ ((((gs ++ codes "(") ++ ps) ++ codes ")") ++ r) ++ rs
header_leaf gs ps r rs = simp (append_assoc, append-nil)

same_header : (gs gs' : List GenericParameter) (ps ps' : List Parameter) (x x' : Option TypeName) (rs rs' : List Requirement) → SameAllBy bare_generic gs gs' → SameAllBy bare_parameter ps ps' → SameResult x x' → SameAllBy bare_requirement rs rs' →
    SameHeader (header gs ps x rs) (header gs' ps' x' rs')
same_header gs gs' ps ps' x x' rs rs' a b c d =
    ap₂ (λ v w. record { generics = v; parameters = w; result = option_map bare_type x; requirements = map bare_requirement rs }) a b
    ∙ ap₂ (λ v w. record { generics = map bare_generic gs'; parameters = map bare_parameter ps'; result = v; requirements = w }) c d

-- a header is written, directly behind a name or a keyword
pub header_prints : (s : Scope) (d : ℕ) (may : Bool) → Writes true false is_snug header_text SameHeader (IsHeader s d may) (IsHeader s d may)
header_prints s d may = print_after {q = is_marked} (generics_print s) (λ w i. i) marked_free marked_snug
    (λ gs. print_then {q = is_apart} (parameters_print d) (λ w i. i) apart_free
    (λ ps. print_after {q = is_apart} (returns_print d may) (λ w i. i) apart_free (λ w i. i)
    (λ x. print_after {q = is_apart} (requirements_print s) (λ w i. i) apart_free (λ w i. i)
    (λ rs. print_only (header_leaf (generics_text gs) (listed _ ps) (returns_text x) (requirements_text rs)) (λ a near. same_header gs a.0.0.0.1 ps a.0.0.1 x a.0.1 rs a.1 near.0.0.0.1 near.0.0.1 near.0.1 near.1)))))

-- ---- payloads

-- payload
pub payload_prints : Writes false false is_calm payload_text (SameBy bare_payload) IsPayload IsPayload
payload_prints = print_or
    (print_led {e' = false} {q = is_free} (taken_name [] refl (λ u w g i same. refl)) (λ n ws b. leads_free _ (named [] n.text) ws refl b)
    (λ n. print_led {e' = false} {q = is_apart} (taken_mark t.Colon [] refl refl (λ u g i. refl)) (λ c ws b. leads_apart _ (sign [] t.Colon) ws refl b)
    (λ c. print_then {q = is_apart} (print_firm type_behind) (λ w i. i) apart_free
    (λ x. print_only (simp (append_assoc, append-nil)) (λ a near. ap₂ (λ v w. record { label = Some v; type_name = w }) near.0.0.1 near.1)))))
    (print_then {q = is_free} type_prints (λ w i. i) (λ w i. i) (λ x. print_only (append-nil (type_text x)) (λ a near. ap (λ w. record { label = None; type_name = w }) near.1)))

abbrev pub payloads_text : List Payload → Text
payloads_text = unless_empty (codes "(") (listed payload_text) (codes ")")

-- [ "(" payload { "," payload } ")" ]
pub payloads_print : (d : ℕ) → Writes true true is_free payloads_text (SameAllBy bare_payload) (Or (Nested d (mark t.OpenParenthesis) (λ _. PayloadsTail)) (Empty [])) (Or (Nested d (mark t.OpenParenthesis) (λ _. PayloadsTail)) (Empty []))
payloads_print d = print_or
    (print_nested d (print_led {e' = false} {q = is_calm} (taken_mark t.OpenParenthesis [] refl refl (λ u g i. refl)) (λ c ws b. leads_calm _ (sign [] t.OpenParenthesis) ws (λ k. refl) refl b)
    (λ c. print_of leaf (print_then {before = λ z. z} {out = λ ps. listed payload_text ps ++ codes ")"} {e' = false} (print_firm many) (λ w i. i) (λ w i. i)
    (λ ps. print_led {e' = true} {q = is_free} (taken_mark t.CloseParenthesis [] refl refl (λ u g i. refl)) (λ c ws b. leads_free _ (sign [] t.CloseParenthesis) ws refl b)
    (λ c. print_only refl (λ a near. near.0.1)))))))
    (print_only refl (λ a near. refl))
  where
    many : Writes false false is_calm (listed payload_text) (SameAllBy bare_payload) (Separated t.Comma IsPayload) (Separated t.Comma IsPayload)
    many = separated_prints bare_payload IsPayload t.Comma [] refl refl refl calm_flush payload_prints

    leaf : (us : List Piece) (ps : List Payload) → PayloadsTail us ps → (z : Text) → z ≡ listed payload_text ps ++ codes ")" → codes "(" ++ z ≡ payloads_text ps
    leaf us ps (xs, vs, ws, at, s, (u, c, ys, cut, takes, only)) z h =
        let (y, ys, is) = some_separated t.Comma IsPayload vs xs s in
        ap (λ v. codes "(" ++ v) h ∙ subst (λ v. codes "(" ++ (listed payload_text v ++ codes ")") ≡ payloads_text v) (sym (only.1 ∙ is)) refl
