-- Each reader of payloads and cases reads its rule.
use Rattle.std.proofs.Common.{◌≡◌, ℕ, suc, ◌+◌, List, [], ◌∷◌, ◌++◌, length, Option, Some, None, Ok, Err, refl, sym, ◌∙◌, ap, subst, inl, inr}
use Rattle.evo_base.specs.declared.place.Place.{Place}
use Rattle.evo_combinators.specs.Rule.{Empty, TokenThen, One, Or, Then, Many, SomeOf}
use Rattle.evo_combinators.specs.declared.Fault.TheVariants.{Grammar}
use Rattle.evo_combinators.specs.Reader.{Outcome, and_then, ◌>>=◌, pure, alt, one, many, lead, paired, branch}
use Rattle.evo_combinators.proofs.Laws.{of_map, to_map}
use Rattle.evo_combinators.proofs.Sequences.{some_led}
use Rattle.evo_tree.specs.declared.name.Identifier.{Identifier}
use Rattle.evo_tree.specs.declared.name.TypeName.{TypeName}
use Rattle.evo_tree.specs.declared.declaration.DeclKind.TheVariants as k
use Rattle.evo_tree.specs.declared.terminal.Terminal.TheVariants as t
use Rattle.evo_tree.specs.Terminals.{number_of}
use Rattle.evo_tree.specs.Pieces.{Piece, mark, identifier}
use Rattle.evo_tree.specs.Types.{IsType, type_name, type_head, plain_name}
use Rattle.evo_tree.specs.declared.declaration.Payload.{Payload}
use Rattle.evo_tree.specs.Expressions.{Rule, Nested}
use Rattle.evo_tree.specs.Declarations as grammar
use Rattle.evo_tree.specs.Declarations.{payload}
use Rattle.evo_parse_expr.specs.Read.{Reader, type_of}
use Rattle.evo_parse_header.specs.Read as read
use Rattle.evo_parse_header.proofs.Sets.{Set, these, but, the_end}
use Rattle.evo_parse_header.proofs.Parses.{Parses, parses_pure, parses_before, parses_then, parses_map, parses_alt, parses_led, parses_one, parses_opens, parses_many, parses_separated, parses_same}
use Rattle.evo_parse_header.proofs.Tests.{mark_test, identifier_test, plain_name_test, self_head, self_head_test, head_of, head_cases, head_named, head_self, head_else}
use Rattle.evo_parse_header.proofs.Productions.{parses_type, parses_close}

-- one token
abbrev Anything : Set
Anything = but []

-- a payload by its first token
abbrev ByName : Identifier → Rule Payload
ByName n = Or (TokenThen (mark t.Colon) (λ _. Then IsType (λ type. Empty (payload (Some n) type)))) (Then (Many (mark t.Dot) (λ _. One plain_name)) (λ ns. Empty (payload None (type_name (head_of n) ns))))

abbrev BySelf : Rule Payload
BySelf = TokenThen self_head (λ h. Then (Many (mark t.Dot) (λ _. One plain_name)) (λ ns. Empty (payload None (type_name h ns))))

abbrev ByFirst : Rule Payload
ByFirst = Or (TokenThen identifier ByName) BySelf

abbrev by_first : Reader Payload
by_first = alt identifier read.rest_of_payload (one self_head >>= (λ h. many (mark t.Dot) (λ _. one plain_name) >>= (λ ns. pure (payload None (type_name h ns)))))

parses_dotted : {B : Type 0} (g : List (List ℕ) → B) → Parses (but (number_of t.Colon ∷ [])) (but (number_of t.Dot ∷ number_of t.Colon ∷ [])) (λ _. Then (Many (mark t.Dot) (λ _. One plain_name)) (λ ns. Empty (g ns))) (λ _. many (mark t.Dot) (λ _. one plain_name) >>= (λ ns. pure (g ns)))
parses_dotted g = parses_map g (parses_many {F = but (number_of t.Colon ∷ [])} {H = Anything} refl refl refl refl refl refl (mark_test t.Dot) (λ d a. (parses_one {F = Anything} {St = Anything} refl refl refl plain_name_test).some 0) (λ _. parses_one {F = Anything} refl refl refl plain_name_test))

parses_by_name : (n : Identifier) → Parses Anything (but (number_of t.Dot ∷ number_of t.Colon ∷ [])) (λ _. ByName n) (λ _. read.rest_of_payload n)
unfolding read.rest_of_payload
parses_by_name n = parses_alt refl refl refl refl (mark_test t.Colon) (λ _. parses_before refl refl (parses_map (payload (Some n)) parses_type)) (parses_dotted (λ ns. payload None (type_name (head_of n) ns))).chooses

parses_by_first : Parses (these (number_of t.Identifier ∷ number_of t.SelfType ∷ [])) (but (number_of t.Dot ∷ number_of t.Colon ∷ [])) (λ _. ByFirst) (λ _. by_first)
parses_by_first = parses_alt {H = these (number_of t.SelfType ∷ [])} refl refl refl refl identifier_test parses_by_name (parses_led refl refl refl self_head_test (λ h. parses_dotted (λ ns. payload None (type_name h ns)))).chooses

-- a type, from its head on
type_from : (us : List Piece) (u : Piece) (h : Place × List ℕ) (vs : List Piece) (names : List (List ℕ)) → us ≡ u ∷ vs → type_head u ≡ Some h → Many (mark t.Dot) (λ _. One plain_name) vs names → IsType us (type_name h names)
type_from us u h vs names cut takes m = (h, u ∷ [], vs, cut, (u, h, [], refl, takes, (refl, refl)), to_map (Many (mark t.Dot) (λ _. One plain_name)) (type_name h) vs names m)

of_type : (us : List Piece) (type : TypeName) → IsType us type →
    (u : Piece) × (h : Place × List ℕ) × (vs : List Piece) × (names : List (List ℕ)) × (us ≡ u ∷ vs) × (type_head u ≡ Some h) × Many (mark t.Dot) (λ _. One plain_name) vs names × (type ≡ type_name h names)
of_type us type (h, vs, ws, cut, (u, h', xs, cut', takes, (none, is)), r) =
    let (names, m, e) = of_map (Many (mark t.Dot) (λ _. One plain_name)) (type_name h) ws type r in
    (u, h, ws, names, cut ∙ ap (λ x. x ++ ws) (cut' ∙ ap (λ x. u ∷ x) none), takes ∙ ap (λ x. Some x) (sym is), m, e)

to_payload : (us : List Piece) (b : Payload) → ByFirst us b → grammar.IsPayload us b
to_payload us b (inl (u, n, vs, cut, takes, inl labelled)) = inl (u, n, vs, cut, takes, labelled)
to_payload us b (inl (u, n, vs, cut, takes, inr r)) =
    let (ns, m, e) = of_map (Many (mark t.Dot) (λ _. One plain_name)) (λ ns. payload None (type_name (head_of n) ns)) vs b r in
    inr (subst (Then IsType (λ type. Empty (payload None type)) us) (sym e) (to_map IsType (payload None) us (type_name (head_of n) ns) (type_from us u (head_of n) vs ns cut (head_named u n takes) m)))
to_payload us b (inr (u, h, vs, cut, takes, r)) =
    let (ns, m, e) = of_map (Many (mark t.Dot) (λ _. One plain_name)) (λ ns. payload None (type_name h ns)) vs b r in
    inr (subst (Then IsType (λ type. Empty (payload None type)) us) (sym e) (to_map IsType (payload None) us (type_name h ns) (type_from us u h vs ns cut (head_self u h takes) m)))

of_payload : (us : List Piece) (b : Payload) → grammar.IsPayload us b → ByFirst us b
of_payload us b (inl (u, n, vs, cut, takes, labelled)) = inl (u, n, vs, cut, takes, inl labelled)
of_payload us b (inr r) =
    let (type, s, e) = of_map IsType (payload None) us b r in
    let (u, h, vs, names, cut, takes, m, is) = of_type us type s in
    let spelled = λ (g : Place × List ℕ). to_map (Many (mark t.Dot) (λ _. One plain_name)) (λ ns. payload None (type_name g ns)) vs names m in
    let value : payload None (type_name h names) ≡ b = sym (e ∙ ap (payload None) is) in
    subst (ByFirst us) value (elim (head_cases u h takes) [
      | inl (n, named, same) ↦ inl (u, n, vs, cut, named, inr (subst (λ x. Then (Many (mark t.Dot) (λ _. One plain_name)) (λ ns. Empty (payload None (type_name (head_of n) ns))) vs (payload None (type_name x names))) (sym same) (spelled (head_of n))))
      | inr self ↦ inr (u, h, vs, cut, self, spelled h)
    ])

-- a type behind what is no identifier begins with `Self`
map_twice : (o : Outcome Piece (List (List ℕ))) (h : Place × List ℕ) →
    and_then (and_then o (λ ns. pure (type_name h ns))) (λ type. pure (payload None type)) ≡ and_then o (λ ns. pure (payload None (type_name h ns)))
map_twice (Ok x) h = refl
map_twice (Err e) h = refl

self_type : (o : Option (Place × List ℕ)) (us : List Piece) (n : ℕ) →
    and_then (and_then (branch (paired o us) pure (Err (Grammar n))) (λ h. many (mark t.Dot) (λ _. one plain_name) >>= (λ ns. pure (type_name h ns)))) (λ type. pure (payload None type))
    ≡ and_then (branch (paired o us) pure (Err (Grammar n))) (λ h. many (mark t.Dot) (λ _. one plain_name) >>= (λ ns. pure (payload None (type_name h ns))))
self_type (Some h) us n = map_twice (many (mark t.Dot) (λ _. one plain_name) us) h
self_type None us n = refl

payload_reads : (ts : List Piece) → read.payload_of ts ≡ by_first ts
unfolding read.payload_of type_of lead
payload_reads [] = refl
payload_reads (u ∷ us) = go (identifier u) refl
  where
    first_of : Option (Place × List ℕ) → Outcome Piece Payload
    first_of o = and_then (and_then (branch (paired o us) pure (Err (Grammar (suc (length us))))) (λ h. many (mark t.Dot) (λ _. one plain_name) >>= (λ ns. pure (type_name h ns)))) (λ type. pure (payload None type))

    go : (o : Option Identifier) → identifier u ≡ o →
        branch (paired o us) read.rest_of_payload (first_of (type_head u))
        ≡ branch (paired o us) read.rest_of_payload (and_then (branch (paired (self_head u) us) pure (Err (Grammar (suc (length us))))) (λ h. many (mark t.Dot) (λ _. one plain_name) >>= (λ ns. pure (payload None (type_name h ns)))))
    go (Some n) is = refl
    go None is = ap first_of (head_else u is) ∙ self_type (self_head u) us (suc (length us))

pub parses_payload : Parses (these (number_of t.Identifier ∷ number_of t.SelfType ∷ [])) (but (number_of t.Dot ∷ number_of t.Colon ∷ [])) (λ _. grammar.IsPayload) (λ _. read.payload_of)
parses_payload = parses_same (λ d. to_payload) (λ d. of_payload) (λ d. payload_reads) parses_by_first

parses_payloads : Parses Anything (but (number_of t.OpenParenthesis ∷ [])) (λ d. Or (Nested d (mark t.OpenParenthesis) (λ _. grammar.PayloadsTail)) (Empty [])) (λ d. read.payloads d)
unfolding read.payloads read.rest_of_payloads
parses_payloads =
    let inside = parses_then {G = these (number_of t.CloseParenthesis ∷ [])} {St = these (number_of t.CloseParenthesis ∷ the_end ∷ [])} {St' = but (number_of t.OpenParenthesis ∷ [])} refl (parses_separated t.Comma refl refl refl refl refl (mark_test t.Comma) parses_payload.some parses_payload) (λ ps. parses_close ps refl refl) in
    parses_opens refl refl refl refl (mark_test t.OpenParenthesis) (λ _. inside.some 0) (λ _. inside) (parses_pure refl []).chooses

some_case : (d : ℕ) → SomeOf (grammar.IsCase d)
some_case d = some_led identifier _ identifier_test.piece identifier_test.value identifier_test.taken ([], k.Case identifier_test.value [], to_map _ (λ ps. k.Case identifier_test.value ps) [] [] (inr (refl, refl)))

pub parses_case : Parses (these (number_of t.Identifier ∷ [])) (but (number_of t.OpenParenthesis ∷ [])) (λ d. grammar.IsCase d) (λ d. read.case_of d)
unfolding read.case_of
parses_case = parses_led refl refl refl identifier_test (λ n. parses_map (λ ps. k.Case n ps) parses_payloads)

pub parses_cases : (p : Place) → Parses (these (number_of t.Identifier ∷ [])) (but (number_of t.OpenParenthesis ∷ number_of t.Comma ∷ [])) (λ d. grammar.CasesTail d p) (λ d. read.rest_of_cases d p)
unfolding read.rest_of_cases
parses_cases p = parses_map (λ cases. (p, cases)) (parses_separated t.Comma refl refl refl refl refl (mark_test t.Comma) some_case parses_case)
