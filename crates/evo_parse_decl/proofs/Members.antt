-- KindWords of declarations, declarations and members.
use Rattle.std.proofs.Common.{◌≡◌, ℕ, suc, Bool, true, false, List, [], ◌∷◌, length, Option, Some, None, Err, refl, sym, ◌∙◌, ap, arith, ◌⊎◌, inl, inr}
use Rattle.std.specs.Prelude.{◌&&◌, ◌||◌, not}
use Rattle.evo_base.specs.declared.place.Place.{Place}
use Rattle.evo_combinators.specs.declared.Fault.TheVariants.{Grammar}
use Rattle.evo_combinators.specs.Rule.{Fail, TokenThen, Or, SomeOf}
use Rattle.evo_combinators.specs.Reader.{refuse, alt, lead, paired, branch}
use Rattle.evo_combinators.specs.Laws.{Begins, ReadsRule, Takes}
use Rattle.evo_tree.specs.declared.statement.Block.{Block}
use Rattle.evo_tree.specs.declared.statement.Introducer.TheVariants as introducer
use Rattle.evo_tree.specs.declared.declaration.Attr.{Attr}
use Rattle.evo_tree.specs.declared.declaration.DeclKind.TheVariants as k
use Rattle.evo_tree.specs.declared.scope.Scope.{Scope}
use Rattle.evo_tree.specs.declared.terminal.Terminal.{Terminal}
use Rattle.evo_tree.specs.declared.terminal.Terminal.TheVariants as t
use Rattle.evo_tree.specs.Terminals.{number_of}
use Rattle.evo_tree.specs.Pieces.{Piece, is_terminal, mark}
use Rattle.evo_tree.specs.Expressions.{Rule}
use Rattle.evo_tree.specs.Declarations as grammar
use Rattle.evo_tree.specs.Declarations.{only_if, is_protocol, is_enum, has_body, may_stand, may_be_stored, one_kind}
use Rattle.evo_parse_decl.specs.Read as read
use Rattle.evo_parse_expr.specs.Read.{Reader}
use Rattle.evo_parse_decl.specs.Read.{begins_kind}
use Rattle.evo_parse_header.proofs.Sets.{Set, these, but, In, Ends, EndsOrBrace, the_end}
use Rattle.evo_parse_header.proofs.Parses.{Chooses, Parses, parses_pure, parses_as, parses_before, parses_then, parses_map, parses_led, chooses_alt_if, chooses_nothing}
use Rattle.evo_parse_expr.proofs.Tests.{mark_is}
use Rattle.evo_parse_header.proofs.Tests.{mark_test, identifier_test, is_marked, not_marked}
use Rattle.evo_parse_header.proofs.Productions.{KindWords, parses_type, parses_header}
use Rattle.evo_parse_header.proofs.Payloads.{parses_cases}
use Rattle.evo_parse_decl.proofs.Productions.{parses_let, parses_alias, parses_associated}
use Rattle.evo_parse_decl.proofs.Accessors.{Blocks, parses_block, parses_accessors}
use Rattle.evo_combinators.proofs.Entered.{refused_within}

abbrev Anything : Set
Anything = but []

pub which : (b : Bool) → (b ≡ true) ⊎ (b ≡ false)
which true = inl refl
which false = inr refl

pub or_left : (a b : Bool) → a ≡ true → (a || b) ≡ true
or_left true b p = refl
or_left false b p = absurd (cc)

pub or_right : (a b : Bool) → b ≡ true → (a || b) ≡ true
or_right true b p = refl
or_right false b p = p

pub or_rest : (a b : Bool) → a ≡ false → (a || b) ≡ true → b ≡ true
or_rest true b e h = absurd (cc)
or_rest false b e h = h

-- where the test holds, the reader does not refuse the token
pub record Taken {A : Type 0} (test : Bool) (p : Reader A) (u : Piece) : Type 0 where
  pub takes : test ≡ true → Takes p u

pub takes_none : {A : Type 0} {u : Piece} → Taken {A = A} false refuse u
takes_none {A} {u} = record { takes = λ none. absurd (cc) }

pub takes_or : {A : Type 0} {S W : Place → Rule A} {q : Place → Reader A} {r : Reader A} {u : Piece} {rest : Bool} (St : Option Piece → Type 0) (c : Bool) (f : Terminal) →
    ((p : Place) (n : ℕ) → ReadsRule n St (S p) (W p) (q p)) → Taken rest r u → Taken ((c && is_terminal f u) || rest) (alt (only_if c (mark f)) q r) u
unfolding lead
takes_or {A} {S} {W} {q} {r} {u} {rest} St true f right other = record {
  takes = λ is us bad. elim (which (is_terminal f u)) [
    | inl here ↦
        let refused : q u.place us ≡ Err (Grammar (suc (length us))) = sym (ap (λ o. branch (paired o us) q (r (u ∷ us))) (is_marked f u here)) ∙ bad in
        let short = refused_within St (S u.place) (W u.place) (q u.place) (λ n. right u.place n) us (suc (length us)) refused in
        omega (arith, short)
    | inr elsewhere ↦
        let none : mark f u ≡ None = not_marked f u elsewhere in
        other.takes (or_rest (is_terminal f u) rest elsewhere is) us (sym (ap (λ o. branch (paired o us) q (r (u ∷ us))) none) ∙ bad)
  ];
}
takes_or {A} {S} {W} {q} {r} {u} {rest} St false f right other = record { takes = λ is us bad. other.takes is us bad }

module _ (B : ℕ → Bool → Rule Block) (b : ℕ → Bool → Reader Block) (blocks : Blocks B b) where
  -- ---- bodies

  pub parses_body : (inits has : Bool) → Parses EndsOrBrace Ends (λ d. grammar.Body B d inits has) (λ d. read.body b d inits has)
  unfolding read.body
  parses_body inits true = parses_as {F = these (number_of t.OpenBrace ∷ [])} {St = Anything} refl refl refl (parses_map (λ x. Some x) (parses_block B b blocks inits))
  parses_body inits false = parses_as {F = Ends} {St = Ends} refl refl refl (parses_pure refl None)

  module _ (interface : Bool) (s : Scope) where
    pub parses_function : (attrs : List Attr) (p : Place) → Parses (these (number_of t.Identifier ∷ [])) Ends (λ d. grammar.FunctionTail B interface s d attrs p) (λ d. read.rest_of_function b interface s d attrs p)
    unfolding read.rest_of_function
    parses_function attrs p = parses_led refl refl refl identifier_test (λ n. parses_then refl (parses_header s true) (λ h. parses_map (λ x. one_kind p (k.Function n h x)) (parses_body false (has_body interface s attrs))))

    parses_initialiser : (attrs : List Attr) (p : Place) → Parses (these (number_of t.Less ∷ number_of t.OpenParenthesis ∷ the_end ∷ [])) Ends (λ d. grammar.InitialiserTail B interface s d attrs p) (λ d. read.rest_of_initialiser b interface s d attrs p)
    unfolding read.rest_of_initialiser
    parses_initialiser attrs p = parses_then refl (parses_header s false) (λ h. parses_map (λ x. one_kind p (k.Initialiser h x)) (parses_body true (has_body interface s attrs)))

    parses_var : (attrs : List Attr) (p : Place) → Parses (these (number_of t.Identifier ∷ [])) Ends (λ d. grammar.VarTail B interface s d attrs p) (λ d. read.rest_of_var b interface s d attrs p)
    unfolding read.rest_of_var
    parses_var attrs p = parses_led refl refl refl identifier_test (λ n. parses_led {F = Anything} refl refl refl (mark_test t.Colon)
        (λ _. parses_then refl parses_type (λ type. parses_map (λ a. one_kind p (k.Property introducer.Var n type a)) (parses_accessors B b blocks (has_body interface s attrs) (may_be_stored interface s attrs)))))

    chooses_kind : (attrs : List Attr) → Chooses (these KindWords) Ends (λ d. grammar.MemberKind B interface s d attrs) (λ d. read.member_kind b interface s d attrs)
    unfolding read.member_kind
    chooses_kind attrs =
        chooses_alt_if {H = these (number_of t.Init ∷ number_of t.Var ∷ number_of t.Let ∷ number_of t.Typealias ∷ number_of t.Associatedtype ∷ number_of t.Case ∷ [])} refl refl refl refl (may_stand interface s attrs) (mark_test t.Func) (λ _ p. parses_function attrs p)
        (chooses_alt_if {H = these (number_of t.Var ∷ number_of t.Let ∷ number_of t.Typealias ∷ number_of t.Associatedtype ∷ number_of t.Case ∷ [])} refl refl refl refl (not (is_protocol s)) (mark_test t.Init) (λ _ p. parses_initialiser attrs p)
        (chooses_alt_if {H = these (number_of t.Let ∷ number_of t.Typealias ∷ number_of t.Associatedtype ∷ number_of t.Case ∷ [])} refl refl refl refl (may_stand interface s attrs) (mark_test t.Var) (λ _ p. parses_var attrs p)
        (chooses_alt_if {H = these (number_of t.Typealias ∷ number_of t.Associatedtype ∷ number_of t.Case ∷ [])} refl refl refl refl (may_be_stored interface s attrs) (mark_test t.Let) (λ _ p. parses_let p)
        (chooses_alt_if {H = these (number_of t.Associatedtype ∷ number_of t.Case ∷ [])} refl refl refl refl (not (is_protocol s)) (mark_test t.Typealias) (λ _ p. parses_alias p)
        (chooses_alt_if {H = these (number_of t.Case ∷ [])} refl refl refl refl (is_protocol s) (mark_test t.Associatedtype) (λ _ p. parses_associated p)
        (chooses_alt_if {H = these []} refl refl refl refl (is_enum s) (mark_test t.Case) (λ _ p. parses_before refl refl (parses_cases p)) (chooses_nothing refl)))))))

    alias_or_associated : (attrs : List Attr) (d : ℕ) → (is_protocol s ≡ true) ⊎ (is_protocol s ≡ false) → SomeOf (grammar.MemberKind B interface s (suc d) attrs)
    alias_or_associated attrs d (inl is) =
        let (us, x, r) = (parses_associated (mark_test t.Associatedtype).value).some d in
        let test : only_if (is_protocol s) (mark t.Associatedtype) (mark_test t.Associatedtype).piece ≡ Some (mark_test t.Associatedtype).value = ap (λ c. only_if c (mark t.Associatedtype) (mark_test t.Associatedtype).piece) is ∙ (mark_test t.Associatedtype).taken in
        ((mark_test t.Associatedtype).piece ∷ us, x, inr (inr (inr (inr (inr (inl ((mark_test t.Associatedtype).piece, (mark_test t.Associatedtype).value, us, refl, test, r)))))))
    alias_or_associated attrs d (inr isnt) =
        let (us, x, r) = (parses_alias (mark_test t.Typealias).value).some d in
        let test : only_if (not (is_protocol s)) (mark t.Typealias) (mark_test t.Typealias).piece ≡ Some (mark_test t.Typealias).value = ap (λ c. only_if (not c) (mark t.Typealias) (mark_test t.Typealias).piece) isnt ∙ (mark_test t.Typealias).taken in
        ((mark_test t.Typealias).piece ∷ us, x, inr (inr (inr (inr (inl ((mark_test t.Typealias).piece, (mark_test t.Typealias).value, us, refl, test, r))))))

    pub parses_kind : (attrs : List Attr) → Parses (these KindWords) Ends (λ d. grammar.MemberKind B interface s d attrs) (λ d. read.member_kind b interface s d attrs)
    parses_kind attrs = record { chooses = chooses_kind attrs; some = λ d. alias_or_associated attrs d (which (is_protocol s)) }

    -- what a kind begins with, and no more
    only_if_both : (c : Bool) (f : Terminal) (u : Piece) (p : Place) → only_if c (mark f) u ≡ Some p → (c && is_terminal f u) ≡ true
    only_if_both true f u p e = mark_is f u p e
    only_if_both false f u p e = absurd (cc)

    begins_or_led : {A : Type 0} (c rest : Piece → Bool) (f : Piece → Option Place) (S : Place → Rule A) (R : Rule A) → ((u : Piece) (p : Place) → f u ≡ Some p → c u ≡ true) →
        Begins (λ u. rest u ≡ true) R → Begins (λ u. (c u || rest u) ≡ true) (Or (TokenThen f S) R)
    begins_or_led c rest f S R is other us x (inl (u, p, vs, cut, takes, s)) = (u, vs, cut, or_left (c u) (rest u) (is u p takes))
    begins_or_led c rest f S R is other us x (inr s) = let (u, vs, cut, h) = other us x s in (u, vs, cut, or_right (c u) (rest u) h)

    pub begins_of_kind : (d : ℕ) (attrs : List Attr) → Begins (λ u. begins_kind interface s attrs u ≡ true) (grammar.MemberKind B interface s d attrs)
    begins_of_kind d attrs =
        begins_or_led (λ u. may_stand interface s attrs && is_terminal t.Func u) _ (only_if (may_stand interface s attrs) (mark t.Func)) (grammar.FunctionTail B interface s d attrs) _ (λ u p e. only_if_both (may_stand interface s attrs) t.Func u p e)
        (begins_or_led (λ u. not (is_protocol s) && is_terminal t.Init u) _ (only_if (not (is_protocol s)) (mark t.Init)) (grammar.InitialiserTail B interface s d attrs) _ (λ u p e. only_if_both (not (is_protocol s)) t.Init u p e)
        (begins_or_led (λ u. may_stand interface s attrs && is_terminal t.Var u) _ (only_if (may_stand interface s attrs) (mark t.Var)) (grammar.VarTail B interface s d attrs) _ (λ u p e. only_if_both (may_stand interface s attrs) t.Var u p e)
        (begins_or_led (λ u. may_be_stored interface s attrs && is_terminal t.Let u) _ (only_if (may_be_stored interface s attrs) (mark t.Let)) grammar.LetTail _ (λ u p e. only_if_both (may_be_stored interface s attrs) t.Let u p e)
        (begins_or_led (λ u. not (is_protocol s) && is_terminal t.Typealias u) _ (only_if (not (is_protocol s)) (mark t.Typealias)) grammar.AliasTail _ (λ u p e. only_if_both (not (is_protocol s)) t.Typealias u p e)
        (begins_or_led (λ u. is_protocol s && is_terminal t.Associatedtype u) _ (only_if (is_protocol s) (mark t.Associatedtype)) grammar.AssociatedTail _ (λ u p e. only_if_both (is_protocol s) t.Associatedtype u p e)
        (begins_or_led (λ u. is_enum s && is_terminal t.Case u) (λ _. false) (only_if (is_enum s) (mark t.Case)) (grammar.CasesTail d) Fail (λ u p e. only_if_both (is_enum s) t.Case u p e) (λ us x none. absurd none)))))))

    -- a token that may stand there is not refused
    pub takes_kind : (d : ℕ) (attrs : List Attr) (u : Piece) → begins_kind interface s attrs u ≡ true → Takes (read.member_kind b interface s d attrs) u
    unfolding read.member_kind
    takes_kind d attrs u is =
        (takes_or (In Ends) (may_stand interface s attrs) t.Func (λ p n. (parses_function attrs p).chooses.right d n)
        (takes_or (In Ends) (not (is_protocol s)) t.Init (λ p n. (parses_initialiser attrs p).chooses.right d n)
        (takes_or (In Ends) (may_stand interface s attrs) t.Var (λ p n. (parses_var attrs p).chooses.right d n)
        (takes_or (In Ends) (may_be_stored interface s attrs) t.Let (λ p n. (parses_let p).chooses.right d n)
        (takes_or (In Ends) (not (is_protocol s)) t.Typealias (λ p n. (parses_alias p).chooses.right d n)
        (takes_or (In Ends) (is_protocol s) t.Associatedtype (λ p n. (parses_associated p).chooses.right d n)
        (takes_or (In (but (number_of t.OpenParenthesis ∷ number_of t.Comma ∷ []))) (is_enum s) t.Case (λ p n. (parses_cases p).chooses.right d n) takes_none))))))).takes is
