-- Members in braces, and declarations at the top level.
use Rattle.std.proofs.Common.{◌≡◌, ℕ, suc, ◌+◌, Bool, true, false, List, [], ◌∷◌, ◌++◌, Option, Some, None, refl, sym, ◌∙◌, ap, inl, inr}
use Rattle.std.specs.Prelude.{◌&&◌, ◌||◌, not, flat_map}
use Rattle.std.specs.Option.{is_some}
use Rattle.evo_base.specs.declared.place.Place.{Place}
use Rattle.evo_combinators.specs.Rule.{SomeOf}
use Rattle.evo_combinators.specs.Reader.{refuse, alt}
use Rattle.evo_combinators.specs.Laws.{Begins, Takes, GrammarOf}
use Rattle.evo_combinators.proofs.Laws.{to_map}
use Rattle.evo_combinators.proofs.Entered.{takes_alt}
use Rattle.evo_combinators.proofs.Sequences.{some_then}
use Rattle.evo_tree.specs.declared.statement.Block.{Block}
use Rattle.evo_tree.specs.declared.declaration.Attr.{Attr}
use Rattle.evo_tree.specs.declared.declaration.NominalKind.{NominalKind}
use Rattle.evo_tree.specs.declared.declaration.DeclKind.{DeclKind}
use Rattle.evo_tree.specs.declared.declaration.DeclKind.TheVariants as k
use Rattle.evo_tree.specs.declared.declaration.Decl.{Decl}
use Rattle.evo_tree.specs.declared.scope.Scope.{Scope}
use Rattle.evo_tree.specs.declared.scope.Scope.TheVariants as scope
use Rattle.evo_tree.specs.declared.terminal.Terminal.{Terminal}
use Rattle.evo_tree.specs.declared.terminal.Terminal.TheVariants as t
use Rattle.evo_tree.specs.Terminals.{number_of}
use Rattle.evo_tree.specs.Pieces.{Piece, is_terminal, mark}
use Rattle.evo_tree.specs.Expressions.{Rule}
use Rattle.evo_tree.specs.Declarations as grammar
use Rattle.evo_tree.specs.Declarations.{is_protocol, is_enum, may_stand, may_be_stored, scope_of, one_kind, nominal_word, DeclarationOf}
use Rattle.evo_parse_decl.specs.Read as read
use Rattle.evo_parse_expr.specs.Read.{Reader}
use Rattle.evo_parse_expr.proofs.Nesting.{ReadsInner}
use Rattle.evo_parse_decl.specs.Read.{begins_kind, begins_member, begins_top, begins_top_kind}
use Rattle.evo_parse_expr.proofs.Among.{among}
use Rattle.evo_parse_header.proofs.Sets.{Set, these, but, In, included, contains, Ends, into, the_end}
use Rattle.evo_parse_header.proofs.Parses.{Parses, parses_pure, parses_before, parses_then, parses_map, parses_led, parses_opens, chooses_alt, parses_alt, chooses_nothing}
use Rattle.evo_parse_expr.proofs.Tests.{mark_is}
use Rattle.evo_parse_header.proofs.Tests.{mark_test, identifier_test, nominal_test, number_among, is_marked}
use Rattle.evo_parse_header.proofs.Productions.{KindWords, Words, parses_type, parses_inherited, parses_header}
use Rattle.evo_parse_decl.proofs.Accessors.{Blocks, parses_block}
use Rattle.evo_parse_decl.proofs.Members.{which, or_left, or_right, or_rest, parses_function, parses_kind, begins_of_kind, takes_kind}
use Rattle.evo_parse_decl.proofs.Declared.{Firsts, Entered, parses_declaration, begins_of_declaration, takes_declaration, numbers_of_declaration, parses_lines}

abbrev Anything : Set
Anything = but []

-- a token that one of some tests takes is among the first ones
among_or : (c : Bool) (f : Terminal) (u : Piece) (rest : Bool) → included (these (number_of f ∷ [])) (these Firsts) ≡ true → (rest ≡ true → among Firsts (number_of u.terminal) ≡ true) →
    ((c && is_terminal f u) || rest) ≡ true → among Firsts (number_of u.terminal) ≡ true
among_or true f u rest wide other is = elim (which (is_terminal f u)) [
  | inl here ↦ into (these (number_of f ∷ [])) (these Firsts) wide (Some u) (number_among f u here)
  | inr elsewhere ↦ other (or_rest (is_terminal f u) rest elsewhere is)
]
among_or false f u rest wide other is = other is

nominal_is : (u : Piece) (w : Place × NominalKind) → nominal_word u ≡ Some w → is_some (nominal_word u) ≡ true
nominal_is u w e = ap is_some e

pub is_nominal : (u : Piece) → is_some (nominal_word u) ≡ true → (w : Place × NominalKind) × (nominal_word u ≡ Some w)
is_nominal u is = go (nominal_word u) is
  where
    go : (o : Option (Place × NominalKind)) → is_some o ≡ true → (w : Place × NominalKind) × (o ≡ Some w)
    go (Some w) e = (w, refl)
    go None e = absurd (cc)

module _ (B : ℕ → Bool → Rule Block) (b : ℕ → Bool → Reader Block) (blocks : Blocks B b) where
  -- ---- members

  kind_numbers : (interface : Bool) (s : Scope) (u : Piece) → begins_kind interface s [] u ≡ true → among Firsts (number_of u.terminal) ≡ true
  kind_numbers interface s u is =
      among_or (may_stand interface s []) t.Func u _ refl (among_or (not (is_protocol s)) t.Init u _ refl (among_or (may_stand interface s []) t.Var u _ refl (among_or (may_be_stored interface s []) t.Let u _ refl
      (among_or (not (is_protocol s)) t.Typealias u _ refl (among_or (is_protocol s) t.Associatedtype u _ refl (among_or (is_enum s) t.Case u false refl (λ none. absurd (cc)))))))) is

  abbrev Member : Bool → Scope → ℕ → Rule (List Decl)
  Member interface s d = DeclarationOf s d (grammar.MemberKind B interface s d)

  abbrev member : Bool → Scope → ℕ → Reader (List Decl)
  member interface s d = read.declaration_of s d (read.member_kind b interface s d)

  enters_member : (interface : Bool) (s : Scope) → Entered (these (number_of t.At ∷ the_end ∷ Words ++ KindWords)) (begins_member interface s) (Member interface s) (member interface s)
  unfolding begins_member
  enters_member interface s =
      let fits = parses_kind B b blocks interface s in
      let begins = λ (d : ℕ). begins_of_kind B b blocks interface s d [] in
      let takes = λ (d : ℕ). takes_kind B b blocks interface s d [] in
      let K = λ (d : ℕ). grammar.MemberKind B interface s d in
      let kind = λ (d : ℕ). read.member_kind b interface s d in record {
        fits = parses_declaration s Ends K kind (begins_kind interface s []) fits begins takes (kind_numbers interface s);
        begins = begins_of_declaration s Ends K kind (begins_kind interface s []) fits begins takes (kind_numbers interface s);
        takes = takes_declaration s Ends K kind (begins_kind interface s []) fits begins takes (kind_numbers interface s);
        numbers = numbers_of_declaration s Ends K kind (begins_kind interface s []) fits begins takes (kind_numbers interface s);
      }

  parses_are_members : (interface : Bool) (s : Scope) → Parses (these (number_of t.CloseBrace ∷ the_end ∷ number_of t.Semicolon ∷ Firsts)) (these (number_of t.CloseBrace ∷ the_end ∷ [])) (λ d. grammar.AreMembers B interface s d) (λ d. read.are_members b interface s d)
  unfolding read.are_members
  parses_are_members interface s = parses_map (λ ds. flat_map (λ d. d) ds) (parses_lines (these (number_of t.At ∷ the_end ∷ Words ++ KindWords)) (begins_member interface s) (Member interface s) (member interface s) (enters_member interface s) refl)

  pub parses_members : (interface : Bool) (s : Scope) → Parses (these (number_of t.OpenBrace ∷ [])) Anything (λ d. grammar.Members B interface d s) (λ d. read.members b interface d s)
  unfolding read.members
  parses_members interface s =
      let close = λ (ms : List Decl). parses_led {F = these (number_of t.CloseBrace ∷ [])} {St = Anything} refl refl refl (mark_test t.CloseBrace) (λ _. parses_pure refl ms) in
      let inside = parses_then refl (parses_are_members interface s) close in
      let none : SomeOf (grammar.AreMembers B interface s 0) = ([], [], to_map _ (λ ds. flat_map (λ d. d) ds) [] [] (inr (refl, refl))) in
      parses_opens {H = these []} refl refl refl refl (mark_test t.OpenBrace) (λ _. some_then (grammar.AreMembers B interface s 0) _ none (λ ms. (close ms).some 0)) (λ _. inside) (chooses_nothing refl)

  -- ---- the top level

  module _ (interface : Bool) where
    parses_nominal : (attrs : List Attr) (w : Place × NominalKind) → Parses (these (number_of t.Identifier ∷ [])) Anything (λ d. grammar.NominalTail B interface d attrs w) (λ d. read.rest_of_nominal b interface d attrs w)
    unfolding read.rest_of_nominal
    parses_nominal attrs w = parses_led refl refl refl identifier_test (λ n. parses_then refl parses_inherited (λ is. parses_map (λ ms. one_kind w.0 (k.Nominal w.1 n is ms)) (parses_members interface (scope_of w.1 attrs))))

    parses_extension : (p : Place) → Parses (these (number_of t.Identifier ∷ number_of t.SelfType ∷ [])) Anything (λ d. grammar.ExtensionTail B interface d p) (λ d. read.rest_of_extension b interface d p)
    unfolding read.rest_of_extension
    parses_extension p = parses_then refl parses_type (λ type. parses_then refl parses_inherited (λ is. parses_map (λ ms. one_kind p (k.Extension type is ms)) (parses_members interface scope.Extension)))

    module _ (St : Set) (any : included St Anything ≡ true) (ended : contains St the_end ≡ true)
        (function : (attrs : List Attr) (p : Place) → Parses (these (number_of t.Identifier ∷ [])) St (λ d. grammar.FunctionTail B interface scope.TopLevel d attrs p) (λ d. read.rest_of_function b interface scope.TopLevel d attrs p)) where
      parses_top_kind : (attrs : List Attr) → Parses (these KindWords) St (λ d. grammar.TopKind B interface d attrs) (λ d. read.top_kind b interface d attrs)
      unfolding read.top_kind
      parses_top_kind attrs = parses_alt {H = these (number_of t.Struct ∷ number_of t.Enum ∷ number_of t.Class ∷ number_of t.Protocol ∷ number_of t.Extension ∷ [])} refl refl refl refl (mark_test t.Func) (function attrs)
          (chooses_alt {H = these (number_of t.Extension ∷ [])} refl refl refl refl nominal_test (λ w. parses_before any ended (parses_nominal attrs w))
          (chooses_alt {H = these []} refl refl refl refl (mark_test t.Extension) (λ p. parses_before any ended (parses_extension p)) (chooses_nothing ended)))

      begins_of_top : (d : ℕ) → Begins (λ u. begins_top_kind u ≡ true) (grammar.TopKind B interface d [])
      begins_of_top d us x (inl (u, p, vs, cut, takes, s)) = (u, vs, cut, or_left (is_terminal t.Func u) _ (mark_is t.Func u p takes))
      begins_of_top d us x (inr (inl (u, w, vs, cut, takes, s))) = (u, vs, cut, or_right (is_terminal t.Func u) _ (or_left (is_some (nominal_word u)) _ (nominal_is u w takes)))
      begins_of_top d us x (inr (inr (inl (u, p, vs, cut, takes, s)))) =
          (u, vs, cut, or_right (is_terminal t.Func u) _ (or_right (is_some (nominal_word u)) _ (or_left (is_terminal t.Extension u) false (mark_is t.Extension u p takes))))
      begins_of_top d us x (inr (inr (inr none))) = absurd none

      takes_top : (d : ℕ) (u : Piece) → begins_top_kind u ≡ true → Takes (read.top_kind b interface d []) u
      unfolding read.top_kind
      takes_top d u is =
          takes_alt (In St) (grammar.FunctionTail B interface scope.TopLevel d []) (grammar.FunctionTail B interface scope.TopLevel (suc d) []) (mark t.Func) (read.rest_of_function b interface scope.TopLevel d []) others u (λ p n. (function [] p).chooses.right d n)
          (λ no_func. takes_alt (In Anything) (grammar.NominalTail B interface d []) (grammar.NominalTail B interface (suc d) []) nominal_word (read.rest_of_nominal b interface d []) last u (λ w n. (parses_nominal [] w).chooses.right d n)
          (λ no_nominal. takes_alt (In Anything) (grammar.ExtensionTail B interface d) (grammar.ExtensionTail B interface (suc d)) (mark t.Extension) (read.rest_of_extension b interface d) refuse u (λ p n. (parses_extension p).chooses.right d n)
          (λ no_extension us bad. nothing no_func no_nominal no_extension)))
        where
          last : Reader (Place × List DeclKind)
          last = alt (mark t.Extension) (read.rest_of_extension b interface d) refuse

          others : Reader (Place × List DeclKind)
          others = alt nominal_word (read.rest_of_nominal b interface d []) (alt (mark t.Extension) (read.rest_of_extension b interface d) refuse)

          nothing : mark t.Func u ≡ None → nominal_word u ≡ None → mark t.Extension u ≡ None → ⊥
          nothing no_func no_nominal no_extension = elim (which (is_terminal t.Func u)) [
            | inl here ↦ let both = sym (is_marked t.Func u here) ∙ no_func in cc
            | inr elsewhere ↦ elim (which (is_some (nominal_word u))) [
              | inl here ↦ let (w, takes) = is_nominal u here in cc
              | inr elsewhere' ↦ elim (which (is_terminal t.Extension u)) [
                | inl here ↦ let both = sym (is_marked t.Extension u here) ∙ no_extension in cc
                | inr elsewhere'' ↦
                    let none : ◌≡◌ {A = Bool} false true = or_rest (is_terminal t.Extension u) false elsewhere'' (or_rest (is_some (nominal_word u)) _ elsewhere' (or_rest (is_terminal t.Func u) _ elsewhere is)) in cc
              ]
            ]
          ]

      top_numbers : (u : Piece) → begins_top_kind u ≡ true → among Firsts (number_of u.terminal) ≡ true
      top_numbers u is = elim (which (is_terminal t.Func u)) [
        | inl here ↦ into (these (number_of t.Func ∷ [])) (these Firsts) refl (Some u) (number_among t.Func u here)
        | inr elsewhere ↦ elim (which (is_some (nominal_word u))) [
          | inl here ↦ let (w, takes) = is_nominal u here in into (these (number_of t.Struct ∷ number_of t.Enum ∷ number_of t.Class ∷ number_of t.Protocol ∷ [])) (these Firsts) refl (Some u) (nominal_test.numbers u w takes)
          | inr elsewhere' ↦ among_or true t.Extension u false refl (λ none. absurd (cc)) (or_rest (is_some (nominal_word u)) _ elsewhere' (or_rest (is_terminal t.Func u) _ elsewhere is))
        ]
      ]

      parses_top : Parses (these (number_of t.At ∷ the_end ∷ Words ++ KindWords)) St (λ d. grammar.IsDeclaration B interface d) (λ d. read.top_declaration b interface d)
      unfolding read.top_declaration
      parses_top = parses_declaration scope.TopLevel St (λ d. grammar.TopKind B interface d) (λ d. read.top_kind b interface d) begins_top_kind parses_top_kind begins_of_top takes_top top_numbers

      begins_top_declaration : (d : ℕ) → Begins (λ u. begins_top u ≡ true) (grammar.IsDeclaration B interface d)
      unfolding begins_top
      begins_top_declaration = begins_of_declaration scope.TopLevel St (λ d. grammar.TopKind B interface d) (λ d. read.top_kind b interface d) begins_top_kind parses_top_kind begins_of_top takes_top top_numbers

      takes_top_declaration : (d : ℕ) (u : Piece) → begins_top u ≡ true → Takes (read.top_declaration b interface d) u
      unfolding begins_top read.top_declaration
      takes_top_declaration = takes_declaration scope.TopLevel St (λ d. grammar.TopKind B interface d) (λ d. read.top_kind b interface d) begins_top_kind parses_top_kind begins_of_top takes_top top_numbers

      numbers_of_top : (u : Piece) → begins_top u ≡ true → among Firsts (number_of u.terminal) ≡ true
      unfolding begins_top
      numbers_of_top = numbers_of_declaration scope.TopLevel St (λ d. grammar.TopKind B interface d) (λ d. read.top_kind b interface d) begins_top_kind parses_top_kind begins_of_top takes_top top_numbers

  -- in a library or a client each function has a body
  function_with_body : (attrs : List Attr) (p : Place) → Parses (these (number_of t.Identifier ∷ [])) Anything (λ d. grammar.FunctionTail B false scope.TopLevel d attrs p) (λ d. read.rest_of_function b false scope.TopLevel d attrs p)
  unfolding read.rest_of_function read.body
  function_with_body attrs p = parses_led refl refl refl identifier_test (λ n. parses_then refl (parses_header scope.TopLevel true) (λ h. parses_map (λ x. one_kind p (k.Function n h x)) (parses_map (λ x. Some x) (parses_block B b blocks false))))

  -- what may follow a declaration at the top level: anything behind a brace
  abbrev pub EndsOf : Bool → Set
  EndsOf true = Ends
  EndsOf false = Anything

  pub parses_top_declaration : (interface : Bool) → Parses (these (number_of t.At ∷ the_end ∷ Words ++ KindWords)) (EndsOf interface) (λ d. grammar.IsDeclaration B interface d) (λ d. read.top_declaration b interface d)
  parses_top_declaration true = parses_top true Ends refl refl (parses_function B b blocks true scope.TopLevel)
  parses_top_declaration false = parses_top false Anything refl refl function_with_body

  pub begins_top_at : (interface : Bool) (d : ℕ) → Begins (λ u. begins_top u ≡ true) (grammar.IsDeclaration B interface d)
  begins_top_at true = begins_top_declaration true Ends refl refl (parses_function B b blocks true scope.TopLevel)
  begins_top_at false = begins_top_declaration false Anything refl refl function_with_body

  pub takes_top_at : (interface : Bool) (d : ℕ) (u : Piece) → begins_top u ≡ true → Takes (read.top_declaration b interface d) u
  takes_top_at true = takes_top_declaration true Ends refl refl (parses_function B b blocks true scope.TopLevel)
  takes_top_at false = takes_top_declaration false Anything refl refl function_with_body

  pub numbers_of_top_at : (interface : Bool) (u : Piece) → begins_top u ≡ true → among Firsts (number_of u.terminal) ≡ true
  numbers_of_top_at true = numbers_of_top true Ends refl refl (parses_function B b blocks true scope.TopLevel)
  numbers_of_top_at false = numbers_of_top false Anything refl refl function_with_body

  -- the reader of declarations reads the grammar's rule at each nesting
  pub declarations_grammar : (interface : Bool) → GrammarOf (In (EndsOf interface)) (λ d. grammar.IsDeclaration B interface d) (λ d. read.top_declaration b interface d)
  declarations_grammar interface = record { right = (parses_top_declaration interface).chooses.right; deeper = (parses_top_declaration interface).chooses.deeper }

  -- and so it is with a declaration in braces
  pub nest_in_braces : (interface : Bool) (s : Scope) (d n : ℕ) → ReadsInner d n (Member interface s d) (member interface s d)
  nest_in_braces interface s = (enters_member interface s).fits.chooses.nest
