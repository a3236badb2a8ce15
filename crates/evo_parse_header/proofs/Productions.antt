-- Each reader of a part of a header reads its rule.
use Rattle.std.proofs.Common.{◌≡◌, ℕ, ◌+◌, Bool, true, List, [], ◌∷◌, ◌++◌, Option, Some, None, refl, sym, ◌∙◌, ap, subst}
use Rattle.std.specs.Prelude.{not, codes}
use Rattle.evo_base.specs.declared.place.Place.{Place}
use Rattle.evo_combinators.specs.Rule.{Empty, TokenThen, One, Or, Then}
use Rattle.evo_combinators.specs.Reader.{◌>>=◌, pure, refuse, alt, one, lead, paired, branch}
use Rattle.evo_combinators.specs.Laws.{Takes, first}
use Rattle.evo_combinators.proofs.Laws.{right_one}
use Rattle.evo_combinators.proofs.GrowsWithNesting.{same_refl}
use Rattle.std.specs.Option.{is_some}
use Rattle.evo_tree.specs.declared.declaration.Modifier.{Modifier}
use Rattle.evo_tree.specs.declared.name.Identifier.{Identifier}
use Rattle.evo_tree.specs.declared.name.TypeName.{TypeName}
use Rattle.evo_tree.specs.declared.declaration.AttrKind.TheVariants as attr
use Rattle.evo_tree.specs.declared.declaration.Attr.{Attr}
use Rattle.evo_tree.specs.declared.declaration.ParameterLabel.{ParameterLabel}
use Rattle.evo_tree.specs.declared.declaration.ParameterLabel.TheVariants as label
use Rattle.evo_tree.specs.declared.declaration.Requirement.TheVariants as requirement
use Rattle.evo_tree.specs.declared.scope.Scope.{Scope}
use Rattle.evo_tree.specs.declared.terminal.Terminal.TheVariants as t
use Rattle.evo_tree.specs.Terminals.{number_of}
use Rattle.evo_tree.specs.Pieces.{Piece, is_terminal, mark, identifier, word, opens_nesting}
use Rattle.evo_tree.specs.Types.{IsType, type_name}
use Rattle.evo_tree.specs.Declarations as grammar
use Rattle.evo_tree.specs.Declarations.{is_protocol, attribute, introduced, generic_parameter, parameter, result_of, header}
use Rattle.evo_parse_expr.specs.Read.{type_of}
use Rattle.evo_parse_header.specs.Read as read
use Rattle.evo_parse_header.proofs.Sets.{Set, these, but, In, included, contains, the_end}
use Rattle.evo_parse_expr.proofs.Nesting.{May}
use Rattle.evo_combinators.proofs.NestingRuns.{nest_one}
use Rattle.evo_parse_header.proofs.Parses.{quiet, Chooses, Parses, parses_pure, chooses_nothing, parses_before, parses_then, parses_map, parses_alt, parses_led, parses_one, parses_opens, parses_many, chooses_alt_if, parses_maybe, parses_separated, parses_leds, takes_led, parses_run}
use Rattle.evo_parse_expr.proofs.Tests.{mark_is}
use Rattle.evo_parse_header.proofs.Tests.{mark_test, word_test, identifier_test, plain_name_test, type_head_test, infix_test, integer_test, standing_test, number_among, is_marked, attribute_numbers, attribute_clash, modifier_numbers}

-- one token
abbrev Anything : Set
Anything = but []

-- ---- types

pub parses_type : Parses (these (number_of t.Identifier ∷ number_of t.SelfType ∷ [])) (but (number_of t.Dot ∷ [])) (λ _. IsType) (λ _. type_of)
unfolding type_of
parses_type = parses_then {St = Anything} refl (parses_one refl refl refl type_head_test) (λ head. parses_map (type_name head) (parses_many {F = Anything} {H = Anything} refl refl refl refl refl refl (mark_test t.Dot) (λ d a. (parses_one {F = Anything} {St = Anything} refl refl refl plain_name_test).some 0) (λ _. parses_one {F = Anything} refl refl refl plain_name_test)))

pub parses_protocols : Parses (these (number_of t.Identifier ∷ number_of t.SelfType ∷ [])) (but (number_of t.Dot ∷ number_of t.And ∷ [])) (λ _. grammar.Protocols) (λ _. read.protocols)
unfolding read.protocols
parses_protocols = parses_separated t.And refl refl refl refl refl (mark_test t.And) parses_type.some parses_type

pub parses_inherited : Parses (these (number_of t.Colon ∷ number_of t.OpenBrace ∷ the_end ∷ [])) (these (number_of t.OpenBrace ∷ the_end ∷ [])) (λ _. grammar.Inherited) (λ _. read.inherited)
unfolding read.inherited
parses_inherited = parses_alt refl refl refl refl (mark_test t.Colon) (λ _. parses_separated t.Comma refl refl refl refl refl (mark_test t.Comma) parses_type.some parses_type) (parses_pure refl []).chooses

pub parses_conforming : Parses (but (number_of t.Dot ∷ number_of t.And ∷ [])) (but (number_of t.Dot ∷ number_of t.And ∷ number_of t.Colon ∷ [])) (λ _. grammar.Conforming) (λ _. read.conforming)
unfolding read.conforming
parses_conforming = parses_alt refl refl refl refl (mark_test t.Colon) (λ _. parses_before refl refl parses_protocols) (parses_pure refl []).chooses

-- ---- headers

pub parses_generic : Parses (these (number_of t.Identifier ∷ [])) (but (number_of t.Dot ∷ number_of t.And ∷ number_of t.Colon ∷ [])) (λ _. grammar.Generic) (λ _. read.generic)
unfolding read.generic
parses_generic = parses_led refl refl refl identifier_test (λ n. parses_map (generic_parameter n) parses_conforming)

pub parses_generics : (s : Scope) → Parses (these (number_of t.Less ∷ number_of t.OpenParenthesis ∷ the_end ∷ [])) (these (number_of t.OpenParenthesis ∷ the_end ∷ [])) (λ _. grammar.Generics s) (λ _. read.generics s)
unfolding read.generics
parses_generics s = parses_maybe (chooses_alt_if refl refl refl refl (not (is_protocol s)) (mark_test t.Less)
    (λ _ _. parses_then {St = these (number_of t.Greater ∷ the_end ∷ [])} refl (parses_separated t.Comma refl refl refl refl refl (mark_test t.Comma) parses_generic.some parses_generic)
    (λ gs. parses_led {F = these (number_of t.Greater ∷ [])} refl refl refl (mark_test t.Greater) (λ _. parses_pure refl gs))) (parses_pure refl []).chooses)

pub parses_rest_of_requirement : (a : TypeName) → Parses (these (number_of t.Colon ∷ number_of t.EqualEqual ∷ [])) (but (number_of t.Dot ∷ number_of t.And ∷ []))
    (λ _. Or (TokenThen (mark t.Colon) (λ _. Then grammar.Protocols (λ ps. Empty (requirement.Conforms a ps)))) (TokenThen (grammar.infix_mark t.EqualEqual) (λ p. Then IsType (λ b. Empty (requirement.Same a p b))))) (λ _. read.rest_of_requirement a)
unfolding read.rest_of_requirement
parses_rest_of_requirement a = parses_alt {H = these (number_of t.EqualEqual ∷ [])} refl refl refl refl (mark_test t.Colon) (λ _. parses_map (requirement.Conforms a) parses_protocols)
    (parses_led refl refl refl (infix_test t.EqualEqual) (λ p. parses_before refl refl (parses_map (requirement.Same a p) parses_type))).chooses

pub parses_requirement : Parses (these (number_of t.Identifier ∷ number_of t.SelfType ∷ [])) (but (number_of t.Dot ∷ number_of t.And ∷ [])) (λ _. grammar.IsRequirement) (λ _. read.requirement_of)
unfolding read.requirement_of
parses_requirement = parses_then refl parses_type parses_rest_of_requirement

pub parses_requirements : (s : Scope) → Parses (but (number_of t.Arrow ∷ number_of t.Dot ∷ number_of t.Comma ∷ number_of t.And ∷ [])) (but (number_of t.Arrow ∷ number_of t.Where ∷ number_of t.Dot ∷ number_of t.Comma ∷ number_of t.And ∷ [])) (λ _. grammar.Requirements s) (λ _. read.requirements s)
unfolding read.requirements
parses_requirements s = parses_maybe (chooses_alt_if refl refl refl refl (not (is_protocol s)) (mark_test t.Where)
    (λ _ _. parses_separated t.Comma refl refl refl refl refl (mark_test t.Comma) parses_requirement.some parses_requirement) (parses_pure refl []).chooses)

parses_rest_of_parameter : (p : Place) (l : ParameterLabel) (n : Identifier) → Parses (these (number_of t.Colon ∷ [])) (but (number_of t.Dot ∷ [])) (λ _. grammar.ParameterTail p l n) (λ _. read.rest_of_parameter p l n)
unfolding read.rest_of_parameter
parses_rest_of_parameter p l n = parses_led refl refl refl (mark_test t.Colon) (λ _. parses_map (parameter p l n) parses_type)

parses_labelled : (m : Identifier) → Parses (these (number_of t.Identifier ∷ number_of t.Colon ∷ [])) (but (number_of t.Dot ∷ []))
    (λ _. Or (TokenThen identifier (λ n. grammar.ParameterTail m.place (label.Written m) n)) (grammar.ParameterTail m.place label.Same m)) (λ _. read.labelled_parameter m)
unfolding read.labelled_parameter
parses_labelled m = parses_alt refl refl refl refl identifier_test (λ n. parses_rest_of_parameter m.place (label.Written m) n) (parses_rest_of_parameter m.place label.Same m).chooses

pub parses_parameter : Parses (these (number_of t.Identifier ∷ number_of t.Underscore ∷ [])) (but (number_of t.Dot ∷ [])) (λ _. grammar.IsParameter) (λ _. read.parameter_of)
unfolding read.parameter_of
parses_parameter = parses_alt {H = these (number_of t.Identifier ∷ [])} refl refl refl refl (mark_test t.Underscore) (λ p. parses_led {F = Anything} refl refl refl identifier_test (λ n. parses_rest_of_parameter p label.Blank n))
    (parses_led refl refl refl identifier_test parses_labelled).chooses

-- a mark that closes
pub parses_close : {B : Type 0} {F St : Set} (b : B) → included (these (number_of t.CloseParenthesis ∷ [])) F ≡ true → contains St the_end ≡ true → Parses F St (λ _. TokenThen (mark t.CloseParenthesis) (λ _. Empty b)) (λ _. one (mark t.CloseParenthesis) >>= (λ _. pure b))
parses_close {B} {F} {St} b begun ended = parses_led refl begun ended (mark_test t.CloseParenthesis) (λ _. parses_pure ended b)

pub parses_parameters : Parses (these (number_of t.OpenParenthesis ∷ [])) Anything (λ d. grammar.Parameters d) (λ d. read.parameters d)
unfolding read.parameters read.listed_parameters
parses_parameters =
    let inside = parses_alt {F = Anything} {H = these (number_of t.Identifier ∷ number_of t.Underscore ∷ [])} {St = Anything} refl refl refl refl (mark_test t.CloseParenthesis) (λ _. parses_pure refl [])
    (parses_then {St = these (number_of t.CloseParenthesis ∷ the_end ∷ [])} refl (parses_separated t.Comma refl refl refl refl refl (mark_test t.Comma) parses_parameter.some parses_parameter) (λ ps. parses_close {F = these (number_of t.CloseParenthesis ∷ [])} ps refl refl)).chooses in
    parses_opens {H = these []} refl refl refl refl (mark_test t.OpenParenthesis) (λ _. inside.some 0) (λ _. inside) (chooses_nothing refl)

pub parses_result : Parses (these (number_of t.OpenParenthesis ∷ number_of t.Identifier ∷ number_of t.SelfType ∷ [])) (but (number_of t.Dot ∷ [])) (λ d. grammar.Result d) (λ d. read.result d)
unfolding read.result
parses_result =
    let inside = parses_close {F = Anything} {St = but (number_of t.Dot ∷ [])} None refl refl in
    parses_opens refl refl refl refl (mark_test t.OpenParenthesis) (λ _. inside.some 0) (λ _. inside) (parses_map result_of parses_type).chooses

pub parses_returns : (may : Bool) → Parses (but (number_of t.Dot ∷ [])) (but (number_of t.Arrow ∷ number_of t.Dot ∷ [])) (λ d. grammar.Returns d may) (λ d. read.returns d may)
unfolding read.returns
parses_returns may = parses_maybe (chooses_alt_if refl refl refl refl may (mark_test t.Arrow) (λ _ _. parses_before refl refl parses_result) (parses_pure refl None).chooses)

pub parses_header : (s : Scope) (may : Bool) → Parses (these (number_of t.Less ∷ number_of t.OpenParenthesis ∷ the_end ∷ [])) (but (number_of t.Arrow ∷ number_of t.Where ∷ number_of t.Dot ∷ number_of t.Comma ∷ number_of t.And ∷ [])) (λ d. grammar.IsHeader s d may) (λ d. read.header_of s d may)
unfolding read.header_of
parses_header s may = parses_then refl (parses_generics s) (λ gs. parses_then refl parses_parameters (λ ps. parses_then refl (parses_returns may) (λ type. parses_map (λ rs. header gs ps type rs) (parses_requirements s))))

-- ---- attributes and modifiers

parses_number : Parses (these (number_of t.Integer ∷ [])) Anything (λ _. grammar.Number) (λ _. read.number)
parses_number = parses_led refl refl refl integer_test (λ v. parses_pure refl v.1)

pub parses_minor : Parses (but []) (but (number_of t.Dot ∷ [])) (λ _. grammar.Minor) (λ _. read.minor)
unfolding read.minor
parses_minor = parses_alt refl refl refl refl (mark_test t.Dot) (λ _. parses_before refl refl parses_number) (parses_pure refl 0).chooses

pub parses_availability : Parses (these (number_of t.Star ∷ number_of t.Identifier ∷ [])) Anything (λ _. grammar.IsAvailability) (λ _. read.availability)
unfolding read.availability
parses_availability = parses_alt {H = these (number_of t.Identifier ∷ [])} refl refl refl refl (mark_test t.Star) (λ _. parses_led {F = Anything} refl refl refl (mark_test t.Comma) (λ _. parses_one {F = Anything} refl refl refl standing_test))
    (parses_led refl refl refl (word_test (codes "macOS")) (λ _. parses_then {G = Anything} refl parses_number
    (λ n. parses_then refl parses_minor (λ m. parses_led {F = these (number_of t.Comma ∷ [])} refl refl refl (mark_test t.Comma) (λ _. parses_led {F = Anything} refl refl refl (mark_test t.Star) (λ _. parses_pure refl (introduced n m))))))).chooses

parses_rest_of_available : (p : Place) → Parses (these (number_of t.OpenParenthesis ∷ [])) Anything (λ d. grammar.AvailableTail d p) (λ d. read.rest_of_available d p)
unfolding read.rest_of_available
parses_rest_of_available p =
    let inside = parses_then {G = Anything} refl parses_availability (λ a. parses_close {F = Anything} {St = Anything} (attribute p (attr.Available a)) refl refl) in
    parses_opens {H = these []} refl refl refl refl (mark_test t.OpenParenthesis) (λ _. inside.some 0) (λ _. inside) (chooses_nothing refl)

parses_behind_at : (attrs : List Attr) (p : Place) → Parses (these (number_of t.Identifier ∷ [])) Anything
    (λ d. Or (TokenThen (grammar.attribute_word attrs) (λ kind. Empty (attribute p kind))) (TokenThen (word (codes "available")) (λ _. grammar.AvailableTail d p)))
    (λ d. alt (grammar.attribute_word attrs) (λ kind. pure (attribute p kind)) (one (word (codes "available")) >>= (λ _. read.rest_of_available d p)))
parses_behind_at attrs p = parses_leds (number_of t.Identifier ∷ []) (number_of t.Identifier ∷ []) (these (number_of t.Identifier ∷ [])) Anything _ Anything (λ _ kind. Empty (attribute p kind)) (λ d _. grammar.AvailableTail d p) (λ _ kind. pure (attribute p kind)) (λ d _. read.rest_of_available d p)
    (grammar.attribute_word attrs) (word (codes "available")) (attribute_clash attrs) (attribute_numbers attrs) (word_test (codes "available")) refl refl refl refl refl (λ kind. parses_pure refl (attribute p kind)) (λ _. parses_rest_of_available p)

pub parses_attribute : (attrs : List Attr) → Parses (these (number_of t.At ∷ [])) Anything (λ d. grammar.Attribute d attrs) (λ d. read.attribute_at d attrs)
unfolding read.attribute_at
parses_attribute attrs = parses_led refl refl refl (mark_test t.At) (parses_behind_at attrs)

takes_attribute : (d : ℕ) (attrs : List Attr) (u : Piece) → is_terminal t.At u ≡ true → Takes (read.attribute_at d attrs) u
unfolding read.attribute_at
takes_attribute d attrs u is = takes_led (mark t.At) (parses_behind_at attrs) d u u.place (is_marked t.At u is)

-- what a kind or a modifier begins with
abbrev pub KindWords : List ℕ
KindWords = number_of t.Struct ∷ number_of t.Enum ∷ number_of t.Class ∷ number_of t.Protocol ∷ number_of t.Extension ∷ number_of t.Func ∷ number_of t.Init ∷ number_of t.Var ∷ number_of t.Let ∷ number_of t.Typealias ∷ number_of t.Associatedtype ∷ number_of t.Case ∷ []

abbrev pub Words : List ℕ
Words = number_of t.Open ∷ number_of t.Public ∷ number_of t.Internal ∷ number_of t.Private ∷ number_of t.Final ∷ number_of t.Static ∷ number_of t.Mutating ∷ number_of t.Override ∷ []

pub parses_attributes : Parses (these (number_of t.At ∷ the_end ∷ Words ++ KindWords)) (these (the_end ∷ Words ++ KindWords)) (λ d. grammar.Attributes d) (λ d. read.attributes d)
unfolding read.attributes
parses_attributes = parses_run _ _ Anything _ (number_of t.At ∷ []) (λ _. is_terminal t.At) (λ d attrs. grammar.Attribute d attrs) (λ d attrs. read.attribute_at d attrs) (λ attrs a. attrs ++ a ∷ [])
    refl refl refl refl refl (λ attrs. (parses_attribute attrs).chooses)
    (λ d attrs us a (u, p, vs, cut, takes, s). (u, vs, cut, mark_is t.At u p takes)) (λ attrs u is. number_among t.At u is) takes_attribute []

-- a modifier may be none of those before it, so there may be none
chooses_modifier : (ms : List Modifier) → Chooses (these Words) Anything (λ _. One (grammar.modifier_word ms)) (λ _. one (grammar.modifier_word ms))
chooses_modifier ms = record {
  right = λ d n. right_one n (In Anything) refl (grammar.modifier_word ms);
  deeper = λ d. same_refl (one (grammar.modifier_word ms));
  front = λ d us rest m (u, a, vs, cut, takes, s) stop. subst (λ x. In (these Words) (first (x ++ rest))) (sym cut) (modifier_numbers ms u a takes);
  nest = λ d n. nest_one (May d) opens_nesting n (grammar.modifier_word ms) (quiet Words (grammar.modifier_word ms) refl (modifier_numbers ms));
}

pub modifier_is : (ms : List Modifier) (u : Piece) (m : Modifier) → grammar.modifier_word ms u ≡ Some m → read.is_modifier ms u ≡ true
modifier_is ms u m e = ap is_some e

pub is_modifier_word : (ms : List Modifier) (u : Piece) → read.is_modifier ms u ≡ true → (m : Modifier) × (grammar.modifier_word ms u ≡ Some m)
is_modifier_word ms u is = go (grammar.modifier_word ms u) is
  where
    go : (o : Option Modifier) → is_some o ≡ true → (m : Modifier) × (o ≡ Some m)
    go (Some m) e = (m, refl)
    go None e = absurd (cc)

takes_modifier : (d : ℕ) (ms : List Modifier) (u : Piece) → read.is_modifier ms u ≡ true → Takes (one (grammar.modifier_word ms)) u
unfolding lead
takes_modifier d ms u is us bad =
    let (m, takes) = is_modifier_word ms u is in
    let read = sym (ap (λ o. branch (paired o us) pure (refuse (u ∷ us))) takes) ∙ bad in cc

pub parses_modifiers : Parses (these (the_end ∷ Words ++ KindWords)) (these (the_end ∷ KindWords)) (λ _. grammar.Modifiers) (λ _. read.modifiers)
unfolding read.modifiers
parses_modifiers = parses_run _ _ Anything _ Words read.is_modifier (λ _ ms. One (grammar.modifier_word ms)) (λ _ ms. one (grammar.modifier_word ms)) (λ ms m. ms ++ m ∷ [])
    refl refl refl refl refl chooses_modifier
    (λ d ms us a (u, m, vs, cut, takes, s). (u, vs, cut, modifier_is ms u m takes))
    (λ ms u is. let (m, takes) = is_modifier_word ms u is in modifier_numbers ms u m takes) takes_modifier []
