-- Reading attributes, modifiers, headers and cases from the left.
use Rattle.std.specs.Prelude.{ℕ, ◌-◌, ◌^◌, List, [], ◌∷◌, ◌++◌, Option, Some, None, Bool, not, codes}
use Rattle.std.specs.Option.{is_some}
use Rattle.evo_base.specs.declared.place.Place.{Place}
use Rattle.evo_combinators.specs.Reader.{◌>>=◌, pure, refuse, alt, one, many}
use Rattle.evo_combinators.specs.Guard.{run}
use Rattle.evo_tree.specs.declared.name.Identifier.{Identifier}
use Rattle.evo_tree.specs.declared.name.TypeName.{TypeName}
use Rattle.evo_tree.specs.declared.declaration.Availability.{Availability}
use Rattle.evo_tree.specs.declared.declaration.AttrKind.TheVariants as attr
use Rattle.evo_tree.specs.declared.declaration.Attr.{Attr}
use Rattle.evo_tree.specs.declared.declaration.Modifier.{Modifier}
use Rattle.evo_tree.specs.declared.declaration.GenericParameter.{GenericParameter}
use Rattle.evo_tree.specs.declared.declaration.ParameterLabel.{ParameterLabel}
use Rattle.evo_tree.specs.declared.declaration.ParameterLabel.TheVariants as label
use Rattle.evo_tree.specs.declared.declaration.Parameter.{Parameter}
use Rattle.evo_tree.specs.declared.declaration.Requirement.{Requirement}
use Rattle.evo_tree.specs.declared.declaration.Requirement.TheVariants as requirement
use Rattle.evo_tree.specs.declared.declaration.Header.{Header}
use Rattle.evo_tree.specs.declared.declaration.Payload.{Payload}
use Rattle.evo_tree.specs.declared.declaration.DeclKind.{DeclKind}
use Rattle.evo_tree.specs.declared.declaration.DeclKind.TheVariants as k
use Rattle.evo_tree.specs.declared.scope.Scope.{Scope}
use Rattle.evo_tree.specs.declared.terminal.Terminal.{Terminal}
use Rattle.evo_tree.specs.declared.terminal.Terminal.TheVariants as t
use Rattle.evo_tree.specs.Pieces.{Piece, is_terminal, mark, identifier, word, integer}
use Rattle.evo_tree.specs.Types.{plain_name, type_name}
use Rattle.evo_tree.specs.Declarations.{only_if, attribute, attribute_word, standing, introduced, modifier_word, is_protocol, generic_parameter, infix_mark, parameter, result_of, payload, header}
use Rattle.evo_parse_expr.specs.Read.{Reader, opens, type_of}

-- one, and more behind a mark
unfoldable pub separated : {A : Type 0} → Terminal → Reader A → Reader (List A)
separated k p = do
  x ← p
  xs ← many (mark k) (λ _. p)
  pure (x ∷ xs)

-- ---- attributes and modifiers

abbrev pub number : Reader ℕ
number = one (integer (2 ^ 32 - 1)) >>= (λ v. pure v.1)

unfoldable pub minor : Reader ℕ
minor = alt (mark t.Dot) (λ _. number) (pure 0)

-- behind `macOS`
abbrev pub rest_of_introduced : Reader Availability
rest_of_introduced = do
  n ← number
  m ← minor
  _ ← one (mark t.Comma)
  _ ← one (mark t.Star)
  pure (introduced n m)

unfoldable pub availability : Reader Availability
availability = alt (mark t.Star) (λ _. one (mark t.Comma) >>= (λ _. one standing)) (one (word (codes "macOS")) >>= (λ _. rest_of_introduced))

unfoldable pub rest_of_available : ℕ → Place → Reader Attr
rest_of_available d p = opens d (mark t.OpenParenthesis) (λ _. do
  a ← availability
  _ ← one (mark t.CloseParenthesis)
  pure (attribute p (attr.Available a))) refuse

unfoldable pub attribute_at : ℕ → List Attr → Reader Attr
attribute_at d attrs = do
  p ← one (mark t.At)
  alt (attribute_word attrs) (λ kind. pure (attribute p kind)) (one (word (codes "available")) >>= (λ _. rest_of_available d p))

unfoldable pub attributes : ℕ → Reader (List Attr)
attributes d = run (λ _. is_terminal t.At) (attribute_at d) (λ attrs a. attrs ++ a ∷ []) []

-- a modifier that is not among these
abbrev pub is_modifier : List Modifier → Piece → Bool
is_modifier modifiers u = is_some (modifier_word modifiers u)

unfoldable pub modifiers : Reader (List Modifier)
modifiers = run is_modifier (λ ms. one (modifier_word ms)) (λ ms m. ms ++ m ∷ []) []

-- ---- headers

unfoldable pub protocols : Reader (List TypeName)
protocols = separated t.And type_of

unfoldable pub inherited : Reader (List TypeName)
inherited = alt (mark t.Colon) (λ _. separated t.Comma type_of) (pure [])

unfoldable pub conforming : Reader (List TypeName)
conforming = alt (mark t.Colon) (λ _. protocols) (pure [])

unfoldable pub generic : Reader GenericParameter
generic = do
  n ← one identifier
  ps ← conforming
  pure (generic_parameter n ps)

unfoldable pub rest_of_requirement : TypeName → Reader Requirement
rest_of_requirement a = alt (mark t.Colon) (λ _. protocols >>= (λ ps. pure (requirement.Conforms a ps))) (do
  p ← one (infix_mark t.EqualEqual)
  b ← type_of
  pure (requirement.Same a p b))

unfoldable pub requirement_of : Reader Requirement
requirement_of = type_of >>= rest_of_requirement

unfoldable pub rest_of_parameter : Place → ParameterLabel → Identifier → Reader Parameter
rest_of_parameter p l n = do
  _ ← one (mark t.Colon)
  type ← type_of
  pure (parameter p l n type)

unfoldable pub labelled_parameter : Identifier → Reader Parameter
labelled_parameter m = alt identifier (λ n. rest_of_parameter m.place (label.Written m) n) (rest_of_parameter m.place label.Same m)

unfoldable pub parameter_of : Reader Parameter
parameter_of = alt (mark t.Underscore) (λ p. one identifier >>= (λ n. rest_of_parameter p label.Blank n)) (one identifier >>= labelled_parameter)

unfoldable pub listed_parameters : Reader (List Parameter)
listed_parameters = do
  ps ← separated t.Comma parameter_of
  _ ← one (mark t.CloseParenthesis)
  pure ps

unfoldable pub parameters : ℕ → Reader (List Parameter)
parameters d = opens d (mark t.OpenParenthesis) (λ _. alt (mark t.CloseParenthesis) (λ _. pure []) listed_parameters) refuse

unfoldable pub result : ℕ → Reader (Option TypeName)
result d = opens d (mark t.OpenParenthesis) (λ _. one (mark t.CloseParenthesis) >>= (λ _. pure None)) (type_of >>= (λ type. pure (result_of type)))

unfoldable pub generics : Scope → Reader (List GenericParameter)
generics s = alt (only_if (not (is_protocol s)) (mark t.Less)) (λ _. do
  gs ← separated t.Comma generic
  _ ← one (mark t.Greater)
  pure gs) (pure [])

unfoldable pub returns : ℕ → Bool → Reader (Option TypeName)
returns d may = alt (only_if may (mark t.Arrow)) (λ _. result d) (pure None)

unfoldable pub requirements : Scope → Reader (List Requirement)
requirements s = alt (only_if (not (is_protocol s)) (mark t.Where)) (λ _. separated t.Comma requirement_of) (pure [])

unfoldable pub header_of : Scope → ℕ → Bool → Reader Header
header_of s d may = do
  gs ← generics s
  ps ← parameters d
  type ← returns d may
  rs ← requirements s
  pure (header gs ps type rs)

-- ---- payloads and cases

-- behind the first name of a payload, which is a label or begins a type
unfoldable pub rest_of_payload : Identifier → Reader Payload
rest_of_payload n = alt (mark t.Colon) (λ _. type_of >>= (λ type. pure (payload (Some n) type)))
    (many (mark t.Dot) (λ _. one plain_name) >>= (λ names. pure (payload None (type_name (n.place, n.text) names))))

unfoldable pub payload_of : Reader Payload
payload_of = alt identifier rest_of_payload (type_of >>= (λ type. pure (payload None type)))

unfoldable pub rest_of_payloads : Reader (List Payload)
rest_of_payloads = do
  ps ← separated t.Comma payload_of
  _ ← one (mark t.CloseParenthesis)
  pure ps

unfoldable pub payloads : ℕ → Reader (List Payload)
payloads d = opens d (mark t.OpenParenthesis) (λ _. rest_of_payloads) (pure [])

unfoldable pub case_of : ℕ → Reader DeclKind
case_of d = do
  n ← one identifier
  ps ← payloads d
  pure (k.Case n ps)

unfoldable pub rest_of_cases : ℕ → Place → Reader (Place × List DeclKind)
rest_of_cases d p = do
  cases ← separated t.Comma (case_of d)
  pure (p, cases)
