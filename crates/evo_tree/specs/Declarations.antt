-- The grammar of declarations.
--
--   decl      = { attribute } { modifier } kind
--   attribute = "@" ( "frozen" | "inlinable" | "usableFromInline" )
--             | "@" "available" "(" availability ")"
--   availability = "*" "," ( "deprecated" | "unavailable" )
--             | "macOS" INT [ "." INT ] "," "*"
--   modifier  = "open" | "public" | "internal" | "private" | "final"
--             | "static" | "mutating" | "override"
--   kind      = "func" NAME header [ block ]
--             | "init" header [ block ]
--             | "var" NAME ":" type [ accessors ]
--             | "let" NAME ":" type
--             | "typealias" NAME "=" type
--             | "associatedtype" NAME [ ":" protocols ] [ "=" type ]
--             | "case" element { "," element }
--             | ( "struct" | "enum" | "class" | "protocol" ) NAME [ inherited ] members
--             | "extension" type [ inherited ] members
--   header    = [ "<" generic { "," generic } ">" ] parameters
--               [ "->" result ] [ "where" requirement { "," requirement } ]
--   generic   = NAME [ ":" protocols ]
--   protocols = type { "&" type }
--   requirement = type ":" protocols | type "==" type
--   parameters = "(" [ parameter { "," parameter } ] ")"
--   parameter = [ NAME | "_" ] NAME ":" type
--   result    = type | "(" ")"
--   accessors = "{" "get" [ "set" ] "}"
--             | "{" "get" block [ "set" block ] "}" | block
--   element   = NAME [ "(" element_payload { "," element_payload } ")" ]
--   element_payload = [ NAME ":" ] type
--   inherited = ":" type { "," type }
--   members   = "{" [ decl { separator decl } ] "}"
--
-- A parameter of the rules says whether the text is an interface, and another one what the declaration stands in (Scope).
-- Each modifier, and each attribute but `@available`, stands at most once. The numbers of a release are below 2^32. `->`, `<`, `>`, `=` and `&` stand with any white space, and `==` is infix.
-- The header of an initialiser has no `->`. The type `Void` alone is no result. A separator is a `;`, or nothing where the next declaration begins on a later line. A `(` and a `{` nest what follows.
-- A block that begins with `get` and then `{`, `set`, `;` or `}` is a list of accessors.
use Rattle.std.specs.Prelude.{◌≡◌, ℕ, zero, suc, ◌+◌, ◌-◌, ◌^◌, ◌==◌, List, [], ◌∷◌, ◌++◌, map, filter, flat_map, Option, Some, None, Bool, true, false, not, ◌&&◌, ◌||◌, codes, if◌then◌else◌}
use Rattle.std.specs.List.{list_any}
use Rattle.std.specs.Str.{bytes_eq}
use Rattle.evo_base.specs.declared.place.Place.{Place}
use Rattle.evo_combinators.specs.Rule.{Empty, Fail, TokenThen, One, Or, Then, Many}
use Rattle.evo_combinators.specs.Guard.{On, Run}
use Rattle.evo_lex.specs.Front.{when}
use Rattle.evo_tree.specs.declared.name.Identifier.{Identifier}
use Rattle.evo_tree.specs.declared.name.TypeName.{TypeName}
use Rattle.evo_tree.specs.declared.statement.Block.{Block}
use Rattle.evo_tree.specs.declared.statement.Introducer.TheVariants as introducer
use Rattle.evo_tree.specs.declared.declaration.Availability.{Availability}
use Rattle.evo_tree.specs.declared.declaration.Availability.TheVariants as availability
use Rattle.evo_tree.specs.declared.declaration.AttrKind.{AttrKind}
use Rattle.evo_tree.specs.declared.declaration.AttrKind.TheVariants as attr
use Rattle.evo_tree.specs.declared.declaration.Attr.{Attr}
use Rattle.evo_tree.specs.declared.declaration.ModifierKind.{ModifierKind}
use Rattle.evo_tree.specs.declared.declaration.ModifierKind.TheVariants as modifier
use Rattle.evo_tree.specs.declared.declaration.Modifier.{Modifier}
use Rattle.evo_tree.specs.declared.declaration.GenericParameter.{GenericParameter}
use Rattle.evo_tree.specs.declared.declaration.ParameterLabel.{ParameterLabel}
use Rattle.evo_tree.specs.declared.declaration.ParameterLabel.TheVariants as label
use Rattle.evo_tree.specs.declared.declaration.Parameter.{Parameter}
use Rattle.evo_tree.specs.declared.declaration.Requirement.{Requirement}
use Rattle.evo_tree.specs.declared.declaration.Requirement.TheVariants as requirement
use Rattle.evo_tree.specs.declared.declaration.Header.{Header}
use Rattle.evo_tree.specs.declared.declaration.Accessors.{Accessors}
use Rattle.evo_tree.specs.declared.declaration.Accessors.TheVariants as accessors
use Rattle.evo_tree.specs.declared.declaration.Payload.{Payload}
use Rattle.evo_tree.specs.declared.declaration.NominalKind.{NominalKind}
use Rattle.evo_tree.specs.declared.declaration.NominalKind.TheVariants as nominal
use Rattle.evo_tree.specs.declared.declaration.Decl.{Decl, roll-Decl}
use Rattle.evo_tree.specs.declared.declaration.DeclKind.{DeclKind, out-DeclKind}
use Rattle.evo_tree.specs.declared.declaration.DeclKind.TheVariants as k
use Rattle.evo_tree.specs.declared.declaration.DeclKind.TheOpen as o
use Rattle.evo_tree.specs.declared.scope.Scope.{Scope}
use Rattle.evo_tree.specs.declared.scope.Scope.TheVariants as scope
use Rattle.evo_tree.specs.declared.terminal.Terminal.{Terminal}
use Rattle.evo_tree.specs.declared.terminal.Terminal.TheVariants as t
use Rattle.evo_tree.specs.declared.terminal.Role.TheVariants as role
use Rattle.evo_tree.specs.Pieces.{Piece, is_terminal, mark, identifier, word, integer, has_role}
use Rattle.evo_tree.specs.Expressions.{Rule, Nested}
use Rattle.evo_tree.specs.Types.{IsType, type_name}

-- ---- rules of any form

-- what `f` takes, where it may stand
abbrev pub only_if : {A : Type 0} → Bool → (Piece → Option A) → Piece → Option A
only_if true f p = f p
only_if false f p = None

-- what stands in brackets, with one nesting less
abbrev pub Within : {A : Type 0} → (ℕ → Rule A) → ℕ → Rule A
Within S zero = Fail
Within S (suc d) = S d

-- S { mark S }
abbrev pub Separated : {A : Type 0} → Terminal → Rule A → Rule (List A)
Separated k S = Then S (λ x. Then (Many (mark k) (λ _. S)) (λ xs. Empty (x ∷ xs)))

-- what stands on a later line
abbrev pub Below : {A : Type 0} → Rule A → Rule A
Below S = On (λ p. p.below) S

-- tokens of which a test is not true
abbrev pub Unless : {A : Type 0} → (List Piece → Bool) → Rule A → Rule A
Unless c S us a = (c us ≡ false) × S us a

-- `;` and what follows it, or what stands on a later line
abbrev pub Next : {A : Type 0} → Rule A → Rule A
Next S = Or (TokenThen (mark t.Semicolon) (λ _. S)) (Or (Below S) Fail)

-- [ S { separator S } ]
abbrev pub Lines : {A : Type 0} → Rule A → Rule (List A)
Lines S = Or (Then S (λ x. Then (Run (λ _. Next S) (λ first _. first) true) (λ xs. Empty (x ∷ xs)))) (Empty [])

-- ---- attributes

abbrev pub attribute_number : AttrKind → ℕ
attribute_number attr.Frozen = 0
attribute_number attr.Inlinable = 1
attribute_number attr.UsableFromInline = 2
attribute_number (attr.Available a) = 3

abbrev pub is_attribute : ℕ → Attr → Bool
is_attribute n a = attribute_number a.kind == n

-- an attribute of this kind is among these
abbrev pub has_attribute : AttrKind → List Attr → Bool
has_attribute k attrs = list_any (λ a. is_attribute (attribute_number k) a) attrs

-- in their order
unfoldable pub ordered_attributes : List Attr → List Attr
ordered_attributes attrs = filter (is_attribute 0) attrs ++ filter (is_attribute 1) attrs ++ filter (is_attribute 2) attrs ++ filter (is_attribute 3) attrs

abbrev pub attribute : Place → AttrKind → Attr
attribute p kind = record { place = p; kind = kind }

-- the attribute of a word
abbrev pub attribute_of : List ℕ → Option AttrKind
attribute_of text = if bytes_eq text (codes "frozen") then Some attr.Frozen
    else if bytes_eq text (codes "inlinable") then Some attr.Inlinable
    else if bytes_eq text (codes "usableFromInline") then Some attr.UsableFromInline
    else None

abbrev pub unless_attribute : List Attr → Option AttrKind → Option AttrKind
unless_attribute attrs None = None
unless_attribute attrs (Some kind) = when (not (has_attribute kind attrs)) kind

-- takes the word of an attribute that is not among these
unfoldable pub attribute_word : List Attr → Piece → Option AttrKind
attribute_word attrs p = if is_terminal t.Identifier p then unless_attribute attrs (attribute_of p.text) else None

-- takes `deprecated` or `unavailable`
unfoldable pub standing : Piece → Option Availability
standing p = if is_terminal t.Identifier p && bytes_eq p.text (codes "deprecated") then Some availability.Deprecated
    else if is_terminal t.Identifier p && bytes_eq p.text (codes "unavailable") then Some availability.Unavailable
    else None

abbrev pub introduced : ℕ → ℕ → Availability
introduced major minor = availability.Introduced (record { major = major; minor = minor })

-- INT
abbrev pub Number : Rule ℕ
Number = TokenThen (integer (2 ^ 32 - 1)) (λ v. Empty v.1)

-- [ "." INT ]
abbrev pub Minor : Rule ℕ
Minor = Or (TokenThen (mark t.Dot) (λ _. Number)) (Empty 0)

-- availability
abbrev pub IsAvailability : Rule Availability
IsAvailability = Or (TokenThen (mark t.Star) (λ _. TokenThen (mark t.Comma) (λ _. One standing)))
    (TokenThen (word (codes "macOS")) (λ _. Then Number (λ n. Then Minor (λ m. TokenThen (mark t.Comma) (λ _. TokenThen (mark t.Star) (λ _. Empty (introduced n m)))))))

-- "(" availability ")"
abbrev pub AvailableTail : ℕ → Place → Rule Attr
AvailableTail d p = Or (Nested d (mark t.OpenParenthesis) (λ _. Then IsAvailability (λ a. TokenThen (mark t.CloseParenthesis) (λ _. Empty (attribute p (attr.Available a)))))) Fail

-- attribute, behind these
abbrev pub Attribute : ℕ → List Attr → Rule Attr
Attribute d attrs = TokenThen (mark t.At) (λ p. Or (TokenThen (attribute_word attrs) (λ kind. Empty (attribute p kind))) (TokenThen (word (codes "available")) (λ _. AvailableTail d p)))

-- { attribute }
abbrev pub Attributes : ℕ → Rule (List Attr)
Attributes d = Run (Attribute d) (λ attrs a. attrs ++ a ∷ []) []

-- ---- modifiers

abbrev pub modifier_number : ModifierKind → ℕ
modifier_number modifier.Open = 0
modifier_number modifier.Public = 1
modifier_number modifier.Internal = 2
modifier_number modifier.Private = 3
modifier_number modifier.Final = 4
modifier_number modifier.Static = 5
modifier_number modifier.Override = 6
modifier_number modifier.Mutating = 7

-- a modifier of this kind is among these
abbrev pub has_modifier : ModifierKind → List Modifier → Bool
has_modifier k modifiers = list_any (λ m. modifier_number m.kind == modifier_number k) modifiers

-- an access first, then `final`, `static`, `override`, `mutating`
abbrev pub modifier_rank : ModifierKind → ℕ
modifier_rank k = modifier_number k - 3

abbrev pub is_ranked : ℕ → Modifier → Bool
is_ranked n m = modifier_rank m.kind == n

-- in their order
unfoldable pub ordered_modifiers : List Modifier → List Modifier
ordered_modifiers ms = filter (is_ranked 0) ms ++ filter (is_ranked 1) ms ++ filter (is_ranked 2) ms ++ filter (is_ranked 3) ms ++ filter (is_ranked 4) ms

abbrev pub modifier_of : Terminal → Option ModifierKind
modifier_of t.Open = Some modifier.Open
modifier_of t.Public = Some modifier.Public
modifier_of t.Internal = Some modifier.Internal
modifier_of t.Private = Some modifier.Private
modifier_of t.Final = Some modifier.Final
modifier_of t.Static = Some modifier.Static
modifier_of t.Override = Some modifier.Override
modifier_of t.Mutating = Some modifier.Mutating
modifier_of k = None

abbrev pub unless_modifier : List Modifier → Place → Option ModifierKind → Option Modifier
unless_modifier modifiers p None = None
unless_modifier modifiers p (Some kind) = when (not (has_modifier kind modifiers)) (record { place = p; kind = kind })

-- takes a modifier that is not among these
unfoldable pub modifier_word : List Modifier → Piece → Option Modifier
modifier_word modifiers p = unless_modifier modifiers p.place (modifier_of p.terminal)

-- { modifier }
abbrev pub Modifiers : Rule (List Modifier)
Modifiers = Run (λ modifiers. One (modifier_word modifiers)) (λ modifiers m. modifiers ++ m ∷ []) []

-- an access that is not written
abbrev pub with_access : Bool → Place → List Modifier → List Modifier
with_access true p modifiers = if list_any (is_ranked 0) modifiers then modifiers else record { place = p; kind = modifier.Internal } ∷ modifiers
with_access false p modifiers = modifiers

-- ---- where declarations stand

abbrev pub is_protocol : Scope → Bool
is_protocol scope.Protocol = true
is_protocol s = false

abbrev pub is_enum : Scope → Bool
is_enum scope.Enum = true
is_enum s = false

-- where stored properties stand in a library or a client
abbrev pub has_storage : Scope → Bool
has_storage scope.Struct = true
has_storage scope.FrozenStruct = true
has_storage scope.Class = true
has_storage s = false

-- and in an interface
abbrev pub is_frozen : Scope → Bool
is_frozen scope.FrozenStruct = true
is_frozen s = false

-- what the members of a type stand in
abbrev pub scope_of : NominalKind → List Attr → Scope
scope_of nominal.Struct attrs = if has_attribute attr.Frozen attrs then scope.FrozenStruct else scope.Struct
scope_of nominal.Enum attrs = scope.Enum
scope_of nominal.Class attrs = scope.Class
scope_of nominal.Protocol attrs = scope.Protocol

-- an access that is not written is `internal`, but not of requirements, associated types, extensions, cases and overriding functions
abbrev pub has_access : Scope → List Modifier → DeclKind → Bool
has_access s modifiers kind = not (is_protocol s) && (elim (out-DeclKind kind) [
  | o.Function n h b ↦ not (has_modifier modifier.Override modifiers)
  | o.Initialiser h b ↦ true
  | o.Property i n t a ↦ true
  | o.TypeAlias n t ↦ true
  | o.AssociatedType n p t ↦ true
  | o.Case n p ↦ false
  | o.Nominal k n i ms ↦ true
  | o.Extension t i ms ↦ false
])

abbrev pub declaration : Scope → List Attr → List Modifier → Place → DeclKind → Decl
declaration s attrs modifiers p kind = roll-Decl (record {
  place = p;
  attrs = ordered_attributes attrs;
  modifiers = with_access (has_access s modifiers kind) p (ordered_modifiers modifiers);
  kind = kind;
})

-- ---- types in headers

-- protocols
abbrev pub Protocols : Rule (List TypeName)
Protocols = Separated t.And IsType

-- [ inherited ]
abbrev pub Inherited : Rule (List TypeName)
Inherited = Or (TokenThen (mark t.Colon) (λ _. Separated t.Comma IsType)) (Empty [])

-- [ ":" protocols ]
abbrev pub Conforming : Rule (List TypeName)
Conforming = Or (TokenThen (mark t.Colon) (λ _. Protocols)) (Empty [])

abbrev pub generic_parameter : Identifier → List TypeName → GenericParameter
generic_parameter n protocols = record { name = n; protocols = protocols }

-- generic
abbrev pub Generic : Rule GenericParameter
Generic = TokenThen identifier (λ n. Then Conforming (λ protocols. Empty (generic_parameter n protocols)))

-- takes an operator between two types
unfoldable pub infix_mark : Terminal → Piece → Option Place
infix_mark k p = when (is_terminal k p && has_role role.Infix p) p.place

-- requirement
abbrev pub IsRequirement : Rule Requirement
IsRequirement = Then IsType (λ a. Or (TokenThen (mark t.Colon) (λ _. Then Protocols (λ protocols. Empty (requirement.Conforms a protocols))))
    (TokenThen (infix_mark t.EqualEqual) (λ p. Then IsType (λ b. Empty (requirement.Same a p b)))))

abbrev pub parameter : Place → ParameterLabel → Identifier → TypeName → Parameter
parameter p l n type = record { place = p; label = l; name = n; type_name = type }

-- ":" type
abbrev pub ParameterTail : Place → ParameterLabel → Identifier → Rule Parameter
ParameterTail p l n = TokenThen (mark t.Colon) (λ _. Then IsType (λ type. Empty (parameter p l n type)))

-- parameter
abbrev pub IsParameter : Rule Parameter
IsParameter = Or (TokenThen (mark t.Underscore) (λ p. TokenThen identifier (λ n. ParameterTail p label.Blank n)))
    (TokenThen identifier (λ m. Or (TokenThen identifier (λ n. ParameterTail m.place (label.Written m) n)) (ParameterTail m.place label.Same m)))

-- parameter { "," parameter } ")"
abbrev pub ListedParameters : Rule (List Parameter)
ListedParameters = Then (Separated t.Comma IsParameter) (λ ps. TokenThen (mark t.CloseParenthesis) (λ _. Empty ps))

-- parameters
abbrev pub Parameters : ℕ → Rule (List Parameter)
Parameters d = Or (Nested d (mark t.OpenParenthesis) (λ _. Or (TokenThen (mark t.CloseParenthesis) (λ _. Empty [])) ListedParameters)) Fail

abbrev pub is_void : List (List ℕ) → Bool
is_void [] = false
is_void (n ∷ []) = bytes_eq n (codes "Void")
is_void (n ∷ m ∷ names) = false

-- `Void` alone is no result
abbrev pub result_of : TypeName → Option TypeName
result_of type = if is_void type.names then None else Some type

-- result
abbrev pub Result : ℕ → Rule (Option TypeName)
Result d = Or (Nested d (mark t.OpenParenthesis) (λ _. TokenThen (mark t.CloseParenthesis) (λ _. Empty None))) (Then IsType (λ type. Empty (result_of type)))

abbrev pub payload : Option Identifier → TypeName → Payload
payload l type = record { label = l; type_name = type }

-- element_payload
abbrev pub IsPayload : Rule Payload
IsPayload = Or (TokenThen identifier (λ n. TokenThen (mark t.Colon) (λ _. Then IsType (λ type. Empty (payload (Some n) type))))) (Then IsType (λ type. Empty (payload None type)))

-- element_payload { "," element_payload } ")"
abbrev pub PayloadsTail : Rule (List Payload)
PayloadsTail = Then (Separated t.Comma IsPayload) (λ ps. TokenThen (mark t.CloseParenthesis) (λ _. Empty ps))

-- element
abbrev pub IsCase : ℕ → Rule DeclKind
IsCase d = TokenThen identifier (λ n. Then (Or (Nested d (mark t.OpenParenthesis) (λ _. PayloadsTail)) (Empty [])) (λ ps. Empty (k.Case n ps)))

-- ---- accessors

-- what stands behind `get` in a list of accessors
abbrev pub goes_on_get : Piece → Bool
goes_on_get p = is_terminal t.OpenBrace p || is_terminal t.Semicolon p || is_terminal t.CloseBrace p || (is_terminal t.Identifier p && bytes_eq p.text (codes "set"))

abbrev pub is_get : Piece → Bool
is_get p = is_terminal t.Identifier p && bytes_eq p.text (codes "get")

-- these tokens begin a list of accessors
abbrev pub begins_accessors : List Piece → Bool
begins_accessors (a ∷ b ∷ c ∷ us) = is_terminal t.OpenBrace a && is_get b && goes_on_get c
begins_accessors us = false

-- takes the word of a type or protocol
unfoldable pub nominal_word : Piece → Option (Place × NominalKind)
nominal_word p = if is_terminal t.Struct p then Some (p.place, nominal.Struct)
    else if is_terminal t.Enum p then Some (p.place, nominal.Enum)
    else if is_terminal t.Class p then Some (p.place, nominal.Class)
    else if is_terminal t.Protocol p then Some (p.place, nominal.Protocol)
    else None

-- ---- kinds of declarations

-- what is declared, at the word that begins it
abbrev pub one_kind : Place → DeclKind → Place × List DeclKind
one_kind p kind = (p, kind ∷ [])

abbrev pub header : List GenericParameter → List Parameter → Option TypeName → List Requirement → Header
header gs ps type rs = record { generics = gs; parameters = ps; result = type; requirements = rs }

-- the text is an interface or not, and the declaration stands in this scope
module _ (interface : Bool) (s : Scope) where
  -- a body stands here: not in a protocol, and in an interface exactly with `@inlinable`
  abbrev pub has_body : List Attr → Bool
  has_body attrs = not (is_protocol s) && (not interface || has_attribute attr.Inlinable attrs)

  -- a function or a `var` may stand here: a requirement of an interface would have a body with `@inlinable`
  abbrev pub may_stand : List Attr → Bool
  may_stand attrs = not (is_protocol s && interface && has_attribute attr.Inlinable attrs)

  -- a stored property may stand here: in an interface without `@inlinable`, in a struct with `@frozen`
  abbrev pub may_be_stored : List Attr → Bool
  may_be_stored attrs = if interface then is_frozen s && not (has_attribute attr.Inlinable attrs) else has_storage s

-- [ "<" generic { "," generic } ">" ]
abbrev pub Generics : Scope → Rule (List GenericParameter)
Generics s = Or (TokenThen (only_if (not (is_protocol s)) (mark t.Less)) (λ _. Then (Separated t.Comma Generic) (λ gs. TokenThen (mark t.Greater) (λ _. Empty gs)))) (Empty [])

-- [ "->" result ], where there may be one
abbrev pub Returns : ℕ → Bool → Rule (Option TypeName)
Returns d may = Or (TokenThen (only_if may (mark t.Arrow)) (λ _. Result d)) (Empty None)

-- [ "where" requirement { "," requirement } ]
abbrev pub Requirements : Scope → Rule (List Requirement)
Requirements s = Or (TokenThen (only_if (not (is_protocol s)) (mark t.Where)) (λ _. Separated t.Comma IsRequirement)) (Empty [])

-- header, where the flag says whether there may be a result
abbrev pub IsHeader : Scope → ℕ → Bool → Rule Header
IsHeader s d may = Then (Generics s) (λ gs. Then (Parameters d) (λ ps. Then (Returns d may) (λ type. Then (Requirements s) (λ rs. Empty (header gs ps type rs)))))

-- NAME ":" type
abbrev pub LetTail : Place → Rule (Place × List DeclKind)
LetTail p = TokenThen identifier (λ n. TokenThen (mark t.Colon) (λ _. Then IsType (λ type. Empty (one_kind p (k.Property introducer.Let n type accessors.Stored)))))

-- NAME "=" type
abbrev pub AliasTail : Place → Rule (Place × List DeclKind)
AliasTail p = TokenThen identifier (λ n. TokenThen (mark t.Equal) (λ _. Then IsType (λ type. Empty (one_kind p (k.TypeAlias n type)))))

-- [ "=" type ]
abbrev pub Default : Rule (Option TypeName)
Default = Or (TokenThen (mark t.Equal) (λ _. Then IsType (λ type. Empty (Some type)))) (Empty None)

-- NAME [ ":" protocols ] [ "=" type ]
abbrev pub AssociatedTail : Place → Rule (Place × List DeclKind)
AssociatedTail p = TokenThen identifier (λ n. Then Conforming (λ protocols. Then Default (λ type. Empty (one_kind p (k.AssociatedType n protocols type)))))

-- element { "," element }
abbrev pub CasesTail : ℕ → Place → Rule (Place × List DeclKind)
CasesTail d p = Then (Separated t.Comma (IsCase d)) (λ cases. Empty (p, cases))

-- "get" [ "set" ] "}"
abbrev pub GetsTail : Rule Accessors
GetsTail = TokenThen (word (codes "get")) (λ _. Or (TokenThen (word (codes "set")) (λ _. TokenThen (mark t.CloseBrace) (λ _. Empty accessors.GetSet))) (TokenThen (mark t.CloseBrace) (λ _. Empty accessors.Get)))

abbrev pub Stored : Bool → Rule Accessors
Stored true = Empty accessors.Stored
Stored false = Fail

-- decl, with this kind; one with several cases makes several
abbrev pub DeclarationOf : Scope → ℕ → (List Attr → Rule (Place × List DeclKind)) → Rule (List Decl)
DeclarationOf s d K = Then (Attributes d) (λ attrs. Then Modifiers (λ ms. Then (K attrs) (λ w. Empty (map (declaration s attrs ms w.0) w.1))))

-- B is a block, whose statements may call initialisers where its flag is true, by how much nesting may open
module _ (B : ℕ → Bool → Rule Block) where
  -- [ block ]
  abbrev pub Body : ℕ → Bool → Bool → Rule (Option Block)
  Body d inits true = Then (B d inits) (λ b. Empty (Some b))
  Body d inits false = Empty None

  -- [ "set" block ], within the braces
  abbrev pub Setter : ℕ → Rule (Option Block)
  Setter d = Or (TokenThen (word (codes "set")) (λ _. Then (Within (λ e. B e false) d) (λ b. Empty (Some b)))) (Empty None)

  -- "get" block [ "set" block ] "}"
  abbrev pub BlocksTail : ℕ → Rule Accessors
  BlocksTail d = TokenThen (word (codes "get")) (λ _. Then (Within (λ e. B e false) d) (λ g. Then (Setter d) (λ b. TokenThen (mark t.CloseBrace) (λ _. Empty (accessors.Blocks g b)))))

  -- a block that is no list of accessors
  abbrev pub Getter : ℕ → Rule Accessors
  Getter d = Unless begins_accessors (Then (B d false) (λ b. Empty (accessors.Block b)))

  -- accessors with bodies, or without
  abbrev pub Braces : ℕ → Bool → Rule Accessors
  Braces d true = Or (Or (Nested d (mark t.OpenBrace) (λ _. BlocksTail d)) Fail) (Getter d)
  Braces d false = Or (Nested d (mark t.OpenBrace) (λ _. GetsTail)) Fail

  -- [ accessors ], with bodies or without, and perhaps stored
  abbrev pub IsAccessors : ℕ → Bool → Bool → Rule Accessors
  IsAccessors d bodies stored = Or (Braces d bodies) (Stored stored)

  -- the text is an interface or not, and the declaration stands in this scope
  module _ (interface : Bool) (s : Scope) where
    -- NAME header [ block ]
    abbrev pub FunctionTail : ℕ → List Attr → Place → Rule (Place × List DeclKind)
    FunctionTail d attrs p = TokenThen identifier (λ n. Then (IsHeader s d true) (λ h. Then (Body d false (has_body interface s attrs)) (λ b. Empty (one_kind p (k.Function n h b)))))

    -- header [ block ]
    abbrev pub InitialiserTail : ℕ → List Attr → Place → Rule (Place × List DeclKind)
    InitialiserTail d attrs p = Then (IsHeader s d false) (λ h. Then (Body d true (has_body interface s attrs)) (λ b. Empty (one_kind p (k.Initialiser h b))))

    -- NAME ":" type [ accessors ]
    abbrev pub VarTail : ℕ → List Attr → Place → Rule (Place × List DeclKind)
    VarTail d attrs p = TokenThen identifier (λ n. TokenThen (mark t.Colon) (λ _. Then IsType (λ type. Then (IsAccessors d (has_body interface s attrs) (may_be_stored interface s attrs)) (λ a. Empty (one_kind p (k.Property introducer.Var n type a))))))

    -- kind, in braces
    abbrev pub MemberKind : ℕ → List Attr → Rule (Place × List DeclKind)
    MemberKind d attrs = Or (TokenThen (only_if (may_stand interface s attrs) (mark t.Func)) (FunctionTail d attrs))
        (Or (TokenThen (only_if (not (is_protocol s)) (mark t.Init)) (InitialiserTail d attrs))
        (Or (TokenThen (only_if (may_stand interface s attrs) (mark t.Var)) (VarTail d attrs))
        (Or (TokenThen (only_if (may_be_stored interface s attrs) (mark t.Let)) LetTail)
        (Or (TokenThen (only_if (not (is_protocol s)) (mark t.Typealias)) AliasTail)
        (Or (TokenThen (only_if (is_protocol s) (mark t.Associatedtype)) AssociatedTail)
        (Or (TokenThen (only_if (is_enum s) (mark t.Case)) (CasesTail d)) Fail))))))

    -- [ decl { separator decl } ]
    abbrev pub AreMembers : ℕ → Rule (List Decl)
    AreMembers d = Then (Lines (DeclarationOf s d (MemberKind d))) (λ ds. Empty (flat_map (λ d. d) ds))

  module _ (interface : Bool) where
    -- members
    abbrev pub Members : ℕ → Scope → Rule (List Decl)
    Members d s = Or (Nested d (mark t.OpenBrace) (λ _. Then (Within (AreMembers interface s) d) (λ ms. TokenThen (mark t.CloseBrace) (λ _. Empty ms)))) Fail

    -- NAME [ inherited ] members
    abbrev pub NominalTail : ℕ → List Attr → Place × NominalKind → Rule (Place × List DeclKind)
    NominalTail d attrs w = TokenThen identifier (λ n. Then Inherited (λ is. Then (Members d (scope_of w.1 attrs)) (λ ms. Empty (one_kind w.0 (k.Nominal w.1 n is ms)))))

    -- type [ inherited ] members
    abbrev pub ExtensionTail : ℕ → Place → Rule (Place × List DeclKind)
    ExtensionTail d p = Then IsType (λ type. Then Inherited (λ is. Then (Members d scope.Extension) (λ ms. Empty (one_kind p (k.Extension type is ms)))))

    -- kind, at the top level
    abbrev pub TopKind : ℕ → List Attr → Rule (Place × List DeclKind)
    TopKind d attrs = Or (TokenThen (mark t.Func) (FunctionTail interface scope.TopLevel d attrs))
        (Or (TokenThen nominal_word (NominalTail d attrs))
        (Or (TokenThen (mark t.Extension) (ExtensionTail d)) Fail))

    -- decl, at the top level
    abbrev pub IsDeclaration : ℕ → Rule (List Decl)
    IsDeclaration d = DeclarationOf scope.TopLevel d (TopKind d)
