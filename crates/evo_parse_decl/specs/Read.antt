-- Reading declarations from the left.
use Rattle.std.specs.Prelude.{ℕ, zero, suc, List, [], ◌∷◌, map, flat_map, Option, Some, None, Bool, true, false, not, ◌&&◌, ◌||◌, codes}
use Rattle.std.specs.Option.{is_some}
use Rattle.evo_base.specs.declared.place.Place.{Place}
use Rattle.evo_combinators.specs.Reader.{◌>>=◌, pure, refuse, alt, one}
use Rattle.evo_combinators.specs.Guard.{choose, on, run}
use Rattle.evo_tree.specs.declared.name.Identifier.{Identifier}
use Rattle.evo_tree.specs.declared.name.TypeName.{TypeName}
use Rattle.evo_tree.specs.declared.statement.Block.{Block}
use Rattle.evo_tree.specs.declared.statement.Introducer.TheVariants as introducer
use Rattle.evo_tree.specs.declared.declaration.Attr.{Attr}
use Rattle.evo_tree.specs.declared.declaration.Accessors.{Accessors}
use Rattle.evo_tree.specs.declared.declaration.Accessors.TheVariants as accessors
use Rattle.evo_tree.specs.declared.declaration.NominalKind.{NominalKind}
use Rattle.evo_tree.specs.declared.declaration.Decl.{Decl}
use Rattle.evo_tree.specs.declared.declaration.DeclKind.{DeclKind}
use Rattle.evo_tree.specs.declared.declaration.DeclKind.TheVariants as k
use Rattle.evo_tree.specs.declared.scope.Scope.{Scope}
use Rattle.evo_tree.specs.declared.scope.Scope.TheVariants as scope
use Rattle.evo_tree.specs.declared.terminal.Terminal.TheVariants as t
use Rattle.evo_tree.specs.Pieces.{Piece, is_terminal, mark, identifier, word}
use Rattle.evo_tree.specs.Declarations.{only_if, is_protocol, is_enum, scope_of, declaration, nominal_word, one_kind, begins_accessors, has_body, may_stand, may_be_stored}
use Rattle.evo_parse_expr.specs.Read.{Reader, opens, type_of}
use Rattle.evo_parse_header.specs.Read.{attributes, is_modifier, modifiers, inherited, conforming, header_of, rest_of_cases}

-- what stands in brackets, with one nesting less
abbrev pub within : {A : Type 0} → (ℕ → Reader A) → ℕ → Reader A
within p zero = refuse
within p (suc d) = p d

-- `;` and what follows it, or what stands on a later line
unfoldable pub next : {A : Type 0} → Reader A → Reader A
next p = alt (mark t.Semicolon) (λ _. p) (on (λ u. u.below) p refuse)

-- `;`, or a token on a later line with which one begins
abbrev pub goes_on : (Piece → Bool) → Piece → Bool
goes_on begins u = is_terminal t.Semicolon u || (u.below && begins u)

-- any number of those that begin with such tokens, with separators between them
unfoldable pub lines : {A : Type 0} → (Piece → Bool) → Reader A → Reader (List A)
lines begins p = on begins (do
  x ← p
  xs ← run (λ _. goes_on begins) (λ _. next p) (λ first _. first) true
  pure (x ∷ xs)) (pure [])

-- ---- kinds that have no blocks

unfoldable pub rest_of_let : Place → Reader (Place × List DeclKind)
rest_of_let p = do
  n ← one identifier
  _ ← one (mark t.Colon)
  type ← type_of
  pure (one_kind p (k.Property introducer.Let n type accessors.Stored))

unfoldable pub rest_of_alias : Place → Reader (Place × List DeclKind)
rest_of_alias p = do
  n ← one identifier
  _ ← one (mark t.Equal)
  type ← type_of
  pure (one_kind p (k.TypeAlias n type))

unfoldable pub default : Reader (Option TypeName)
default = alt (mark t.Equal) (λ _. type_of >>= (λ type. pure (Some type))) (pure None)

unfoldable pub rest_of_associated : Place → Reader (Place × List DeclKind)
rest_of_associated p = do
  n ← one identifier
  ps ← conforming
  type ← default
  pure (one_kind p (k.AssociatedType n ps type))

-- the brace behind accessors without bodies
abbrev pub closed : Accessors → Reader Accessors
closed x = one (mark t.CloseBrace) >>= (λ _. pure x)

unfoldable pub rest_of_gets : Reader Accessors
rest_of_gets = one (word (codes "get")) >>= (λ _. alt (word (codes "set")) (λ _. closed accessors.GetSet) (closed accessors.Get))

-- "{" "get" [ "set" ] "}"
abbrev pub gets : ℕ → Reader Accessors
gets d = opens d (mark t.OpenBrace) (λ _. rest_of_gets) refuse

unfoldable pub stored : Bool → Reader Accessors
stored true = pure accessors.Stored
stored false = refuse

-- with this kind
unfoldable pub declaration_of : Scope → ℕ → (List Attr → Reader (Place × List DeclKind)) → Reader (List Decl)
declaration_of s d kind = do
  attrs ← attributes d
  ms ← modifiers
  w ← kind attrs
  pure (map (declaration s attrs ms w.0) w.1)

-- a declaration begins with an attribute, a modifier or its kind
abbrev pub begins_declaration : (Piece → Bool) → Piece → Bool
begins_declaration kind u = is_terminal t.At u || (is_modifier [] u || kind u)

module _ (interface : Bool) (s : Scope) where
  -- a kind in braces begins with such a token
  abbrev pub begins_kind : List Attr → Piece → Bool
  begins_kind attrs u = may_stand interface s attrs && is_terminal t.Func u
      || (not (is_protocol s) && is_terminal t.Init u
      || (may_stand interface s attrs && is_terminal t.Var u
      || (may_be_stored interface s attrs && is_terminal t.Let u
      || (not (is_protocol s) && is_terminal t.Typealias u
      || (is_protocol s && is_terminal t.Associatedtype u
      || (is_enum s && is_terminal t.Case u || false))))))

  unfoldable pub begins_member : Piece → Bool
  begins_member u = begins_declaration (begins_kind []) u

-- a kind at the top level begins with such a token
abbrev pub begins_top_kind : Piece → Bool
begins_top_kind u = is_terminal t.Func u || (is_some (nominal_word u) || (is_terminal t.Extension u || false))

unfoldable pub begins_top : Piece → Bool
begins_top u = begins_declaration begins_top_kind u

-- ---- kinds, where b reads blocks

module _ (b : ℕ → Bool → Reader Block) where
  unfoldable pub body : ℕ → Bool → Bool → Reader (Option Block)
  body d inits true = b d inits >>= (λ x. pure (Some x))
  body d inits false = pure None

  unfoldable pub setter : ℕ → Reader (Option Block)
  setter d = alt (word (codes "set")) (λ _. within (λ e. b e false) d >>= (λ x. pure (Some x))) (pure None)

  unfoldable pub rest_of_blocks : ℕ → Reader Accessors
  rest_of_blocks d = do
    _ ← one (word (codes "get"))
    g ← within (λ e. b e false) d
    x ← setter d
    _ ← one (mark t.CloseBrace)
    pure (accessors.Blocks g x)

  unfoldable pub blocks : ℕ → Reader Accessors
  blocks d = opens d (mark t.OpenBrace) (λ _. rest_of_blocks d) refuse

  unfoldable pub getter : ℕ → Reader Accessors
  getter d = b d false >>= (λ x. pure (accessors.Block x))

  unfoldable pub braces : ℕ → Bool → Reader Accessors
  braces d true = choose begins_accessors (blocks d) (getter d)
  braces d false = gets d

  unfoldable pub accessors_of : ℕ → Bool → Bool → Reader Accessors
  accessors_of d bodies may = on (is_terminal t.OpenBrace) (braces d bodies) (stored may)

  module _ (interface : Bool) (s : Scope) where
    -- behind the name of a function
    abbrev pub function_of : ℕ → List Attr → Place → Identifier → Reader (Place × List DeclKind)
    function_of d attrs p n = do
      h ← header_of s d true
      x ← body d false (has_body interface s attrs)
      pure (one_kind p (k.Function n h x))

    unfoldable pub rest_of_function : ℕ → List Attr → Place → Reader (Place × List DeclKind)
    rest_of_function d attrs p = one identifier >>= (λ n. function_of d attrs p n)

    unfoldable pub rest_of_initialiser : ℕ → List Attr → Place → Reader (Place × List DeclKind)
    rest_of_initialiser d attrs p = do
      h ← header_of s d false
      x ← body d true (has_body interface s attrs)
      pure (one_kind p (k.Initialiser h x))

    unfoldable pub rest_of_var : ℕ → List Attr → Place → Reader (Place × List DeclKind)
    rest_of_var d attrs p = do
      n ← one identifier
      _ ← one (mark t.Colon)
      type ← type_of
      a ← accessors_of d (has_body interface s attrs) (may_be_stored interface s attrs)
      pure (one_kind p (k.Property introducer.Var n type a))

    unfoldable pub member_kind : ℕ → List Attr → Reader (Place × List DeclKind)
    member_kind d attrs = alt (only_if (may_stand interface s attrs) (mark t.Func)) (rest_of_function d attrs)
        (alt (only_if (not (is_protocol s)) (mark t.Init)) (rest_of_initialiser d attrs)
        (alt (only_if (may_stand interface s attrs) (mark t.Var)) (rest_of_var d attrs)
        (alt (only_if (may_be_stored interface s attrs) (mark t.Let)) rest_of_let
        (alt (only_if (not (is_protocol s)) (mark t.Typealias)) rest_of_alias
        (alt (only_if (is_protocol s) (mark t.Associatedtype)) rest_of_associated
        (alt (only_if (is_enum s) (mark t.Case)) (rest_of_cases d) refuse))))))

    unfoldable pub are_members : ℕ → Reader (List Decl)
    are_members d = lines (begins_member interface s) (declaration_of s d (member_kind d)) >>= (λ ds. pure (flat_map (λ d. d) ds))

  module _ (interface : Bool) where
    unfoldable pub members : ℕ → Scope → Reader (List Decl)
    members d s = opens d (mark t.OpenBrace) (λ _. do
      ms ← within (are_members interface s) d
      _ ← one (mark t.CloseBrace)
      pure ms) refuse

    unfoldable pub rest_of_nominal : ℕ → List Attr → Place × NominalKind → Reader (Place × List DeclKind)
    rest_of_nominal d attrs w = do
      n ← one identifier
      is ← inherited
      ms ← members d (scope_of w.1 attrs)
      pure (one_kind w.0 (k.Nominal w.1 n is ms))

    unfoldable pub rest_of_extension : ℕ → Place → Reader (Place × List DeclKind)
    rest_of_extension d p = do
      type ← type_of
      is ← inherited
      ms ← members d scope.Extension
      pure (one_kind p (k.Extension type is ms))

    unfoldable pub top_kind : ℕ → List Attr → Reader (Place × List DeclKind)
    top_kind d attrs = alt (mark t.Func) (rest_of_function interface scope.TopLevel d attrs)
        (alt nominal_word (rest_of_nominal d attrs)
        (alt (mark t.Extension) (rest_of_extension d) refuse))

    unfoldable pub top_declaration : ℕ → Reader (List Decl)
    top_declaration d = declaration_of scope.TopLevel d (top_kind d)
