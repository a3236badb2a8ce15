-- The canonical texts of small modules.
use Rattle.std.proofs.Common.{◌≡◌, ℕ, List, [], ◌∷◌, ◌++◌, map, codes, Option, Some, None, true, refl, sym, ◌∙◌, ap}
use Rattle.std.proofs.Common.{lit<}
use Rattle.std.proofs.lemmas.Fmt.{decimal_digit}
use Rattle.evo_tree.specs.declared.name.Identifier.{Identifier}
use Rattle.evo_tree.specs.declared.name.TypeName.{TypeName}
use Rattle.evo_tree.specs.declared.expression.Expr.{Expr, fold-roll-Expr}
use Rattle.evo_tree.specs.declared.expression.Expr.TheOpen as ex
use Rattle.evo_tree.specs.declared.expression.Expr.TheVariants as e
use Rattle.evo_tree.specs.declared.expression.Expr.TheVariants.{rolls-Integer}
use Rattle.evo_tree.specs.declared.expression.InfixOperator.TheVariants as op
use Rattle.evo_tree.specs.declared.statement.Pattern.TheVariants as pattern
use Rattle.evo_tree.specs.declared.statement.ClauseLabel.{ClauseLabel}
use Rattle.evo_tree.specs.declared.statement.ClauseLabel.TheVariants as clause
use Rattle.evo_tree.specs.declared.statement.Block.{Block, roll-Block, fold-roll-Block}
use Rattle.evo_tree.specs.declared.statement.Stmt.{Stmt, fold-roll-Stmt}
use Rattle.evo_tree.specs.declared.statement.Stmt.TheOpen as st
use Rattle.evo_tree.specs.declared.statement.Stmt.TheVariants as s
use Rattle.evo_tree.specs.declared.statement.Stmt.TheVariants.{rolls-Return}
use Rattle.evo_tree.specs.declared.statement.Introducer.TheVariants as introducer
use Rattle.evo_tree.specs.declared.declaration.Availability.TheVariants as availability
use Rattle.evo_tree.specs.declared.declaration.AttrKind.TheVariants as attr
use Rattle.evo_tree.specs.declared.declaration.ModifierKind.TheVariants as modifier
use Rattle.evo_tree.specs.declared.declaration.ParameterLabel.{ParameterLabel}
use Rattle.evo_tree.specs.declared.declaration.ParameterLabel.TheVariants as label
use Rattle.evo_tree.specs.declared.declaration.Parameter.{Parameter}
use Rattle.evo_tree.specs.declared.declaration.Requirement.TheVariants as requirement
use Rattle.evo_tree.specs.declared.declaration.Header.{Header}
use Rattle.evo_tree.specs.declared.declaration.Accessors.TheVariants as accessors
use Rattle.evo_tree.specs.declared.declaration.NominalKind.TheVariants as nominal
use Rattle.evo_tree.specs.declared.declaration.Decl.{Decl, roll-Decl, fold-roll-Decl}
use Rattle.evo_tree.specs.declared.declaration.DeclKind.{DeclKind, fold-DeclKind, fold-roll-DeclKind}
use Rattle.evo_tree.specs.declared.declaration.DeclKind.TheOpen as de
use Rattle.evo_tree.specs.declared.declaration.DeclKind.TheVariants as d
use Rattle.evo_tree.specs.declared.declaration.DeclKind.TheVariants.{rolls-Function}
use Rattle.evo_tree.specs.declared.module.Form.TheVariants as form
use Rattle.evo_tree.specs.declared.module.Item.TheVariants as item
use Rattle.evo_tree.specs.declared.module.ModuleTree.{ModuleTree}
use Rattle.evo_tree.specs.Bare.{origin}
use Rattle.evo_tree.specs.Canonical.{Text, expr_level, expr_text, clause_level, block_level, stmt_level, block_text, stmt_text, accessors_text, kind_level, decl_level, decl_text, head_text, canonical_text}

abbrev Lines : Type 0
Lines = ℕ → Text

abbrev name : Text → Identifier
name text = record { place = origin; text = text }

abbrev type : Text → TypeName
type text = record { place = origin; names = codes "Swift" ∷ text ∷ [] }

-- ---- levels

expression : expr_level (ex.Chain (expr_level (ex.Name (name (codes "f")) (Some ((Some (name (codes "a")), codes "1") ∷ (None, expr_level (ex.String origin (codes "x\n"))) ∷ []))))
    ((op.WrappingAdd, expr_level (ex.Parenthesised origin (expr_level (ex.Boolean origin true)))) ∷ [])) ≡ codes "f(a: 1, \"x\\n\") &+ (true)"
expression = refl

-- the control characters that have no letter, and a character beyond them
string : expr_level (ex.String origin (1 ∷ 31 ∷ 127 ∷ 195 ∷ 169 ∷ [])) ≡ codes "\"\\u{1}\\u{1f}\\u{7f}" ++ (195 ∷ 169 ∷ codes "\"")
string = refl

leave : Lines
leave = stmt_level (st.Break origin)

do_nothing : Lines
do_nothing = block_level (record { place = origin; statements = []; end = origin })

do_leave : Lines
do_leave = block_level (record { place = origin; statements = leave ∷ []; end = origin })

choice : (x : Expr) → expr_text x ≡ codes "c" → stmt_level (st.If origin ((Some x, do_nothing) ∷ (Some x, do_leave) ∷ (None, do_leave) ∷ [])) 1 ≡ codes "  if c {\n  } else if c {\n    break\n  } else {\n    break\n  }\n"
unfolding do_nothing do_leave leave
choice x is = rw is refl

patterns : ClauseLabel
patterns = clause.Case (pattern.Case origin None (name (codes "a")) (Some (record { label = None; name = Some (name (codes "y")) } ∷ record { label = Some (name (codes "b")); name = None } ∷ [])) ∷ pattern.Boolean origin true ∷ [])

switch : (x : Expr) → expr_text x ≡ codes "c" →
    stmt_level (st.Switch origin x (clause_level (record { place = origin; label = patterns; statements = leave ∷ [] }) ∷ clause_level (record { place = origin; label = clause.UnknownDefault; statements = leave ∷ [] }) ∷ [])) 1
    ≡ codes "  switch c {\n  case .a(let y, b: _), true:\n    break\n  @unknown default:\n    break\n  }\n"
unfolding leave patterns
switch x is = rw is refl

named : Text → TypeName
named text = record { place = origin; names = text ∷ [] }

parameter : ParameterLabel → Text → Parameter
parameter l text = record { place = origin; label = l; name = name text; type_name = named (codes "T") }

generic_function : kind_level (de.Function (name (codes "g")) (record {
  generics = record { name = name (codes "T"); protocols = type (codes "P") ∷ type (codes "Q") ∷ [] } ∷ record { name = name (codes "U"); protocols = [] } ∷ [];
  parameters = parameter label.Same (codes "a") ∷ parameter label.Blank (codes "b") ∷ parameter (label.Written (name (codes "at"))) (codes "c") ∷ [];
  result = None;
  requirements = requirement.Conforms (named (codes "U")) (named (codes "P") ∷ []) ∷ requirement.Same (named (codes "U")) origin (type (codes "Int")) ∷ [];
}) None) 1 ≡ codes "func g<T: Swift.P & Swift.Q, U>(a: T, _ b: T, at c: T) where U: P, U == Swift.Int"
unfolding named parameter
generic_function = refl

members : kind_level (de.Nominal nominal.Class (name (codes "C")) (type (codes "B") ∷ named (codes "P") ∷ [])
    (decl_level (record {
      place = origin;
      attrs = record { place = origin; kind = attr.Available availability.Deprecated } ∷ [];
      modifiers = record { place = origin; kind = modifier.Public } ∷ record { place = origin; kind = modifier.Static } ∷ [];
      kind = kind_level (de.Property introducer.Var (name (codes "x")) (type (codes "Int")) accessors.GetSet);
    }) ∷ [])) 0 ≡
    codes "class C: Swift.B, P {\n  @available(*, deprecated) public static var x: Swift.Int { get set }\n}"
unfolding named
members = refl

cases : kind_level (de.Nominal nominal.Enum (name (codes "E")) []
    (decl_level (record { place = origin; attrs = []; modifiers = []; kind = kind_level (de.Case (name (codes "a")) []) })
    ∷ decl_level (record { place = origin; attrs = []; modifiers = []; kind = kind_level (de.Case (name (codes "b")) (record { label = Some (name (codes "k")); type_name = type (codes "Int") } ∷ record { label = None; type_name = named (codes "E") } ∷ [])) }) ∷ [])) 0 ≡
    codes "enum E {\n  case a\n  case b(k: Swift.Int, E)\n}"
unfolding named
cases = refl

-- ---- a module

one : expr_text (e.Integer origin 1) ≡ codes "1"
one = ap expr_text (sym (rolls-Integer origin 1)) ∙ fold-roll-Expr Text expr_level (ex.Integer origin 1) ∙ decimal_digit 1 (lit< tt)

give : (x : Expr) → stmt_text (s.Return origin (Some x)) ≡ stmt_level (st.Return origin (Some x))
give x = ap stmt_text (sym (rolls-Return origin (Some x))) ∙ fold-roll-Stmt Lines Lines Lines stmt_level block_level clause_level (st.Return origin (Some x))

block : List Stmt → Block
block ss = roll-Block (record { place = origin; statements = ss; end = origin })

block_is : (ss : List Stmt) → block_text (block ss) ≡ block_level (record { place = origin; statements = map stmt_text ss; end = origin })
unfolding block
block_is ss = fold-roll-Block Lines Lines Lines stmt_level block_level clause_level (record { place = origin; statements = ss; end = origin })

accessor_blocks : accessors_text 1 (accessors.Blocks (block []) (Some (block []))) ≡ codes " {\n    get {\n    }\n    set {\n    }\n  }"
accessor_blocks = rw (block_is _) refl

abbrev kind_text : DeclKind → Lines
kind_text = fold-DeclKind Lines Lines kind_level decl_level

function : (i : Identifier) (h : Header) (b : Option Block) → kind_text (d.Function i h b) ≡ kind_level (de.Function i h b)
function i h b = ap kind_text (sym (rolls-Function i h b)) ∙ fold-roll-DeclKind Lines Lines kind_level decl_level (de.Function i h b)

header : Header
header = record { generics = []; parameters = []; result = Some (type (codes "Int")); requirements = [] }

pub copied : Decl
copied = roll-Decl (record {
  place = origin;
  attrs = record { place = origin; kind = attr.Inlinable } ∷ [];
  modifiers = record { place = origin; kind = modifier.Public } ∷ [];
  kind = d.Function (name (codes "f")) header (Some (block (s.Return origin (Some (e.Integer origin 1)) ∷ [])));
})

copied_text : decl_text copied 0 ≡ codes "@inlinable public func f() -> Swift.Int {\n  return 1\n}\n"
unfolding copied header
copied_text = rw (fold-roll-Decl Lines Lines kind_level decl_level _) (rw (function _ _ _) (rw (block_is _) (rw (give _) (rw one refl))))

abbrev pub interface : ModuleTree
interface = record { form = form.Interface; name = codes "Lib"; release = Some (record { major = 1; minor = 2 }); imports = name (codes "Swift") ∷ []; items = item.Decl copied ∷ [] }

pub interface_text : canonical_text interface ≡ codes "// swift-interface-format-version: 1.0\n// swevo-module: Lib 1.2\nimport Swift\n@inlinable public func f() -> Swift.Int {\n  return 1\n}\n"
unfolding head_text
interface_text = rw (decimal_digit 1 (lit< tt), decimal_digit 2 (lit< tt)) (ap (λ t. codes "// swift-interface-format-version: 1.0\n// swevo-module: Lib 1.2\nimport Swift\n" ++ t) (ap (λ t. t ++ []) copied_text))
