-- Trees without places: each place is replaced by the first place of a text. Trees are the same but for places exactly where these trees are equal.
use Rattle.std.specs.Prelude.{◌≡◌, List, map, Option}
use Rattle.std.specs.Option.{option_map}
use Rattle.evo_base.specs.declared.place.Place.{Place}
use Rattle.evo_tree.specs.declared.name.Identifier.{Identifier}
use Rattle.evo_tree.specs.declared.name.TypeName.{TypeName}
use Rattle.evo_tree.specs.declared.expression.Expr.{Expr, Expr-F, roll-Expr, fold-Expr}
use Rattle.evo_tree.specs.declared.expression.Expr.TheOpen as ex
use Rattle.evo_tree.specs.declared.expression.InfixOperator.{InfixOperator}
use Rattle.evo_tree.specs.declared.statement.Binding.{Binding}
use Rattle.evo_tree.specs.declared.statement.Pattern.{Pattern}
use Rattle.evo_tree.specs.declared.statement.Pattern.TheVariants as pattern
use Rattle.evo_tree.specs.declared.statement.ClauseLabel.{ClauseLabel}
use Rattle.evo_tree.specs.declared.statement.ClauseLabel.TheVariants as clause
use Rattle.evo_tree.specs.declared.statement.Block.{Block, Block-F, roll-Block, fold-Block}
use Rattle.evo_tree.specs.declared.statement.Clause.{Clause, Clause-F, roll-Clause, fold-Clause}
use Rattle.evo_tree.specs.declared.statement.Stmt.{Stmt, Stmt-F, roll-Stmt, fold-Stmt}
use Rattle.evo_tree.specs.declared.statement.Stmt.TheOpen as st
use Rattle.evo_tree.specs.declared.declaration.Attr.{Attr}
use Rattle.evo_tree.specs.declared.declaration.Modifier.{Modifier}
use Rattle.evo_tree.specs.declared.declaration.GenericParameter.{GenericParameter}
use Rattle.evo_tree.specs.declared.declaration.ParameterLabel.{ParameterLabel}
use Rattle.evo_tree.specs.declared.declaration.ParameterLabel.TheVariants as label
use Rattle.evo_tree.specs.declared.declaration.Parameter.{Parameter}
use Rattle.evo_tree.specs.declared.declaration.Requirement.{Requirement}
use Rattle.evo_tree.specs.declared.declaration.Requirement.TheVariants as requirement
use Rattle.evo_tree.specs.declared.declaration.Header.{Header}
use Rattle.evo_tree.specs.declared.declaration.Accessors.{Accessors}
use Rattle.evo_tree.specs.declared.declaration.Accessors.TheVariants as accessors
use Rattle.evo_tree.specs.declared.declaration.Payload.{Payload}
use Rattle.evo_tree.specs.declared.declaration.Decl.{Decl, Decl-F, roll-Decl, fold-Decl}
use Rattle.evo_tree.specs.declared.declaration.DeclKind.{DeclKind, DeclKind-F, roll-DeclKind, fold-DeclKind}
use Rattle.evo_tree.specs.declared.declaration.DeclKind.TheOpen as de
use Rattle.evo_tree.specs.declared.module.Item.{Item}
use Rattle.evo_tree.specs.declared.module.Item.TheVariants as item
use Rattle.evo_tree.specs.declared.module.ModuleTree.{ModuleTree}

-- the first place of a text
abbrev pub origin : Place
origin = record { line = 1; col = 1 }

-- ---- names

abbrev pub bare_identifier : Identifier → Identifier
bare_identifier i = record i { place = origin }

abbrev pub bare_type : TypeName → TypeName
bare_type t = record t { place = origin }

-- ---- expressions

module _ {E : Type 0} where
  abbrev pub clear_argument : Option Identifier × E → Option Identifier × E
  clear_argument a = (option_map bare_identifier a.0, a.1)

  abbrev pub clear_call : Option (List (Option Identifier × E)) → Option (List (Option Identifier × E))
  clear_call xs = option_map (map clear_argument) xs

  abbrev pub clear_member : Identifier × Option (List (Option Identifier × E)) → Identifier × Option (List (Option Identifier × E))
  clear_member m = (bare_identifier m.0, clear_call m.1)

  -- one level, whose parts have no places
  abbrev pub clear_expr : Expr-F E → Expr-F E
  clear_expr (ex.Integer p n) = ex.Integer origin n
  clear_expr (ex.Negative p n) = ex.Negative origin n
  clear_expr (ex.String p text) = ex.String origin text
  clear_expr (ex.Boolean p b) = ex.Boolean origin b
  clear_expr (ex.Name i xs) = ex.Name (bare_identifier i) (clear_call xs)
  clear_expr (ex.SelfValue p) = ex.SelfValue origin
  clear_expr (ex.SelfType p) = ex.SelfType origin
  clear_expr (ex.Super p i xs) = ex.Super origin (bare_identifier i) (map clear_argument xs)
  clear_expr (ex.ImplicitMember p i xs) = ex.ImplicitMember origin (bare_identifier i) (clear_call xs)
  clear_expr (ex.Parenthesised p x) = ex.Parenthesised origin x
  clear_expr (ex.Prefix p o x) = ex.Prefix origin o x
  clear_expr (ex.Members x ms) = ex.Members x (map clear_member ms)
  clear_expr (ex.Chain x os) = ex.Chain x os

abbrev pub bare_expr : Expr → Expr
bare_expr = fold-Expr Expr (λ x. roll-Expr (clear_expr x))

abbrev pub bare_argument : Option Identifier × Expr → Option Identifier × Expr
bare_argument a = (option_map bare_identifier a.0, bare_expr a.1)

abbrev pub bare_member : Identifier × Option (List (Option Identifier × Expr)) → Identifier × Option (List (Option Identifier × Expr))
bare_member m = (bare_identifier m.0, option_map (map bare_argument) m.1)

abbrev pub bare_operand : InfixOperator × Expr → InfixOperator × Expr
bare_operand o = (o.0, bare_expr o.1)

-- ---- patterns

abbrev pub bare_binding : Binding → Binding
bare_binding b = record { label = option_map bare_identifier b.label; name = option_map bare_identifier b.name }

abbrev pub bare_pattern : Pattern → Pattern
bare_pattern (pattern.Case p t i bs) = pattern.Case origin (option_map bare_type t) (bare_identifier i) (option_map (map bare_binding) bs)
bare_pattern (pattern.Integer p n) = pattern.Integer origin n
bare_pattern (pattern.Negative p n) = pattern.Negative origin n
bare_pattern (pattern.String p text) = pattern.String origin text
bare_pattern (pattern.Boolean p b) = pattern.Boolean origin b

abbrev pub bare_clause_label : ClauseLabel → ClauseLabel
bare_clause_label (clause.Case ps) = clause.Case (map bare_pattern ps)
bare_clause_label clause.Default = clause.Default
bare_clause_label clause.UnknownDefault = clause.UnknownDefault

-- ---- statements

abbrev pub clear_branch : {B : Type 0} → Option Expr × B → Option Expr × B
clear_branch b = (option_map bare_expr b.0, b.1)

module _ {S B C : Type 0} where
  abbrev pub clear_block : Block-F S B C → Block-F S B C
  clear_block b = record { place = origin; statements = b.statements; end = origin }

  abbrev pub clear_clause : Clause-F S B C → Clause-F S B C
  clear_clause c = record { place = origin; label = bare_clause_label c.label; statements = c.statements }

  abbrev pub clear_stmt : Stmt-F S B C → Stmt-F S B C
  clear_stmt (st.Local p k i t x) = st.Local origin k (bare_identifier i) (option_map bare_type t) (bare_expr x)
  clear_stmt (st.Discard p x) = st.Discard origin (bare_expr x)
  clear_stmt (st.Assign x o y) = st.Assign (bare_expr x) o (bare_expr y)
  clear_stmt (st.Expr x) = st.Expr (bare_expr x)
  clear_stmt (st.SelfInit p xs) = st.SelfInit origin (map bare_argument xs)
  clear_stmt (st.SuperInit p xs) = st.SuperInit origin (map bare_argument xs)
  clear_stmt (st.If p bs) = st.If origin (map clear_branch bs)
  clear_stmt (st.While p x b) = st.While origin (bare_expr x) b
  clear_stmt (st.Return p x) = st.Return origin (option_map bare_expr x)
  clear_stmt (st.Break p) = st.Break origin
  clear_stmt (st.Continue p) = st.Continue origin
  clear_stmt (st.Switch p x cs) = st.Switch origin (bare_expr x) cs

module _ where
  abbrev block_level : Block-F Stmt Block Clause → Block
  block_level b = roll-Block (clear_block b)

  abbrev clause_level : Clause-F Stmt Block Clause → Clause
  clause_level c = roll-Clause (clear_clause c)

  abbrev stmt_level : Stmt-F Stmt Block Clause → Stmt
  stmt_level s = roll-Stmt (clear_stmt s)

  abbrev pub bare_block : Block → Block
  bare_block = fold-Block Stmt Block Clause stmt_level block_level clause_level

  abbrev pub bare_clause : Clause → Clause
  bare_clause = fold-Clause Stmt Block Clause stmt_level block_level clause_level

  abbrev pub bare_stmt : Stmt → Stmt
  bare_stmt = fold-Stmt Stmt Block Clause stmt_level block_level clause_level

abbrev pub bare_branch : Option Expr × Block → Option Expr × Block
bare_branch b = (option_map bare_expr b.0, bare_block b.1)

-- ---- parts of declarations

abbrev pub bare_attr : Attr → Attr
bare_attr a = record a { place = origin }

abbrev pub bare_modifier : Modifier → Modifier
bare_modifier m = record m { place = origin }

abbrev pub bare_generic : GenericParameter → GenericParameter
bare_generic g = record { name = bare_identifier g.name; protocols = map bare_type g.protocols }

abbrev pub bare_parameter_label : ParameterLabel → ParameterLabel
bare_parameter_label label.Same = label.Same
bare_parameter_label label.Blank = label.Blank
bare_parameter_label (label.Written i) = label.Written (bare_identifier i)

abbrev pub bare_parameter : Parameter → Parameter
bare_parameter p = record { place = origin; label = bare_parameter_label p.label; name = bare_identifier p.name; type_name = bare_type p.type_name }

abbrev pub bare_requirement : Requirement → Requirement
bare_requirement (requirement.Conforms t ts) = requirement.Conforms (bare_type t) (map bare_type ts)
bare_requirement (requirement.Same t p u) = requirement.Same (bare_type t) origin (bare_type u)

abbrev pub bare_header : Header → Header
bare_header h = record {
  generics = map bare_generic h.generics;
  parameters = map bare_parameter h.parameters;
  result = option_map bare_type h.result;
  requirements = map bare_requirement h.requirements;
}

abbrev pub bare_accessors : Accessors → Accessors
bare_accessors accessors.Stored = accessors.Stored
bare_accessors accessors.Get = accessors.Get
bare_accessors accessors.GetSet = accessors.GetSet
bare_accessors (accessors.Block b) = accessors.Block (bare_block b)
bare_accessors (accessors.Blocks b c) = accessors.Blocks (bare_block b) (option_map bare_block c)

abbrev pub bare_payload : Payload → Payload
bare_payload p = record { label = option_map bare_identifier p.label; type_name = bare_type p.type_name }

-- ---- declarations

module _ {K D : Type 0} where
  abbrev pub clear_decl : Decl-F K D → Decl-F K D
  clear_decl d = record { place = origin; attrs = map bare_attr d.attrs; modifiers = map bare_modifier d.modifiers; kind = d.kind }

  abbrev pub clear_kind : DeclKind-F K D → DeclKind-F K D
  clear_kind (de.Function i h b) = de.Function (bare_identifier i) (bare_header h) (option_map bare_block b)
  clear_kind (de.Initialiser h b) = de.Initialiser (bare_header h) (option_map bare_block b)
  clear_kind (de.Property k i t a) = de.Property k (bare_identifier i) (bare_type t) (bare_accessors a)
  clear_kind (de.TypeAlias i t) = de.TypeAlias (bare_identifier i) (bare_type t)
  clear_kind (de.AssociatedType i ts t) = de.AssociatedType (bare_identifier i) (map bare_type ts) (option_map bare_type t)
  clear_kind (de.Case i ps) = de.Case (bare_identifier i) (map bare_payload ps)
  clear_kind (de.Nominal k i ts ds) = de.Nominal k (bare_identifier i) (map bare_type ts) ds
  clear_kind (de.Extension t ts ds) = de.Extension (bare_type t) (map bare_type ts) ds

module _ where
  abbrev decl_level : Decl-F DeclKind Decl → Decl
  decl_level d = roll-Decl (clear_decl d)

  abbrev kind_level : DeclKind-F DeclKind Decl → DeclKind
  kind_level k = roll-DeclKind (clear_kind k)

  abbrev pub bare_decl : Decl → Decl
  bare_decl = fold-Decl DeclKind Decl kind_level decl_level

  abbrev pub bare_kind : DeclKind → DeclKind
  bare_kind = fold-DeclKind DeclKind Decl kind_level decl_level

-- ---- modules

abbrev pub bare_item : Item → Item
bare_item (item.Decl d) = item.Decl (bare_decl d)
bare_item (item.Stmt s) = item.Stmt (bare_stmt s)

abbrev pub bare_module : ModuleTree → ModuleTree
bare_module m = record m { imports = map bare_identifier m.imports; items = map bare_item m.items }

-- the trees are the same but for places
abbrev pub Same : ModuleTree → ModuleTree → Type 0
Same m n = bare_module m ≡ bare_module n
