-- The canonical text of a module, as bytes. It prints the tree as it stands, without its places.
--
-- A declaration, a statement, a clause and an accessor with a block each begin a line, and every line ends in a line feed. What stands in braces is two blanks deeper, but a clause is as deep as its `switch` and its statements are deeper.
-- One blank stands on each side of an operator between operands, of `=`, `->` and `&`, and one behind `,` and `:`.
use Rattle.std.specs.Prelude.{ℕ, zero, suc, ◌+◌, ◌/◌, ◌%◌, List, [], ◌∷◌, ◌++◌, map, codes, decimal, Bool, true, false, Option, Some, None, nat_lt, ◌==◌, ◌||◌, if◌then◌else◌}
use Rattle.std.specs.List.{flat_map, join_by}
use Rattle.evo_tree.specs.declared.name.Identifier.{Identifier}
use Rattle.evo_tree.specs.declared.name.TypeName.{TypeName}
use Rattle.evo_tree.specs.declared.expression.PrefixOperator.{PrefixOperator}
use Rattle.evo_tree.specs.declared.expression.PrefixOperator.TheVariants as prefix
use Rattle.evo_tree.specs.declared.expression.InfixOperator.{InfixOperator}
use Rattle.evo_tree.specs.declared.expression.InfixOperator.TheVariants as op
use Rattle.evo_tree.specs.declared.expression.Expr.{Expr, Expr-F, fold-Expr}
use Rattle.evo_tree.specs.declared.expression.Expr.TheOpen as ex
use Rattle.evo_tree.specs.declared.statement.Introducer.{Introducer}
use Rattle.evo_tree.specs.declared.statement.Introducer.TheVariants as introducer
use Rattle.evo_tree.specs.declared.statement.AssignmentOperator.{AssignmentOperator}
use Rattle.evo_tree.specs.declared.statement.AssignmentOperator.TheVariants as assignment
use Rattle.evo_tree.specs.declared.statement.Binding.{Binding}
use Rattle.evo_tree.specs.declared.statement.Pattern.{Pattern}
use Rattle.evo_tree.specs.declared.statement.Pattern.TheVariants as pattern
use Rattle.evo_tree.specs.declared.statement.ClauseLabel.{ClauseLabel}
use Rattle.evo_tree.specs.declared.statement.ClauseLabel.TheVariants as clause
use Rattle.evo_tree.specs.declared.statement.Block.{Block, Block-F, fold-Block}
use Rattle.evo_tree.specs.declared.statement.Clause.{Clause-F}
use Rattle.evo_tree.specs.declared.statement.Stmt.{Stmt, Stmt-F, fold-Stmt}
use Rattle.evo_tree.specs.declared.statement.Stmt.TheOpen as st
use Rattle.evo_base.specs.declared.place.Release.{Release}
use Rattle.evo_tree.specs.declared.declaration.Availability.{Availability}
use Rattle.evo_tree.specs.declared.declaration.Availability.TheVariants as availability
use Rattle.evo_tree.specs.declared.declaration.AttrKind.{AttrKind}
use Rattle.evo_tree.specs.declared.declaration.AttrKind.TheVariants as attr
use Rattle.evo_tree.specs.declared.declaration.ModifierKind.{ModifierKind}
use Rattle.evo_tree.specs.declared.declaration.ModifierKind.TheVariants as modifier
use Rattle.evo_tree.specs.declared.declaration.GenericParameter.{GenericParameter}
use Rattle.evo_tree.specs.declared.declaration.ParameterLabel.{ParameterLabel}
use Rattle.evo_tree.specs.declared.declaration.ParameterLabel.TheVariants as label
use Rattle.evo_tree.specs.declared.declaration.Parameter.{Parameter}
use Rattle.evo_tree.specs.declared.declaration.Requirement.{Requirement}
use Rattle.evo_tree.specs.declared.declaration.Requirement.TheVariants as requirement
use Rattle.evo_tree.specs.declared.declaration.Header.{Header}
use Rattle.evo_tree.specs.declared.declaration.Accessors.{Accessors}
use Rattle.evo_tree.specs.declared.declaration.Accessors.TheVariants as accessors
use Rattle.evo_tree.specs.declared.declaration.Payload.{Payload}
use Rattle.evo_tree.specs.declared.declaration.NominalKind.{NominalKind}
use Rattle.evo_tree.specs.declared.declaration.NominalKind.TheVariants as nominal
use Rattle.evo_tree.specs.declared.declaration.Decl.{Decl, Decl-F, fold-Decl}
use Rattle.evo_tree.specs.declared.declaration.DeclKind.{DeclKind-F}
use Rattle.evo_tree.specs.declared.declaration.DeclKind.TheOpen as de
use Rattle.evo_tree.specs.declared.module.Form.{Form}
use Rattle.evo_tree.specs.declared.module.Form.TheVariants as form
use Rattle.evo_tree.specs.declared.module.Item.{Item}
use Rattle.evo_tree.specs.declared.module.Item.TheVariants as item
use Rattle.evo_tree.specs.declared.module.ModuleTree.{ModuleTree}

abbrev pub Text : Type 0
Text = List ℕ

-- ---- pieces of text

-- pieces with a comma between each two
abbrev pub listed : {A : Type 0} → (A → Text) → List A → Text
listed f xs = join_by f (codes ", ") xs

-- what stands between a text and one behind it, where there is something
abbrev pub optional : {A : Type 0} → (A → Text) → Option A → Text
optional f None = []
optional f (Some x) = f x

-- a list between two texts, where it has items
abbrev pub unless_empty : {A : Type 0} → Text → (List A → Text) → Text → List A → Text
unless_empty before f behind [] = []
unless_empty before f behind (x ∷ xs) = before ++ f (x ∷ xs) ++ behind

-- the blanks before what is so deep
abbrev pub indent : ℕ → Text
indent zero = []
indent (suc d) = 32 ∷ 32 ∷ indent d

abbrev pub line : ℕ → Text → Text
line d text = indent d ++ text ++ codes "\n"

-- ---- literals

abbrev pub hexadecimal_digit : ℕ → ℕ
hexadecimal_digit n = if nat_lt n 10 then 48 + n else 87 + n

-- a byte in hexadecimal, without leading zeros
abbrev pub hexadecimal : ℕ → Text
hexadecimal c = if nat_lt c 16 then hexadecimal_digit c ∷ [] else hexadecimal_digit (c / 16) ∷ hexadecimal_digit (c % 16) ∷ []

-- a character of a string by its number
abbrev pub numbered : ℕ → Text
numbered c = codes "\\u{" ++ hexadecimal c ++ codes "}"

-- what stands in a string for a byte of its characters
abbrev pub escape : ℕ → Text
escape c = if c == 0 then codes "\\0"
    else if c == 9 then codes "\\t"
    else if c == 10 then codes "\\n"
    else if c == 13 then codes "\\r"
    else if c == 34 then codes "\\\""
    else if c == 92 then codes "\\\\"
    else if nat_lt c 32 || (c == 127) then numbered c
    else c ∷ []

abbrev pub string_text : Text → Text
string_text characters = codes "\"" ++ flat_map escape characters ++ codes "\""

abbrev pub boolean_text : Bool → Text
boolean_text true = codes "true"
boolean_text false = codes "false"

-- ---- names and types

abbrev pub name_text : Identifier → Text
name_text i = i.text

abbrev pub type_text : TypeName → Text
type_text t = join_by (λ n. n) (codes ".") t.names

-- types with `&` between each two
abbrev pub joined : List TypeName → Text
joined ts = join_by type_text (codes " & ") ts

abbrev pub label_text : Option Identifier → Text
label_text label = optional (λ i. name_text i ++ codes ": ") label

-- ---- expressions

abbrev pub prefix_text : PrefixOperator → Text
prefix_text prefix.Minus = codes "-"
prefix_text prefix.Not = codes "!"

abbrev pub infix_text : InfixOperator → Text
infix_text op.Or = codes "||"
infix_text op.And = codes "&&"
infix_text op.Equal = codes "=="
infix_text op.NotEqual = codes "!="
infix_text op.Less = codes "<"
infix_text op.LessOrEqual = codes "<="
infix_text op.Greater = codes ">"
infix_text op.GreaterOrEqual = codes ">="
infix_text op.Identical = codes "==="
infix_text op.NotIdentical = codes "!=="
infix_text op.Add = codes "+"
infix_text op.Subtract = codes "-"
infix_text op.WrappingAdd = codes "&+"
infix_text op.WrappingSubtract = codes "&-"
infix_text op.Multiply = codes "*"
infix_text op.Divide = codes "/"
infix_text op.Remainder = codes "%"
infix_text op.WrappingMultiply = codes "&*"

abbrev pub argument_text : Option Identifier × Text → Text
argument_text a = label_text a.0 ++ a.1

abbrev pub arguments_text : List (Option Identifier × Text) → Text
arguments_text xs = codes "(" ++ listed argument_text xs ++ codes ")"

-- a name, with the arguments where it is called
abbrev pub call_text : Identifier → Option (List (Option Identifier × Text)) → Text
call_text i xs = name_text i ++ optional arguments_text xs

abbrev pub member_text : Identifier × Option (List (Option Identifier × Text)) → Text
member_text m = codes "." ++ call_text m.0 m.1

abbrev pub operand_text : InfixOperator × Text → Text
operand_text o = codes " " ++ infix_text o.0 ++ codes " " ++ o.1

-- an expression, by the texts of its parts
abbrev pub expr_level : Expr-F Text → Text
expr_level (ex.Integer p n) = decimal n
expr_level (ex.Negative p n) = codes "-" ++ decimal n
expr_level (ex.String p characters) = string_text characters
expr_level (ex.Boolean p b) = boolean_text b
expr_level (ex.Name i xs) = call_text i xs
expr_level (ex.SelfValue p) = codes "self"
expr_level (ex.SelfType p) = codes "Self"
expr_level (ex.Super p i xs) = codes "super." ++ name_text i ++ arguments_text xs
expr_level (ex.ImplicitMember p i xs) = codes "." ++ call_text i xs
expr_level (ex.Parenthesised p x) = codes "(" ++ x ++ codes ")"
expr_level (ex.Prefix p o x) = prefix_text o ++ x
expr_level (ex.Members x ms) = x ++ flat_map member_text ms
expr_level (ex.Chain x os) = x ++ flat_map operand_text os

abbrev pub expr_text : Expr → Text
expr_text = fold-Expr Text expr_level

-- ---- patterns

-- what a value of a payload is bound to
abbrev pub bound_text : Option Identifier → Text
bound_text None = codes "_"
bound_text (Some i) = codes "let " ++ name_text i

abbrev pub binding_text : Binding → Text
binding_text b = label_text b.label ++ bound_text b.name

abbrev pub pattern_text : Pattern → Text
pattern_text (pattern.Case p t i bs) = optional type_text t ++ codes "." ++ name_text i ++ optional (λ b. codes "(" ++ listed binding_text b ++ codes ")") bs
pattern_text (pattern.Integer p n) = decimal n
pattern_text (pattern.Negative p n) = codes "-" ++ decimal n
pattern_text (pattern.String p characters) = string_text characters
pattern_text (pattern.Boolean p b) = boolean_text b

abbrev pub clause_text : ClauseLabel → Text
clause_text (clause.Case ps) = codes "case " ++ listed pattern_text ps ++ codes ":"
clause_text clause.Default = codes "default:"
clause_text clause.UnknownDefault = codes "@unknown default:"

-- ---- statements, each by how deep it stands

abbrev pub introducer_text : Introducer → Text
introducer_text introducer.Let = codes "let "
introducer_text introducer.Var = codes "var "

abbrev pub assignment_text : AssignmentOperator → Text
assignment_text assignment.Assign = codes "="
assignment_text assignment.Add = codes "+="
assignment_text assignment.Subtract = codes "-="
assignment_text assignment.Multiply = codes "*="
assignment_text assignment.Divide = codes "/="
assignment_text assignment.Remainder = codes "%="

abbrev pub typed : TypeName → Text
typed t = codes ": " ++ type_text t

abbrev pub call_arguments : List (Option Identifier × Expr) → Text
call_arguments xs = arguments_text (map (λ a. (a.0, expr_text a.1)) xs)

-- lines in braces, whose last one has no line feed yet
abbrev pub braced : List (ℕ → Text) → ℕ → Text
braced lines d = codes "{\n" ++ flat_map (λ l. l (d + 1)) lines ++ indent d ++ codes "}"

abbrev pub block_level : Block-F (ℕ → Text) (ℕ → Text) (ℕ → Text) → ℕ → Text
block_level b d = braced b.statements d

abbrev pub clause_level : Clause-F (ℕ → Text) (ℕ → Text) (ℕ → Text) → ℕ → Text
clause_level c d = line d (clause_text c.label) ++ flat_map (λ s. s (d + 1)) c.statements

-- a branch of an `if`; the last one may have no condition
abbrev pub branch_text : ℕ → Option Expr × (ℕ → Text) → Text
branch_text d b = optional (λ x. codes "if " ++ expr_text x ++ codes " ") b.0 ++ b.1 d

-- a statement without the blanks before it and the line feed behind it
abbrev pub stmt_words : Stmt-F (ℕ → Text) (ℕ → Text) (ℕ → Text) → ℕ → Text
stmt_words (st.Local p k i t x) d = introducer_text k ++ name_text i ++ optional typed t ++ codes " = " ++ expr_text x
stmt_words (st.Discard p x) d = codes "_ = " ++ expr_text x
stmt_words (st.Assign x o y) d = expr_text x ++ codes " " ++ assignment_text o ++ codes " " ++ expr_text y
stmt_words (st.Expr x) d = expr_text x
stmt_words (st.SelfInit p xs) d = codes "self.init" ++ call_arguments xs
stmt_words (st.SuperInit p xs) d = codes "super.init" ++ call_arguments xs
stmt_words (st.If p bs) d = join_by (branch_text d) (codes " else ") bs
stmt_words (st.While p x b) d = codes "while " ++ expr_text x ++ codes " " ++ b d
stmt_words (st.Return p x) d = codes "return" ++ optional (λ y. codes " " ++ expr_text y) x
stmt_words (st.Break p) d = codes "break"
stmt_words (st.Continue p) d = codes "continue"
stmt_words (st.Switch p x cs) d = codes "switch " ++ expr_text x ++ codes " {\n" ++ flat_map (λ c. c d) cs ++ indent d ++ codes "}"

abbrev pub stmt_level : Stmt-F (ℕ → Text) (ℕ → Text) (ℕ → Text) → ℕ → Text
stmt_level s d = line d (stmt_words s d)

abbrev pub block_text : Block → ℕ → Text
block_text = fold-Block (ℕ → Text) (ℕ → Text) (ℕ → Text) stmt_level block_level clause_level

abbrev pub stmt_text : Stmt → ℕ → Text
stmt_text = fold-Stmt (ℕ → Text) (ℕ → Text) (ℕ → Text) stmt_level block_level clause_level

-- ---- parts of declarations

abbrev pub release_text : Release → Text
release_text r = decimal r.major ++ codes "." ++ decimal r.minor

abbrev pub availability_text : Availability → Text
availability_text availability.Deprecated = codes "*, deprecated"
availability_text availability.Unavailable = codes "*, unavailable"
availability_text (availability.Introduced r) = codes "macOS " ++ release_text r ++ codes ", *"

abbrev pub attr_text : AttrKind → Text
attr_text attr.Frozen = codes "@frozen "
attr_text attr.Inlinable = codes "@inlinable "
attr_text attr.UsableFromInline = codes "@usableFromInline "
attr_text (attr.Available a) = codes "@available(" ++ availability_text a ++ codes ") "

abbrev pub modifier_text : ModifierKind → Text
modifier_text modifier.Open = codes "open "
modifier_text modifier.Public = codes "public "
modifier_text modifier.Internal = codes "internal "
modifier_text modifier.Private = codes "private "
modifier_text modifier.Final = codes "final "
modifier_text modifier.Static = codes "static "
modifier_text modifier.Override = codes "override "
modifier_text modifier.Mutating = codes "mutating "

abbrev pub nominal_text : NominalKind → Text
nominal_text nominal.Struct = codes "struct "
nominal_text nominal.Enum = codes "enum "
nominal_text nominal.Class = codes "class "
nominal_text nominal.Protocol = codes "protocol "

-- `:` and protocols with `&`, where there are any
abbrev pub constraint_text : List TypeName → Text
constraint_text ts = unless_empty (codes ": ") joined [] ts

-- `:` and types with commas, where there are any
abbrev pub inherited_text : List TypeName → Text
inherited_text ts = unless_empty (codes ": ") (listed type_text) [] ts

abbrev pub generic_text : GenericParameter → Text
generic_text g = name_text g.name ++ constraint_text g.protocols

abbrev pub parameter_label_text : ParameterLabel → Text
parameter_label_text label.Same = []
parameter_label_text label.Blank = codes "_ "
parameter_label_text (label.Written i) = name_text i ++ codes " "

abbrev pub parameter_text : Parameter → Text
parameter_text p = parameter_label_text p.label ++ name_text p.name ++ typed p.type_name

abbrev pub requirement_text : Requirement → Text
requirement_text (requirement.Conforms t ts) = type_text t ++ constraint_text ts
requirement_text (requirement.Same t p u) = type_text t ++ codes " == " ++ type_text u

abbrev pub header_text : Header → Text
header_text h = unless_empty (codes "<") (listed generic_text) (codes ">") h.generics
    ++ codes "(" ++ listed parameter_text h.parameters ++ codes ")"
    ++ optional (λ t. codes " -> " ++ type_text t) h.result
    ++ unless_empty (codes " where ") (listed requirement_text) [] h.requirements

abbrev pub body_text : ℕ → Option Block → Text
body_text d b = optional (λ x. codes " " ++ block_text x d) b

abbrev pub accessor_text : Text → Block → ℕ → Text
accessor_text word b d = line d (word ++ codes " " ++ block_text b d)

abbrev pub accessors_text : ℕ → Accessors → Text
accessors_text d accessors.Stored = []
accessors_text d accessors.Get = codes " { get }"
accessors_text d accessors.GetSet = codes " { get set }"
accessors_text d (accessors.Block b) = codes " " ++ block_text b d
accessors_text d (accessors.Blocks b None) = codes " " ++ braced (accessor_text (codes "get") b ∷ []) d
accessors_text d (accessors.Blocks b (Some c)) = codes " " ++ braced (accessor_text (codes "get") b ∷ accessor_text (codes "set") c ∷ []) d

abbrev pub payload_text : Payload → Text
payload_text p = label_text p.label ++ type_text p.type_name

-- ---- declarations, each by how deep it stands

abbrev pub kind_level : DeclKind-F (ℕ → Text) (ℕ → Text) → ℕ → Text
kind_level (de.Function i h b) d = codes "func " ++ name_text i ++ header_text h ++ body_text d b
kind_level (de.Initialiser h b) d = codes "init" ++ header_text h ++ body_text d b
kind_level (de.Property k i t a) d = introducer_text k ++ name_text i ++ typed t ++ accessors_text d a
kind_level (de.TypeAlias i t) d = codes "typealias " ++ name_text i ++ codes " = " ++ type_text t
kind_level (de.AssociatedType i ts t) d = codes "associatedtype " ++ name_text i ++ constraint_text ts ++ optional (λ u. codes " = " ++ type_text u) t
kind_level (de.Case i ps) d = codes "case " ++ name_text i ++ unless_empty (codes "(") (listed payload_text) (codes ")") ps
kind_level (de.Nominal k i ts ds) d = nominal_text k ++ name_text i ++ inherited_text ts ++ codes " " ++ braced ds d
kind_level (de.Extension t ts ds) d = codes "extension " ++ type_text t ++ inherited_text ts ++ codes " " ++ braced ds d

abbrev pub decl_level : Decl-F (ℕ → Text) (ℕ → Text) → ℕ → Text
decl_level x d = line d (flat_map (λ a. attr_text a.kind) x.attrs ++ flat_map (λ m. modifier_text m.kind) x.modifiers ++ x.kind d)

abbrev pub decl_text : Decl → ℕ → Text
decl_text = fold-Decl (ℕ → Text) (ℕ → Text) kind_level decl_level

-- ---- modules

abbrev pub item_text : Item → Text
item_text (item.Decl x) = decl_text x 0
item_text (item.Stmt x) = stmt_text x 0

abbrev pub import_text : Identifier → Text
import_text i = line 0 (codes "import " ++ name_text i)

-- the two first lines of an interface
unfoldable pub head_text : Text → Release → Text
head_text name r = codes "// swift-interface-format-version: 1.0\n// swevo-module: " ++ name ++ codes " " ++ release_text r ++ codes "\n"

abbrev pub first_lines : Form → Text → Option Release → Text
first_lines form.Interface name r = optional (head_text name) r
first_lines f name r = []

abbrev pub canonical_text : ModuleTree → Text
canonical_text m = first_lines m.form m.name m.release ++ flat_map import_text m.imports ++ flat_map item_text m.items
