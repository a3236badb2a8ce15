-- Which modules are of the first form, and which library or client each of them is.
--
--   library  = { function }
--   function = access "func" NAME "(" ")" "->" "Int" "{" "return" TERM "}"
--   access   = "internal" | "public" | "@inlinable" "public", where an access that is not written is "internal"
--   client   = "import" NAME { print }
--   print    = "print" "(" TERM { "," TERM } ")"
--   TERM     = INTEGER | NAME "(" ")"
--
-- A NAME is one that `IsName` takes, and an INTEGER is below 2^63. How these forms are written is said by the grammar of modules.
use Rattle.std.specs.Prelude.{ℕ, ◌^◌, List, [], ◌∷◌, length, map, codes, Option, Some, None, option_and_then, Bool, false, ◌&&◌, ◌==◌, nat_lt, if◌then◌else◌}
use Rattle.std.specs.Option.{option_map, option_map_or}
use Rattle.std.specs.Str.{bytes_eq}
use Rattle.evo_lex.specs.Front.{when}
use Rattle.evo_tree.specs.declared.name.Identifier.{Identifier}
use Rattle.evo_tree.specs.declared.name.TypeName.{TypeName}
use Rattle.evo_tree.specs.declared.expression.Expr.{Expr, Expr-F, out-Expr}
use Rattle.evo_tree.specs.declared.expression.Expr.TheOpen as expr
use Rattle.evo_tree.specs.declared.statement.Block.{Block, out-Block}
use Rattle.evo_tree.specs.declared.statement.Clause.{Clause}
use Rattle.evo_tree.specs.declared.statement.Stmt.{Stmt, Stmt-F, out-Stmt}
use Rattle.evo_tree.specs.declared.statement.Stmt.TheOpen as stmt
use Rattle.evo_tree.specs.declared.declaration.Attr.{Attr}
use Rattle.evo_tree.specs.declared.declaration.AttrKind.{AttrKind}
use Rattle.evo_tree.specs.declared.declaration.AttrKind.TheVariants as attr
use Rattle.evo_tree.specs.declared.declaration.Modifier.{Modifier}
use Rattle.evo_tree.specs.declared.declaration.ModifierKind.{ModifierKind}
use Rattle.evo_tree.specs.declared.declaration.ModifierKind.TheVariants as modifier
use Rattle.evo_tree.specs.declared.declaration.Header.{Header}
use Rattle.evo_tree.specs.declared.declaration.Decl.{Decl, out-Decl}
use Rattle.evo_tree.specs.declared.declaration.DeclKind.{DeclKind, DeclKind-F, out-DeclKind}
use Rattle.evo_tree.specs.declared.declaration.DeclKind.TheOpen as decl
use Rattle.evo_tree.specs.declared.module.Item.{Item}
use Rattle.evo_tree.specs.declared.module.Item.TheVariants as item
use Rattle.evo_tree.specs.declared.module.ModuleTree.{ModuleTree}
use Rattle.evo_first_form.specs.declared.Access.{Access}
use Rattle.evo_first_form.specs.declared.Access.TheVariants as access
use Rattle.evo_first_form.specs.declared.Term.{Term}
use Rattle.evo_first_form.specs.declared.Term.TheVariants as term
use Rattle.evo_first_form.specs.declared.Function.{Function}
use Rattle.evo_first_form.specs.declared.Print.{Print}
use Rattle.evo_first_form.specs.declared.Client.{Client}
use Rattle.evo_first_form.specs.Words.{is_name}

-- ---- lists

abbrev pub is_nil : {A : Type 0} → List A → Bool
is_nil xs = length xs == 0

-- the only item of a list, where it has just one
abbrev pub only_of : {A : Type 0} → List A → Option A
only_of [] = None
only_of (x ∷ []) = Some x
only_of (x ∷ y ∷ ys) = None

-- the first of a list and the rest, where both are there
abbrev pub cons_of : {A : Type 0} → Option A → Option (List A) → Option (List A)
cons_of None xs = None
cons_of (Some x) xs = option_map (λ ys. x ∷ ys) xs

-- what each item of a list is, where each is something
abbrev pub each_of : {A B : Type 0} → (A → Option B) → List A → Option (List B)
each_of f [] = Some []
each_of f (x ∷ xs) = cons_of (f x) (each_of f xs)

-- ---- terms

-- NAME, and the arguments where it is called
abbrev pub call_of : Identifier → Option (List (Option Identifier × Expr)) → Option Term
call_of name (Some []) = when (is_name name.text) (term.Call name.text)
call_of name arguments = None

abbrev pub integer_of : ℕ → Option Term
integer_of value = when (nat_lt value (2 ^ 63)) (term.Integer value)

abbrev pub term_level : Expr-F Expr → Option Term
term_level (expr.Integer place value) = integer_of value
term_level (expr.Name name arguments) = call_of name arguments
term_level e = None

-- TERM
abbrev pub term_of : Expr → Option Term
term_of e = term_level (out-Expr e)

-- ---- libraries

abbrev pub access_by : List AttrKind → ModifierKind → Option Access
access_by [] modifier.Internal = Some access.Internal
access_by [] modifier.Public = Some access.Public
access_by (attr.Inlinable ∷ []) modifier.Public = Some access.Inlinable
access_by attrs kind = None

-- access, by attributes and modifiers
abbrev pub access_of : List Attr → List Modifier → Option Access
access_of attrs modifiers = option_and_then (λ (m : Modifier). access_by (map (λ (a : Attr). a.kind) attrs) m.kind) (only_of modifiers)

-- "Int"
abbrev pub is_int : Option TypeName → Bool
is_int None = false
is_int (Some type) = option_map_or (λ name. bytes_eq name (codes "Int")) (only_of type.names) false

-- "(" ")" "->" "Int"
abbrev pub is_signature : Header → Bool
is_signature header = is_nil header.generics && is_nil header.parameters && is_nil header.requirements && is_int header.result

abbrev pub returned_level : Stmt-F Stmt Block Clause → Option Term
returned_level (stmt.Return place (Some value)) = term_of value
returned_level s = None

-- "return" TERM
abbrev pub returned_by : Stmt → Option Term
returned_by s = returned_level (out-Stmt s)

-- "{" "return" TERM "}"
abbrev pub body_of : Option Block → Option Term
body_of None = None
body_of (Some block) = option_and_then returned_by (only_of (out-Block block).statements)

abbrev pub function : Access → List ℕ → Term → Function
function a name body = record { access = a; name = name; body = body }

-- NAME signature body, behind an access
abbrev pub named_function : Access → List ℕ → Header → Option Block → Option Function
named_function a name header block = if is_name name && is_signature header then option_map (function a name) (body_of block) else None

abbrev pub function_level : Option Access → DeclKind-F DeclKind Decl → Option Function
function_level (Some a) (decl.Function name header block) = named_function a name.text header block
function_level a kind = None

-- function
abbrev pub function_of : Decl → Option Function
function_of d = function_level (access_of (out-Decl d).attrs (out-Decl d).modifiers) (out-DeclKind (out-Decl d).kind)

unfoldable pub function_at : Item → Option Function
function_at (item.Decl d) = function_of d
function_at (item.Stmt s) = None

-- library
abbrev pub library_of : ModuleTree → Option (List Function)
library_of m = if is_nil m.imports then each_of function_at m.items else None

-- ---- clients

abbrev pub without_label : Option Identifier → Option Term → Option Term
without_label None t = t
without_label (Some label) t = None

-- TERM, without a label
abbrev pub argument_of : Option Identifier × Expr → Option Term
argument_of a = without_label a.0 (term_of a.1)

abbrev pub printed_by : List (Option Identifier × Expr) → Option Print
printed_by [] = None
printed_by (a ∷ as') = option_map (λ ts. record { terms = ts }) (each_of argument_of (a ∷ as'))

abbrev pub print_level : Expr-F Expr → Option Print
print_level (expr.Name name (Some arguments)) = if bytes_eq name.text (codes "print") then printed_by arguments else None
print_level e = None

abbrev pub print_of : Expr → Option Print
print_of e = print_level (out-Expr e)

abbrev pub print_stmt_level : Stmt-F Stmt Block Clause → Option Print
print_stmt_level (stmt.Expr e) = print_of e
print_stmt_level s = None

-- print
unfoldable pub print_at : Item → Option Print
print_at (item.Stmt s) = print_stmt_level (out-Stmt s)
print_at (item.Decl d) = None

-- NAME of the import, and then what is printed
abbrev pub client_with : List Item → Identifier → Option Client
client_with items name = if is_name name.text then option_map (λ ps. record { «import» = name.text; prints = ps }) (each_of print_at items) else None

-- client
abbrev pub client_of : ModuleTree → Option Client
client_of m = option_and_then (client_with m.items) (only_of m.imports)
