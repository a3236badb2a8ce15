-- What holds of libraries and clients of the first form.
use Rattle.std.proofs.Common.{◌≡◌, ℕ, ◌^◌, Bool, true, false, List, [], ◌∷◌, Option, Some, None, refl, subst}
use Rattle.std.specs.Prelude.{All, ◌&&◌, nat_lt, codes, option_and_then, if◌then◌else◌}
use Rattle.std.specs.Option.{option_map}
use Rattle.std.specs.Str.{bytes_eq}
use Rattle.std.proofs.lemmas.List.Elements.{All-nil, All-cons}
use Rattle.std.proofs.lemmas.Bool.Decides.{Decides-ltb}
use Rattle.evo_lex.specs.Front.{when}
use Rattle.evo_tree.specs.declared.name.Identifier.{Identifier}
use Rattle.evo_tree.specs.declared.expression.Expr.{Expr, Expr-F, out-Expr}
use Rattle.evo_tree.specs.declared.expression.Expr.TheOpen as expr
use Rattle.evo_tree.specs.declared.statement.Block.{Block, out-Block}
use Rattle.evo_tree.specs.declared.statement.Clause.{Clause}
use Rattle.evo_tree.specs.declared.statement.Stmt.{Stmt, Stmt-F, out-Stmt}
use Rattle.evo_tree.specs.declared.statement.Stmt.TheOpen as stmt
use Rattle.evo_tree.specs.declared.declaration.Header.{Header}
use Rattle.evo_tree.specs.declared.declaration.Decl.{Decl, out-Decl}
use Rattle.evo_tree.specs.declared.declaration.DeclKind.{DeclKind, DeclKind-F, out-DeclKind}
use Rattle.evo_tree.specs.declared.declaration.DeclKind.TheOpen as decl
use Rattle.evo_tree.specs.declared.module.Item.{Item}
use Rattle.evo_tree.specs.declared.module.Item.TheVariants as item
use Rattle.evo_tree.specs.declared.module.ModuleTree.{ModuleTree}
use Rattle.evo_first_form.specs.declared.Access.{Access}
use Rattle.evo_first_form.specs.declared.Term.{Term}
use Rattle.evo_first_form.specs.declared.Term.TheVariants as term
use Rattle.evo_first_form.specs.declared.Function.{Function}
use Rattle.evo_first_form.specs.declared.Print.{Print}
use Rattle.evo_first_form.specs.declared.Client.{Client}
use Rattle.evo_first_form.specs.Words.{is_name}
use Rattle.evo_first_form.specs.FirstForm.{is_nil, only_of, cons_of, each_of, call_of, integer_of, term_level, term_of, access_of, is_signature, returned_level, returned_by, body_of, function, named_function, function_level, function_at, library_of, without_label, argument_of, printed_by, print_level, print_stmt_level, print_at, client_with, client_of}
use Rattle.evo_first_form.specs.Facts.{TermFacts, FunctionFacts, LibraryFacts, PrintFacts, ClientFacts}
use Rattle.evo_first_form.proofs.WordLemmas.{and_both, name_says}

-- ---- where something is found

when_some : {A : Type 0} (b : Bool) (a x : A) → when b a ≡ Some x → (b ≡ true) × (a ≡ x)
when_some true a x e = (refl, cc)
when_some false a x e = absurd cc

if_some : {A : Type 0} (b : Bool) (o : Option A) (x : A) → (if b then o else None) ≡ Some x → (b ≡ true) × (o ≡ Some x)
if_some true o x e = (refl, e)
if_some false o x e = absurd cc

map_some : {A B : Type 0} (f : A → B) (o : Option A) (y : B) → option_map f o ≡ Some y → (x : A) × (o ≡ Some x) × (f x ≡ y)
map_some f None y e = absurd cc
map_some f (Some x) y e = (x, refl, cc)

and_then_some : {A B : Type 0} (f : A → Option B) (o : Option A) (y : B) → option_and_then f o ≡ Some y → (x : A) × (o ≡ Some x) × (f x ≡ Some y)
and_then_some f None y e = absurd cc
and_then_some f (Some x) y e = (x, refl, e)

cons_fact : {B : Type 0} (P : B → Type 0) (o : Option B) (os : Option (List B)) (ys : List B) → ((y : B) → o ≡ Some y → P y) → ((zs : List B) → os ≡ Some zs → All P zs) → cons_of o os ≡ Some ys → All P ys
cons_fact P None os ys one more e = absurd cc
cons_fact P (Some y) None ys one more e = absurd cc
cons_fact P (Some y) (Some zs) ys one more e = let same : y ∷ zs ≡ ys = cc in subst (All P) same (All-cons P y zs (one y refl) (more zs refl))

-- a fact of each thing that is made
each_fact : {A B : Type 0} (f : A → Option B) (P : B → Type 0) → ((x : A) (y : B) → f x ≡ Some y → P y) → (xs : List A) (ys : List B) → each_of f xs ≡ Some ys → All P ys
each_fact f P fact [] ys e = let same : [] ≡ ys = cc in subst (All P) same (All-nil P)
each_fact f P fact (x ∷ xs) ys e = cons_fact P (f x) (each_of f xs) ys (fact x) (each_fact f P fact xs) e

-- ---- terms

integer_fact : (value : ℕ) (t : Term) → integer_of value ≡ Some t → TermFacts t
integer_fact value t e =
    let w = when_some (nat_lt value (2 ^ 63)) (term.Integer value) t e in
    subst TermFacts w.1 ((Decides-ltb value (2 ^ 63)).0 w.0)

call_fact : (name : Identifier) (arguments : Option (List (Option Identifier × Expr))) (t : Term) → call_of name arguments ≡ Some t → TermFacts t
call_fact name (Some []) t e =
    let w = when_some (is_name name.text) (term.Call name.text) t e in
    subst TermFacts w.1 (name_says name.text w.0)
call_fact name arguments t e = absurd cc

term_level_fact : (x : Expr-F Expr) (t : Term) → term_level x ≡ Some t → TermFacts t
term_level_fact (expr.Integer place value) t e = integer_fact value t e
term_level_fact (expr.Name name arguments) t e = call_fact name arguments t e
term_level_fact x t e = absurd cc

term_fact : (x : Expr) (t : Term) → term_of x ≡ Some t → TermFacts t
term_fact x t e = term_level_fact (out-Expr x) t e

-- ---- libraries

returned_level_fact : (s : Stmt-F Stmt Block Clause) (t : Term) → returned_level s ≡ Some t → TermFacts t
returned_level_fact (stmt.Return place (Some value)) t e = term_fact value t e
returned_level_fact s t e = absurd cc

body_fact : (block : Option Block) (t : Term) → body_of block ≡ Some t → TermFacts t
body_fact None t e = absurd cc
body_fact (Some block) t e =
    let w = and_then_some returned_by (only_of (out-Block block).statements) t e in
    returned_level_fact (out-Stmt w.0) t w.2

named_fact : (a : Access) (name : List ℕ) (header : Header) (block : Option Block) (f : Function) → named_function a name header block ≡ Some f → FunctionFacts f
named_fact a name header block f e =
    let w = if_some (is_name name && is_signature header) (option_map (function a name) (body_of block)) f e in
    let m = map_some (function a name) (body_of block) f w.1 in
    subst FunctionFacts m.2 (record { name = name_says name (and_both (is_name name) (is_signature header) w.0).0; body = body_fact block m.0 m.1 })

function_level_fact : (a : Option Access) (kind : DeclKind-F DeclKind Decl) (f : Function) → function_level a kind ≡ Some f → FunctionFacts f
function_level_fact None kind f e = absurd cc
function_level_fact (Some a) (decl.Function name header block) f e = named_fact a name.text header block f e
function_level_fact (Some a) kind f e = absurd cc

function_fact : (i : Item) (f : Function) → function_at i ≡ Some f → FunctionFacts f
unfolding function_at
function_fact (item.Decl d) f e = function_level_fact (access_of (out-Decl d).attrs (out-Decl d).modifiers) (out-DeclKind (out-Decl d).kind) f e
function_fact (item.Stmt s) f e = absurd cc

pub library_fact : (m : ModuleTree) (fs : List Function) → library_of m ≡ Some fs → LibraryFacts fs
library_fact m fs e = each_fact function_at FunctionFacts function_fact m.items fs (if_some (is_nil m.imports) (each_of function_at m.items) fs e).1

-- ---- clients

unlabelled_fact : (label : Option Identifier) (x : Expr) (t : Term) → without_label label (term_of x) ≡ Some t → TermFacts t
unlabelled_fact None x t e = term_fact x t e
unlabelled_fact (Some label) x t e = absurd cc

argument_fact : (a : Option Identifier × Expr) (t : Term) → argument_of a ≡ Some t → TermFacts t
argument_fact a t e = unlabelled_fact a.0 a.1 t e

print : List Term → Print
print ts = record { terms = ts }

printed_fact : (as' : List (Option Identifier × Expr)) (p : Print) → printed_by as' ≡ Some p → PrintFacts p
unfolding print
printed_fact [] p e = absurd cc
printed_fact (a ∷ as') p e =
    let m = map_some print (each_of argument_of (a ∷ as')) p e in
    subst PrintFacts m.2 (each_fact argument_of TermFacts argument_fact (a ∷ as') m.0 m.1)

print_level_fact : (x : Expr-F Expr) (p : Print) → print_level x ≡ Some p → PrintFacts p
print_level_fact (expr.Name name (Some arguments)) p e = printed_fact arguments p (if_some (bytes_eq name.text (codes "print")) (printed_by arguments) p e).1
print_level_fact x p e = absurd cc

print_stmt_fact : (s : Stmt-F Stmt Block Clause) (p : Print) → print_stmt_level s ≡ Some p → PrintFacts p
print_stmt_fact (stmt.Expr x) p e = print_level_fact (out-Expr x) p e
print_stmt_fact s p e = absurd cc

print_fact : (i : Item) (p : Print) → print_at i ≡ Some p → PrintFacts p
unfolding print_at
print_fact (item.Stmt s) p e = print_stmt_fact (out-Stmt s) p e
print_fact (item.Decl d) p e = absurd cc

client : List ℕ → List Print → Client
client name ps = record { «import» = name; prints = ps }

with_fact : (items : List Item) (name : Identifier) (c : Client) → client_with items name ≡ Some c → ClientFacts c
unfolding client
with_fact items name c e =
    let w = if_some (is_name name.text) (option_map (client name.text) (each_of print_at items)) c e in
    let m = map_some (client name.text) (each_of print_at items) c w.1 in
    subst ClientFacts m.2 (record { name = name_says name.text w.0; prints = each_fact print_at PrintFacts print_fact items m.0 m.1 })

pub client_fact : (m : ModuleTree) (c : Client) → client_of m ≡ Some c → ClientFacts c
client_fact m c e =
    let w = and_then_some (client_with m.items) (only_of m.imports) c e in
    with_fact m.items w.0 c w.2
