-- Resolved modules, of which the examples are made. Evaluation reads no place and no type, so each has one and the same here.
use Rattle.std.proofs.Common.{ℕ, ℤ, List, [], ◌∷◌, map, codes, Option, Some, None, Bool, true}
use Rattle.std.specs.Fmt.{digits}
use Rattle.evo_base.specs.declared.key.Key.{Key}
use Rattle.evo_base.specs.declared.key.Mark.{Mark}
use Rattle.evo_base.specs.declared.key.Mark.TheVariants as mark
use Rattle.evo_tree.specs.declared.declaration.NominalKind.TheVariants as nominal
use Rattle.evo_tree.specs.declared.expression.PrefixOperator.TheVariants as before
use Rattle.evo_tree.specs.declared.statement.Introducer.TheVariants as introducer
use Rattle.evo_tree.specs.declared.statement.AssignmentOperator.{AssignmentOperator}
use Rattle.evo_resolved.specs.declared.path.ConfPath.{ConfPath}
use Rattle.evo_resolved.specs.declared.path.ConfStart.TheVariants as start
use Rattle.evo_resolved.specs.declared.resolved_type.RTypeName.{RTypeName}
use Rattle.evo_resolved.specs.declared.resolved_type.RReference.{RReference}
use Rattle.evo_resolved.specs.declared.expression.Literal.TheVariants as lit
use Rattle.evo_resolved.specs.declared.expression.Reach.{Reach}
use Rattle.evo_resolved.specs.declared.expression.Reach.TheVariants as reach
use Rattle.evo_resolved.specs.declared.expression.RUse.{RUse}
use Rattle.evo_resolved.specs.declared.expression.Variable.TheVariants as variable
use Rattle.evo_resolved.specs.declared.expression.Builtin.TheVariants as function_of
use Rattle.evo_resolved.specs.declared.statement.RPattern.TheVariants as pattern
use Rattle.evo_resolved.specs.declared.statement.RClauseLabel.{RClauseLabel}
use Rattle.evo_resolved.specs.declared.statement.RClauseLabel.TheVariants as label
use Rattle.evo_resolved.specs.declared.declaration.Standing.{Standing}
use Rattle.evo_resolved.specs.declared.declaration.Standing.TheVariants as standing
use Rattle.evo_resolved.specs.declared.declaration.Kept.TheVariants as kept
use Rattle.evo_resolved.specs.declared.declaration.Signature.{Signature}
use Rattle.evo_resolved.specs.declared.declaration.RHeader.{RHeader}
use Rattle.evo_resolved.specs.declared.declaration.RDeclKind.{RDeclKind}
use Rattle.evo_resolved.specs.declared.declaration.RDeclKind.TheVariants as kind
use Rattle.evo_resolved.specs.declared.declaration.RDecl.{RDecl}
use Rattle.evo_resolved.specs.declared.body.BodyRole.TheVariants as role
use Rattle.evo_resolved.specs.declared.body.RBody.{RBody}
use Rattle.evo_resolved.specs.declared.module.ModuleKind.{ModuleKind}
use Rattle.evo_resolved.specs.declared.module.ModuleKind.TheVariants as module_kind
use Rattle.evo_resolved.specs.declared.module.RWitness.{RWitness}
use Rattle.evo_resolved.specs.declared.module.RSubtable.{RSubtable}
use Rattle.evo_resolved.specs.declared.module.RConformance.{RConformance}
use Rattle.evo_resolved.specs.declared.module.RDefault.{RDefault}
use Rattle.evo_resolved.specs.declared.module.RProtocol.{RProtocol}
use Rattle.evo_resolved.specs.declared.module.RModule.{RModule}
use Rattle.evo_names.specs.Keys.{start_key}
use Rattle.evo_names.specs.Listed.{Text}
use Rattle.evo_meaning.specs.Keys.{same_key, look_up}
use Rattle.evo_meaning.specs.Runs.{Trap, out_of_ticks, trapped, ◌>>=◌, on_store, tick, write}
use Rattle.evo_meaning.specs.Programs.{MixedProgram, tables_of, subtable_along, declared_by_class, implementation_from}
use Rattle.evo_meaning.specs.Statements.{looped}
use Rattle.evo_meaning.specs.Bodies.{Result, done, ended_by, run, run_body}
use Rattle.evo_meaning.proofs.Trees.{at, a_type, Term, literal, local_term, self_term, prefix, members, case_term, new, call, super, builtin, Terms, no_term, term, no_member, property, method, Statement, expression, assign, assign_behind, branch, Statements, no_statement, statement, if_branch, else_branch, Clauses, no_clause, clause, block_of, does, done_by}

abbrev pub a_type_name : RTypeName
a_type_name = record { place = at; aliases = []; ty = a_type }

-- ---- keys

abbrev pub lib : Text
lib = codes "Lib"

abbrev pub main : Text
main = codes "main"

abbrev pub key : Text → List Text → Text → Option (List Text) → List Mark → Key
key m context base labels marks = record { «module» = m; context = context; base = base; labels = labels; part = record { marks = marks } }

-- a type or protocol of a module
abbrev pub named : Text → Text → Key
named m n = key m (m ∷ []) n None []

-- a function at the top level of a module
abbrev pub function : Text → Text → List Text → Key
function m n labels = key m (m ∷ []) n (Some labels) []

-- members of a type: they stand in its context
abbrev pub method_key : Key → Text → List Text → Key
method_key t n labels = key t.module (t.module ∷ t.base ∷ []) n (Some labels) []

abbrev pub property_key : Key → Text → Key
property_key t n = key t.module (t.module ∷ t.base ∷ []) n None []

abbrev pub init : Key → List Text → Key
init t labels = method_key t (codes "init") labels

abbrev pub marked : Key → Mark → Key
marked k m = record k { part = record { marks = m ∷ [] } }

abbrev pub getter : Key → Key
getter k = marked k mark.Get

abbrev pub setter : Key → Key
setter k = marked k mark.Set

abbrev pub requirement : Key → Text → List Text → Key
requirement p n labels = marked (method_key p n labels) mark.Requirement

abbrev pub property_requirement : Key → Text → Key
property_requirement p n = marked (property_key p n) mark.Requirement

-- the conformance of a type to a protocol, declared by a module
abbrev pub conforming : Text → Key → Key → Key
conforming m t p = record t { «module» = m; part = record { marks = mark.Conformance (record { «module» = p.module; name = p.base }) ∷ [] } }

-- ---- expressions

abbrev pub terms : List Term → Terms
terms [] = no_term
terms (t ∷ ts) = term t (terms ts)

abbrev pub use_of : Reach → Key → List ConfPath → RUse
use_of r k paths = record { place = at; key = k; reach = r; written = None; types = []; paths = paths; ty = a_type }

abbrev pub static : Key → RUse
static k = use_of reach.Static k []

abbrev pub dispatched : Key → RUse
dispatched k = use_of reach.Dispatched k []

-- a call of a generic function, with the conformances that its signature requires
abbrev pub call_with : Key → List ConfPath → List Term → Term
call_with k paths ts = call (use_of reach.Static k paths) (terms ts)

abbrev pub required : Key → ConfPath → RUse
required k path = use_of reach.Witness k (path ∷ [])

-- the conformance that the body was given at this number, and a declared one
abbrev pub given : ℕ → ConfPath
given n = record { start = start.Required n; steps = [] }

abbrev pub the : Key → ConfPath
the k = record { start = start.Declared k; steps = [] }

abbrev pub int : ℤ → Term
int n = literal (lit.Integer n)

abbrev pub bool : Bool → Term
bool b = literal (lit.Boolean b)

abbrev pub text : Text → Term
text s = literal (lit.String s)

abbrev pub local : ℕ → Term
local n = local_term n

abbrev pub self : Term
self = self_term

abbrev pub minus : Term → Term
minus t = prefix before.Minus t

abbrev pub call_of : RUse → List Term → Term
call_of u ts = call u (terms ts)

abbrev pub call_to : Key → List Term → Term
call_to k ts = call (static k) (terms ts)

abbrev pub new_of : Key → List Term → Term
new_of k ts = new (static k) (terms ts)

abbrev pub case : Key → List Term → Term
case k ts = case_term (static k) (terms ts)

abbrev pub above : Key → List Term → Term
above k ts = super (dispatched k) (terms ts)

-- the property of a value, and of `self` where that is not written
abbrev pub get : Term → Key → Term
get t k = members t (property (static k) no_member)

abbrev pub own : Key → Term
own k = get self_term k

abbrev pub send : Term → RUse → List Term → Term
send t u ts = members t (method u (terms ts) no_member)

-- ---- statements

abbrev pub all_of : List Statement → Statements
all_of [] = no_statement
all_of (s ∷ ss) = statement s (all_of ss)

abbrev pub print : List Term → Statement
print ts = expression (builtin function_of.Print (terms ts))

abbrev pub change_local : ℕ → List Key → AssignmentOperator → Term → Statement
change_local n ks o t = assign (variable.Local n) (map static ks) o t

abbrev pub change_self : List Key → AssignmentOperator → Term → Statement
change_self ks o t = assign variable.SelfValue (map static ks) o t

abbrev pub change_in : Term → List Key → AssignmentOperator → Term → Statement
change_in t ks o u = assign_behind t (map static ks) o u

abbrev pub if_else : Term → List Statement → List Statement → Statement
if_else t ss others = branch (if_branch t (all_of ss) (else_branch (all_of others)))

abbrev pub clauses : List (RClauseLabel × List Statement) → Clauses
clauses [] = no_clause
clauses (c ∷ cs) = clause c.0 (all_of c.1) (clauses cs)

abbrev pub on_case : Key → List (Option ℕ) → RClauseLabel
on_case k ns = label.Case (pattern.Case at None k ns ∷ [])

abbrev pub on_int : ℤ → RClauseLabel
on_int n = label.Case (pattern.Literal at (lit.Integer n) ∷ [])

-- ---- declarations

abbrev pub no_signature : Signature
no_signature = record { protocol = None; generics = []; requirements = [] }

abbrev pub declared : Key → Standing → RDeclKind → RDecl
declared k s d = record { place = at; name_place = at; key = k; own = k; standing = s; attrs = []; modifiers = []; kind = d }

abbrev pub header : List Text → RHeader
header labels = record { signature = no_signature; parameters = map (λ l. record { place = at; label = l; name = l; written = a_type_name }) labels; result = None }

abbrev pub in_struct : Key → Standing
in_struct t = standing.Braces nominal.Struct t

abbrev pub in_class : Key → Standing
in_class t = standing.Braces nominal.Class t

abbrev pub stored : Standing → Key → RDecl
stored s k = declared k s (kind.Property introducer.Var a_type_name kept.Stored)

abbrev pub computed : Standing → Key → RDecl
computed s k = declared k s (kind.Property introducer.Var a_type_name (kept.Computed true))

abbrev pub reference : Key → RReference
reference k = record { place = at; key = k }

abbrev pub class : Key → Option RReference → RDecl
class k above = declared k standing.TopLevel (kind.Nominal nominal.Class above [])

-- a function that a class declares, and one that overrides its root
abbrev pub class_function : Key → Key → RDecl
class_function c k = declared k (in_class c) (kind.Function (header []))

abbrev pub overriding : Key → Key → Key → RDecl
overriding c root own = record { place = at; name_place = at; key = root; own = own; standing = in_class c; attrs = []; modifiers = []; kind = kind.Function (header []) }

abbrev pub override_of : Key → Text → Key
override_of c n = marked (method_key c n []) mark.Override

abbrev pub unwritten_init : Key → List Text → RDecl
unwritten_init t labels = declared (init t labels) (in_struct t) (kind.Initialiser (header labels))

-- ---- bodies

abbrev pub body : Key → Standing → List Statement → RBody
body k s ss = record {
  owner = k;
  scope = record { role = role.Plain; signature = no_signature; standing = s; declared = record { self_type = None; parameters = []; result = a_type }; self_type = None; result = a_type; locals = [] };
  block = Some (block_of (all_of ss));
}

abbrev pub at_top : Key → List Statement → RBody
at_top k ss = body k standing.TopLevel ss

-- ---- conformances and protocols

abbrev pub met : Key → Key → RWitness
met r member = record { requirement = r; member = Some member; reach = reach.Static }

abbrev pub unmet : Key → RWitness
unmet r = record { requirement = r; member = None; reach = reach.Static }

abbrev pub conformance : Text → Key → Key → List RWitness → List RSubtable → RConformance
conformance m t p ws subtables = record { key = conforming m t p; conformer = t; protocol = reference p; witnesses = ws; types = []; subtables = subtables }

abbrev pub protocol : Key → List RDefault → List RSubtable → RProtocol
protocol p defaults subtables = record { key = p; defaults = defaults; subtables = subtables }

abbrev pub default : Key → Option Key → RDefault
default r member = record { requirement = r; member = member }

-- ---- modules

abbrev pub module_with : ModuleKind → Text → List RDecl → List RDecl → List RProtocol → List RConformance → List RBody → RModule
module_with k n ds memberwise protocols conformances bodies = record { kind = k; name = n; release = None; decls = ds; memberwise = memberwise; protocols = protocols; conformances = conformances; bodies = bodies }

-- a library, or an interface with its inlinable bodies
abbrev pub library : List RDecl → List RBody → RModule
library ds bodies = module_with module_kind.Library lib ds [] [] [] bodies

abbrev pub empty : RModule
empty = library [] []

-- a client with declarations, the initialisers that its structs do not write, bodies, and its top level
abbrev pub client : List RDecl → List RDecl → List RBody → List Statement → RModule
client ds memberwise bodies ss = module_with module_kind.Client main ds memberwise [] [] (at_top start_key ss ∷ bodies)

abbrev pub client_conforming : List RConformance → RModule → RModule
client_conforming conformances m = record m { conformances = conformances }

abbrev pub library_conforming : List RProtocol → List RConformance → RModule → RModule
library_conforming protocols conformances m = record m { protocols = protocols; conformances = conformances }

-- a client that was built against an interface and runs with a library
abbrev pub mixed : RModule → RModule → RModule → MixedProgram
mixed c before after = record { client = c; old = before; new = after }

-- a client that needs no library
abbrev pub alone : RModule → MixedProgram
alone c = mixed c empty empty

-- ---- results

abbrev pub prints : Text → Result
prints s = record { printed = s; «end» = done }

abbrev pub out_after : Text → Result
out_after s = record { printed = s; «end» = ended_by out_of_ticks }

abbrev pub traps : Trap → Text → Result
traps t s = record { printed = s; «end» = ended_by (trapped t) }

-- `unfolding running_statements` lets the statements of a program run, but for the terms in them and for the blocks of bodies
unfoldable pub running_statements : Unit {0}
unfolding run run_body ◌>>=◌ on_store tick write digits same_key look_up tables_of subtable_along declared_by_class implementation_from looped done_by
running_statements = tt

-- `unfolding running` lets it be computed but for the blocks of bodies: each that is entered is rewritten by `block_does_at`
unfoldable pub running : Unit {0}
unfolding running_statements does
running = tt
