-- The resolved trees of a program of the first form. Evaluation reads no place, so each has one and the same.
use Rattle.std.specs.Prelude.{List, [], ◌∷◌, map, codes, Option, Some, None, pos}
use Rattle.std.specs.Option.{option_map}
use Rattle.evo_base.specs.declared.place.Place.{Place}
use Rattle.evo_base.specs.declared.key.Key.{Key}
use Rattle.evo_resolved.specs.declared.resolved_type.RType.{RType}
use Rattle.evo_resolved.specs.declared.resolved_type.RType.TheVariants as type
use Rattle.evo_resolved.specs.declared.expression.Literal.TheVariants as literal
use Rattle.evo_resolved.specs.declared.expression.Reach.TheVariants as reach
use Rattle.evo_resolved.specs.declared.expression.RUse.{RUse}
use Rattle.evo_resolved.specs.declared.expression.Builtin.TheVariants as builtin
use Rattle.evo_resolved.specs.declared.expression.RExpr.{RExpr}
use Rattle.evo_resolved.specs.declared.expression.RExpr.TheVariants as x
use Rattle.evo_resolved.specs.declared.statement.RBlock.{RBlock, roll-RBlock}
use Rattle.evo_resolved.specs.declared.statement.RStmt.{RStmt}
use Rattle.evo_resolved.specs.declared.statement.RStmt.TheVariants as z
use Rattle.evo_resolved.specs.declared.declaration.Standing.TheVariants as standing
use Rattle.evo_resolved.specs.declared.body.BodyRole.{BodyRole}
use Rattle.evo_resolved.specs.declared.body.BodyRole.TheVariants as role
use Rattle.evo_resolved.specs.declared.body.RBody.{RBody}
use Rattle.evo_resolved.specs.declared.module.ModuleKind.{ModuleKind}
use Rattle.evo_resolved.specs.declared.module.ModuleKind.TheVariants as module_kind
use Rattle.evo_resolved.specs.declared.module.RModule.{RModule}
use Rattle.evo_names.specs.Listed.{Text}
use Rattle.evo_names.specs.Keys.{start_key}
use Rattle.evo_first_form.specs.declared.Function.{Function}
use Rattle.evo_first_form.specs.declared.Declaration.{Declaration}
use Rattle.evo_first_form.specs.declared.Print.{Print}
use Rattle.evo_first_form.specs.declared.Term.{Term}
use Rattle.evo_first_form.specs.declared.Term.TheVariants.{Integer, Call}
use Rattle.evo_first_code.specs.Meaning.{Program}
use Rattle.evo_meaning.specs.Programs.{MixedProgram}

abbrev pub at : Place
at = record { line = 1; col = 1 }

-- the only type of the first form
abbrev pub int_type : RType
int_type = type.Named (record { «module» = codes "Swift"; context = codes "Swift" ∷ []; base = codes "Int"; labels = None; part = record { marks = [] } })

abbrev pub function_key : Text → Text → Key
function_key library name = record { «module» = library; context = library ∷ []; base = name; labels = Some []; part = record { marks = [] } }

abbrev pub call_use : Text → Text → RUse
call_use library name = record { place = at; key = function_key library name; reach = reach.Static; written = None; types = []; paths = []; ty = int_type }

abbrev pub expression_of : Text → Term → RExpr
expression_of library (Integer n) = x.Literal (literal.Integer (pos n))
expression_of library (Call name) = x.Call (call_use library name, [])

abbrev pub block_of : List RStmt → RBlock
block_of statements = roll-RBlock (record { statements = statements; «end» = at })

abbrev pub body_of : BodyRole → Key → RType → Option RBlock → RBody
body_of what key result block = record {
  owner = key;
  scope = record {
    role = what;
    signature = record { protocol = None; generics = []; requirements = [] };
    standing = standing.TopLevel;
    declared = record { self_type = None; parameters = []; result = result };
    self_type = None;
    result = result;
    locals = [];
  };
  block = block;
}

-- { return TERM }
abbrev pub returning : Text → Term → RBlock
returning library term = block_of (z.Return at (Some (expression_of library term)) ∷ [])

abbrev pub function_body : Text → Text → Option Term → RBody
function_body library name body = body_of role.Plain (function_key library name) int_type (option_map (returning library) body)

-- print(TERM, TERM ..)
abbrev pub print_statement : Text → Print → RStmt
print_statement library print = z.Expr (x.Builtin at builtin.Print (map (expression_of library) print.terms))

abbrev pub top_body : Text → List Print → RBody
top_body library prints = body_of role.TopLevel start_key type.NoValue (Some (block_of (map (print_statement library) prints)))

abbrev pub module_of : ModuleKind → Text → List RBody → RModule
module_of kind name bodies = record { kind = kind; name = name; release = None; decls = []; memberwise = []; protocols = []; conformances = []; bodies = bodies }

-- the client of these prints, with the bodies that the old interface shows, and the functions of the new library
abbrev pub mixed_program : Text → Program → List Print → MixedProgram
mixed_program library p prints = record {
  client = module_of module_kind.Client (codes "main") (top_body library prints ∷ []);
  old = module_of module_kind.Interface library (map (λ (d : Declaration). function_body library d.name d.body) p.old);
  new = module_of module_kind.Library library (map (λ (f : Function). function_body library f.name (Some f.body)) p.new);
}
