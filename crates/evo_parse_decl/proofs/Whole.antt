-- Declarations and whole modules of each form, over blocks and statements: what is read, and which tokens open a nesting.
use Rattle.std.proofs.Common.{ℕ, Bool}
use Rattle.evo_combinators.specs.Laws.{GrammarOf}
use Rattle.evo_tree.specs.declared.scope.Scope.{Scope}
use Rattle.evo_tree.specs.declared.module.Form.{Form}
use Rattle.evo_tree.specs.declared.module.Form.TheVariants as form
use Rattle.evo_tree.specs.Declarations.{DeclarationOf, MemberKind}
use Rattle.evo_tree.specs.Modules.{Parts}
use Rattle.evo_parse_expr.proofs.Nesting.{ReadsInner}
use Rattle.evo_parse_stmt.specs.Read.{later}
use Rattle.evo_parse_decl.specs.ReadModules.{parts}
use Rattle.evo_parse_decl.specs.Closed.{BlockAt, StmtAt, block_at, stmt_at, member_at}
use Rattle.evo_parse_decl.proofs.Concrete.{blocks}
use Rattle.evo_parse_decl.proofs.Top.{nest_in_braces}
use Rattle.evo_parse_decl.proofs.ModuleParts.{End, library_grammar, interface_grammar, nest_library, nest_interface}
use Rattle.evo_parse_decl.proofs.ClientParts.{client_grammar, nest_client}

-- ---- declarations

pub nest_member : (interface : Bool) (s : Scope) (d n : ℕ) → ReadsInner d n (DeclarationOf s d (MemberKind BlockAt interface s d)) (member_at interface s d)
nest_member = nest_in_braces BlockAt block_at blocks

-- ---- modules

pub module_grammar : (f : Form) → GrammarOf End (λ d. Parts BlockAt StmtAt f d) (λ d. parts block_at stmt_at f d)
unfolding later
module_grammar (form.Library n) = library_grammar BlockAt block_at blocks StmtAt stmt_at n
module_grammar form.Interface = interface_grammar BlockAt block_at blocks StmtAt stmt_at
module_grammar form.Client = client_grammar

pub nest_module : (f : Form) (d n : ℕ) → ReadsInner d n (Parts BlockAt StmtAt f d) (parts block_at stmt_at f d)
unfolding later
nest_module (form.Library n) = nest_library BlockAt block_at blocks StmtAt stmt_at n
nest_module form.Interface = nest_interface BlockAt block_at blocks StmtAt stmt_at
nest_module form.Client = nest_client
