use Rattle.evo_combinators.proofs.Faults.{one_value}
use Rattle.evo_tree.specs.Modules.{Parts}
use Rattle.evo_parse_decl.specs.ReadModules.{parts}
use Rattle.evo_parse_decl.specs.Closed.{BlockAt, block_at, StmtAt, stmt_at}
use Rattle.evo_parse_decl.proofs.ModuleParts.{End}
use Rattle.evo_parse_decl.proofs.Whole.{module_grammar}
use Rattle.evo_parse_decl.proofs.laws.one_module.Goals as goal

pub returns : goal.returns
returns c f d e us a b s r = one_value End (λ d. Parts BlockAt StmtAt f d) (λ d. parts block_at stmt_at f d) (module_grammar f) d e us a b s r
