use Rattle.evo_combinators.proofs.Faults.{one_value}
use Rattle.evo_tree.specs.Statements.{IsBlock}
use Rattle.evo_parse_stmt.specs.Read.{block}
use Rattle.evo_combinators.proofs.Sequences.{Anything}
use Rattle.evo_parse_stmt.proofs.Family.{block_grammar}
use Rattle.evo_parse_stmt.proofs.laws.one_block.Goals as goal

pub returns : goal.returns
returns c = λ inits d e us a b s r. one_value Anything (IsBlock inits) (block inits) (block_grammar inits) d e us a b s r
