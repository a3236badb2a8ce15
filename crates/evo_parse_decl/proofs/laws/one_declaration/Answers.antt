use Rattle.evo_combinators.proofs.Faults.{one_value}
use Rattle.evo_tree.specs.Declarations.{IsDeclaration}
use Rattle.evo_parse_decl.specs.Read.{top_declaration}
use Rattle.evo_parse_decl.specs.Closed.{BlockAt, block_at}
use Rattle.evo_parse_header.proofs.Sets.{In}
use Rattle.evo_parse_decl.proofs.Concrete.{blocks}
use Rattle.evo_parse_decl.proofs.Top.{EndsOf, declarations_grammar}
use Rattle.evo_parse_decl.proofs.laws.one_declaration.Goals as goal

pub returns : goal.returns
returns c = λ interface d e us a b s r. one_value (In (EndsOf BlockAt block_at blocks interface)) (IsDeclaration BlockAt interface) (top_declaration block_at interface) (declarations_grammar BlockAt block_at blocks interface) d e us a b s r
