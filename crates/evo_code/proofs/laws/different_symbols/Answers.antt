use Rattle.evo_code.proofs.DifferentSymbols.{different_symbols}
use Rattle.evo_code.proofs.laws.different_symbols.Goals as goal

pub returns : goal.returns
returns c = different_symbols
