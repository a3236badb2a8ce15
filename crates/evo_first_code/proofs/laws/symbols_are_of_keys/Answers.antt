use Rattle.evo_first_code.proofs.KeySymbols.{key_symbols}
use Rattle.evo_first_code.proofs.laws.symbols_are_of_keys.Goals as goal

pub returns : goal.returns
returns c = key_symbols
