-- What the definitions of symbols say.
use Rattle.std.specs.Prelude.{◌≡◌, true}
use Rattle.evo_base.specs.declared.key.Key.{Key}
use Rattle.evo_code.specs.Symbols.{symbol_text, is_plain_key}

-- different plain keys have different symbols
abbrev pub DifferentSymbols : Type 0
DifferentSymbols = (a b : Key) → is_plain_key a ≡ true → is_plain_key b ≡ true → symbol_text a ≡ symbol_text b → a ≡ b
