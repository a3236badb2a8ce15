-- The keys whose symbols objects have.
use Rattle.std.specs.Prelude.{◌≡◌, ℕ, List, [], ◌∷◌, codes, Some, None}
use Rattle.evo_base.specs.declared.key.Key.{Key}
use Rattle.evo_base.specs.declared.key.Mark.{Mark}
use Rattle.evo_base.specs.declared.key.Mark.TheVariants as mark
use Rattle.evo_code.specs.Symbols.{symbol_text}
use Rattle.evo_execution.specs.Tables.{start_symbol}
use Rattle.evo_first_code.specs.Objects.{symbol_of, copy_symbol}

-- a function of a library, which has no parameters, with these marks behind its name
abbrev pub function_key : List ℕ → List ℕ → List Mark → Key
function_key library name marks = record { «module» = library; context = library ∷ []; base = name; labels = Some []; part = record { marks = marks } }

-- the top level of a client
abbrev pub start_key : Key
start_key = record { «module» = codes "main"; context = []; base = codes "main"; labels = None; part = record { marks = mark.Start ∷ [] } }

-- the symbols of functions, of copies and of the top level are those of their keys
pub record AreKeySymbols : Type 0 where
  pub functions : (library name : List ℕ) → symbol_text (function_key library name []) ≡ symbol_of library name
  pub copies : (library name : List ℕ) → symbol_text (function_key library name (mark.Copy ∷ [])) ≡ copy_symbol library name
  pub start : symbol_text start_key ≡ start_symbol
