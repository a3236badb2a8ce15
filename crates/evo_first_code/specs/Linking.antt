-- What linking answers.
use Rattle.std.specs.Prelude.{◌≡◌, ◌≢◌, ◌⊎◌, ℕ, List, ◌++◌, Contains, IsSome, None, Some, false, Result, Ok, Err, slice_get}
use Rattle.evo_base.specs.Names.{position_of, AreDistinct}
use Rattle.evo_code.specs.declared.object.Function.{Function}
use Rattle.evo_code.specs.declared.object.Import.{Import}
use Rattle.evo_code.specs.declared.object.Object.{Object}
use Rattle.evo_code.specs.declared.image.Image.{Image}
use Rattle.evo_execution.specs.Tables.{symbols_of, start_symbol}
use Rattle.evo_first_code.specs.declared.linker.LinkFault.{LinkFault}
use Rattle.evo_first_code.specs.declared.linker.LinkFault.TheVariants as fault
use Rattle.evo_first_code.specs.Works.{linked, is_exported, AreExported, LinksWith}

-- this symbol stands at two places
pub record StandsTwice (symbol : List ℕ) (symbols : List (List ℕ)) : Type 0 where
  pub first : ℕ
  pub second : ℕ
  pub apart : first ≢ second
  pub at_first : slice_get symbols first ≡ Some symbol
  pub at_second : slice_get symbols second ≡ Some symbol

-- the symbols of functions, or one that is there twice
abbrev pub TableOf : List Function → Result (List (List ℕ)) LinkFault → Type 0
TableOf functions (Ok table) = (table ≡ symbols_of functions) × AreDistinct table
TableOf functions (Err (fault.Twice symbol)) = StandsTwice symbol (symbols_of functions)
TableOf functions (Err (fault.Missing symbol)) = ⊥
TableOf functions (Err fault.Memory) = Unit {0}

-- the second list begins with the first
abbrev pub BeginsWith : List (List ℕ) → List (List ℕ) → Type 0
BeginsWith front all = (rest : List (List ℕ)) × (all ≡ front ++ rest)

-- this symbol is needed, and what should define it does not export it
pub record IsMissing (functions : List Function) (imports : List Import) (symbol : List ℕ) : Type 0 where
  pub needs : Import
  pub stands : Contains imports needs
  pub symbol_is : symbol ≡ needs.symbol
  pub absent : is_exported functions needs ≡ false

-- all are exported, or the symbol of one that is not
abbrev pub Exports : List Function → List Import → Result (Unit {0}) LinkFault → Type 0
Exports functions imports (Ok x) = AreExported functions imports
Exports functions imports (Err (fault.Twice symbol)) = ⊥
Exports functions imports (Err (fault.Missing symbol)) = IsMissing functions imports symbol
Exports functions imports (Err fault.Memory) = Unit {0}

-- What the library's functions need, the client's export, or why not.
abbrev pub ChecksOwn : List Function → List Import → Result (Unit {0}) LinkFault → Type 0
ChecksOwn own needed (Ok x) = AreExported own needed
ChecksOwn own needed (Err (fault.Twice symbol)) = StandsTwice symbol (symbols_of own)
ChecksOwn own needed (Err (fault.Missing symbol)) = IsMissing own needed symbol
ChecksOwn own needed (Err fault.Memory) = Unit {0}

-- What the client's functions need, the library's export, and there is a top level among all symbols, or why not.
abbrev pub ChecksAll : List Function → List (List ℕ) → List Import → Result (Unit {0}) LinkFault → Type 0
ChecksAll theirs symbols imports (Ok x) = AreExported theirs imports × IsSome (position_of start_symbol symbols)
ChecksAll theirs symbols imports (Err (fault.Twice symbol)) = ⊥
ChecksAll theirs symbols imports (Err (fault.Missing symbol)) = IsMissing theirs imports symbol ⊎ ((symbol ≡ start_symbol) × (position_of symbol symbols ≡ None))
ChecksAll theirs symbols imports (Err fault.Memory) = Unit {0}

-- Why functions of a library and of a client make no image: a symbol is defined twice, what one needs the other does not export, or
-- there is no top level.
abbrev pub IsLinkFault : List Function → List Function → List Import → List Import → LinkFault → Type 0
IsLinkFault theirs own needed imports (fault.Twice symbol) = StandsTwice symbol (symbols_of (theirs ++ own))
IsLinkFault theirs own needed imports (fault.Missing symbol) =
    IsMissing own needed symbol ⊎ (IsMissing theirs imports symbol ⊎ ((symbol ≡ start_symbol) × (position_of symbol (symbols_of (theirs ++ own)) ≡ None)))
IsLinkFault theirs own needed imports fault.Memory = Unit {0}

-- functions that make an image
pub record FitTogether (theirs own : List Function) (needed imports : List Import) : Type 0 where
  pub distinct : AreDistinct (symbols_of (theirs ++ own))
  pub library_needs : AreExported own needed
  pub client_needs : AreExported theirs imports
  pub starts : IsSome (position_of start_symbol (symbols_of (theirs ++ own)))

abbrev pub Checks : List Function → List Function → List Import → List Import → Result (Unit {0}) LinkFault → Type 0
Checks theirs own needed imports (Ok x) = FitTogether theirs own needed imports
Checks theirs own needed imports (Err e) = IsLinkFault theirs own needed imports e

-- the library's functions and then the client's, where they make an image
abbrev pub Joins : List Function → List Function → List Import → List Import → Result (List Function) LinkFault → Type 0
Joins theirs own needed imports (Ok functions) = (functions ≡ theirs ++ own) × FitTogether theirs own needed imports
Joins theirs own needed imports (Err e) = IsLinkFault theirs own needed imports e

-- the image, or why there is none
abbrev pub Links : Object → Object → Result Image LinkFault → Type 0
Links library client (Ok image) = (image ≡ linked library client) × LinksWith library client
Links library client (Err e) = IsLinkFault library.functions client.functions library.imports client.imports e
