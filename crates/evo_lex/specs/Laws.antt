-- What the definitions of a cut and of a fault say by themselves.
use Rattle.std.specs.Prelude.{◌≡◌, ℕ, List}
use Rattle.evo_base.specs.declared.place.Place.{Place}
use Rattle.evo_base.specs.declared.fault_kind.FaultKind.{FaultKind}
use Rattle.evo_base.specs.declared.token.Token.{Token}
use Rattle.evo_lex.specs.Tokenization.{Tokenization, IsFault}

-- a text has at most one cut into tokens
abbrev pub OneCut : Type 0
OneCut = (text : List ℕ) (a b : List Token) → Tokenization text a → Tokenization text b → a ≡ b

-- a text with a fault has no cut
abbrev pub NoCut : Type 0
NoCut = (text : List ℕ) (kind : FaultKind) (place : Place) (tokens : List Token) → IsFault text kind place → Tokenization text tokens → ⊥

-- a text has at most one fault
abbrev pub OneFault : Type 0
OneFault = (text : List ℕ) (kind kind' : FaultKind) (place place' : Place) → IsFault text kind place → IsFault text kind' place' → (kind ≡ kind') × (place ≡ place')
