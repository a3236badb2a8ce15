-- What a fault of the parser of expressions says.
use Rattle.std.specs.Prelude.{◌≡◌, ℕ, ◌-◌, List, length}
use Rattle.evo_base.specs.declared.token.Token.{Token}
use Rattle.evo_combinators.specs.declared.Fault.TheVariants.{Grammar, Deep}
use Rattle.evo_combinators.specs.declared.ReadError.{ReadError}
use Rattle.evo_combinators.specs.declared.ReadError.TheVariants as errors
use Rattle.evo_tree.specs.Pieces.{pieces}
use Rattle.evo_parse_expr.specs.declared.parse.ParseFault.{ParseFault}
use Rattle.evo_parse_expr.specs.declared.parse.ParseFault.TheVariants as fault
use Rattle.evo_parse_expr.specs.Contract.{IsRefusedAt, IsDeepAt, place_at}

-- the place of a fault is so many tokens before the end
abbrev pub Places : List ℕ → List Token → ReadError → ParseFault → Type 0
Places text tokens errors.Memory p = p ≡ fault.Memory
Places text tokens (errors.Fault (Grammar left)) p = p ≡ fault.Grammar (place_at text tokens (length tokens - left))
Places text tokens (errors.Fault (Deep left)) p = p ≡ fault.Deep (place_at text tokens (length tokens - left))

-- the fault of what begins with token number `at`, where so much nesting may open
abbrev pub IsFault : ℕ → List ℕ → List Token → ℕ → ParseFault → Type 0
IsFault d text tokens at (fault.Grammar place) = (end : ℕ) × IsRefusedAt d (pieces text tokens) at end × (place ≡ place_at text tokens end)
IsFault d text tokens at (fault.Deep place) = (end : ℕ) × IsDeepAt d (pieces text tokens) at end × (place ≡ place_at text tokens end)
IsFault d text tokens at fault.Memory = Unit {0}
