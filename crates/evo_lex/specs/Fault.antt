-- Facts where there are no tokens.
use Rattle.evo_base.specs.declared.place.Place.{Place}
use Rattle.evo_base.specs.declared.fault_kind.FaultKind.{FaultKind}
use Rattle.evo_lex.specs.declared.lexer.LexFault.{LexFault}
use Rattle.evo_lex.specs.declared.lexer.LexFault.TheVariants as fault

-- a fact of the kind and the place where the fault is the text's
abbrev pub OnBad : LexFault → (FaultKind → Place → Type 0) → Type 0
OnBad (fault.Bad kind place) P = P kind place
OnBad fault.Memory P = Unit {0}
