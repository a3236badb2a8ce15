-- How terminals are written: those of one text, names, integers and strings.
use Rattle.std.specs.Prelude.{ℕ, List}
use Rattle.std.specs.Fmt.{decimal}
use Rattle.evo_base.specs.declared.token.TokenKind.TheVariants as kind
use Rattle.evo_tree.specs.declared.terminal.Role.TheVariants as role
use Rattle.evo_tree.specs.declared.terminal.Terminal.{Terminal}
use Rattle.evo_tree.specs.Canonical.{string_text}
use Rattle.evo_round_trip.proofs.Written.{Written}
use Rattle.evo_round_trip.proofs.TokensOfTerminals.{spelled}

-- a terminal of one text, without a role
abbrev pub sign : List ℕ → Terminal → Written
sign gap k = spelled gap k role.Unattached

abbrev pub named : List ℕ → List ℕ → Written
named gap text = record { gap = gap; kind = kind.Identifier; text = text; role = role.Unattached }

abbrev pub numeral : List ℕ → ℕ → Written
numeral gap n = record { gap = gap; kind = kind.Integer; text = decimal n; role = role.Unattached }

abbrev pub quoted : List ℕ → List ℕ → Written
quoted gap cs = record { gap = gap; kind = kind.String; text = string_text cs; role = role.Unattached }
