use Rattle.std.proofs.Common.{◌≡◌, ◌+◌, ◌-◌, ◌≤◌, List, ◌++◌, length, drop}
use Rattle.evo_base.specs.declared.place.Place.{Place}
use Rattle.evo_base.specs.declared.token.Token.{Token}
use Rattle.evo_lex.specs.Tokenization.{CutFrom, BadFrom, beyond, origin}
use Rattle.evo_lex.proofs.lexer.cut.Given as goal

abbrev pub invariant-loop-read : goal.invariant-loop-read
invariant-loop-read l = record {
  within : l.read ≤ length l.text;
  line : l.spot.place.line ≤ l.spot.at + 1;
  column : l.spot.place.col ≤ l.spot.at + 1;
  end : beyond l.text origin ≡ beyond (drop l.read l.text) l.spot;
  found : (rest : List Token) → CutFrom l.spot (drop l.read l.text) rest → CutFrom origin l.text (l.tokens.items ++ rest);
  bad : (place : Place) → BadFrom l.spot (drop l.read l.text) place → BadFrom origin l.text place;
}

abbrev pub decreases-loop-read : goal.decreases-loop-read
decreases-loop-read l = length l.text - l.read
