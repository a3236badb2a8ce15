use Rattle.std.proofs.Common.{◌≡◌, ◌≤◌, ◌^◌, drop}
use Rattle.evo_lex.specs.Characters.{value_of, value_from}
use Rattle.evo_lex.proofs.number.value.Given as goal

abbrev pub invariant-loop-c : goal.invariant-loop-c
invariant-loop-c l = record {
  small : l.value ≤ 2 ^ 63;
  rest : value_of l.base l.digits ≡ value_from l.base l.value (drop l.c-index l.digits);
}
