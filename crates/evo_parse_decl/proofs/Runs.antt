-- A run behind what was found before it.
use Rattle.std.proofs.Common.{◌≡◌, ◌-◌, Bool, List, length, arith, ap}
use Rattle.evo_combinators.specs.Guard.{run, run_from}
use Rattle.evo_combinators.specs.Reader.{with_front}
use Rattle.evo_combinators.proofs.RunTurns.{RunAfter}
use Rattle.evo_parse_expr.specs.Read.{Reader}
use Rattle.evo_tree.specs.Pieces.{Piece}

pub run_begin : {B State : Type 0} (g : State → Piece → Bool) (q : State → Reader B) (next : State → B → State) (s : State) (found : List B) (ts : List Piece) →
    with_front found (run g q next s ts) ≡ RunAfter g q next (length ts - 0) found s ts
unfolding run
run_begin g q next s found ts = let n : length ts ≡ length ts - 0 = omega arith in ap (λ k. with_front found (run_from g q next k s ts)) n
