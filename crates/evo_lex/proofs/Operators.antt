-- No operator is empty.
use Rattle.std.proofs.Common.{◌≡◌, ℕ, zero, suc, ◌<◌, List, take, true, arith}
use Rattle.evo_lex.specs.Front.{is_operator_word}

pub some_operator : (n : ℕ) (text : List ℕ) → is_operator_word (take n text) ≡ true → 0 < n
unfolding is_operator_word
some_operator zero text e = absurd cc
some_operator (suc n) text e = omega arith
