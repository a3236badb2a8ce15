-- Two truth values that say the same are equal.
use Rattle.std.proofs.Common.{◌≡◌, ◌↔◌, Bool, true, false, refl, IsTrue}

pub one_truth : {P : Type 0} (b c : Bool) → (IsTrue b ↔ P) → (IsTrue c ↔ P) → b ≡ c
one_truth true true e f = refl
one_truth true false e f = absurd (cc (f.1 (e.0 refl)))
one_truth false true e f = absurd (cc (e.1 (f.0 refl)))
one_truth false false e f = refl
