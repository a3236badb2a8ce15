-- What a writer holds after several writes of one piece.
use Rattle.std.proofs.Common.{◌≡◌, ℕ, ◌+◌, ◌≤◌, List, [], ◌++◌, take, drop, length, ◌-◌, Option, Some, None, sym, ◌∙◌, ap, append_assoc, arith}
use Rattle.std.proofs.Math.Seq.{take-add}
use Rattle.std.proofs.lemmas.List.{append-nil}
use Rattle.std.proofs.lemmas.Grind.{common_steps}
use Rattle.std.specs.Io.KnownBytes.{Appends, Keeps}

rest_is : (k : ℕ) (piece : List ℕ) → take (length piece - k) (drop k piece) ≡ drop k piece
rest_is k piece = grind (arith, common_steps)

-- so much of what is left is within the piece
pub fits_behind : (k n : ℕ) (piece : List ℕ) → k ≤ length piece → n ≤ length (take (length piece - k) (drop k piece)) → k + n ≤ length piece
fits_behind k n piece le fits = grind (arith, common_steps)

-- a further write of what is left of the piece
further : (old mid new : Option (List ℕ)) (k n : ℕ) (piece : List ℕ) → Appends old mid (take k piece) → Appends mid new (take n (drop k piece)) → Appends old new (take (k + n) piece)
further None mid new k n piece p q = tt
further (Some o) None new k n piece p q = absurd p
further (Some o) (Some m) None k n piece p q = absurd q
further (Some o) (Some m) (Some w) k n piece p q = q ∙ ap (λ (z : List ℕ). z ++ take n (drop k piece)) p ∙ append_assoc o (take k piece) (take n (drop k piece)) ∙ ap (λ (z : List ℕ). o ++ z) (sym (take-add k n piece))

pub Appends-further : (old mid new : Option (List ℕ)) (k n : ℕ) (piece : List ℕ) → Appends old mid (take k piece) → Appends mid new (take n (take (length piece - k) (drop k piece))) → Appends old new (take (k + n) piece)
Appends-further old mid new k n piece p q = further old mid new k n piece p (rw rest_is at q)

-- what was known stays known
pub Appends-keeps : (old mid new : Option (List ℕ)) (piece : List ℕ) → Appends old mid piece → Keeps mid new → Appends old new piece
Appends-keeps None mid new piece p q = tt
Appends-keeps (Some o) None new piece p q = absurd p
Appends-keeps (Some o) (Some m) None piece p q = absurd q
Appends-keeps (Some o) (Some m) (Some w) piece p q = q ∙ p
