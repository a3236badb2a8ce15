-- Spots behind characters.
use Rattle.std.proofs.Common.{◌≡◌, ℕ, zero, suc, ◌+◌, ◌≤◌, List, [], ◌∷◌, take, drop, length, refl, arith, le_refl, le_trans}
use Rattle.std.specs.Char.{encode_utf8}
use Rattle.std.specs.Str.{encode_utf8_all}
use Rattle.std.proofs.lemmas.Str.{length-encode}
use Rattle.std.proofs.lemmas.List.{length-append}
use Rattle.evo_lex.specs.declared.spot.Position.{Position}
use Rattle.evo_lex.specs.Tokenization.{beyond, behind}

pub forward : (cs : List ℕ) (s : Position) → s.at ≤ (beyond cs s).at
forward [] s = le_refl _
forward (c ∷ cs) s = let step : s.at ≤ (behind c s).at = omega arith in le_trans step (forward cs (behind c s))

pub split : (n : ℕ) (cs : List ℕ) (s : Position) → beyond (drop n cs) (beyond (take n cs) s) ≡ beyond cs s
split zero cs s = refl
split (suc n) [] s = refl
split (suc n) (c ∷ cs) s = split n cs (behind c s)

-- a spot's bytes are those of the characters before it
pub bytes : (cs : List ℕ) (s : Position) → (beyond cs s).at ≡ s.at + length (encode_utf8_all cs)
bytes [] s = omega arith
bytes (c ∷ cs) s =
    let rest = bytes cs (behind c s) in
    let one = length-encode c in
    let all = length-append (encode_utf8 c) (encode_utf8_all cs) in
    omega arith
