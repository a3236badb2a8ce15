-- Frames of the machine: how a proof tells them apart, and what fits into the newest.
use Rattle.std.specs.Prelude.{ℕ, ◌+◌, List, [], ◌∷◌, length, Bool, false, nat_le}
use Rattle.std.specs.Coded.{Coded, code_by, coded×, coded_list, coded_ℕ}
use mathlib.Core.Path.{refl}
use Rattle.evo_execution.specs.Words.{Word}
use Rattle.evo_interpreter.specs.declared.state.Frame.{Frame}
use Rattle.evo_interpreter.specs.Words.{word_code}

abbrev pub declared_frame_code : Coded Frame
declared_frame_code =
    code_by (ℕ × (ℕ × (List Word × ℕ))) (coded× coded_ℕ (coded× coded_ℕ (coded× (coded_list word_code) coded_ℕ))) (λ f. (f.function, (f.at, (f.words, f.to)))) (λ p. record { function = p.0; at = p.1.0; words = p.1.1.0; to = p.1.1.1 }) (λ _. refl)

-- whether so many words lie inside of the newest frame from a place on
abbrev pub newest_takes : List Frame → ℕ → ℕ → Bool
newest_takes [] at n = false
newest_takes (f ∷ fs) at n = nat_le (at + n) (length f.words)
