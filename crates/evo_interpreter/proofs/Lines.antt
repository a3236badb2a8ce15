-- Lines of words, from left to right.
use Rattle.std.proofs.Common.{◌≡◌, ℕ, List, [], ◌∷◌, ◌++◌, Result, Ok, Err, refl, ap, ◌∙◌, append_assoc}
use Rattle.evo_execution.specs.Words.{Answer, Got, Stops, and_then, line_of}
use Rattle.evo_interpreter.specs.Lines.{behind}
use Rattle.evo_interpreter.specs.States.{Adds}
use Rattle.evo_interpreter.specs.declared.halt.Halt.{Halt}
use Rattle.evo_interpreter.specs.declared.halt.Halt.TheVariants as halt

line_of-cons : (t : List ℕ) (ts : List (List ℕ)) → line_of (t ∷ ts) ≡ t ++ behind ts
line_of-cons t [] = refl
line_of-cons t (u ∷ us) = ap (λ (s : List ℕ). t ++ 32 ∷ s) (line_of-cons u us)

got-is : (a b : List ℕ) → Got a ≡ Got b → a ≡ b
got-is a b e = cc

-- the first text of a line, and what was put behind it
pub line-first : {A : Type 0} → (r : Result A Halt) (old mid new t : List ℕ) (ts : Answer (List (List ℕ))) → mid ≡ old ++ t → Adds r mid new (and_then ts (λ ts. Got (behind ts))) → Adds r old new (and_then (and_then ts (λ ts. Got (t ∷ ts))) (λ ts. Got (line_of ts)))
line-first (Ok x) old mid new t (Got ts) e h = (t ++ h.0, h.1 ∙ (ap (λ (s : List ℕ). s ++ h.0) e ∙ append_assoc old t h.0), ap (λ s. Got s) (line_of-cons t ts ∙ ap (λ (s : List ℕ). t ++ s) (got-is (behind ts) h.0 h.2)))
line-first (Ok x) old mid new t (Stops f) e h = absurd (let k = h.2 in cc)
line-first (Err (halt.Stop s)) old mid new t (Got ts) e h = absurd cc
line-first (Err (halt.Stop s)) old mid new t (Stops f) e h = h
line-first (Err halt.Memory) old mid new t ts e h = tt
