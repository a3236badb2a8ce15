use Rattle.std.proofs.Common.{◌≡◌, ◌+◌, ◌≤◌, map, drop, min, max, sum}
use Rattle.evo_code.specs.Layouts.{value, largest, most_words}
use Rattle.evo_code.proofs.sizes.+values.Given as goal

abbrev pub invariant-largest_of-loop-part : goal.invariant-largest_of-loop-part
invariant-largest_of-loop-part l = largest (map (value l.sizes) l.parts) ≡ max l.words (largest (map (value l.sizes) (drop l.part-index l.parts)))

abbrev pub invariant-sum_of-loop-part : goal.invariant-sum_of-loop-part
invariant-sum_of-loop-part l = (l.words ≤ most_words) × (min most_words (sum (map (value l.sizes) l.parts)) ≡ min most_words (l.words + sum (map (value l.sizes) (drop l.part-index l.parts))))
