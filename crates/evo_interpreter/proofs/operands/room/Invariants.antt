use Rattle.std.proofs.Common.{◌≡◌, ◌+◌, ◌≤◌, map, drop, min, sum}
use Rattle.evo_code.specs.Layouts.{value, most_words}
use Rattle.evo_interpreter.proofs.operands.room.Given as goal

abbrev pub invariant-loop-layout : goal.invariant-loop-layout
invariant-loop-layout l = (l.words ≤ most_words) × (min most_words (sum (map (value l.sizes) l.layouts)) ≡ min most_words (l.words + sum (map (value l.sizes) (drop l.layout-index l.layouts))))
