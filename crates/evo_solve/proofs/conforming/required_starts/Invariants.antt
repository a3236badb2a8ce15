use Rattle.evo_solve.specs.Found.{StartsTo, of_word}
use Rattle.evo_solve.proofs.conforming.required_starts.Given as goal

abbrev pub invariant-loop-word : goal.invariant-loop-word
invariant-loop-word l = StartsTo l.classes l.protocols l.words of_word l.word-index l.starts.items
