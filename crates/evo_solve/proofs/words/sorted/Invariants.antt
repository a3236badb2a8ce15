use Rattle.std.proofs.Common.{◌≡◌, [], drop}
use Rattle.evo_solve.specs.Words.{put_all}
use Rattle.evo_solve.proofs.words.sorted.Given as goal

abbrev pub invariant-loop-requirement : goal.invariant-loop-requirement
invariant-loop-requirement l = put_all l.requirements [] ≡ put_all (drop l.requirement-index l.requirements) l.words.items
