use Rattle.evo_resolved.specs.Indexed.{Indexed}
use Rattle.evo_resolved.proofs.keyed.index_of.Given as goal

abbrev pub invariant-loop-i : goal.invariant-loop-i
invariant-loop-i g l = Indexed g.T.Keyed.own l.items l.i l.ix
