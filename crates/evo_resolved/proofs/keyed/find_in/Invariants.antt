use Rattle.std.proofs.Common.{length}
use Rattle.evo_resolved.specs.Found.{Sought}
use Rattle.evo_resolved.specs.Indexed.{bucket}
use Rattle.evo_resolved.proofs.Walking.{Walked, position}
use Rattle.evo_resolved.proofs.keyed.find_in.Given as goal

abbrev pub invariant-walk : goal.invariant-walk
invariant-walk g l = Walked g.T.Keyed.own (bucket l.key) l.items (length l.items) (Sought g.T.Keyed.own g.T.Keyed.is_named l.key) l.at

abbrev pub decreases-walk : goal.decreases-walk
decreases-walk g l = position l.at
