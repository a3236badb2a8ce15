use Rattle.std.proofs.Common.{◌≡◌, ◌++◌, flat_map, map, take}
use Rattle.evo_meeting.specs.Candidates.{ended}
use Rattle.evo_meeting.proofs.buckets.push_names.Given as goal

abbrev pub invariant-loop-name : goal.invariant-loop-name
invariant-loop-name l = l.text.items ≡ l.initial.text.items ++ flat_map (ended 58) (map (λ t. t.now) (take l.name-index l.names))
