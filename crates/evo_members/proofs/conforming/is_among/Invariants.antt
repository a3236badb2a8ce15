use Rattle.std.proofs.Common.{◌≡◌, drop}
use Rattle.evo_declarations.specs.Views.{key_of_type}
use Rattle.evo_members.specs.Views.{keys_of}
use Rattle.evo_names.specs.Heads.{is_among}
use Rattle.evo_members.proofs.conforming.is_among.Given as goal

abbrev pub invariant-loop-other : goal.invariant-loop-other
invariant-loop-other l = is_among (key_of_type l.fn.key) (keys_of l.keys) ≡ is_among (key_of_type l.fn.key) (keys_of (drop l.other-index l.keys))
