use Rattle.std.specs.Prelude.{◌≡◌}
use Rattle.evo_members.specs.declared.located.Located.{Located}
use Rattle.evo_type_names.specs.Known.{is_place}
use Rattle.evo_type_names.proofs.Lists.{NoneBefore}
use Rattle.evo_type_names.proofs.resolving.is_on.Given as goal

abbrev pub invariant-loop-one : goal.invariant-loop-one
invariant-loop-one l = NoneBefore (λ (o : Located). is_place o ≡ is_place l.located) l.stack l.one-index
