use Rattle.std.specs.Prelude.{◌≡◌}
use Rattle.evo_type_names.specs.declared.known.Known.{Known}
use Rattle.evo_type_names.specs.Known.{is_place}
use Rattle.evo_type_names.proofs.Lists.{NoneBefore}
use Rattle.evo_type_names.proofs.known.known_at.Given as goal

abbrev pub invariant-loop-one : goal.invariant-loop-one
invariant-loop-one l = NoneBefore (λ (k : Known). is_place k.located ≡ is_place l.located) l.known l.one-index
