use Rattle.std.proofs.Common.{◌≡◌, ◌+◌, drop, if◌then◌else◌}
use Rattle.evo_type_names.specs.Prefixes.{number_from}
use Rattle.evo_type_names.proofs.beginning.numbered.Given as goal

abbrev pub invariant-loop-number : goal.invariant-loop-number
invariant-loop-number l = number_from (if l.behind_self then 1 else 0) l.name l.generics ≡ number_from ((if l.behind_self then 1 else 0) + l.number) l.name (drop l.number l.generics)
