use Rattle.std.proofs.Common.{◌≡◌, map, take}
use Rattle.evo_members.specs.Texts.{declared_alias}
use Rattle.evo_members.proofs.space.alias_texts.Given as goal

abbrev pub invariant-loop-declared : goal.invariant-loop-declared
invariant-loop-declared l = map (λ t. t.now) l.texts.items ≡ map declared_alias (take l.declared-index l.declarations)
