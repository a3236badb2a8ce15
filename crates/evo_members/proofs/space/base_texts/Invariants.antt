use Rattle.std.proofs.Common.{◌≡◌, map, take}
use Rattle.evo_members.specs.Texts.{declared_base}
use Rattle.evo_members.proofs.space.base_texts.Given as goal

abbrev pub invariant-loop-declared : goal.invariant-loop-declared
invariant-loop-declared l = map (λ t. t.now) l.texts.items ≡ map declared_base (take l.declared-index l.declarations)
