use Rattle.std.proofs.Common.{◌∙◌, ◌++◌, ap}
use Rattle.evo_declarations.specs.Views.{key_of_type}
use Rattle.evo_declarations.specs.Worlds.{world_of}
use Rattle.evo_members.specs.Views.{keys_of}
use Rattle.evo_members.proofs.ByBase.{conformed_group}
use Rattle.evo_members.proofs.conforming.push_group.Goals as goal

pub returns : goal.returns
returns c = c.loop-number.invariant ∙ ap (λ ks. keys_of c.args.found.now.items ++ ks) (conformed_group (world_of c.args.space.now.world) c.args.own (key_of_type c.args.key) c.bases_named-numbers.result.now c.loop-number.number-index c.bases_named-numbers.ensures c.loop-number-test.false)
