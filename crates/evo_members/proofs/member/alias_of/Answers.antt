use Rattle.evo_declarations.specs.Views.{key_of_type}
use Rattle.evo_declarations.specs.Worlds.{world_of}
use Rattle.evo_members.specs.Located.{around_of}
use Rattle.evo_members.specs.Sought.{test_of}
use Rattle.evo_members.proofs.Members.{both_aliases, in_front, behind_front}
use Rattle.evo_members.proofs.member.alias_of.Goals as goal

pub returns-in-Some : goal.returns-in-Some
returns-in-Some c = in_front _ _ _ _ (both_aliases (test_of (world_of c.args.space.now.world) c.args.sought.test) (around_of c.args.around) c.args.sought.name.now (world_of c.args.space.now.world) (key_of_type c.args.key)) c.in-Some.ensures

pub returns-in-None : goal.returns-in-None
returns-in-None c = behind_front _ _ _ _ (both_aliases (test_of (world_of c.args.space.now.world) c.args.sought.test) (around_of c.args.around) c.args.sought.name.now (world_of c.args.space.now.world) (key_of_type c.args.key)) c.in-None.ensures c.alias_in-in-None.ensures
