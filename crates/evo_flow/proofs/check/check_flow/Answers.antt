use Rattle.std.proofs.Common.{◌∙◌, sym}
use Rattle.evo_flow.specs.Scenes.{scene_of}
use Rattle.evo_flow.proofs.Exact.{sound, complete}
use Rattle.evo_flow.proofs.check.check_flow.Goals as goal

pub returns-in-Some : goal.returns-in-Some
returns-in-Some c = sound (scene_of c.args.site) c.args.body.now c.in-Some.fault (sym c.body_verdict.ensures ∙ c.in-Some.is)

pub returns-in-None : goal.returns-in-None
returns-in-None c = complete (scene_of c.args.site) c.args.body.now (sym c.body_verdict.ensures ∙ c.in-None.is)
