use Rattle.std.proofs.Common.{ap, sym, ◌∙◌, map}
use Rattle.std.specs.List.{filter}
use Rattle.evo_flow.specs.Flows.{first}
use Rattle.evo_flow.specs.Scenes.{is_stored_of, scene_of}
use Rattle.evo_flow.specs.Faults.{property}
use Rattle.evo_flow.specs.Verdict.{facts_fault}
use Rattle.evo_flow.proofs.Properties.{faults_both}
use Rattle.evo_flow.proofs.check.stored_fault.Goals as goal

pub returns-in-Some : goal.returns-in-Some
returns-in-Some c =
    let b = c.args.block.now in let k = c.args.key.now in let s = scene_of c.args.site in
    let other = facts_fault b (map property (filter (is_stored_of k) s.imported)) in
    sym (faults_both b k s.own s.imported ∙ ap (λ o. first o other) (sym c.properties_fault.ensures ∙ c.in-Some.is))

pub returns-in-None : goal.returns-in-None
returns-in-None c =
    let b = c.args.block.now in let k = c.args.key.now in let s = scene_of c.args.site in
    let other = facts_fault b (map property (filter (is_stored_of k) s.imported)) in
    c.properties_fault-in-None.ensures ∙ sym (faults_both b k s.own s.imported ∙ ap (λ o. first o other) (sym c.properties_fault.ensures ∙ c.in-None.is))
