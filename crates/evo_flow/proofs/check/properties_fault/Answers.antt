use Rattle.std.proofs.Common.{◌+◌, ap, sym, ◌∙◌, map, drop}
use Rattle.std.specs.List.{filter}
use Rattle.evo_flow.specs.Flows.{first}
use Rattle.evo_flow.specs.Scenes.{is_stored_of}
use Rattle.evo_flow.specs.Faults.{property}
use Rattle.evo_flow.specs.Verdict.{facts_fault}
use Rattle.evo_flow.proofs.Properties.{step_properties}
use Rattle.evo_flow.proofs.check.properties_fault.Goals as goal

pub returns-in-Some : goal.returns-in-Some
returns-in-Some c =
    let b = c.args.block.now in let k = c.args.key.now in let ds = c.args.declarations.now in
    let i = c.loop-declaration.declaration-index in
    let e = step_properties b k ds i c.declaration-item.result _ c.property_fault.result c.loop-declaration-test.true c.declaration-item.is c.loop-declaration.invariant c.property_fault.ensures in
    sym (e ∙ ap (λ o. first o (facts_fault b (map property (filter (is_stored_of k) (drop (i + 1) ds))))) c.in-Some.is)

pub loop-declaration-preserved : goal.loop-declaration-preserved
loop-declaration-preserved c =
    let b = c.args.block.now in let k = c.args.key.now in let ds = c.args.declarations.now in
    let i = c.loop-declaration.declaration-index in
    let e = step_properties b k ds i c.declaration-item.result _ c.property_fault.result c.loop-declaration-test.true c.declaration-item.is c.loop-declaration.invariant c.property_fault.ensures in
    e ∙ ap (λ o. first o (facts_fault b (map property (filter (is_stored_of k) (drop (i + 1) ds))))) c.in_default.is
