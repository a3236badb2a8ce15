-- The first fault of a body, computed.
use Rattle.std.specs.Prelude.{Bool, ◌||◌, ◌&&◌, List, [], ◌∷◌, Option, Some, None, if◌then◌else◌}
use Rattle.evo_base.specs.declared.place.Place.{Place}
use Rattle.evo_base.specs.declared.key.Key.{Key}
use Rattle.evo_resolved.specs.declared.declaration.RDecl.{RDecl}
use Rattle.evo_base.specs.declared.fault_kind.FaultKind.TheVariants as kind
use Rattle.evo_tree.specs.declared.module.SourceFault.{SourceFault}
use Rattle.evo_resolved.specs.declared.statement.RBlock.{RBlock, out-RBlock}
use Rattle.evo_resolved.specs.declared.body.RBody.{RBody}
use Rattle.evo_flow.specs.Types.{has_value}
use Rattle.evo_flow.specs.declared.flow.Fact.{Fact}
use Rattle.evo_flow.specs.declared.flow.Fact.TheVariants as fact
use Rattle.evo_flow.specs.declared.flow.Out.{Out}
use Rattle.evo_flow.specs.Act.{act, fault}
use Rattle.evo_flow.specs.Trees.{block_way}
use Rattle.evo_flow.specs.Flows.{first, flow}
use Rattle.evo_flow.specs.Text.{outside, block_faults, first_of}
use Rattle.evo_flow.specs.Scenes.{Scene, is_stored_of}
use Rattle.evo_flow.specs.Faults.{Due, property, facts, whole}

abbrev pub return_fault : Bool → Out → Place → Option SourceFault
return_fault due o end = if due && (o.next.undone || o.next.done) then Some (fault kind.MissingReturn end) else None

abbrev pub fact_fault : RBlock → Due → Option SourceFault
fact_fault k d = (flow (act d.0 d.1) (whole k)).undone.fault

abbrev pub facts_fault : RBlock → List Due → Option SourceFault
facts_fault k [] = None
facts_fault k (d ∷ ds) = first (fact_fault k d) (facts_fault k ds)

abbrev pub lead_fault : RBlock → Option Fact → Key → Option SourceFault
lead_fault k (Some f) key = fact_fault k (f, key)
lead_fault k None key = None

abbrev pub property_fault : RBlock → Key → RDecl → Option SourceFault
property_fault k key d = if is_stored_of key d then fact_fault k (property d) else None

abbrev pub end_fault : RBody → RBlock → Option SourceFault
end_fault b k = return_fault (has_value b.scope.result) (flow (act fact.Reached b.owner) (block_way k)).undone (out-RBlock k).end

abbrev pub path_fault : Scene → RBody → RBlock → Option SourceFault
path_fault c b k = first (end_fault b k) (facts_fault k (facts c b k))

abbrev pub verdict : Scene → RBody → RBlock → Option SourceFault
verdict c b k = first (first_of (block_faults c k outside)) (path_fault c b k)

abbrev pub body_verdict : Scene → RBody → Option RBlock → Option SourceFault
body_verdict c b (Some k) = verdict c b k
body_verdict c b None = None
