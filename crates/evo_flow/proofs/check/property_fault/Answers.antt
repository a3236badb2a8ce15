use Rattle.std.proofs.Common.{◌≡◌, Bool, true, None, Option, ap, sym, ◌∙◌, if◌then◌else◌}
use Rattle.evo_tree.specs.declared.module.SourceFault.{SourceFault}
use Rattle.evo_flow.specs.declared.flow.Fact.TheVariants as fact
use Rattle.evo_flow.specs.Faults.{property}
use Rattle.evo_flow.specs.Verdict.{fact_fault}
use Rattle.evo_flow.proofs.check.property_fault.Goals as goal

pub returns-then-is_stored_of : goal.returns-then-is_stored_of
returns-then-is_stored_of c =
    let d = c.args.declaration.now in
    let own = fact_fault c.args.block.now (property d) in
    let P : Bool → Option SourceFault = λ b. if b then own else None in
    c.fact_fault.ensures ∙ ap (λ l. fact_fault c.args.block.now (fact.Property l, d.key)) c.is_let.ensures
    ∙ sym (ap P (sym c.is_stored_of.ensures ∙ c.if-is_stored_of.true))
