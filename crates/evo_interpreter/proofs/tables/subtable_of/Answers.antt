use Rattle.std.proofs.Common.{◌≡◌, ℕ, List, Option, Some, sym, ap, subst, ◌∙◌}
use Rattle.std.specs.Prelude.{MatchResult}
use Rattle.evo_code.specs.declared.image.ConfTable.{ConfTable}
use Rattle.evo_execution.specs.declared.end.MachineFault.TheVariants as fault
use Rattle.evo_execution.specs.Tables.{conformance_named, subtable_at, target_named}
use Rattle.evo_execution.specs.Words.{Answer, and_then, some_or, Got, Stops}
use Rattle.evo_interpreter.proofs.tables.subtable_of.Goals as goal

pub returns : goal.returns
returns c =
    let named : conformance_named c.args.image.now c.args.conformance.now ≡ Some c.in-Some.table.now = ap (λ (s : List ℕ). conformance_named c.args.image.now s) (sym c.as_slice.ensures.value) ∙ c.in-Some.ensures in
    let here = ap (λ (o : Option ConfTable). and_then (and_then (some_or fault.Entry o) (λ (t : ConfTable). Got (target_named t.entries c.args.name.now))) subtable_at) named in
    subst (λ (a : Answer (List ℕ)). MatchResult c.table_named.result (λ c'. a ≡ Got c'.now) (λ e. a ≡ Stops e)) (sym here) c.table_named.ensures
