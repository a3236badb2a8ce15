use Rattle.std.proofs.Common.{◌≡◌}
use Rattle.std.specs.List.{each_same}
use Rattle.std.proofs.lemmas.Result.{IfOk-weaker}
use Rattle.evo_first_form.specs.Rules.{removed_line}
use Rattle.evo_rules.proofs.report.report_line.Goals as goal

pub returns : goal.returns
returns c =
    IfOk-weaker c.concat.result _ (λ line. line.items ≡ removed_line c.args.library.now c.args.name.now)
    (λ line h. rw (← c.as_slice-library.ensures.value) (rw (← c.as_slice.ensures.value) (each_same _ line.items h))) c.concat.ensures.ok
