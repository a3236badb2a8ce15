use Rattle.std.proofs.Common.{◌≡◌, ◌-◌, suc, length, ap, sym, ◌∙◌, arith}
use Rattle.evo_resolved.specs.declared.resolved_type.RType.TheVariants as ty
use Rattle.evo_flow.specs.Scenes.{subject_of}
use Rattle.evo_flow.specs.Types.{member_type}
use Rattle.evo_flow.proofs.Last.{last_is}
use Rattle.evo_flow.proofs.looked.by_members.Goals as goal

pub returns : goal.returns
returns c =
    let ms = c.args.members.now in
    let filled = c.if-count-eq0.false in
    let count : length ms ≡ suc (length ms - 1) = omega (arith, filled) in
    c.by_member.ensures ∙ ap (λ m. subject_of (member_type m)) c.index-members-count.is ∙ sym (ap subject_of (last_is ty.NoValue ms (length ms - 1) _ count))
