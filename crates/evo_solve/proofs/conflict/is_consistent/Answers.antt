use Rattle.evo_solve.proofs.Standing.{solved_given, consistent_from, agree_from}
use Rattle.evo_solve.proofs.conflict.is_consistent.Goals as goal

pub returns : goal.returns
returns c =
    let s = solved_given c.args.written.now c.in_ok-classes.classes.nodes.items c.deref.result.now c.in_ok-classes.classes.reps.items c.deref-2.result.now c.deref.ensures.value c.deref-2.ensures.value c.in_ok-classes.ensures.0 in
    let e = c.named_agree.ensures in
    (λ t. consistent_from c.args.written.now c.deref.result.now c.deref-2.result.now s (e.0 t), λ k. e.1 (agree_from c.args.written.now c.deref.result.now c.deref-2.result.now s k))
