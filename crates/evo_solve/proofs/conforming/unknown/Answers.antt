use Rattle.std.proofs.Common.{None, length, ◌∙◌, ap, ◌+◌}
use Rattle.evo_solve.specs.Search.{nones, value}
use Rattle.evo_solve.proofs.Founding.{unknown_more, nones_more, longer}
use Rattle.evo_solve.proofs.conforming.unknown.Goals as goal

pub loop-preserved : goal.loop-preserved
loop-preserved c =
    let xs = c.loop.distances.items in
    let is = c.in_ok-push.ensures.items in
    let v = c.loop.invariant in
    record {
      size = ap length is ∙ longer xs None ∙ ap (λ n. n + 1) v.size;
      none = λ s. ap (λ l. value l s) is ∙ unknown_more xs v.none s;
      nones = ap nones is ∙ nones_more xs ∙ ap (λ n. n + 1) v.nones;
    }
