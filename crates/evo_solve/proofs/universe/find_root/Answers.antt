use Rattle.std.proofs.Common.{length, refl, arith}
use Rattle.std.proofs.lemmas.Option.{slice_get_read}
use Rattle.evo_solve.specs.Equal.{alone}
use Rattle.evo_solve.proofs.Growing.{path_eq}
use Rattle.evo_solve.proofs.Closing.{rooted}
use Rattle.evo_solve.proofs.universe.find_root.Goals as goal

pub returns-then-is_root : goal.returns-then-is_root
returns-then-is_root c =
    let nodes = c.args.nodes.now in
    let x = c.index-nodes-i.result in
    let at = slice_get_read nodes (length nodes) c.loop-i.i x refl (omega arith) c.index-nodes-i.is in
    let e = c.if-is_root.ensures in
    (x, at, path_eq x.path (alone c.args.first.now) e.1 (rooted nodes c.requires c.loop-i.i x at e.0))
