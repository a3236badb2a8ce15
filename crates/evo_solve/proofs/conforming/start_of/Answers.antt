use Rattle.std.proofs.Common.{length, arith}
use Rattle.std.proofs.lemmas.Nat.{mul-add-lt}
use Rattle.evo_solve.specs.Equal.{path_of}
use Rattle.evo_solve.proofs.Founding.{has_in, number_in}
use Rattle.evo_solve.proofs.conforming.start_of.Goals as goal

pub overflow_mul-result : goal.overflow_mul-result
overflow_mul-result c =
    let g = c.args.classes.now in
    let ps = c.args.protocols.now in
    let low = mul-add-lt c.in-Some.class (length ps) c.in-Some-number_of.number (length g.nodes.items) (has_in g.nodes.items g.reps.items c.requires.range (path_of c.args.subject.now) c.in-Some.class c.in-Some.ensures) (number_in ps c.args.protocol.now c.in-Some-number_of.number c.in-Some-number_of.ensures) in
    let fits = c.requires.fits in
    omega arith

pub overflow_add-result : goal.overflow_add-result
overflow_add-result c =
    let g = c.args.classes.now in
    let ps = c.args.protocols.now in
    let low = mul-add-lt c.in-Some.class (length ps) c.in-Some-number_of.number (length g.nodes.items) (has_in g.nodes.items g.reps.items c.requires.range (path_of c.args.subject.now) c.in-Some.class c.in-Some.ensures) (number_in ps c.args.protocol.now c.in-Some-number_of.number c.in-Some-number_of.ensures) in
    let fits = c.requires.fits in
    omega arith
