use Rattle.std.proofs.Common.{rules, length}
use Rattle.evo_solve.specs.Equal.{path_of}
use Rattle.evo_solve.proofs.Closing.{solve_placing, solve_sound, solve_returns}
use Rattle.evo_solve.proofs.classes.solve.Goals as goal

pub close-requires-clause-placing : goal.close-requires-clause-placing
close-requires-clause-placing c = solve_placing c.args.written.now c.add_sides.new.nodes.items c.add_type.new.nodes.items c.deref.result.now c.add_sides.new.pairs.items c.deref-2.result.now (length c.args.written.now) c.in_ok-number.number (path_of c.args.ty.now) c.in_ok-add_sides.ensures c.in_ok-number.ensures c.deref.ensures.value c.deref-2.ensures.value

pub close-requires-clause-sound : goal.close-requires-clause-sound
close-requires-clause-sound c = solve_sound c.args.written.now c.add_type.new.nodes.items c.deref.result.now c.in_ok-reps.reps.items c.deref_mut.result.now c.len.result c.deref.ensures.value c.deref_mut.ensures.value (search rules) c.in_ok-reps.ensures.own

pub returns : goal.returns
returns c = (solve_returns c.args.written.now c.add_sides.new.nodes.items c.add_type.new.nodes.items c.deref.result.now c.add_sides.new.pairs.items c.deref-2.result.now c.in_ok-number.number (path_of c.args.ty.now) c.in_ok-reps.reps.items c.close.new.reps c.in_ok-reps.reps.len c.len.result c.in_ok-add_sides.ensures c.in_ok-number.ensures c.deref.ensures.value c.deref-2.ensures.value c.close.ensures.size c.close.ensures.closed c.close.ensures.sound c.in_ok-reps.ensures.size (search rules) (search rules), c.in_ok-number.ensures.has)
