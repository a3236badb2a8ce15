use Rattle.std.proofs.Common.{rules, ◌≡◌, ◌<◌, ◌*◌, ℕ, get_or, length, sym, ap, subst}
use Rattle.evo_solve.specs.Search.{StartAt}
use Rattle.evo_solve.specs.Found.{FoundOrNone}
use Rattle.evo_solve.specs.Ways.{PathOrNone, goal_of}
use Rattle.evo_solve.proofs.Lists.{below_length}
use Rattle.evo_solve.proofs.Standing.{in_range, ok_map}
use Rattle.evo_solve.proofs.Founding.{number_in, all_inside, path_answer}
use Rattle.evo_solve.proofs.conforming.path_among.Goals as goal

pub required_starts-requires-clause-range : goal.required_starts-requires-clause-range
required_starts-requires-clause-range c = in_range c.args.signature.now.requirements c.args.classes.now.nodes.items c.args.classes.now.reps.items c.requires.solved

pub add_declared-requires-clause-range : goal.add_declared-requires-clause-range
add_declared-requires-clause-range c = in_range c.args.signature.now.requirements c.args.classes.now.nodes.items c.args.classes.now.reps.items c.requires.solved

pub path_from-requires-clause-range : goal.path_from-requires-clause-range
path_from-requires-clause-range c = in_range c.args.signature.now.requirements c.args.classes.now.nodes.items c.args.classes.now.reps.items c.requires.solved

pub path_from-requires-clause-class : goal.path_from-requires-clause-class
path_from-requires-clause-class c =
    let range = in_range c.args.signature.now.requirements c.args.classes.now.nodes.items c.args.classes.now.reps.items c.requires.solved in
    let e = ap (λ l. get_or l c.args.node 0) c.as_slice-reps.ensures.value in
    subst (λ z. z < length c.args.classes.now.nodes.items) (sym e) (range.inside c.args.node (below_length c.args.classes.now.nodes.items c.args.node c.requires.has.0 c.requires.has.1))

pub path_from-requires-clause-protocol : goal.path_from-requires-clause-protocol
path_from-requires-clause-protocol c = subst (λ l. c.args.number < length l) (sym c.as_slice-protocols.ensures) (number_in c.args.declarations.now.protocols c.args.protocol.now c.args.number c.requires.number)

pub path_from-requires-clause-inside : goal.path_from-requires-clause-inside
path_from-requires-clause-inside c i s at =
    let range = in_range c.args.signature.now.requirements c.args.classes.now.nodes.items c.args.classes.now.reps.items c.requires.solved in
    let e : c.in-Some.size ≡ length c.as_slice-protocols.result.now * length c.args.classes.now.nodes.items = search rules in
    subst (λ z. s < z) (sym e) (all_inside c.args.classes.now c.as_slice-protocols.result.now range c.deref.result.now c.as_slice-declared.result.now c.in_ok-starts.starts.items c.add_declared.new.starts.items c.in_ok-starts.ensures c.in_ok-add_declared.ensures i s (subst (λ l. StartAt l i s) c.deref-3.ensures.value at))

pub returns : goal.returns
returns c =
    let g = c.args.classes.now in
    let range = in_range c.args.signature.now.requirements g.nodes.items g.reps.items c.requires.solved in
    let t : ℕ = get_or c.as_slice-reps.result.now c.args.node 0 in
    let sought = goal_of c.args.signature.now c.args.declarations.now c.args.ty.now c.args.protocol.now in
    ok_map c.path_from.result (FoundOrNone g c.as_slice-protocols.result.now t c.args.number c.deref-2.result.now c.as_slice-declared.result.now c.deref-3.result.now) (PathOrNone sought)
    (λ o found. path_answer sought g c.args.node c.args.number c.requires.solved range c.requires.has c.requires.number c.as_slice-protocols.result.now c.as_slice-protocols.ensures c.as_slice-declared.result.now c.as_slice-declared.ensures
    c.in_ok-words.words.items c.deref.result.now c.deref-2.result.now c.in_ok-words.ensures c.deref.ensures.value c.deref-2.ensures.value c.in_ok-starts.starts.items c.add_declared.new.starts.items c.deref-3.result.now c.deref-3.ensures.value
    c.in_ok-starts.ensures c.in_ok-add_declared.ensures t (ap (λ l. get_or l c.args.node 0) c.as_slice-reps.ensures.value) o found)
    c.path_from.ensures
