use Rattle.std.proofs.Common.{◌≡◌, ◌<◌, ◌+◌, ◌∙◌, sym, ap, subst, length, arith, Some}
use Rattle.evo_solve.specs.declared.path.Path.{Path}
use Rattle.evo_solve.specs.Equal.{path_of}
use Rattle.evo_solve.specs.Canonical.{IsCanonical}
use Rattle.evo_solve.specs.Universe.{rep, best_of, type_of}
use Rattle.evo_solve.proofs.Standing.{in_range, solved_given, has_given, ok_map, class_in, named_canonical, is_some_path, path_canonical}
use Rattle.evo_solve.proofs.representative.stand_in.Goals as goal

pub returns-in-Some : goal.returns-in-Some
returns-in-Some c =
    let w = c.args._written.now in
    let t = c.args.ty.now in
    let s = solved_given w c.args.classes.now.nodes.items c.as_slice-nodes.result.now c.args.classes.now.reps.items c.as_slice-reps.result.now c.as_slice-nodes.ensures.value c.as_slice-reps.ensures.value c.requires.solved in
    let h = has_given c.args.classes.now.nodes.items c.as_slice-nodes.result.now c.args.number (path_of t) c.as_slice-nodes.ensures.value c.requires.has in
    let e = c.in-Some.ensures in
    ok_map c.copy.result (λ copy. copy ≡ c.in-Some.named.now) (IsCanonical w t)
    (λ x i. subst (IsCanonical w t) (sym i) (named_canonical w c.as_slice-nodes.result.now c.as_slice-reps.result.now s t c.args.number h c.requires.consistent c.in-Some.named.now e.0 e.1)) c.copy.ensures

pub first_paths-requires : goal.first_paths-requires
first_paths-requires c = in_range c.args._written.now c.as_slice-nodes.result.now c.as_slice-reps.result.now (solved_given c.args._written.now c.args.classes.now.nodes.items c.as_slice-nodes.result.now c.args.classes.now.reps.items c.as_slice-reps.result.now c.as_slice-nodes.ensures.value c.as_slice-reps.ensures.value c.requires.solved)

pub type_at-requires-clause-inside : goal.type_at-requires-clause-inside
type_at-requires-clause-inside c =
    let w = c.args._written.now in
    let t = c.args.ty.now in
    let s = solved_given w c.args.classes.now.nodes.items c.as_slice-nodes.result.now c.args.classes.now.reps.items c.as_slice-reps.result.now c.as_slice-nodes.ensures.value c.as_slice-reps.ensures.value c.requires.solved in
    let h = has_given c.args.classes.now.nodes.items c.as_slice-nodes.result.now c.args.number (path_of t) c.as_slice-nodes.ensures.value c.requires.has in
    subst (λ l. rep c.as_slice-reps.result.now c.args.number < length l) (sym c.deref.ensures.value) (class_in w c.as_slice-nodes.result.now c.as_slice-reps.result.now s t c.args.number h c.in_ok-bests.bests.items c.in_ok-bests.ensures.size)

pub type_at-requires-clause-there : goal.type_at-requires-clause-there
type_at-requires-clause-there c =
    let w = c.args._written.now in
    let t = c.args.ty.now in
    let s = solved_given w c.args.classes.now.nodes.items c.as_slice-nodes.result.now c.args.classes.now.reps.items c.as_slice-reps.result.now c.as_slice-nodes.ensures.value c.as_slice-reps.ensures.value c.requires.solved in
    let h = has_given c.args.classes.now.nodes.items c.as_slice-nodes.result.now c.args.number (path_of t) c.as_slice-nodes.ensures.value c.requires.has in
    let short : length (path_of t).names < c.name_count.result + 1 = (let n = c.name_count.ensures.count in omega arith) in
    λ none. is_some_path w c.as_slice-nodes.result.now c.as_slice-reps.result.now s t c.args.number h c.in_default.ensures c.in_ok-bests.bests.items (c.name_count.result + 1) short c.in_ok-bests.ensures.least c.in_ok-bests.ensures.sound
    (sym (ap (λ l. best_of l (rep c.as_slice-reps.result.now c.args.number)) c.deref.ensures.value) ∙ none)

pub returns : goal.returns
returns c =
    let w = c.args._written.now in
    let t = c.args.ty.now in
    let s = solved_given w c.args.classes.now.nodes.items c.as_slice-nodes.result.now c.args.classes.now.reps.items c.as_slice-reps.result.now c.as_slice-nodes.ensures.value c.as_slice-reps.ensures.value c.requires.solved in
    let h = has_given c.args.classes.now.nodes.items c.as_slice-nodes.result.now c.args.number (path_of t) c.as_slice-nodes.ensures.value c.requires.has in
    let short : length (path_of t).names < c.name_count.result + 1 = (let n = c.name_count.ensures.count in omega arith) in
    ok_map c.type_at.result (λ r. (p : Path) × (best_of c.deref.result.now (rep c.as_slice-reps.result.now c.args.number) ≡ Some p) × (r ≡ type_of p)) (IsCanonical w t)
    (λ x i. subst (IsCanonical w t) (sym i.2) (path_canonical w c.as_slice-nodes.result.now c.as_slice-reps.result.now s t c.args.number h c.in_default.ensures c.in_ok-bests.bests.items (c.name_count.result + 1) short c.in_ok-bests.ensures.least c.in_ok-bests.ensures.sound i.0
    (sym (ap (λ l. best_of l (rep c.as_slice-reps.result.now c.args.number)) c.deref.ensures.value) ∙ i.1)))
    c.type_at.ensures
