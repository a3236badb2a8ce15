use Rattle.std.proofs.Common.{◌∙◌, ◌+◌, ◌*◌, ◌<◌, ℕ, Some, set, length, refl, arith}
use Rattle.std.proofs.lemmas.List.{length-set}
use Rattle.evo_solve.proofs.Levels.{place_in, nones_fall}
use Rattle.evo_solve.proofs.Founding.{level_zero}
use Rattle.evo_solve.proofs.conforming.first_way.Goals as goal

pub search-requires-clause-level : goal.search-requires-clause-level
search-requires-clause-level c = level_zero c.args.classes.now c.args.protocols.now c.args.sought.class c.args.sought.protocol c.requires.class c.requires.protocol c.in_ok-distances.distances.items (set c.in_ok-distances.distances.items (c.args.sought.class * length c.args.protocols.now + c.args.sought.protocol) (Some 0)) (c.in_ok-distances.ensures.size ∙ c.requires.size) c.in_ok-distances.ensures.none refl

pub search-requires-clause-room : goal.search-requires-clause-room
search-requires-clause-room c =
    let xs = c.in_ok-distances.distances.items in
    let i : ℕ = c.args.sought.class * length c.args.protocols.now + c.args.sought.protocol in
    let inside : i < length xs = place_in c.args.classes.now c.args.protocols.now xs (c.in_ok-distances.ensures.size ∙ c.requires.size) c.args.sought.class c.args.sought.protocol (c.requires.class, c.requires.protocol) in
    let fall = nones_fall xs (set xs i (Some 0)) i 0 inside (c.in_ok-distances.ensures.none i) refl in
    let size = length-set xs i (Some 0) in
    let count = c.in_ok-distances.ensures.nones in
    let long = c.in_ok-distances.ensures.size in
    omega arith
