use Rattle.std.proofs.Common.{◌≡◌, slice_set, take, length, ◌≤◌, arith, rules}
use Rattle.std.specs.Option.{IsSomeAnd}
use Rattle.std.proofs.lemmas.Grind.{common_steps}
use Rattle.evo_base.specs.MemFilesState.{put_entry, room_of}
use Rattle.evo_base.proofs.Puts.{puts_to}
use Rattle.evo_base.proofs.mem_files.put_to.Goals as goal

pub returns-in-Some-clause-puts : goal.returns-in-Some-clause-puts
returns-in-Some-clause-puts c =
    let put : slice_set c.args.entries.now c.in-Some.at c.put.new.self ≡ put_entry c.args.name.now (take c.args.kept c.args.bytes.now) c.args.entries.now = grind (arith, common_steps) in
    let room : IsSomeAnd (room_of c.args.name.now c.args.entries.now) (λ room. length c.args.bytes.now ≤ room) = search rules in
    (room, rw put (puts_to _ _ _))
