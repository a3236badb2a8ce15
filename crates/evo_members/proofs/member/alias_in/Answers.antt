use Rattle.std.proofs.Common.{◌∙◌, ap, sym}
use Rattle.evo_declarations.specs.Views.{key_of_type}
use Rattle.evo_declarations.specs.Worlds.{world_of}
use Rattle.evo_members.specs.Located.{around_of, start_at, start_of}
use Rattle.std.specs.List.{slice_get}
use Rattle.std.proofs.Common.{get_or}
use Rattle.evo_members.proofs.Groups.{first_here}
use Rattle.evo_members.specs.Sought.{alias_if, by_number, test_of}
use Rattle.evo_names.specs.Listed.{declarations}
use Rattle.evo_names.specs.Heads.{first_some}
use Rattle.evo_members.proofs.Members.{alias_group, taken}
use Rattle.evo_members.proofs.member.alias_in.Goals as goal

pub loop-number-init : goal.loop-number-init
loop-number-init c = alias_group (test_of (world_of c.args.space.now.world) c.args.sought.test) (around_of c.args.around) (key_of_type c.args.key) c.args.sought.name.now c.args.braces (world_of c.args.space.now.world) ∙ ap (first_some (by_number (alias_if (test_of (world_of c.args.space.now.world) c.args.sought.test) (around_of c.args.around) (key_of_type c.args.key) c.args.sought.name.now c.args.braces) (declarations (world_of c.args.space.now.world)))) (sym c.aliases_named-numbers.ensures)

pub returns-then-is_sought : goal.returns-then-is_sought
unfolding start_of
returns-then-is_sought c =
    let w = world_of c.args.space.now.world in
    let n = get_or c.aliases_named-numbers.result.now c.loop-number.number-index 0 in
    let f = alias_if (test_of w c.args.sought.test) (around_of c.args.around) (key_of_type c.args.key) c.args.sought.name.now c.args.braces in
    sym (c.loop-number.invariant ∙ first_here (by_number f (declarations w)) c.aliases_named-numbers.result.now c.loop-number.number-index (start_at w (around_of c.args.around) n) c.loop-number-test.true (taken (test_of w c.args.sought.test) (around_of c.args.around) (key_of_type c.args.key) c.args.sought.name.now c.args.braces (slice_get (declarations w) n) (sym c.is_sought.ensures ∙ c.if-is_sought.true)))
