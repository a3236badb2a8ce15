use Rattle.std.proofs.Common.{subst}
use Rattle.evo_declarations.specs.Worlds.{world_of}
use Rattle.evo_members.specs.Located.{start_of}
use Rattle.evo_names.specs.Written.{Start}
use Rattle.evo_type_names.specs.Aliases.{alias_keys}
use Rattle.evo_type_names.specs.Known.{IsEntered, texts_of, type_view}
use Rattle.evo_type_names.proofs.Walks.{entered_known}
use Rattle.evo_type_names.proofs.Stacks.{same_start}
use Rattle.evo_type_names.proofs.walk.enter_written.Goals as goal

pub returns-in_ok-entered-in-Some : goal.returns-in_ok-entered-in-Some
returns-in_ok-entered-in-Some c =
    let w = world_of c.args.space.now.world in
    let one = c.in-Some.one.now in
    subst (λ (x : Start). IsEntered w x c.in_ok-entered-in-Some.entered (alias_keys c.args.aliases.now.items) (alias_keys c.take.new.aliases.items) (type_view c.take.new.head (texts_of c.take.new.path.items)))
    (same_start w one.located c.args.located c.in-Some.ensures.2)
    (entered_known w (start_of w one.located) one.found c.in_ok-entered-in-Some.entered _ _ _ (c.requires c.in-Some.ensures.0 one c.in-Some.ensures.1) c.in_ok-entered-in-Some.ensures)
