use Rattle.std.proofs.Common.{◌∙◌, sym}
use Rattle.evo_declarations.specs.Views.{view_of}
use Rattle.evo_declarations.specs.Worlds.{world_of}
use Rattle.evo_type_names.specs.Aliases.{alias_keys}
use Rattle.evo_type_names.specs.Known.{texts_of, type_view}
use Rattle.evo_type_names.specs.Starts.{start_view}
use Rattle.evo_type_names.proofs.Walks.{first_entered, then_walked}
use Rattle.evo_type_names.proofs.walk.walk.Goals as goal

pub returns-then-not-goes_on : goal.returns-then-not-goes_on
returns-then-not-goes_on c = first_entered (world_of c.args.space.now.world) (view_of c.args.view) (start_view (world_of c.args.space.now.world) c.args.begun.start) c.args.begun.rest.now c.in_ok-begins.begins (alias_keys c.args.aliases.now.items) (alias_keys c.enter.new.aliases.items) (type_view c.enter.new.head (texts_of c.enter.new.path.items)) c.in_ok-begins.ensures (sym c.goes_on.ensures ∙ c.if-not-goes_on.true)

pub returns : goal.returns
returns c = then_walked (world_of c.args.space.now.world) (view_of c.args.view) (start_view (world_of c.args.space.now.world) c.args.begun.start) c.args.begun.rest.now c.in_ok-begins.begins c.in_ok-entered.entered (alias_keys c.args.aliases.now.items) (alias_keys c.enter.new.aliases.items) (alias_keys c.walk_on.new.aliases.items) (type_view c.enter.new.head (texts_of c.enter.new.path.items)) (type_view c.walk_on.new.head (texts_of c.walk_on.new.path.items)) c.in_ok-begins.ensures (sym c.goes_on.ensures ∙ c.if-not-goes_on.false) c.in_ok-entered.ensures
