use Rattle.std.proofs.Common.{◌∙◌, ◌+◌, ◌∷◌, drop, ap, sym}
use Rattle.evo_declarations.specs.Views.{view_of}
use Rattle.evo_declarations.specs.Worlds.{world_of}
use Rattle.evo_names.specs.Written.{fixed}
use Rattle.evo_names.specs.Listed.{Text}
use Rattle.evo_type_names.specs.Aliases.{alias_keys}
use Rattle.evo_type_names.specs.Known.{texts_of, type_view}
use Rattle.evo_type_names.proofs.Walks.{on_start, on_stop, on_go, on_all}
use Rattle.evo_type_names.proofs.Lists.{drop_next, drop_none}
use Rattle.evo_type_names.proofs.walk.walk_on.Goals as goal

pub loop-name-init : goal.loop-name-init
loop-name-init c = on_start {w = world_of c.args.space.now.world} (view_of c.args.view) (type_view c.args.head.now (texts_of c.args.path.now.items)) c.args.names.now (alias_keys c.args.aliases.now.items)

pub returns-then-not-goes_on : goal.returns-then-not-goes_on
returns-then-not-goes_on c = on_stop (world_of c.args.space.now.world) (view_of c.args.view) (fixed (type_view c.args.head.now (texts_of c.args.path.now.items))) c.args.names.now c.in_ok-entered.entered (alias_keys c.args.aliases.now.items) (alias_keys c.loop-name.aliases.items) (alias_keys c.step.new.aliases.items) (type_view c.loop-name.head (texts_of c.loop-name.path.items)) _ c.name-item.result (drop (c.loop-name.name-index + 1) c.args.names.now) (drop c.loop-name.name-index c.args.names.now) (drop_next c.args.names.now c.loop-name.name-index c.name-item.result c.loop-name-test.true ∙ ap (λ (n : Text). n ∷ drop (c.loop-name.name-index + 1) c.args.names.now) (sym c.name-item.is)) c.loop-name.invariant c.in_ok-entered.ensures (sym c.goes_on.ensures ∙ c.if-not-goes_on.true)

pub loop-name-preserved : goal.loop-name-preserved
loop-name-preserved c = on_go (world_of c.args.space.now.world) (view_of c.args.view) (fixed (type_view c.args.head.now (texts_of c.args.path.now.items))) c.args.names.now c.in_ok-entered.entered (alias_keys c.args.aliases.now.items) (alias_keys c.loop-name.aliases.items) (alias_keys c.step.new.aliases.items) (type_view c.loop-name.head (texts_of c.loop-name.path.items)) _ c.name-item.result (drop (c.loop-name.name-index + 1) c.args.names.now) (drop c.loop-name.name-index c.args.names.now) (drop_next c.args.names.now c.loop-name.name-index c.name-item.result c.loop-name-test.true ∙ ap (λ (n : Text). n ∷ drop (c.loop-name.name-index + 1) c.args.names.now) (sym c.name-item.is)) c.loop-name.invariant c.in_ok-entered.ensures (sym c.goes_on.ensures ∙ c.if-not-goes_on.false)

pub returns : goal.returns
returns c = on_all (world_of c.args.space.now.world) (view_of c.args.view) (fixed (type_view c.args.head.now (texts_of c.args.path.now.items))) c.args.names.now (alias_keys c.args.aliases.now.items) (alias_keys c.loop-name.aliases.items) (type_view c.loop-name.head (texts_of c.loop-name.path.items)) _ (drop_none c.args.names.now c.loop-name.name-index c.loop-name-test.false) c.loop-name.invariant
