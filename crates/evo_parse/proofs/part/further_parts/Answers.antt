use Rattle.std.proofs.Common.{◌≡◌, ℕ, ◌-◌, ◌+◌, List, Option, Ok, sym, ap, ap₂, ◌∙◌, rules}
use Rattle.evo_combinators.proofs.TriesTurns.{TriesAfter, tries_more}
use Rattle.evo_tree.specs.declared.module.ModulePart.{ModulePart}
use Rattle.evo_tree.specs.declared.module.PartSpot.{PartSpot}
use Rattle.evo_tree.specs.Modules.{after_part}
use Rattle.evo_parse_decl.specs.Closed.{block_at, stmt_at}
use Rattle.evo_parse_decl.specs.ReadModules.{part_at}
use Rattle.evo_parse.proofs.Loops.{tries_begin}
use Rattle.evo_parse.proofs.part.further_parts.Goals as goal

pub loop-turn-init : goal.loop-turn-init
loop-turn-init c =
    let q = part_at block_at stmt_at c.args.form.now c.args.depth in
    tries_begin q after_part c.args.before.items c.args.spot c.args.tokens.now
    ∙ ap (λ (n : ℕ). TriesAfter q after_part (n - 0) c.args.before.items c.args.spot c.args.tokens.now) (sym c.left-turn-end.ensures)

pub loop-turn-preserved : goal.loop-turn-preserved
loop-turn-preserved c =
    let q = part_at block_at stmt_at c.args.form.now c.args.depth in
    tries_more q after_part _ c.left-turn-end.result c.loop-turn._turn c.loop-turn.found.items c.loop-turn.at c.loop-turn.tokens c.loop-turn.invariant c.loop-turn-test.true
    c.in-Some.part c.try_part.new.tokens (c.in_ok-part.ensures ∙ ap (λ (o : Option ModulePart). Ok (o, c.try_part.new.tokens)) c.in-Some.is)
    ∙ ap₂ (λ (l : List ModulePart) (s : PartSpot). TriesAfter q after_part (c.left-turn-end.result - (c.loop-turn._turn + 1)) l s c.try_part.new.tokens) (sym c.in_ok-push.ensures.items) (sym c.behind-at.ensures)
