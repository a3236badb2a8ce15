use Rattle.std.proofs.Common.{sym, subst}
use Rattle.evo_declarations.specs.Groups.{IsGrouped}
use Rattle.evo_names.specs.Listed.{World}
use Rattle.evo_keys.specs.Bases.{base_texts}
use Rattle.evo_keys.proofs.roots.root_in_both.Goals as goal

pub root_in-requires : goal.root_in-requires
root_in-requires c = subst (λ (w : World). IsGrouped (base_texts w.own) c.in-Some.table.bases.now) (sym c.alone.ensures) (c.requires.imported c.in-Some.table c.in-Some.is)

pub root_in-requires-2 : goal.root_in-requires-2
root_in-requires-2 c = subst (λ (w : World). IsGrouped (base_texts w.own) c.args.bases.own.bases.now) (sym c.world.ensures) c.requires.own
