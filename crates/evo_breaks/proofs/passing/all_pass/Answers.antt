use Rattle.std.proofs.Common.{sym, ap, ◌∙◌, subst, drop-cons, flat_map, IsTrue}
use Rattle.evo_breaks.specs.Rules.{breaks_of}
use Rattle.evo_breaks.proofs.Nothing.{left_nil}
use Rattle.evo_breaks.proofs.passing.all_pass.Goals as goal

-- a break of this one is one of all
pub returns-then-not-one_passes : goal.returns-then-not-one_passes
returns-then-not-one_passes c = (
  λ h. absurd cc,
  λ e.
      let here = drop-cons c.args.decls.now c.loop-decl.decl-index c.decl-item.result c.loop-decl-test.true in
      let none = left_nil (breaks_of c.args.old.now c.args.new.now _) (flat_map (breaks_of c.args.old.now c.args.new.now) _) (sym (ap (flat_map (breaks_of c.args.old.now c.args.new.now)) here) ∙ sym c.loop-decl.invariant ∙ e) in
      subst IsTrue c.if-not-one_passes.true (c.one_passes.ensures.1 (ap (breaks_of c.args.old.now c.args.new.now) c.decl-item.is ∙ none)),
)
