use Rattle.std.proofs.Common.{sym, ap, ◌∙◌, subst, drop-cons, flat_map, IsTrue}
use Rattle.evo_breaks.specs.Rules.{conformance_breaks}
use Rattle.evo_breaks.proofs.Nothing.{left_nil}
use Rattle.evo_breaks.proofs.conformances.conformances_pass.Goals as goal

-- a break of this one is one of all
pub returns-then-not-conformance_passes : goal.returns-then-not-conformance_passes
returns-then-not-conformance_passes c = (
  λ h. absurd cc,
  λ e.
      let here = drop-cons c.args.protocols.now c.loop-protocol.protocol-index c.protocol-item.result c.loop-protocol-test.true in
      let none = left_nil (conformance_breaks c.args.old.now c.args.new.now c.args.key.now _) (flat_map (conformance_breaks c.args.old.now c.args.new.now c.args.key.now) _) (sym (ap (flat_map (conformance_breaks c.args.old.now c.args.new.now c.args.key.now)) here) ∙ sym c.loop-protocol.invariant ∙ e) in
      subst IsTrue c.if-not-conformance_passes.true (c.conformance_passes.ensures.1 (ap (conformance_breaks c.args.old.now c.args.new.now c.args.key.now) c.protocol-item.is ∙ none)),
)
