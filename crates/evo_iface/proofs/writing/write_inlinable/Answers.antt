use Rattle.evo_iface.specs.declared.texts.TheConstants.{BEFORE_INLINABLE, BEFORE_TERM, BEHIND_TERM}
use Rattle.evo_iface.specs.Text.{term_text}
use Rattle.evo_iface.proofs.Lines.{written}
use Rattle.evo_iface.proofs.writing.write_inlinable.Goals as goal

pub returns : goal.returns
returns c = written c.args.text.now.items BEFORE_INLINABLE.now c.args.name.now BEFORE_TERM.now (term_text c.args.body.now) BEHIND_TERM.now c.write_between.new.text.items c.write_term.new.text.items c.extend_from_slice.new.self.items c.in_ok-write_between.ensures c.in_ok-write_term.ensures c.in_ok-extend_from_slice.ensures.items
