use Rattle.std.proofs.Common.{[], sym}
use Rattle.evo_iface.specs.Text.{term_text}
use Rattle.evo_iface.proofs.Lines.{no_name, no_line, line_is, all_is}
use Rattle.evo_iface.proofs.Terms.{plain_term}
use Rattle.evo_iface.specs.declared.texts.TheConstants.{BEFORE_INLINABLE, BEFORE_TERM, BEHIND_TERM}
use Rattle.evo_iface.proofs.reading.read_inlinable.Goals as goal

pub returns-in_default : goal.returns-in_default
returns-in_default c m b more plain term e =
    let none = rw c.in_default.is at c.in_ok-name.ensures in
    no_name c.args.text.now BEFORE_INLINABLE.now BEFORE_TERM.now BEHIND_TERM.now [] [] none m (term_text b) more plain e

pub returns-in_default-2 : goal.returns-in_default-2
returns-in_default-2 c m b more plain term e =
    let named = rw c.in-Some.is at c.in_ok-name.ensures in
    let none = rw c.in_default-2.is at c.in_ok-term.ensures in
    no_line c.args.text.now BEFORE_INLINABLE.now BEFORE_TERM.now BEHIND_TERM.now c.in-Some.name c.in-Some.rest.now named none m (term_text b) more plain (plain_term b term) e

pub returns-in_default-3 : goal.returns-in_default-3
returns-in_default-3 c m b more plain term e =
    let named = rw c.in-Some.is at c.in_ok-name.ensures in
    let lined = rw c.in-Some-2.is at c.in_ok-term.ensures in
    let none = rw (c.in_default-3.is, c.as_slice.ensures.value) at c.in_ok-body.ensures in
    let is = line_is c.args.text.now BEFORE_INLINABLE.now BEFORE_TERM.now BEHIND_TERM.now c.in-Some.name c.in-Some.rest.now named c.in-Some-2.term c.in-Some-2.rest.now lined m (term_text b) more plain (plain_term b term) e in
    none b term (sym is.1)

pub returns : goal.returns
returns c =
    let named = rw c.in-Some.is at c.in_ok-name.ensures in
    let lined = rw c.in-Some-2.is at c.in_ok-term.ensures in
    let found = rw (c.in-Some-3.is, c.as_slice.ensures.value) at c.in_ok-body.ensures in
    record {
      whole = all_is c.args.text.now BEFORE_INLINABLE.now BEFORE_TERM.now BEHIND_TERM.now c.in-Some.name c.in-Some.rest.now named c.in-Some-2.term c.in-Some-2.rest.now lined (term_text c.in-Some-3.body) found.0;
      only = λ m b more plain term e.
          let is = line_is c.args.text.now BEFORE_INLINABLE.now BEFORE_TERM.now BEHIND_TERM.now c.in-Some.name c.in-Some.rest.now named c.in-Some-2.term c.in-Some-2.rest.now lined m (term_text b) more plain (plain_term b term) e in
          (is.0, found.1 b term (sym is.1), is.2);
    }
