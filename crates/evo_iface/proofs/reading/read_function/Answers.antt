use Rattle.evo_iface.proofs.Lines.{front_inlinable, front_public, no_front}
use Rattle.evo_iface.proofs.reading.read_function.Goals as goal

pub returns-in-Some : goal.returns-in-Some
returns-in-Some c = front_inlinable c.args.text.now c.in-Some.name c.in-Some.body c.in-Some.rest.now (rw c.in-Some.is at c.in_ok-name.ensures)

pub returns-in_default-2 : goal.returns-in_default-2
returns-in_default-2 c = no_front c.args.text.now (rw c.in_default.is at c.in_ok-name.ensures) (rw c.in_default-2.is at c.in_ok-name-2.ensures)

pub returns : goal.returns
returns c = front_public c.args.text.now (rw c.in_default.is at c.in_ok-name.ensures) c.in-Some-2.name c.in-Some-2.rest.now (rw c.in-Some-2.is at c.in_ok-name-2.ensures)
