use Rattle.std.proofs.Common.{codes, ap}
use Rattle.evo_tree.specs.Canonical.{attr_text, availability_text}
use Rattle.evo_print.proofs.Steps.{named3}
use Rattle.evo_print.proofs.header.print_attr.Goals as goal

pub returns-in_ok-print_availability-in-Available : goal.returns-in_ok-print_availability-in-Available
returns-in_ok-print_availability-in-Available c =
    named3 c.put-in-Available-2.result c.args.out.now (codes "@available(") (availability_text c.in-Available.availability) (codes ") ")
    c.put-in-Available.new.self c.print_availability.new.out c.put-in-Available-2.new.self (attr_text c.args.kind)
    c.in_ok-put-in-Available.ensures c.in_ok-print_availability-in-Available.ensures (ap attr_text c.in-Available.is) c.put-in-Available-2.ensures
