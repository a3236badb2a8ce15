use Rattle.std.proofs.Common.{◌≡◌, drop}
use Rattle.evo_first_form.specs.FirstForm.{each_of, print_at}
use Rattle.evo_first_form.proofs.Each.{then_of}
use Rattle.evo_first_form.proofs.clients.prints_of.Given as goal

abbrev pub invariant-loop-item : goal.invariant-loop-item
invariant-loop-item l = each_of print_at l.items ≡ then_of l.prints.items (each_of print_at (drop l.item-index l.items))
