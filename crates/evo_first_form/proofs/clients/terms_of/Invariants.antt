use Rattle.std.proofs.Common.{◌≡◌, drop}
use Rattle.evo_first_form.specs.FirstForm.{each_of, argument_of}
use Rattle.evo_first_form.proofs.Each.{then_of}
use Rattle.evo_first_form.proofs.clients.terms_of.Given as goal

abbrev pub invariant-loop-argument : goal.invariant-loop-argument
invariant-loop-argument l = each_of argument_of l.arguments ≡ then_of l.terms.items (each_of argument_of (drop l.argument-index l.arguments))
