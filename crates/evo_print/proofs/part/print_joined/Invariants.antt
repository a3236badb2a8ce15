use Rattle.std.proofs.Common.{◌≡◌, ◌++◌}
use Rattle.std.specs.List.{join_by}
use Rattle.evo_print.proofs.Lists.{left}
use Rattle.evo_print.proofs.part.print_joined.Given as goal

-- what is printed and what is left
abbrev pub invariant-loop-index : goal.invariant-loop-index
invariant-loop-index g l = l.initial.out ++ join_by g.T.Part.text l.mark l.parts ≡ l.out ++ left g.T.Part.text l.mark l.index l.parts
