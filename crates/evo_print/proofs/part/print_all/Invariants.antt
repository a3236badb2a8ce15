use Rattle.std.proofs.Common.{◌≡◌, ◌++◌, drop}
use Rattle.std.specs.List.{flat_map}
use Rattle.evo_print.proofs.part.print_all.Given as goal

-- what is printed and what is left
abbrev pub invariant-loop-part : goal.invariant-loop-part
invariant-loop-part g l = l.initial.out ++ flat_map g.T.Part.text l.parts ≡ l.out ++ flat_map g.T.Part.text (drop l.part-index l.parts)
