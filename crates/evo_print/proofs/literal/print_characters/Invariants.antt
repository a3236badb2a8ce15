use Rattle.std.proofs.Common.{◌≡◌, ◌++◌, drop}
use Rattle.std.specs.List.{flat_map}
use Rattle.evo_tree.specs.Canonical.{escape}
use Rattle.evo_print.proofs.literal.print_characters.Given as goal

-- what is printed and what is left
abbrev pub invariant-loop-byte : goal.invariant-loop-byte
invariant-loop-byte l = l.initial.out ++ flat_map escape l.characters ≡ l.out ++ flat_map escape (drop l.byte-index l.characters)
