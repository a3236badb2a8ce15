use Rattle.std.proofs.Common.{◌≡◌, map, drop}
use Rattle.std.specs.List.{list_all}
use Rattle.evo_code.specs.Loads.{is_sized}
use Rattle.evo_code.proofs.checked.+sized.Given as goal

abbrev pub invariant-are_sized-loop-part : goal.invariant-are_sized-loop-part
invariant-are_sized-loop-part l = list_all (λ b. b) (map (is_sized l.object) l.parts) ≡ list_all (λ b. b) (map (is_sized l.object) (drop l.part-index l.parts))
