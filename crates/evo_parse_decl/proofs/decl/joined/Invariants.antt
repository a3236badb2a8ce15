use Rattle.std.proofs.Common.{◌≡◌, flat_map}
use Rattle.evo_parse_decl.proofs.decl.joined.Given as goal

abbrev pub invariant-loop-part : goal.invariant-loop-part
invariant-loop-part l = l.found.items ≡ flat_map (λ d. d) l.yielded
