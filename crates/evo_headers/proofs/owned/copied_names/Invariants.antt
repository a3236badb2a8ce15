use Rattle.std.proofs.Common.{◌≡◌, take}
use Rattle.evo_type_names.specs.Known.{texts_of}
use Rattle.evo_headers.proofs.owned.copied_names.Given as goal

abbrev pub invariant-loop-name : goal.invariant-loop-name
invariant-loop-name l = l.copies.items ≡ texts_of (take l.name-index l.names)
