use Rattle.std.proofs.Common.{◌≡◌, drop}
use Rattle.evo_code.specs.Layouts.{words_of}
use Rattle.evo_code.proofs.sizes.words_of.Given as goal

abbrev pub invariant-loop-record : goal.invariant-loop-record
invariant-loop-record l = words_of l.sizes l.symbol ≡ words_of (drop l.record-index l.sizes) l.symbol
