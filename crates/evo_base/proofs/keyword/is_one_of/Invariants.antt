use Rattle.std.proofs.Common.{◌≡◌, drop}
use Rattle.std.specs.List.{list_any}
use Rattle.std.specs.Str.{bytes_eq}
use Rattle.evo_base.proofs.keyword.is_one_of.Given as goal

abbrev pub invariant-loop-one : goal.invariant-loop-one
invariant-loop-one l = list_any (λ k. bytes_eq k.now l.word) l.words ≡ list_any (λ k. bytes_eq k.now l.word) (drop l.one-index l.words)
