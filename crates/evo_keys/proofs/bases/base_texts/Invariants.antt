use Rattle.std.proofs.Common.{◌≡◌, map, take}
use Rattle.evo_declarations.specs.Views.{entries_of}
use Rattle.evo_keys.specs.Bases.{base_text}
use Rattle.evo_keys.proofs.bases.base_texts.Given as goal

abbrev pub invariant-loop-listed : goal.invariant-loop-listed
invariant-loop-listed l = map (λ t. t.now) l.texts.items ≡ map base_text (entries_of (take l.listed-index l.entries))
