use Rattle.std.proofs.Common.{◌≡◌, map, take}
use Rattle.evo_declarations.specs.Texts.{listed_type_text}
use Rattle.evo_declarations.proofs.names.texts_of_types.Given as goal

abbrev pub invariant-loop-listed : goal.invariant-loop-listed
invariant-loop-listed l = map (λ t. t.now) l.texts.items ≡ map listed_type_text (take l.listed-index l.entries)
