-- The words of some layouts: an enum's tag and its largest payload, and where sums stop.
use Rattle.std.proofs.Common.{◌≡◌, ℕ, List, [], ◌∷◌, ◌-◌, ◌^◌, codes, refl, sym, ap, ◌∙◌}
use Rattle.evo_code.specs.declared.image.SizeWords.{SizeWords}
use Rattle.evo_code.specs.declared.layout.Layout.{Layout, roll-Layout, fold-roll-Layout}
use Rattle.evo_code.specs.declared.layout.Layout.TheOpen as layout
use Rattle.evo_code.specs.Layouts.{value}

abbrev words : ℕ → Layout
words n = roll-Layout (layout.Words n)

abbrev sizes : List SizeWords
sizes = record { symbol = codes "S#size"; words = 3 } ∷ record { symbol = codes "S#size"; words = 4 } ∷ []

abbrev payload : Layout
payload = roll-Layout (layout.Max (words 0 ∷ roll-Layout (layout.SizeOf (codes "S#size")) ∷ words 2 ∷ []))

an_enum : value sizes (roll-Layout (layout.Sum (words 1 ∷ payload ∷ []))) ≡ 4
an_enum = simp fold-roll-Layout

nothing : value sizes (roll-Layout (layout.Sum [])) ≡ 0
nothing = simp fold-roll-Layout

absent : value sizes (roll-Layout (layout.SizeOf (codes "T#size"))) ≡ 0
absent = simp fold-roll-Layout

most : value sizes (roll-Layout (layout.Sum (words (2 ^ 64 - 1) ∷ words 1 ∷ []))) ≡ 2 ^ 64 - 1
most = simp fold-roll-Layout
