-- What a part of a header is once its names are resolved, or why it is not.
use Rattle.std.specs.Prelude.{Result, Ok, Err, true, ◌≡◌}
use Rattle.evo_headers.specs.declared.gap.Gap.{Gap}
use Rattle.evo_headers.specs.declared.gap.Gap.TheVariants as gap

-- want of memory alone is free
abbrev pub Stops : Type 0 → Gap → Type 0
Stops F gap.Memory = true ≡ true
Stops F gap.Unknown = F

abbrev pub Resolves : {A : Type 0} → Result A Gap → (A → Type 0) → Type 0 → Type 0
Resolves (Ok x) P F = P x
Resolves (Err g) P F = Stops F g
