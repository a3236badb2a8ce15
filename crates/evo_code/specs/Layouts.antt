-- How many words a layout has.
use Rattle.std.specs.Prelude.{ℕ, ◌-◌, ◌^◌, List, [], ◌∷◌, min, max, sum, if◌then◌else◌}
use Rattle.std.specs.Str.{bytes_eq}
use Rattle.evo_code.specs.declared.image.SizeWords.{SizeWords}
use Rattle.evo_code.specs.declared.layout.Layout.{Layout, Layout-F, fold-Layout}
use Rattle.evo_code.specs.declared.layout.Layout.TheOpen as layout

-- where sums stop
abbrev pub most_words : ℕ
most_words = 2 ^ 64 - 1

abbrev pub largest : List ℕ → ℕ
largest [] = 0
largest (n ∷ ns) = max n (largest ns)

-- the words of the first record with this symbol; a symbol without one has none
abbrev pub words_of : List SizeWords → List ℕ → ℕ
words_of [] s = 0
words_of (r ∷ rs) s = if bytes_eq r.symbol s then r.words else words_of rs s

-- one level, over the words of its parts
abbrev pub level_words : List SizeWords → Layout-F ℕ → ℕ
level_words sizes (layout.Words n) = n
level_words sizes (layout.SizeOf s) = words_of sizes s
level_words sizes (layout.Sum ns) = min most_words (sum ns)
level_words sizes (layout.Max ns) = largest ns

abbrev pub value : List SizeWords → Layout → ℕ
value sizes = fold-Layout ℕ (level_words sizes)
