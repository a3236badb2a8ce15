-- Small images, and what their runs come to after so many steps.
use Rattle.std.proofs.Common.{◌≡◌, ℕ, List, [], ◌∷◌, codes, sym, ap, ◌∙◌, true}
use Rattle.evo_code.specs.declared.instr.Instr.{Instr}
use Rattle.evo_code.specs.declared.instr.Instr.TheVariants as Op
use Rattle.evo_code.specs.declared.instr.Arg.{Arg}
use Rattle.evo_code.specs.declared.layout.Layout.{Layout, fold-roll-Layout}
use Rattle.evo_code.specs.declared.layout.Layout.TheOpen as open_layout
use Rattle.evo_code.specs.declared.layout.Layout.TheVariants as layout
use Rattle.evo_code.specs.declared.layout.Layout.TheVariants.{rolls-Words}
use Rattle.evo_code.specs.declared.layout.Operand.{Operand}
use Rattle.evo_code.specs.declared.object.Function.{Function}
use Rattle.evo_code.specs.declared.object.Level.{Level}
use Rattle.evo_code.specs.declared.object.Level.TheVariants as level
use Rattle.evo_code.specs.declared.image.Image.{Image}
use Rattle.evo_code.specs.declared.image.SizeWords.{SizeWords}
use Rattle.evo_code.specs.Layouts.{value, level_words}
use Rattle.evo_execution.specs.Words.{Word}
use Rattle.evo_execution.specs.Execution.{State, Step, Goes, step}

pub value-words : (sizes : List SizeWords) (n : ℕ) → value sizes (layout.Words n) ≡ n
value-words sizes n = ap (value sizes) (sym (rolls-Words n)) ∙ fold-roll-Layout ℕ (level_words sizes) (open_layout.Words n)

abbrev pub slot : ℕ → Operand
slot n = record { slot = n; offset = layout.Words 0 }

abbrev pub one_word : ℕ → Arg
one_word n = record { place = slot n; layout = layout.Words 1 }

abbrev pub function : List ℕ → Level → ℕ → List Layout → ℕ → List Instr → Function
function s l params slots result code = record { symbol = s; level = l; exported = true; slots = slots; params = params; result = layout.Words result; code = code }

abbrev pub two_slots : List Layout
two_slots = layout.Words 1 ∷ layout.Words 1 ∷ []

abbrev pub start : List Instr → Function
start code = function (codes "main#start") level.Timed 0 two_slots 0 code

abbrev pub image_of : List Function → Image
image_of fs = record { functions = fs; library = 0; sizes = []; classes = []; conformances = [] }

abbrev pub leave : Instr
leave = Op.Return (slot 0) (layout.Words 0)

-- what an instruction does in a frame of two slots with these words, behind a tick
abbrev pub does : List Word → Instr → Step
does words i = step (image_of (start (Op.Tick ∷ i ∷ []) ∷ [])) (record { top = record { function = 0; at = 1; words = words; to = 0 }; below = []; objects = []; ticks = 0 })

-- the run goes on behind the instruction, with these words
abbrev pub leaves : List Word → Step
leaves words = Goes (record { top = record { function = 0; at = 2; words = words; to = 0 }; below = []; objects = []; ticks = 0 })
