use Rattle.std.proofs.Common.{◌≡◌, ◌++◌, drop}
use Rattle.evo_iface.specs.Text.{functions_text}
use Rattle.evo_first_form.specs.Interface.{declarations_of}
use Rattle.evo_iface.proofs.writing.write_functions.Given as goal

-- the text so far and the lines of the functions that are left
abbrev pub invariant-loop-function : goal.invariant-loop-function
invariant-loop-function l = l.initial.text.items ++ functions_text (declarations_of l.functions) ≡ l.text.items ++ functions_text (declarations_of (drop l.function-index l.functions))
