use Rattle.std.proofs.Common.{◌≡◌, List, ◌++◌, length}
use Rattle.evo_first_form.specs.declared.Declaration.{Declaration}
use Rattle.evo_iface.specs.Text.{ArePlain, functions_text}
use Rattle.evo_iface.proofs.reading.read_functions.Given as goal

-- the functions so far and the rest are the text, and all functions of a text are those found and those of the rest
abbrev pub invariant-loop-rest : goal.invariant-loop-rest
invariant-loop-rest l = record {
  found : (ds : List Declaration) → l.rest ≡ functions_text ds → l.text ≡ functions_text (l.functions.items ++ ds);
  only : (ds : List Declaration) → ArePlain ds → l.text ≡ functions_text ds →
      (more : List Declaration) × (ds ≡ l.functions.items ++ more) × ArePlain more × (l.rest ≡ functions_text more);
}

abbrev pub decreases-loop-rest : goal.decreases-loop-rest
decreases-loop-rest l = length l.rest
