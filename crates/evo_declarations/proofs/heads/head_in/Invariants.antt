use Rattle.std.proofs.Common.{◌≡◌, drop}
use Rattle.evo_declarations.specs.Heads.{head_at_number}
use Rattle.evo_declarations.specs.Views.{view_of}
use Rattle.evo_declarations.specs.Worlds.{module_view}
use Rattle.evo_names.specs.Heads.{first_some, head_in}
use Rattle.evo_declarations.proofs.heads.head_in.Given as goal

abbrev pub invariant-loop-number : goal.invariant-loop-number
invariant-loop-number l = head_in (view_of l.view) (module_view l.names) l.name ≡ first_some (head_at_number (view_of l.view) (module_view l.names) l.name) (drop l.number-index l.numbers)
