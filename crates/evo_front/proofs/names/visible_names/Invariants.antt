use Rattle.std.proofs.Common.{◌≡◌, ◌++◌, drop}
use Rattle.evo_first_form.specs.Interface.{declared_names, declarations_of}
use Rattle.evo_front.proofs.names.visible_names.Given as goal

-- the names so far and those that are left are all
abbrev pub invariant-loop-function : goal.invariant-loop-function
invariant-loop-function l = declared_names (declarations_of l.functions) ≡ l.names ++ declared_names (declarations_of (drop l.function-index l.functions))
