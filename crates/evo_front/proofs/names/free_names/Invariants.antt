use Rattle.std.proofs.Common.{◌≡◌, ◌++◌, drop}
use Rattle.evo_base.specs.Names.{AreDistinct}
use Rattle.evo_first_form.specs.Interface.{names_of}
use Rattle.evo_first_form.specs.Accepted.{AreFree}
use Rattle.evo_front.proofs.names.free_names.Given as goal

-- the names so far are free and distinct, and with those that are left they are all
abbrev pub invariant-loop-function : goal.invariant-loop-function
invariant-loop-function l = record {
  all : names_of l.functions ≡ l.names ++ names_of (drop l.function-index l.functions);
  free : AreFree l.library l.names;
  distinct : AreDistinct l.names;
}
