use Rattle.std.proofs.Common.{◌≡◌, ◌++◌, drop}
use Rattle.evo_first_form.specs.Interface.{declared_names}
use Rattle.evo_iface.proofs.table.declared_table.Given as goal

-- the names so far and those that are left are all
abbrev pub invariant-loop-declaration : goal.invariant-loop-declaration
invariant-loop-declaration l = declared_names l.declarations ≡ l.table ++ declared_names (drop l.declaration-index l.declarations)
