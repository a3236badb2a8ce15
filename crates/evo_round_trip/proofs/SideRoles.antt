-- An operator's role, by the white space beside it.
use Rattle.std.proofs.Common.{Bool, cond, not}
use Rattle.std.specs.Prelude.{◌&&◌}
use Rattle.evo_tree.specs.declared.terminal.Terminal.{Terminal}
use Rattle.evo_tree.specs.declared.terminal.Role.{Role}
use Rattle.evo_tree.specs.declared.terminal.Role.TheVariants as role
use Rattle.evo_tree.specs.Pieces.{prefix_role}

-- by what counts as white space on the left and on the right, and whether an integer stands behind it
abbrev pub role_with : Bool → Bool → Terminal → Bool → Role
role_with left right k integer = cond (left && not right) (prefix_role k integer) (cond (cond left right (not right)) role.Infix role.Unattached)
