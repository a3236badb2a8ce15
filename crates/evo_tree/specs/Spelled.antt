-- Trees that some text spells, but for places.
use Rattle.std.specs.Prelude.{ℕ, List}
use Rattle.evo_tree.specs.declared.module.Form.{Form}
use Rattle.evo_tree.specs.declared.module.ModuleTree.{ModuleTree}
use Rattle.evo_tree.specs.Bare.{Same}
use Rattle.evo_tree.specs.Modules.{Spells}

-- the tree is the same but for places as one that this text spells, read in this form
pub record IsSpelled (tree : ModuleTree) : Type 0 where
  pub text : List ℕ
  pub form : Form
  pub spelled : ModuleTree
  pub spells : Spells text form spelled
  pub same : Same tree spelled
