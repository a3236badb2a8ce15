-- Trees whose canonical text is read again.
use Rattle.evo_tree.specs.declared.module.ModuleTree.{ModuleTree}
use Rattle.evo_tree.specs.Bare.{Same}
use Rattle.evo_tree.specs.Canonical.{canonical_text}
use Rattle.evo_tree.specs.Modules.{Spells}
use Rattle.evo_tree.specs.Spelled.{IsSpelled}

-- the tree's canonical text spells, in the tree's form, a tree that is the same but for places
pub record IsReadAgain (tree : ModuleTree) : Type 0 where
  pub read : ModuleTree
  pub spells : Spells (canonical_text tree) tree.form read
  pub same : Same tree read

-- the canonical text of each tree that some text spells is read again
abbrev pub CanonicalTextIsReadAgain : Type 0
CanonicalTextIsReadAgain = (tree : ModuleTree) → IsSpelled tree → IsReadAgain tree
