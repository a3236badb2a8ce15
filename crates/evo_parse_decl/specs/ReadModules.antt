-- Reading modules from the left.
use Rattle.std.specs.Prelude.{ℕ, List, [], ◌∷◌, map, Bool, true, false}
use Rattle.evo_combinators.specs.Reader.{◌>>=◌, pure, alt, one}
use Rattle.evo_combinators.specs.Guard.{on}
use Rattle.evo_combinators.specs.Attempt.{tries}
use Rattle.evo_tree.specs.declared.statement.Block.{Block}
use Rattle.evo_tree.specs.declared.statement.Stmt.{Stmt}
use Rattle.evo_tree.specs.declared.module.Form.{Form}
use Rattle.evo_tree.specs.declared.module.Form.TheVariants as form
use Rattle.evo_tree.specs.declared.module.Item.{Item}
use Rattle.evo_tree.specs.declared.module.Item.TheVariants as item
use Rattle.evo_tree.specs.declared.terminal.Terminal.TheVariants as t
use Rattle.evo_tree.specs.Pieces.{mark, identifier}
use Rattle.evo_tree.specs.Declarations.{only_if}
use Rattle.evo_tree.specs.declared.module.ModulePart.{ModulePart}
use Rattle.evo_tree.specs.declared.module.ModulePart.TheVariants.{Import as imports, Items as items}
use Rattle.evo_tree.specs.declared.module.PartSpot.{PartSpot}
use Rattle.evo_tree.specs.declared.module.PartSpot.TheVariants.{Leading as leading, Further as further}
use Rattle.evo_tree.specs.Modules.{after_part, is_interface}
use Rattle.evo_parse_expr.specs.Read.{Reader}
use Rattle.evo_parse_decl.specs.Read.{next, top_declaration, begins_top}

-- b reads blocks and s a statement that stands behind others
module _ (b : ℕ → Bool → Reader Block) (s : ℕ → Reader Stmt) where
  unfoldable pub declared : Form → ℕ → Reader (List Item)
  declared f d = top_declaration b (is_interface f) d >>= (λ ds. pure (map item.Decl ds))

  unfoldable pub items_of : Form → ℕ → Reader (List Item)
  items_of form.Client d = on begins_top (declared form.Client d) (s d >>= (λ x. pure (item.Stmt x ∷ [])))
  items_of (form.Library n) d = declared (form.Library n) d
  items_of form.Interface d = declared form.Interface d

  unfoldable pub import_of : Reader ModulePart
  import_of = do
    _ ← one (mark t.Import)
    n ← one identifier
    pure (imports n)

  unfoldable pub part_of : Form → ℕ → Bool → Reader ModulePart
  part_of f d may = alt (only_if may (mark t.Import)) (λ _. one identifier >>= (λ n. pure (imports n))) (items_of f d >>= (λ is. pure (items is)))

  unfoldable pub part_at : Form → ℕ → PartSpot → Reader ModulePart
  part_at f d leading = part_of f d true
  part_at f d (further may) = next (part_of f d may)

  unfoldable pub parts : Form → ℕ → Reader (List ModulePart)
  parts form.Interface d = do
    x ← import_of
    xs ← tries (part_at form.Interface d) after_part (further false)
    pure (x ∷ xs)
  parts form.Client d = tries (part_at form.Client d) after_part leading
  parts (form.Library n) d = tries (part_at (form.Library n) d) after_part leading
