-- The grammar of modules, and which text spells which module.
--
--   library   = [ part { separator part } ]     part = import | decl
--   client    = [ part { separator part } ]     part = import | decl | statement
--   interface = import { separator decl }
--   import    = "import" NAME
--
-- Imports stand before all else. A separator is a `;`, or nothing where the next part begins on a later line.
-- An interface begins with two exact lines, which are comments to the tokens. They say its name and its release.
use Rattle.std.specs.Prelude.{◌≡◌, ◌⊎◌, ℕ, ◌^◌, ◌<◌, List, [], ◌∷◌, ◌++◌, map, Option, Some, None, Bool, true, false, codes}
use Rattle.std.specs.Fmt.{decimal}
use Rattle.std.specs.Str.{IsUtf8}
use Rattle.evo_base.specs.declared.token.Token.{Token}
use Rattle.evo_combinators.specs.Rule.{Empty, TokenThen, Or, Then}
use Rattle.evo_combinators.specs.Guard.{Run}
use Rattle.evo_lex.specs.Tokenization.{Tokenization}
use Rattle.evo_lex.specs.ModuleName.{IsModule}
use Rattle.evo_tree.specs.declared.name.Identifier.{Identifier}
use Rattle.evo_tree.specs.declared.statement.Block.{Block}
use Rattle.evo_tree.specs.declared.statement.Stmt.{Stmt}
use Rattle.evo_base.specs.declared.place.Release.{Release}
use Rattle.evo_tree.specs.declared.module.Form.{Form}
use Rattle.evo_tree.specs.declared.module.Form.TheVariants as form
use Rattle.evo_tree.specs.declared.module.Item.{Item}
use Rattle.evo_tree.specs.declared.module.Item.TheVariants as item
use Rattle.evo_tree.specs.declared.module.ModuleTree.{ModuleTree}
use Rattle.evo_tree.specs.declared.module.ModulePart.{ModulePart}
use Rattle.evo_tree.specs.declared.module.ModulePart.TheVariants as part
use Rattle.evo_tree.specs.declared.module.PartSpot.{PartSpot}
use Rattle.evo_tree.specs.declared.module.PartSpot.TheVariants as spot
use Rattle.evo_tree.specs.declared.terminal.Terminal.TheVariants as t
use Rattle.evo_tree.specs.Pieces.{pieces, mark, identifier}
use Rattle.evo_tree.specs.Expressions.{Rule}
use Rattle.evo_tree.specs.Statements.{IsStmt, IsBlock, Later}
use Rattle.evo_tree.specs.Declarations.{only_if, Next, IsDeclaration}

abbrev pub imports_of : List ModulePart → List Identifier
imports_of [] = []
imports_of (part.Import n ∷ parts) = n ∷ imports_of parts
imports_of (part.Items is ∷ parts) = imports_of parts

abbrev pub items_of : List ModulePart → List Item
items_of [] = []
items_of (part.Import n ∷ parts) = items_of parts
items_of (part.Items is ∷ parts) = is ++ items_of parts

-- imports may stand behind imports alone
abbrev pub after_part : PartSpot → ModulePart → PartSpot
after_part s (part.Items is) = spot.Further false
after_part spot.Leading (part.Import n) = spot.Further true
after_part (spot.Further may) (part.Import n) = spot.Further may

abbrev pub is_interface : Form → Bool
is_interface form.Interface = true
is_interface f = false

-- B is a block and S a statement that stands behind others, by how much nesting may open
module _ (B : ℕ → Bool → Rule Block) (S : ℕ → Rule Stmt) where
  -- decl
  abbrev pub Declared : Form → ℕ → Rule (List Item)
  Declared f d = Then (IsDeclaration B (is_interface f) d) (λ ds. Empty (map item.Decl ds))

  -- decl, or in a client decl | statement
  abbrev pub Items : Form → ℕ → Rule (List Item)
  Items form.Client d = Or (Declared form.Client d) (Then (S d) (λ x. Empty (item.Stmt x ∷ [])))
  Items (form.Library n) d = Declared (form.Library n) d
  Items form.Interface d = Declared form.Interface d

  -- import
  abbrev pub Import : Rule ModulePart
  Import = TokenThen (mark t.Import) (λ _. TokenThen identifier (λ n. Empty (part.Import n)))

  -- an import, where it may stand, or items
  abbrev pub PartOf : Form → ℕ → Bool → Rule ModulePart
  PartOf f d may = Or (TokenThen (only_if may (mark t.Import)) (λ _. TokenThen identifier (λ n. Empty (part.Import n)))) (Then (Items f d) (λ is. Empty (part.Items is)))

  -- the first part, or a further one behind a separator, and whether it may be an import
  abbrev pub PartAt : Form → ℕ → PartSpot → Rule ModulePart
  PartAt f d spot.Leading = PartOf f d true
  PartAt f d (spot.Further may) = Next (PartOf f d may)

  abbrev pub Parts : Form → ℕ → Rule (List ModulePart)
  Parts form.Interface d = Then Import (λ x. Then (Run (PartAt form.Interface d) after_part (spot.Further false)) (λ xs. Empty (x ∷ xs)))
  Parts form.Client d = Run (PartAt form.Client d) after_part spot.Leading
  Parts (form.Library n) d = Run (PartAt (form.Library n) d) after_part spot.Leading

-- ---- texts

-- a line feed, with a carriage return before it or not
abbrev pub IsLineEnd : List ℕ → Type 0
IsLineEnd end = (end ≡ 10 ∷ []) ⊎ (end ≡ 13 ∷ 10 ∷ [])

-- the two lines with which an interface of this name and release begins
pub record IsHeading (text name : List ℕ) (release : Release) : Type 0 where
  pub utf8 : IsUtf8 name
  pub name_is : IsModule name
  pub major : release.major < 2 ^ 32
  pub minor : release.minor < 2 ^ 32
  pub first_end : List ℕ
  pub second_end : List ℕ
  pub rest : List ℕ
  pub ends : IsLineEnd first_end
  pub ends_again : IsLineEnd second_end
  pub lines : text ≡ codes "// swift-interface-format-version: 1.0" ++ first_end
      ++ codes "// swevo-module: " ++ name ++ codes " " ++ decimal release.major ++ codes "." ++ decimal release.minor ++ second_end ++ rest

-- where a module has its name and its release from
abbrev pub IsNamed : List ℕ → Form → List ℕ → Option Release → Type 0
IsNamed text (form.Library n) name release = (name ≡ n) × (release ≡ None)
IsNamed text form.Client name release = (name ≡ codes "main") × (release ≡ None)
IsNamed text form.Interface name None = ⊥
IsNamed text form.Interface name (Some release) = IsHeading text name release

-- this much nesting may open
abbrev pub nesting : ℕ
nesting = 64

-- the text, read in this form, is this module: it is cut into tokens which spell its parts
pub record Spells (text : List ℕ) (f : Form) (m : ModuleTree) : Type 0 where
  pub tokens : List Token
  pub cut : Tokenization text tokens
  pub parts : List ModulePart
  pub spelled : Parts (λ d inits. IsBlock inits d) (λ d. Later (IsStmt false d)) f nesting (pieces text tokens) parts
  pub form_is : m.form ≡ f
  pub named : IsNamed text f m.name m.release
  pub imports_are : m.imports ≡ imports_of parts
  pub items_are : m.items ≡ items_of parts
