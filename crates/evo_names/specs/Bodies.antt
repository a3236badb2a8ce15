-- The bodies of a module, in the order of the text, and last a client's top level.
use Rattle.std.specs.Prelude.{List, [], ◌∷◌, ◌++◌, map, flat_map, Option, Some, None}
use Rattle.evo_base.specs.declared.key.Key.{Key}
use Rattle.evo_base.specs.declared.key.Mark.{Mark}
use Rattle.evo_base.specs.declared.key.Mark.TheVariants as mark
use Rattle.evo_tree.specs.declared.statement.Block.{Block}
use Rattle.evo_tree.specs.declared.statement.Stmt.{Stmt}
use Rattle.evo_tree.specs.declared.declaration.Accessors.{Accessors}
use Rattle.evo_tree.specs.declared.declaration.Accessors.TheVariants as accessors
use Rattle.evo_tree.specs.declared.declaration.DeclKind.TheOpen as de
use Rattle.evo_tree.specs.declared.module.Item.{Item}
use Rattle.evo_tree.specs.declared.module.Item.TheVariants as item
use Rattle.evo_tree.specs.declared.module.Form.{Form}
use Rattle.evo_tree.specs.declared.module.Form.TheVariants as form
use Rattle.evo_tree.specs.declared.module.ModuleTree.{ModuleTree}
use Rattle.evo_resolved.specs.declared.body.BodyPart.{BodyPart}
use Rattle.evo_resolved.specs.declared.body.BodyPart.TheVariants as part
use Rattle.evo_names.specs.Listed.{Kind, World, Declaration, list_of, own_declarations}
use Rattle.evo_names.specs.Keys.{body_key, key_of, start_key}

-- A body, or a header without one. A client's top level is no declaration.
pub record WrittenBody : Type 0 where
  pub owner : Key
  pub declaration : Option Declaration
  pub part : BodyPart
  pub block : Option Block

abbrev pub accessor_parts : Accessors → List (BodyPart × Option Block)
accessor_parts accessors.Stored = (part.Whole, None) ∷ []
accessor_parts accessors.Get = (part.Getter, None) ∷ []
accessor_parts accessors.GetSet = (part.Getter, None) ∷ (part.Setter, None) ∷ []
accessor_parts (accessors.Block b) = (part.Getter, Some b) ∷ []
accessor_parts (accessors.Blocks b c) = (part.Getter, Some b) ∷ map (λ (x : Block). (part.Setter, Some x)) (list_of c)

-- a header without a body counts where it names a type
abbrev pub header_alone : {A : Type 0} → List A → List (BodyPart × Option Block)
header_alone [] = []
header_alone (x ∷ xs) = (part.Whole, None) ∷ []

-- the bodies of a declaration, or its header alone
abbrev pub parts_of : Kind → List (BodyPart × Option Block)
parts_of (de.Function i h b) = (part.Whole, b) ∷ []
parts_of (de.Initialiser h b) = (part.Whole, b) ∷ []
parts_of (de.Property k i t a) = accessor_parts a
parts_of (de.TypeAlias i t) = (part.Whole, None) ∷ []
parts_of (de.AssociatedType i ts t) = header_alone (ts ++ list_of t)
parts_of (de.Case i ps) = header_alone ps
parts_of (de.Nominal k i ts ds) = header_alone ts
parts_of (de.Extension t ts ds) = (part.Whole, None) ∷ []

-- an accessor has its mark: that of a requirement has one of its own
abbrev pub getter_marks : List Mark → List Mark
getter_marks [] = mark.Get ∷ []
getter_marks (m ∷ ms) = mark.RequirementGet ∷ []

abbrev pub setter_marks : List Mark → List Mark
setter_marks [] = mark.Set ∷ []
setter_marks (m ∷ ms) = mark.RequirementSet ∷ []

abbrev pub part_key : BodyPart → Key → Key
part_key part.Whole k = k
part_key part.Getter k = record k { part = record { marks = getter_marks k.part.marks } }
part_key part.Setter k = record k { part = record { marks = setter_marks k.part.marks } }

-- the key of what overrides is that of its own place; an extension's is that of its type
abbrev pub owner_key : Declaration → Kind → Option Key
owner_key d (de.Extension t ts ds) = key_of d
owner_key d k = body_key d

abbrev pub written_body : Declaration → Key → BodyPart × Option Block → WrittenBody
written_body d k b = record { owner = part_key b.0 k; declaration = Some d; part = b.0; block = b.1 }

abbrev pub bodies_of : Declaration → List WrittenBody
bodies_of d = flat_map (λ k. map (written_body d k) (parts_of d.entry.kind)) (list_of (owner_key d d.entry.kind))

-- what stands at the top level of a client
abbrev pub statement_of : Item → List Stmt
statement_of (item.Decl d) = []
statement_of (item.Stmt s) = s ∷ []

unfoldable pub top_statements : ModuleTree → List Stmt
top_statements m = flat_map statement_of m.items

-- `block` holds the statements of the top level
abbrev pub start_by : Form → Block → List WrittenBody
start_by form.Client b = record { owner = start_key; declaration = None; part = part.Whole; block = Some b } ∷ []
start_by f b = []

unfoldable pub bodies : World → Block → List WrittenBody
bodies w block = flat_map bodies_of (own_declarations w) ++ start_by w.own.form block
