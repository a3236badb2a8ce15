-- Texts of types and protocols that names find.
use Rattle.std.specs.Prelude.{Option, Some, None}
use Rattle.evo_tree.specs.declared.name.Identifier.{Identifier}
use Rattle.evo_tree.specs.declared.declaration.DeclKind.TheOpen as de
use Rattle.evo_names.specs.Listed.{Kind}
use Rattle.evo_names.specs.Heads.{Head}
use Rattle.evo_keys.specs.declared.texts.FoundType.{FoundType}

-- the name that is written in a declaration
abbrev pub identifier_of : Kind → Option Identifier
identifier_of (de.Function i h b) = Some i
identifier_of (de.Initialiser h b) = None
identifier_of (de.Property k i t a) = Some i
identifier_of (de.TypeAlias i t) = Some i
identifier_of (de.AssociatedType i ts t) = Some i
identifier_of (de.Case i ps) = Some i
identifier_of (de.Nominal k i ts ds) = Some i
identifier_of (de.Extension t ts ds) = None

abbrev pub found_text : Head → FoundType
found_text h = record { kind = h.kind; key = h.key }
