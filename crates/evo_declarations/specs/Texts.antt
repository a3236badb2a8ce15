-- The texts by which declarations are found.
use Rattle.std.specs.Prelude.{[]}
use Rattle.evo_tree.specs.declared.declaration.DeclKind.TheOpen as de
use Rattle.evo_declarations.specs.declared.listed.Listed.{Listed}
use Rattle.evo_declarations.specs.Views.{entry_view}
use Rattle.evo_names.specs.Listed.{Text, Kind}

-- the name of a type or protocol
abbrev pub type_text : Kind → Text
type_text (de.Nominal k i ts ds) = i.text
type_text k = []

abbrev pub listed_type_text : Listed → Text
listed_type_text l = type_text (entry_view l).kind
