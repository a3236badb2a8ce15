-- The texts by which declarations are sought.
use Rattle.std.specs.Prelude.{ℕ, List, [], ◌∷◌, flat_map, length}
use Rattle.evo_tree.specs.declared.name.TypeName.{TypeName}
use Rattle.evo_tree.specs.declared.declaration.DeclKind.TheOpen as de
use Rattle.evo_declarations.specs.Views.{entry_view}
use Rattle.evo_members.specs.declared.declared.Declared.{Declared}
use Rattle.evo_names.specs.Listed.{Text, Kind, World, Declaration, declarations}
use Rattle.evo_names.specs.Heads as heads

-- the name of a `typealias` or an associated type
abbrev pub alias_text : Kind → Text
alias_text (de.TypeAlias i t) = i.text
alias_text (de.AssociatedType i ts t) = i.text
alias_text k = []

-- what names a type or protocol ends with
abbrev pub last_text : List Text → Text
last_text (n ∷ []) = n
last_text (m ∷ n ∷ []) = n
last_text ns = []

-- the name of a type or protocol, or the last one of what an extension extends
abbrev pub base_text : Kind → Text
base_text (de.Nominal k i ts ds) = i.text
base_text (de.Extension t ts ds) = last_text t.names
base_text k = []

abbrev pub alias_of : Declaration → Text
alias_of d = alias_text d.entry.kind

abbrev pub base_of : Declaration → Text
base_of d = base_text d.entry.kind

-- how many names are written behind types, protocols and extensions
abbrev pub inherited_length : World → ℕ
inherited_length w = length (flat_map (λ (d : Declaration). heads.inherit_list d.entry.kind) (declarations w))

-- ---- of what is borrowed

abbrev pub declared_alias : Declared → Text
declared_alias d = alias_text (entry_view d.listed).kind

abbrev pub declared_base : Declared → Text
declared_base d = base_text (entry_view d.listed).kind

abbrev pub inherited_by : Declared → List TypeName
inherited_by d = heads.inherit_list (entry_view d.listed).kind
