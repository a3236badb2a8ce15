-- Declarations of small modules, from which the examples are made.
use Rattle.std.proofs.Common.{ℕ, List, [], ◌∷◌, map, codes, Option, Some, None}
use Rattle.evo_base.specs.declared.place.Place.{Place}
use Rattle.evo_base.specs.declared.key.Key.{Key}
use Rattle.evo_base.specs.declared.key.Mark.{Mark}
use Rattle.evo_tree.specs.declared.name.Identifier.{Identifier}
use Rattle.evo_tree.specs.declared.name.TypeName.{TypeName}
use Rattle.evo_tree.specs.declared.statement.Introducer.TheVariants as introducer
use Rattle.evo_tree.specs.declared.declaration.Modifier.{Modifier}
use Rattle.evo_tree.specs.declared.declaration.ModifierKind.{ModifierKind}
use Rattle.evo_tree.specs.declared.declaration.ParameterLabel.{ParameterLabel}
use Rattle.evo_tree.specs.declared.declaration.Parameter.{Parameter}
use Rattle.evo_tree.specs.declared.declaration.Header.{Header}
use Rattle.evo_tree.specs.declared.declaration.Accessors.TheVariants as accessors
use Rattle.evo_tree.specs.declared.declaration.NominalKind.{NominalKind}
use Rattle.evo_tree.specs.declared.declaration.DeclKind.TheOpen as de
use Rattle.evo_tree.specs.declared.module.Form.TheVariants as form
use Rattle.evo_names.specs.Listed.{Text, Within, extension, Kind, Entry, Listing, World}

abbrev pub place : ℕ → ℕ → Place
place l c = record { line = l; col = c }

abbrev pub origin : Place
origin = place 1 1

abbrev pub name : Text → Identifier
name n = record { place = origin; text = n }

abbrev pub type : Text → TypeName
type n = record { place = origin; names = n ∷ [] }

abbrev pub path : List Text → TypeName
path ns = record { place = origin; names = ns }

abbrev pub marked : ModifierKind → Modifier
marked k = record { place = origin; kind = k }

-- a declaration with these modifiers
abbrev pub declared : Within → List ModifierKind → Kind → Entry
declared w ms k = record { within = w; place = origin; attrs = []; modifiers = map marked ms; kind = k }

abbrev pub header : List Parameter → Header
header ps = record { generics = []; parameters = ps; result = None; requirements = [] }

abbrev pub parameter : ParameterLabel → Text → TypeName → Parameter
parameter l n t = record { place = origin; label = l; name = name n; type_name = t }

abbrev pub function : Text → List Parameter → Kind
function n ps = de.Function (name n) (header ps) None

abbrev pub initialiser : List Parameter → Kind
initialiser ps = de.Initialiser (header ps) None

abbrev pub stored : Text → TypeName → Kind
stored n t = de.Property introducer.Var (name n) t accessors.Stored

abbrev pub alias : Text → TypeName → Kind
alias n t = de.TypeAlias (name n) t

abbrev pub associated : Text → Option TypeName → Kind
associated n t = de.AssociatedType (name n) [] t

abbrev pub one_case : Text → Kind
one_case n = de.Case (name n) []

-- a type or protocol, and an extension. Their members stand behind them in the list.
abbrev pub nominal_type : NominalKind → Text → List TypeName → Kind
nominal_type k n ts = de.Nominal k (name n) ts []

abbrev pub extending : Text → List TypeName → Kind
extending n ts = de.Extension (type n) ts []

abbrev pub in_extension_of : Text → Within
in_extension_of n = extension (type n)

abbrev pub library : List Entry → Listing
library es = record { form = form.Library (codes "Lib"); name = codes "Lib"; imports = []; entries = es }

-- what the client sees is the library's interface
abbrev pub interface : List Entry → Listing
interface es = record { form = form.Interface; name = codes "Lib"; imports = []; entries = es }

abbrev pub client : List Entry → Listing → World
client es i = record { own = record { form = form.Client; name = codes "main"; imports = name (codes "Lib") ∷ []; entries = es }; imported = Some i }

abbrev pub key : Text → List Text → Text → Option (List Text) → List Mark → Key
key m context n labels marks = record { «module» = m; context = context; base = n; labels = labels; part = record { marks = marks } }

abbrev pub lib : Text
lib = codes "Lib"

abbrev pub main : Text
main = codes "main"

abbrev pub no_parameter : List Parameter
no_parameter = []
