-- Which names meet: the rules one by one.
use Rattle.std.proofs.Common.{◌≡◌, ℕ, List, [], ◌∷◌, codes, Option, Some, None, Bool, true, false, refl}
use Rattle.evo_base.specs.declared.place.Place.{Place}
use Rattle.evo_names.specs.declared.declared_name.Sort.{Sort}
use Rattle.evo_names.specs.declared.declared_name.Sort.TheVariants as sort
use Rattle.evo_names.specs.declared.declared_name.DeclaredName.{DeclaredName}
use Rattle.evo_names.specs.Meets.{meets}

abbrev origin : Place
origin = record { line = 1; col = 1 }

-- a member `x` of `Lib.S`, declared by this module
abbrev member : List ℕ → Sort → Option (List (List ℕ)) → Bool → Bool → Bool → DeclaredName
member m s labels requirement extends is_static = record { place = origin; «module» = m; context = codes "Lib" ∷ codes "S" ∷ []; base = codes "x"; labels = labels; sort = s; requirement = requirement; extends = extends; is_static = is_static; overrides = false }

abbrev property : DeclaredName
property = member (codes "Lib") sort.Property None false false false

abbrev function : Option (List (List ℕ)) → Bool → DeclaredName
function labels is_static = member (codes "Lib") sort.Function labels false false is_static

-- instance and static members meet
statics : meets (function (Some []) false) (function (Some []) true) ≡ true
statics = refl

-- functions with other labels do not
labels : meets (function (Some []) false) (function (Some (codes "_" ∷ [])) false) ≡ false
labels = refl

-- a property meets a function of its name without labels, and none with labels
property_function : meets property (function (Some []) false) ≡ true
property_function = refl

function_property : meets (function (Some []) false) property ≡ true
function_property = refl

property_labels : meets property (function (Some (codes "_" ∷ [])) false) ≡ false
property_labels = refl

-- a case meets each function of its name; a `typealias` none, but a property
case_function : meets (member (codes "Lib") sort.Case None false false false) (function (Some (codes "a" ∷ [])) true) ≡ true
case_function = refl

alias_function : meets (member (codes "Lib") sort.Alias None false false false) (function (Some []) false) ≡ false
alias_function = refl

alias_property : meets (member (codes "Lib") sort.Alias None false false false) property ≡ true
alias_property = refl

-- a requirement and its default do not meet; a static member, or a client's, meets it
default : meets (member (codes "Lib") sort.Function (Some []) true false false) (member (codes "Lib") sort.Function (Some []) false true false) ≡ false
default = refl

static_default : meets (member (codes "Lib") sort.Function (Some []) true false false) (member (codes "Lib") sort.Function (Some []) false true true) ≡ true
static_default = refl

client_default : meets (member (codes "Lib") sort.Function (Some []) true false false) (member (codes "main") sort.Function (Some []) false true false) ≡ true
client_default = refl
