-- Types and keys of our own.
use Rattle.std.specs.Prelude.{◌≡◌, List, Option, Some, None}
use Rattle.evo_base.specs.declared.key.Key.{Key}
use Rattle.evo_resolved.specs.declared.resolved_type.RType.{RType}
use Rattle.evo_headers.specs.declared.owned.Found.{Found}
use Rattle.evo_headers.specs.Unresolved.{MeansNothing}
use Rattle.evo_names.specs.Listed.{Text}
use Rattle.evo_names.specs.Written.{Scope, Means}
use Rattle.evo_type_names.specs.declared.meaning.Meaning.{Meaning}
use Rattle.evo_type_names.specs.Known.{met_by, type_of}

-- the same type, met by the same `typealias`es
pub record IsCopied (m : Meaning) (f : Found) : Type 0 where
  pub aliases : f.aliases.items ≡ met_by m
  pub resolved : f.resolved ≡ type_of m

-- what names mean, or that they mean nothing
abbrev pub IsFound : Scope → List Text → Option Found → Type 0
IsFound s ns None = MeansNothing s.home s ns
IsFound s ns (Some f) = Means s.home s ns f.aliases.items f.resolved
