-- The declarations that have no resolved form: a name of the header is none.
use Rattle.std.specs.Prelude.{◌≡◌, ℕ, List, ◌∷◌, None, false}
use Rattle.evo_base.specs.declared.key.Key.{Key}
use Rattle.evo_resolved.specs.declared.resolved_type.RType.{RType}
use Rattle.evo_tree.specs.declared.name.TypeName.{TypeName}
use Rattle.evo_tree.specs.declared.declaration.Decl.{Decl}
use Rattle.evo_tree.specs.declared.declaration.DeclKind.TheOpen as de
use Rattle.evo_names.specs.Listed.{Text, World, Declaration, extension}
use Rattle.evo_names.specs.Heads.{head_of}
use Rattle.evo_names.specs.Written.{Scope, Means}
use Rattle.evo_names.specs.Faults.{At, is_superclass, names_protocol, protocols_of, scope_of, types_of}

-- one of a list has it
pub data One {A : Type 0} (P : A → Type 0) : List A → Type 0 where
  here : {x : A} {xs : List A} → P x → One P (x ∷ xs)
  later : {x : A} {xs : List A} → One P xs → One P (x ∷ xs)

-- names that mean nothing
abbrev pub MeansNothing : World → Scope → List Text → Type 0
MeansNothing w s names = (met : List Key) (t : RType) → Means w s names met t → ⊥

-- a written type that means nothing
abbrev pub IsVoid : Scope → TypeName → Type 0
IsVoid s t = MeansNothing s.home s t.names

-- a name that is no protocol
abbrev pub IsNoProtocol : World → TypeName → Type 0
IsNoProtocol w t = names_protocol w t ≡ false

-- of these types one means nothing, or of these names one is no protocol
pub data Lacks (s : Scope) (types protocols : List TypeName) : Type 0 where
  no_type : One (IsVoid s) types → Lacks s types protocols
  no_protocol : One (IsNoProtocol s.home) protocols → Lacks s types protocols

-- a written type that means nothing, a name that is to be a protocol and is none, or what is extended and is no type or protocol: by the declaration, or by that in which it stands
pub data IsUnresolved (d : Declaration) : Type 0 where
  written : (j : ℕ) (t : TypeName) → At (types_of d.entry.kind) j t → MeansNothing d.world (scope_of d) t.names → IsUnresolved d
  protocol : (j : ℕ) (t : TypeName) → At (protocols_of d.entry.kind) j t → names_protocol d.world t ≡ false → is_superclass d.world d.entry.kind j t ≡ false → IsUnresolved d
  extended : {t : TypeName} {ts : List TypeName} {ds : List Decl} → d.entry.kind ≡ de.Extension t ts ds → head_of d.world t.names ≡ None → IsUnresolved d
  outside : {t : TypeName} → d.entry.within ≡ extension t → head_of d.world t.names ≡ None → IsUnresolved d
