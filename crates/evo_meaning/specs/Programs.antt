-- A client that was built against an old interface and runs with a new library, and which body runs there. Each look-up is by key.
use Rattle.std.specs.Prelude.{ℕ, zero, suc, ◌+◌, Bool, true, false, ◌&&◌, List, [], ◌∷◌, map, length, slice_get, Option, Some, None, if◌then◌else◌}
use Rattle.std.specs.Option.{option_map, option_or, option_and_then}
use Rattle.std.specs.Str.{bytes_eq}
use Rattle.evo_base.specs.declared.key.Key.{Key}
use Rattle.evo_tree.specs.declared.declaration.NominalKind.TheVariants as nominal
use Rattle.evo_resolved.specs.Named.{decl_key, is_declared, body_key, is_body, conformance_key, is_conformance}
use Rattle.evo_resolved.specs.declared.path.ConfPath.{ConfPath}
use Rattle.evo_resolved.specs.declared.path.ConfStart.{ConfStart}
use Rattle.evo_resolved.specs.declared.path.ConfStart.TheVariants as start
use Rattle.evo_resolved.specs.declared.expression.Reach.{Reach}
use Rattle.evo_resolved.specs.declared.declaration.Standing.{Standing}
use Rattle.evo_resolved.specs.declared.declaration.Standing.TheVariants as standing
use Rattle.evo_resolved.specs.declared.declaration.Kept.TheVariants as kept
use Rattle.evo_resolved.specs.declared.declaration.RParameter.{RParameter}
use Rattle.evo_resolved.specs.declared.declaration.RDeclKind.{RDeclKind}
use Rattle.evo_resolved.specs.declared.declaration.RDeclKind.TheVariants as kind
use Rattle.evo_resolved.specs.declared.declaration.RDecl.{RDecl}
use Rattle.evo_resolved.specs.declared.statement.RBlock.{RBlock}
use Rattle.evo_resolved.specs.declared.body.RBody.{RBody}
use Rattle.evo_resolved.specs.declared.module.RWitness.{RWitness}
use Rattle.evo_resolved.specs.declared.module.RSubtable.{RSubtable}
use Rattle.evo_resolved.specs.declared.module.RConformance.{RConformance}
use Rattle.evo_resolved.specs.declared.module.RDefault.{RDefault}
use Rattle.evo_resolved.specs.declared.module.RProtocol.{RProtocol}
use Rattle.evo_resolved.specs.declared.module.RModule.{RModule}
use Rattle.evo_names.specs.Listed.{Text}
use Rattle.evo_meaning.specs.Keys.{same_key, look_up, with_key}

-- whose code a body runs as
pub data Side : Type 0 where
  client_side : Side
  library_side : Side

pub record MixedProgram : Type 0 where
  pub client : RModule
  -- the interface that the client was built against
  pub old : RModule
  -- the library that it runs with
  pub new : RModule

-- ---- the declarations: the client's own, and the new library's

abbrev pub is_clients : MixedProgram → Key → Bool
is_clients p key = bytes_eq key.module p.client.name

abbrev pub module_of : MixedProgram → Key → RModule
module_of p key = if is_clients p key then p.client else p.new

abbrev pub side_of : MixedProgram → Key → Side
side_of p key = if is_clients p key then client_side else library_side

abbrev pub declaration : MixedProgram → Key → Option RDecl
declaration p key = look_up decl_key is_declared (module_of p key).decls key

abbrev pub is_stored : RDeclKind → Bool
is_stored (kind.Property i t kept.Stored) = true
is_stored _ = false

abbrev pub superclass_by : RDeclKind → Option Key
superclass_by (kind.Nominal k (Some above) ps) = Some above.key
superclass_by _ = None

abbrev pub superclass : MixedProgram → Key → Option Key
superclass p class = option_and_then (λ (d : RDecl). superclass_by d.kind) (declaration p class)

-- ---- static calls

-- a written body, the side that it runs on, and what its declaration stands in
pub record Implementation : Type 0 where
  pub side : Side
  pub standing : Standing
  pub block : RBlock

abbrev pub implementation_by : Side → RBody → Option Implementation
implementation_by side body = option_map (λ block. record { side = side; standing = body.scope.standing; block = block }) body.block

-- what a module writes as the body of this key
abbrev pub written_in : Side → RModule → Key → Option Implementation
written_in side m key = option_and_then (implementation_by side) (look_up body_key is_body m.bodies key)

-- The body that a static call runs. A client's call finds its own, else the old inlinable one, which it copied, else the new library's.
abbrev pub static_implementation : MixedProgram → Side → Key → Option Implementation
static_implementation p client_side key = option_or (written_in client_side p.client key) (option_or (written_in client_side p.old key) (written_in library_side p.new key))
static_implementation p library_side key = written_in library_side p.new key

-- the body of a declaration of either module, on the side of the module that wrote it
abbrev pub own_implementation : MixedProgram → Key → Option Implementation
own_implementation p key = static_implementation p (side_of p key) key

-- ---- dispatched calls

abbrev pub is_in_class : Standing → Key → Bool
is_in_class (standing.Braces nominal.Class c) class = same_key c class
is_in_class _ class = false

-- what this class itself declares or overrides under the key of the root
unfoldable pub declared_by_class : List RDecl → Key → Key → Option RDecl
declared_by_class [] class root = None
declared_by_class (d ∷ ds) class root = if same_key d.key root && is_in_class d.standing class then Some d else declared_by_class ds class root

abbrev pub implementation_or : MixedProgram → Option RDecl → Option Implementation → Option Implementation
implementation_or p (Some d) above = own_implementation p d.own
implementation_or p None above = above

-- the number bounds how many classes stand above one another
unfoldable pub implementation_from : ℕ → MixedProgram → Option Key → Key → Option Implementation
implementation_from n p None root = None
implementation_from zero p (Some class) root = None
implementation_from (suc n) p (Some class) root = implementation_or p (declared_by_class (module_of p class).decls class root) (implementation_from n p (superclass p class) root)

-- the body of the nearest class, from this one upwards, that declares the root or overrides it
abbrev pub dispatched_implementation : MixedProgram → Option Key → Key → Option Implementation
dispatched_implementation p class root = implementation_from (length p.client.decls + length p.new.decls) p class root

-- ---- conformances: what a generic body is given for each conformance that its signature requires is the key of a declared one, its table

abbrev pub conformance : MixedProgram → Key → Option RConformance
conformance p table = look_up conformance_key is_conformance (module_of p table).conformances table

abbrev pub protocol : MixedProgram → Key → Option RProtocol
protocol p key = with_key (λ (q : RProtocol). q.key) (module_of p key).protocols key

abbrev pub table_under : List RSubtable → Key → Option Key
table_under subtables name = option_and_then (λ (s : RSubtable). s.conformance) (with_key (λ (s : RSubtable). s.name) subtables name)

-- what the conformance recorded, else what the protocol has now: for a new associated type, the conformance of its default
abbrev pub subtable_in : MixedProgram → RConformance → Key → Option Key
subtable_in p c name = option_or (table_under c.subtables name) (option_and_then (λ (q : RProtocol). table_under q.subtables name) (protocol p c.protocol.key))

abbrev pub subtable : MixedProgram → Key → Key → Option Key
subtable p name table = option_and_then (λ c. subtable_in p c name) (conformance p table)

unfoldable pub subtable_along : MixedProgram → Option Key → List Key → Option Key
subtable_along p table [] = table
subtable_along p table (name ∷ names) = subtable_along p (option_and_then (subtable p name) table) names

abbrev pub path_start : List Key → ConfStart → Option Key
path_start tables (start.Required i) = slice_get tables i
path_start tables (start.Declared key) = Some key

-- the table at the end of a path, in a body that was given these
abbrev pub table_of : MixedProgram → List Key → ConfPath → Option Key
table_of p tables path = subtable_along p (path_start tables path.start) path.steps

unfoldable pub tables_of : MixedProgram → List Key → List ConfPath → Option (List Key)
tables_of p tables [] = Some []
tables_of p tables (path ∷ paths) = option_and_then (λ table. option_map (λ others. table ∷ others) (tables_of p tables paths)) (table_of p tables path)

-- ---- requirements

-- what meets a requirement: a member of the conforming type, or a member of an extension of the protocol
pub data Witness : Type 0 where
  by_member : Key → Reach → Witness
  by_default : Key → Witness

-- what was recorded when the conformance was accepted
abbrev pub recorded_witness : RConformance → Key → Option Witness
recorded_witness c requirement = option_and_then (λ (w : RWitness). option_map (λ member. by_member member w.reach) w.member) (with_key (λ (w : RWitness). w.requirement) c.witnesses requirement)

-- what the protocol has now
abbrev pub default_witness : RProtocol → Key → Option Witness
default_witness q requirement = option_and_then (λ (d : RDefault). option_map by_default d.member) (with_key (λ (d : RDefault). d.requirement) q.defaults requirement)

abbrev pub witness_in : MixedProgram → Key → RConformance → Option Witness
witness_in p requirement c = option_or (recorded_witness c requirement) (option_and_then (λ q. default_witness q requirement) (protocol p c.protocol.key))

-- the recorded member, else the protocol's default
abbrev pub witness : MixedProgram → Key → Key → Option Witness
witness p table requirement = option_and_then (witness_in p requirement) (conformance p table)

-- ---- initialisers

-- a written initialiser, or the properties that one without a written body fills in their order
pub data Initialiser : Type 0 where
  written : Implementation → Initialiser
  memberwise : List Key → Initialiser

-- the property that a label of such an initialiser names
abbrev pub property_named : Key → Text → Key
property_named init label = record { «module» = init.module; context = init.context; base = label; labels = None; part = record { marks = [] } }

abbrev pub labelled_properties : Key → RDeclKind → List Key
labelled_properties init (kind.Initialiser h) = map (λ (parameter : RParameter). property_named init parameter.label) h.parameters
labelled_properties init _ = []

abbrev pub memberwise_initialiser : MixedProgram → Key → Option Initialiser
memberwise_initialiser p key = option_map (λ (d : RDecl). memberwise (labelled_properties key d.kind)) (look_up decl_key is_declared (module_of p key).memberwise key)

abbrev pub initialiser : MixedProgram → Side → Key → Option Initialiser
initialiser p side key = option_or (option_map written (static_implementation p side key)) (memberwise_initialiser p key)

-- ---- properties

-- how a property is read or set: in its place, or by an accessor, which is given these tables
pub data Access : Type 0 where
  in_place : Key → Access
  by_accessor : Implementation → List Key → Access

abbrev pub in_its_place : RDecl → Option Access
in_its_place d = if is_stored d.kind then Some (in_place d.own) else None

-- The key of the accessor is given beside that of the property. A stored property is found by what it is in the new library.
abbrev pub access : MixedProgram → Side → Key → Key → List Key → Option Access
access p side accessor property tables = option_or (option_map (λ f. by_accessor f tables) (static_implementation p side accessor)) (option_and_then in_its_place (declaration p property))
