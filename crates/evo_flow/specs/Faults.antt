-- The faults of paths in a body.
use Rattle.std.specs.Prelude.{◌≡◌, map, filter, List, [], ◌∷◌, ◌++◌, Bool, true, false, Option, Some, None, Result, Ok, Err, if◌then◌else◌}
use Rattle.evo_base.specs.declared.key.Key.{Key}
use Rattle.evo_base.specs.declared.fault_kind.FaultKind.TheVariants as kind
use Rattle.evo_tree.specs.declared.module.SourceFault.{SourceFault}
use Rattle.evo_tree.specs.declared.declaration.NominalKind.{NominalKind}
use Rattle.evo_tree.specs.declared.declaration.NominalKind.TheVariants as nominal
use Rattle.evo_resolved.specs.declared.resolved_type.RType.{RType}
use Rattle.evo_resolved.specs.declared.declaration.Standing.{Standing}
use Rattle.evo_resolved.specs.declared.declaration.Standing.TheVariants as standing
use Rattle.evo_resolved.specs.declared.declaration.RDecl.{RDecl}
use Rattle.evo_resolved.specs.declared.statement.RBlock.{RBlock, out-RBlock}
use Rattle.evo_resolved.specs.declared.statement.RClause.{RClause}
use Rattle.evo_resolved.specs.declared.statement.RStmt.{RStmt, RStmt-F, out-RStmt}
use Rattle.evo_resolved.specs.declared.body.BodyRole.{BodyRole}
use Rattle.evo_resolved.specs.declared.body.BodyRole.TheVariants as role
use Rattle.evo_resolved.specs.declared.body.RBody.{RBody}
use Rattle.evo_flow.specs.Types.{has_value}
use Rattle.evo_flow.specs.declared.flow.Fact.{Fact}
use Rattle.evo_flow.specs.declared.flow.Fact.TheVariants as fact
use Rattle.evo_flow.specs.Way.{Step, Exit, Way, next, seq, step}
use Rattle.evo_flow.specs.Act.{act, fault}
use Rattle.evo_flow.specs.Path.{Path, On}
use Rattle.evo_flow.specs.Trees.{block_way}
use Rattle.evo_flow.specs.Text.{outside, block_faults}
use Rattle.evo_flow.specs.Scenes.{Scene, seen, is_subclass, is_stored_of, is_let, is_of_language}

-- stands in a list
pub data Among {A : Type 0} (x : A) : List A → Type 0 where
  here : {xs : List A} → Among x (x ∷ xs)
  later : {y : A} {xs : List A} → Among x xs → Among x (y ∷ xs)

-- the way of a body, which is left at its closing brace
abbrev pub whole : RBlock → Way
whole b = seq (block_way b) (step (Step.leaves (out-RBlock b).end))

-- ---- what an initialiser has to bring about

abbrev pub is_self_init : RStmt-F RStmt RBlock RClause → Bool
is_self_init (RStmt-F.SelfInit a) = true
is_self_init s = false

abbrev pub starts : List RStmt → Bool
starts (s ∷ ss) = is_self_init (out-RStmt s)
starts [] = false

-- `self.init` is the first statement
abbrev pub delegates : RBlock → Bool
delegates b = starts (out-RBlock b).statements

-- what a body makes
pub data Made : Type 0 where
  nothing : Made
  a_struct : Key → Made
  an_enum : Made
  an_object : Key → Made
  -- `Int`, `Bool` or `String`
  of_language : Made

abbrev pub value_of : NominalKind → Key → Made
value_of nominal.Struct k = if is_of_language k then of_language else a_struct k
value_of nominal.Enum k = an_enum
value_of nominal.Class k = nothing
value_of nominal.Protocol k = nothing

-- an initialiser in an extension of a class or a protocol, which may not stand there, makes nothing
abbrev pub made_value : Standing → Made
made_value (standing.Braces n k) = value_of n k
made_value (standing.Extension n k) = value_of n k
made_value standing.TopLevel = nothing

abbrev pub made_object : Standing → Made
made_object (standing.Braces n k) = an_object k
made_object (standing.Extension n k) = nothing
made_object standing.TopLevel = nothing

abbrev pub made : BodyRole → Standing → Made
made role.ValueInitialiser s = made_value s
made role.ObjectInitialiser s = made_object s
made r s = nothing

-- Beside the stored properties. Of a type of the language only another initialiser makes one.
abbrev pub lead : Scene → Made → Bool → Option Fact
lead c nothing d = None
lead c (a_struct k) d = if d then Some fact.Delegated else None
lead c an_enum d = if d then Some fact.Delegated else Some fact.Whole
lead c (an_object k) d = if is_subclass c k then Some fact.Super else None
lead c of_language d = Some fact.Delegated

-- the type whose stored properties are due
abbrev pub stored_in : Made → Option Key
stored_in (a_struct k) = Some k
stored_in (an_object k) = Some k
stored_in m = None

-- a fact, with the property that it speaks of, if it does
abbrev pub Due : Type 0
Due = Fact × Key

abbrev pub property : RDecl → Due
property d = (fact.Property (is_let d.kind), d.key)

abbrev pub properties : List RDecl → Option Key → List Due
properties ds (Some k) = map property (filter (is_stored_of k) ds)
properties ds None = []

abbrev pub led_by : Option Fact → Key → List Due → List Due
led_by (Some f) k fs = (f, k) ∷ fs
led_by None k fs = fs

abbrev pub makes : RBody → Made
makes b = made b.scope.role b.scope.standing

abbrev pub facts : Scene → RBody → RBlock → List Due
facts c b k = led_by (lead c (makes b) (delegates k)) b.owner (properties (seen c) (stored_in (makes b)))

-- ---- faults

pub data BlockFault (c : Scene) (b : RBody) (k : RBlock) : SourceFault → Type 0 where
  -- whether it is reached or not
  in_text : {f : SourceFault} → Among f (block_faults c k outside) → BlockFault c b k f
  -- a path comes to the closing brace, and a result is wanting
  missing_return : {p : List Step} → has_value b.scope.result ≡ true → Path (block_way k) p next → BlockFault c b k (fault kind.MissingReturn (out-RBlock k).end)
  -- on some path a step comes too early or too late
  on_path : {f : SourceFault} (d : Due) {p : List Step} {e : Exit} → Among d (facts c b k) → Path (whole k) p e → On (act d.0 d.1) false p f → BlockFault c b k f

-- a body without a block has none
abbrev pub FlowFault : Scene → RBody → SourceFault → Type 0
FlowFault c b f = (k : RBlock) × (b.block ≡ Some k) × BlockFault c b k f

-- No fault, or one that there is.
abbrev pub IsExact : Scene → RBody → Result (Unit {0}) SourceFault → Type 0
IsExact c b (Ok x) = (f : SourceFault) → FlowFault c b f → ⊥
IsExact c b (Err f) = FlowFault c b f
