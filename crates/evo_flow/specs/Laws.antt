-- The law: what is computed of a way is what its paths do.
use Rattle.std.specs.Prelude.{◌≡◌, List, Bool, true, Option, Some, None}
use Rattle.evo_tree.specs.declared.module.SourceFault.{SourceFault}
use Rattle.evo_flow.specs.declared.flow.Effect.{Effect}
use Rattle.evo_flow.specs.Way.{Step, Exit, stopped, Way}
use Rattle.evo_flow.specs.Path.{Path, behind, On}
use Rattle.evo_flow.specs.Flows.{flow, from, comes}

-- a path that leaves in a state
pub record Comes (act : Step → Effect) (w : Way) (s : Bool) (e : Exit) (t : Bool) : Type 0 where
  pub path : List Step
  pub is : Path w path e
  pub ends : behind act s path ≡ t

-- a path with a fault
pub record Faulty (act : Step → Effect) (w : Way) (s : Bool) (f : SourceFault) : Type 0 where
  pub path : List Step
  pub exit : Exit
  pub is : Path w path exit
  pub on : On act s path f

-- all that is said of a way
pub record Agrees (act : Step → Effect) (w : Way) : Type 0 where
  pub sound : (s t : Bool) (e : Exit) → comes (from (flow act w) s) e t ≡ true → Comes act w s e t
  pub complete : (s : Bool) {p : List Step} {e : Exit} → Path w p e → (e ≡ stopped → ⊥) → comes (from (flow act w) s) e (behind act s p) ≡ true
  pub fault : (s : Bool) (f : SourceFault) → (from (flow act w) s).fault ≡ Some f → Faulty act w s f
  pub clean : (s : Bool) {p : List Step} {e : Exit} {f : SourceFault} → Path w p e → On act s p f → (from (flow act w) s).fault ≡ None → ⊥

abbrev pub FlowIsPaths : Type 0
FlowIsPaths = (act : Step → Effect) (w : Way) → Agrees act w
