-- What look-ups find, and what ticks do to runs.
use Rattle.std.specs.Prelude.{◌≡◌, ◌≢◌, ◌↔◌, ℕ, ◌≤◌, List, ◌++◌, Option, Some, Bool, IsTrue, MatchOption}
use Rattle.evo_base.specs.declared.key.Key.{Key}
use Rattle.evo_resolved.specs.declared.expression.RExpr.{RExpr}
use Rattle.evo_resolved.specs.declared.statement.RBlock.{RBlock}
use Rattle.evo_resolved.specs.declared.declaration.RDecl.{RDecl}
use Rattle.evo_resolved.specs.declared.body.RBody.{RBody}
use Rattle.evo_resolved.specs.declared.module.RConformance.{RConformance}
use Rattle.evo_resolved.specs.Found.{IsFound}
use Rattle.evo_resolved.specs.Named.{decl_key, is_declared, body_key, is_body, conformance_key, is_conformance}
use Rattle.evo_meaning.specs.Keys.{same_key, look_up}
use Rattle.evo_meaning.specs.Values.{Value}
use Rattle.evo_meaning.specs.Runs.{out_of_ticks, State, Outcome, goes, stops, Run}
use Rattle.evo_meaning.specs.Programs.{MixedProgram, Implementation, implementation_from}
use Rattle.evo_meaning.specs.Calls.{Callee}
use Rattle.evo_meaning.specs.Expressions.{evaluated}
use Rattle.evo_meaning.specs.Statements.{executed_block}
use Rattle.evo_meaning.specs.Bodies.{ended_by, context, run_body, result, beginning, top_level, run}

-- the test of keys is equality
abbrev pub SameKeyIsEquality : Type 0
SameKeyIsEquality = (a b : Key) → IsTrue (same_key a b) ↔ (a ≡ b)

-- a look-up gives an item that has the key and is what it names, and nothing only where there is none: what `find` of resolved lists gives
abbrev pub Finds : {A : Type 0} → (A → Key) → (A → Bool) → List A → Key → Type 0
Finds {A} own is_named items key = MatchOption (look_up own is_named items key) ((x : A) → IsFound own is_named items key x → ⊥) (λ x. IsFound own is_named items key x)

pub record LookUpFinds : Type 0 where
  pub declarations : (items : List RDecl) (key : Key) → Finds decl_key is_declared items key
  pub bodies : (items : List RBody) (key : Key) → Finds body_key is_body items key
  pub conformances : (items : List RConformance) (key : Key) → Finds conformance_key is_conformance items key

-- the second begins with the first
pub record Begins (front whole : List ℕ) : Type 0 where
  pub rest : List ℕ
  pub is : whole ≡ front ++ rest

abbrev pub TicksFall : {A : Type 0} → State → Outcome A → Type 0
TicksFall s (goes answer t) = t.ticks ≤ s.ticks
TicksFall s (stops reason printed) = Unit {0}

abbrev pub Falling : {A : Type 0} → Run A → Type 0
Falling m = (s : State) → TicksFall s (m s)

-- the ticks left never exceed those given: of a body, and of each expression and block in one
pub record TicksNeverRise : Type 0 where
  pub bodies : (n : ℕ) (p : MixedProgram) (callee : Callee) (self : Option Value) (arguments : List Value) → Falling (run_body n p callee self arguments)
  pub blocks : (n turns : ℕ) (p : MixedProgram) (callee : Callee) (b : RBlock) → Falling (executed_block (context turns p callee (run_body n p)) b)
  pub expressions : (n turns : ℕ) (p : MixedProgram) (callee : Callee) (e : RExpr) → Falling (evaluated (context turns p callee (run_body n p)) e)

-- what is printed with some ticks is the front of what is printed with more
abbrev pub OutputGrows : Type 0
OutputGrows = (p : MixedProgram) (n m : ℕ) → n ≤ m → Begins (run p n).printed (run p m).printed

-- a run that does not end by its ticks is the same with more
abbrev pub EndStays : Type 0
EndStays = (p : MixedProgram) (n m : ℕ) → n ≤ m → (run p n).«end» ≢ ended_by out_of_ticks → run p m ≡ run p n

-- a bound that is no less than the ticks that are left is never met: any other gives the same
pub record BoundIsFree : Type 0 where
  pub bodies : (n m : ℕ) (p : MixedProgram) (callee : Callee) (self : Option Value) (arguments : List Value) (s : State) → s.ticks ≤ n → n ≤ m → run_body m p callee self arguments s ≡ run_body n p callee self arguments s
  pub programs : (p : MixedProgram) (n m : ℕ) → n ≤ m → result (top_level m p (beginning n)) ≡ run p n

-- a body that is found with some bound on how many classes stand above one another is found with each greater one
abbrev pub DispatchStays : Type 0
DispatchStays = (p : MixedProgram) (class : Option Key) (root : Key) (f : Implementation) (n m : ℕ) → n ≤ m → implementation_from n p class root ≡ Some f → implementation_from m p class root ≡ Some f
