-- What the definitions of typing say of each other.
use Rattle.std.specs.Prelude.{◌≡◌, true, List, Option, Some, Result}
use Rattle.evo_base.specs.declared.key.Key.{Key}
use Rattle.evo_tree.specs.declared.module.SourceFault.{SourceFault}
use Rattle.evo_tree.specs.declared.expression.InfixOperator.{InfixOperator}
use Rattle.evo_tree.specs.declared.expression.Expr.{Expr}
use Rattle.evo_resolved.specs.declared.resolved_type.RType.{RType}
use Rattle.evo_resolved.specs.declared.declaration.Signature.{Signature}
use Rattle.evo_resolved.specs.declared.path.ConfPath.{ConfPath}
use Rattle.evo_resolved.specs.declared.expression.RExpr.{RExpr}
use Rattle.evo_judging.specs.Right.{Answered, Exactly}
use Rattle.evo_typing.specs.Shapes.{Shape, Declared, Scope}
use Rattle.evo_typing.specs.Typed.{Typed}
use Rattle.evo_typing.specs.Rule.{Oracle}
use Rattle.evo_typing.specs.Infer.{infer, Is, FaultOf}
use Rattle.evo_typing.specs.Known.{Answers}
use Rattle.evo_typing.specs.Site.{Site, declared_at}
use Rattle.evo_typing.specs.Searches.{env_at}
use Rattle.evo_typing.specs.Facts.{Facts}
use Rattle.evo_typing.specs.Whole.{Types, FaultIn}

-- an expression has at most one resolved tree
abbrev pub OneTree : Type 0
OneTree = (s : Site) → Facts s → (w : Option RType) (e : Expr) (b c : RExpr) → Types (env_at s) w e b → Types (env_at s) w e c → b ≡ c

-- a fault excludes a tree
abbrev pub FaultExcludesTree : Type 0
FaultExcludesTree = (s : Site) → Facts s → (w : Option RType) (e : Expr) (f : SourceFault) (b : RExpr) → FaultIn (env_at s) w e f → Types (env_at s) w e b → ⊥

-- so an answer that is either is the only one
abbrev pub AnswerIsExact : Type 0
AnswerIsExact = (s : Site) → Facts s → (w : Option RType) (e : Expr) (r : Result RExpr SourceFault) → Answered (Types (env_at s) w e) (FaultIn (env_at s) w e) r → Exactly (Types (env_at s) w e) (FaultIn (env_at s) w e) r

-- Where its questions are answered, the walk finds what an expression denotes, or else a fault.
abbrev pub WalkIsExact : Type 0
WalkIsExact = (s : Site) → Facts s → (o : Oracle) → Answers (env_at s) o → (w : Option RType) (e : Expr) → Exactly (Is (env_at s) w e) (FaultOf (env_at s) w e) (infer (env_at s) e w o)

-- what the first declarations say, the second say too
pub record Keeps (d e : Declared) : Type 0 where
  pub shape : (k : Key) (s : Shape) → d.shape k s → e.shape k s
  pub stands : (s : Signature) (ts : List RType) (t u : RType) → d.stands s ts t u → e.stands s ts t u
  pub leads : (q : ConfPath) (t : RType) (p : Key) → d.leads q t p → e.leads q t p
  pub above : (top k : Key) → d.above top k ≡ true → e.above top k ≡ true
  pub operated : (o : InfixOperator) (t u v : RType) → d.operated o t u ≡ Some v → e.operated o t u ≡ Some v

-- a tree that has types keeps them where the declarations grow
abbrev pub TypingSurvives : Type 0
TypingSurvives = (s t : Site) → Keeps (declared_at s) (declared_at t) → (c : Scope) (b : RExpr) → Typed (declared_at s) c b → Typed (declared_at t) c b
