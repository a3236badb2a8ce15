-- A whole expression is judged rightly.
use Rattle.std.proofs.Common.{◌≡◌, Option, Some, None, Result, Ok, Err}
use Rattle.evo_tree.specs.declared.module.SourceFault.{SourceFault}
use Rattle.evo_tree.specs.declared.expression.Expr.{Expr}
use Rattle.evo_resolved.specs.declared.resolved_type.RType.{RType}
use Rattle.evo_resolved.specs.declared.expression.RExpr.{RExpr}
use Rattle.evo_judging.specs.Right.{Answered, Right, Exactly}
use Rattle.evo_typing.specs.Shapes.{Env}
use Rattle.evo_typing.specs.Infer.{Part, a_part, FaultOf}
use Rattle.evo_typing.specs.Known.{Known, Answers}
use Rattle.evo_typing.specs.Whole.{Types, freely, expected, whole, FaultIn}
use Rattle.evo_typing.proofs.Rules.{plain_right, converted_right}
use Rattle.evo_typing.proofs.From.{plain_from, converted_from}
use Rattle.evo_typing.proofs.To.{plain_to, fitted_to}
use Rattle.evo_typing.proofs.Exact.{fine}

module _ (env : Env) (known : Known env) where
  abbrev Faults : Part → SourceFault → Type 0
  Faults i f = FaultOf env i.0 i.1 f

  whole_right : (w : Option RType) (e : Expr) → Right Faults (λ o. Answers env o) (whole env w e)
  whole_right None e = plain_right Faults (a_part env) env known.one None e (fine env known e)
  whole_right (Some t) e = converted_right Faults (a_part env) env known.one t e (fine env known e)

  types_to : {w : Option RType} {e : Expr} {b : RExpr} → Types env w e b → (whole env w e).holds b
  types_to (freely r h) = plain_to env known r h
  types_to (expected {t} {e} {b} {c} r con h is) = let (k, fit) = fitted_to env known e t con h is in (b, plain_to env known r k, fit)

  pub types_from : (w : Option RType) (e : Expr) (b : RExpr) → (whole env w e).holds b → Types env w e b
  types_from None e b h = let k = plain_from env known None e b h in freely k.0 k.1
  types_from (Some t) e b h = let (c, r, con, has, is) = converted_from env known t e b h in expected r con has is

  pub one_tree : (w : Option RType) (e : Expr) (b c : RExpr) → Types env w e b → Types env w e c → b ≡ c
  one_tree w e b c h k = (whole_right w e).one b c (types_to h) (types_to k)

  pub excludes : (w : Option RType) (e : Expr) (f : SourceFault) (b : RExpr) → FaultIn env w e f → Types env w e b → ⊥
  excludes w e f b n h = (whole_right w e).excludes f b n (types_to h)

  pub exactly : (w : Option RType) (e : Expr) (r : Result RExpr SourceFault) → Answered (Types env w e) (FaultIn env w e) r → Exactly (Types env w e) (FaultIn env w e) r
  exactly w e (Ok b) h = (h, λ c k. one_tree w e b c h k, λ f n. excludes w e f b n h)
  exactly w e (Err f) n = (n, λ b h. excludes w e f b n h)
