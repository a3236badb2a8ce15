-- A whole expression, as a checker is asked for it: a value, of the type that is expected where one is.
use Rattle.std.specs.Prelude.{◌≡◌, Option, Some, None}
use Rattle.evo_tree.specs.declared.module.SourceFault.{SourceFault}
use Rattle.evo_tree.specs.declared.expression.Expr.{Expr}
use Rattle.evo_resolved.specs.declared.resolved_type.RType.{RType}
use Rattle.evo_resolved.specs.declared.expression.RExpr.{RExpr}
use Rattle.evo_judging.specs.Judge.{Judge, Fails}
use Rattle.evo_typing.specs.Shapes.{Env, value}
use Rattle.evo_typing.specs.Trees.{type_of}
use Rattle.evo_typing.specs.Typed.{Typed}
use Rattle.evo_typing.specs.Resolves.{Resolves, Converts}
use Rattle.evo_typing.specs.Rule as rule
use Rattle.evo_typing.specs.Rule.{Oracle}
use Rattle.evo_typing.specs.Infer.{Part, a_part, FaultOf}

-- the resolved tree, and its types
pub data Types (env : Env) : Option RType → Expr → RExpr → Type 0 where
  freely : {e : Expr} {b : RExpr} → Resolves env None e (value b) → Typed env.declared env.scope b → Types env None e b
  -- it is converted to the type that is expected
  expected : {t : RType} {e : Expr} {b c : RExpr} → Resolves env (Some t) e (value b) → Converts b c → Typed env.declared env.scope c → type_of c ≡ t → Types env (Some t) e c

-- how it is judged
abbrev pub whole : Env → Option RType → Expr → Judge Part Oracle SourceFault RExpr
whole env None e = rule.plain (a_part env) (λ a. a) env None e
whole env (Some t) e = rule.converted (a_part env) (λ a. a) env t e

-- what is at fault: something in it, or that it is no value, or none of the type that is expected
abbrev pub FaultIn : Env → Option RType → Expr → SourceFault → Type 0
FaultIn env w e f = Fails (λ (i : Part) g. FaultOf env i.0 i.1 g) (whole env w e) f
