-- The walk over an expression, and its faults: those of a form itself, where its rule comes to them, and those of its parts.
use Rattle.std.specs.Prelude.{◌≡◌, Option, Result}
use Rattle.evo_tree.specs.declared.module.SourceFault.{SourceFault}
use Rattle.evo_tree.specs.declared.expression.Expr.{Expr, Expr-F, out-Expr, para-Expr}
use Rattle.evo_resolved.specs.declared.resolved_type.RType.{RType}
use Rattle.evo_judging.specs.Judge.{Judge}
use Rattle.evo_typing.specs.Shapes.{Env, Denoted, value, names}
use Rattle.evo_typing.specs.Typed.{Typed}
use Rattle.evo_typing.specs.Resolves.{Resolves}
use Rattle.evo_typing.specs.Rule.{Oracle, rule}

-- ---- the walk

abbrev pub Walk : Type 0
Walk = Option RType → Oracle → Result Denoted SourceFault

-- a part of which only the walk matters
abbrev pub looked : Option RType → Expr × Walk → Judge (Unit {0}) Oracle SourceFault Denoted
looked w a = record { walk = a.1 w; holds = λ b. Unit {0}; own = λ f. ⊥; part = λ i. ⊥ }

abbrev pub infer_step : Env → Expr-F (Expr × Walk) → Walk
infer_step env e = λ w. (rule looked (λ a. a.0) env w e).walk

-- where a type is expected, or none
unfoldable pub infer : Env → Expr → Walk
infer env = para-Expr Walk (infer_step env)

-- ---- what holds

-- what is denoted has types
abbrev pub Sound : Env → Denoted → Type 0
Sound env (value b) = Typed env.declared env.scope b
Sound env (names t) = Unit {0}

-- an expression is this tree, with its types
abbrev pub Is : Env → Option RType → Expr → Denoted → Type 0
Is env w e b = Resolves env w e b × Sound env b

-- ---- what is at fault

-- a part of an expression, and the type that is expected of it
abbrev pub Part : Type 0
Part = Option RType × Expr

abbrev pub a_part : Env → Option RType → Expr → Judge Part Oracle SourceFault Denoted
a_part env w e = record { walk = infer env e w; holds = Is env w e; own = λ f. ⊥; part = λ i. i ≡ (w, e) }

-- an expression by its rule
abbrev pub judged : Env → Option RType → Expr → Judge Part Oracle SourceFault Denoted
judged env w e = rule (a_part env) (λ a. a) env w (out-Expr e)

-- the faults of an expression where this type, or none, is expected
pub data FaultOf (env : Env) : Option RType → Expr → SourceFault → Type 0 where
  own : {w : Option RType} {e : Expr} {f : SourceFault} → (judged env w e).own f → FaultOf env w e f
  in_part : {w v : Option RType} {e b : Expr} {f : SourceFault} → (judged env w e).part (v, b) → FaultOf env v b f → FaultOf env w e f
