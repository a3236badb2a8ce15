-- What expressions do: one clause for each form.
use Rattle.std.specs.Prelude.{List, [], ◌∷◌, Some, None}
use Rattle.evo_tree.specs.declared.expression.InfixOperator.{InfixOperator}
use Rattle.evo_resolved.specs.declared.expression.RExpr.{RExpr, RExpr-F, fold-RExpr}
use Rattle.evo_resolved.specs.declared.expression.RExpr.TheOpen as expression
use Rattle.evo_resolved.specs.declared.expression.RMember.{RMember, RMember-F, fold-RMember}
use Rattle.evo_meaning.specs.Values.{Value, enum, payload_of}
use Rattle.evo_meaning.specs.Runs.{Run, pure, ◌>>=◌, each, local, self_value}
use Rattle.evo_meaning.specs.Operators.{literal_value, prefixed, operated, built_in}
use Rattle.evo_meaning.specs.Calls.{Context, result_of, called, called_above, get, updated, changed_variable, mutating, made}

-- operators of one level, from the left
abbrev pub chained : Run Value → List (InfixOperator × Run Value) → Run Value
chained first [] = first
chained first (o ∷ os) = chained (first >>= operated o.0 o.1) os

-- members, from the left
abbrev pub with_members : Run Value → List (Value → Run Value) → Run Value
with_members first [] = first
with_members first (m ∷ ms) = with_members (first >>= m) ms

-- What a member does with the value before it. What stands for its parts is what they do.
abbrev pub member_step : Context → RMember-F (Run Value) (Value → Run Value) → Value → Run Value
member_step c (RMember-F.Property u) = λ before. get c u before
member_step c (RMember-F.Called a) = λ before. each a.1 >>= (λ arguments. called c a.0 (Some before) arguments >>= result_of)
member_step c (RMember-F.Mutated steps a) = λ before. each a.1 >>= (λ arguments. updated c steps (mutating c a.0 arguments) before >>= result_of)

-- what an expression does; what stands for its parts is what they do
abbrev pub expression_step : Context → RExpr-F (Run Value) (Value → Run Value) → Run Value
expression_step c (expression.Literal l) = pure (literal_value l)
expression_step c (expression.Local place n type) = local n
expression_step c (expression.SelfValue place type) = self_value
expression_step c (expression.Upcast part type) = part
expression_step c (expression.Prefix o part) = part >>= prefixed o
expression_step c (expression.Chain first os type) = chained first os
expression_step c (expression.Members first ms) = with_members first ms
expression_step c (expression.Mutate x steps a) = each a.1 >>= (λ arguments. changed_variable x (updated c steps (mutating c a.0 arguments)))
expression_step c (expression.Case a) = each a.1 >>= (λ payload. pure (enum a.0.key (payload_of payload)))
expression_step c (expression.New a) = each a.1 >>= made c a.0
expression_step c (expression.Call a) = each a.1 >>= (λ arguments. called c a.0 None arguments >>= result_of)
expression_step c (expression.Super a) = self_value >>= (λ self. each a.1 >>= (λ arguments. called_above c a.0 self arguments >>= result_of))
expression_step c (expression.Builtin place b parts) = each parts >>= built_in b

unfoldable pub evaluated : Context → RExpr → Run Value
evaluated c = fold-RExpr (Run Value) (Value → Run Value) (expression_step c) (member_step c)

unfoldable pub evaluated_member : Context → RMember → Value → Run Value
evaluated_member c = fold-RMember (Run Value) (Value → Run Value) (expression_step c) (member_step c)
