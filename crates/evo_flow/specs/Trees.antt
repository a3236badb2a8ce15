-- The ways through expressions, statements and blocks.
use Rattle.std.specs.Prelude.{List, [], ◌∷◌, map, Option, Some, None}
use Rattle.evo_base.specs.declared.place.Place.{Place}
use Rattle.evo_base.specs.declared.key.Key.{Key}
use Rattle.evo_tree.specs.declared.expression.InfixOperator.{InfixOperator}
use Rattle.evo_tree.specs.declared.expression.InfixOperator.TheVariants as op
use Rattle.evo_tree.specs.declared.statement.AssignmentOperator.{AssignmentOperator}
use Rattle.evo_tree.specs.declared.statement.AssignmentOperator.TheVariants as assignment
use Rattle.evo_resolved.specs.declared.expression.RUse.{RUse}
use Rattle.evo_resolved.specs.declared.expression.Variable.{Variable}
use Rattle.evo_resolved.specs.declared.expression.Variable.TheVariants as variable
use Rattle.evo_resolved.specs.declared.expression.Builtin.{Builtin}
use Rattle.evo_resolved.specs.declared.expression.Builtin.TheVariants as builtin
use Rattle.evo_resolved.specs.declared.expression.RMember.{RMember, RMember-F, fold-RMember}
use Rattle.evo_resolved.specs.declared.expression.RExpr.{RExpr, RExpr-F, fold-RExpr}
use Rattle.evo_resolved.specs.declared.expression.RExpr.TheOpen as x
use Rattle.evo_resolved.specs.declared.statement.RRoot.{RRoot}
use Rattle.evo_resolved.specs.declared.statement.RRoot.TheVariants as root
use Rattle.evo_resolved.specs.declared.statement.RPlace.{RPlace}
use Rattle.evo_resolved.specs.declared.statement.RBlock.{RBlock, RBlock-F, fold-RBlock}
use Rattle.evo_resolved.specs.declared.statement.RClause.{RClause, RClause-F, fold-RClause}
use Rattle.evo_resolved.specs.declared.statement.RStmt.{RStmt, RStmt-F, fold-RStmt}
use Rattle.evo_resolved.specs.declared.statement.RStmt.TheOpen as s
use Rattle.evo_flow.specs.Way.{Step, breaks, continues, stopped, Way, skip, step, leaving, seq, either, loop, left, in_turn, any_of}

-- ---- expressions: `self` is used where it stands

-- where a place is used: at its first property, or at the function that mutates it
abbrev pub place_at : List RUse → Place → Place
place_at [] p = p
place_at (u ∷ us) p = u.place

-- the right side of `&&` and `||` is evaluated only when needed
abbrev pub operand_way : InfixOperator → Way → Way
operand_way op.And w = either w skip
operand_way op.Or w = either w skip
operand_way o w = w

abbrev pub self_use : Place → Way
self_use p = step (Step.uses p)

-- a place that begins at a variable is used
abbrev pub used : Variable → Place → Way
used variable.SelfValue p = self_use p
used (variable.Local n) p = skip

-- `fatalError` goes no further
abbrev pub ended : Builtin → Way
ended builtin.Fatal = leaving stopped
ended builtin.Print = skip
ended builtin.Precondition = skip

abbrev pub expr_step : RExpr-F Way Way → Way
expr_step (x.Literal l) = skip
expr_step (x.Local p n t) = skip
expr_step (x.SelfValue p t) = self_use p
expr_step (x.Upcast a t) = a
expr_step (x.Prefix o a) = a
expr_step (x.Chain a os t) = seq a (in_turn (map (λ o. operand_way o.0 o.1) os))
expr_step (x.Members a ms) = seq a (in_turn ms)
expr_step (x.Mutate v us a) = seq (in_turn a.1) (used v (place_at us a.0.place))
expr_step (x.Case a) = in_turn a.1
expr_step (x.New a) = in_turn a.1
expr_step (x.Call a) = in_turn a.1
expr_step (x.Super a) = seq (self_use a.0.place) (in_turn a.1)
expr_step (x.Builtin p b ws) = seq (in_turn ws) (ended b)

abbrev pub member_step : RMember-F Way Way → Way
member_step (RMember-F.Property u) = skip
member_step (RMember-F.Called a) = in_turn a.1
member_step (RMember-F.Mutated us a) = in_turn a.1

abbrev pub expr_way : RExpr → Way
expr_way = fold-RExpr Way Way expr_step member_step

abbrev pub member_way : RMember → Way
member_way = fold-RMember Way Way expr_step member_step

abbrev pub args_way : List RExpr → Way
args_way es = in_turn (map expr_way es)

abbrev pub operands_way : List (InfixOperator × RExpr) → Way
operands_way os = in_turn (map (λ o. operand_way o.0 (expr_way o.1)) os)

abbrev pub members_way : List RMember → Way
members_way ms = in_turn (map member_way ms)

-- ---- statements

abbrev pub optional_way : Option RExpr → Way
optional_way (Some e) = expr_way e
optional_way None = skip

-- the first branch whose condition is true
abbrev pub branch_way : Option RExpr → Way → Way → Way
branch_way None b rest = b
branch_way (Some c) b rest = seq (expr_way c) (either b rest)

abbrev pub branches_way : List (Option RExpr × Way) → Way
branches_way [] = skip
branches_way (b ∷ bs) = branch_way b.0 b.1 (branches_way bs)

-- A loop whose condition is false is left as by `break`. That of a written `true` is left by `break` alone.
abbrev pub while_way : Option RExpr → Way → Way
while_way None b = loop b
while_way (Some c) b = loop (seq (expr_way c) (either b (leaving breaks)))

-- what is evaluated where a place begins, and what is used or set when it is set
abbrev pub root_way : RRoot → Way
root_way (root.Variable v) = skip
root_way (root.Object e) = expr_way e

-- the whole of `self` is set by `=` alone
abbrev pub self_set : AssignmentOperator → List RUse → Place → Way
self_set assignment.Assign [] p = step (Step.assigns p)
self_set o us p = self_use p

abbrev pub set_way : RRoot → AssignmentOperator → List RUse → Place → Way
set_way (root.Variable variable.SelfValue) o us p = self_set o us p
set_way (root.Variable (variable.Local n)) o us p = skip
set_way (root.Object e) o us p = skip

abbrev pub assign_way : RPlace → AssignmentOperator → RExpr → Way
assign_way t o e = seq (root_way t.root) (seq (expr_way e) (set_way t.root o t.steps t.place))

abbrev pub return_way : Place → Option RExpr → Way
return_way p e = seq (optional_way e) (seq (step (Step.leaves p)) (leaving stopped))

abbrev pub store_way : Place → Key → RExpr → Way
store_way p k e = seq (expr_way e) (step (Step.stores p k))

-- one of the clauses, whether they are for every value or not
abbrev pub switch_way : RExpr → List Way → Way
switch_way e cs = seq (expr_way e) (left (any_of cs))

abbrev pub stmt_step : RStmt-F Way Way Way → Way
stmt_step (s.Local p n t e) = expr_way e
stmt_step (s.Expr e) = expr_way e
stmt_step (s.Assign p t o e) = assign_way t o e
stmt_step (s.Fill p k e) = store_way p k e
stmt_step (s.SelfInit a) = seq (args_way a.1) (step (Step.delegates a.0.place))
stmt_step (s.SuperInit a) = seq (args_way a.1) (step (Step.supers a.0.place))
stmt_step (s.If p bs) = branches_way bs
stmt_step (s.While p c b) = while_way c b
stmt_step (s.Return p e) = return_way p e
stmt_step (s.Break p) = leaving breaks
stmt_step (s.Continue p) = leaving continues
stmt_step (s.Switch p e cs) = switch_way e cs

abbrev pub block_step : RBlock-F Way Way Way → Way
block_step b = in_turn b.statements

abbrev pub clause_step : RClause-F Way Way Way → Way
clause_step c = in_turn c.statements

abbrev pub stmt_way : RStmt → Way
stmt_way = fold-RStmt Way Way Way stmt_step block_step clause_step

abbrev pub block_way : RBlock → Way
block_way = fold-RBlock Way Way Way stmt_step block_step clause_step

abbrev pub clause_way : RClause → Way
clause_way = fold-RClause Way Way Way stmt_step block_step clause_step
