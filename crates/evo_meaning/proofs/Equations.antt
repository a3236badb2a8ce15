-- One level of a tree at a time: an equation for each form.
use Rattle.std.proofs.Common.{Some, None, ◌≡◌, ℕ, List, map, Option, refl, ap, ◌∙◌}
use Rattle.evo_base.specs.declared.place.Place.{Place}
use Rattle.evo_base.specs.declared.key.Key.{Key}
use Rattle.evo_tree.specs.declared.expression.PrefixOperator.{PrefixOperator}
use Rattle.evo_tree.specs.declared.expression.InfixOperator.{InfixOperator}
use Rattle.evo_tree.specs.declared.statement.AssignmentOperator.{AssignmentOperator}
use Rattle.evo_resolved.specs.declared.resolved_type.RType.{RType}
use Rattle.evo_resolved.specs.declared.resolved_type.RTypeName.{RTypeName}
use Rattle.evo_resolved.specs.declared.expression.Literal.{Literal}
use Rattle.evo_resolved.specs.declared.expression.RUse.{RUse}
use Rattle.evo_resolved.specs.declared.expression.Variable.{Variable}
use Rattle.evo_resolved.specs.declared.expression.Builtin.{Builtin}
use Rattle.evo_resolved.specs.declared.expression.RExpr.{RExpr, map-RExpr, out-RExpr, fold_out-RExpr}
use Rattle.evo_resolved.specs.declared.expression.RExpr.TheVariants as x
use Rattle.evo_resolved.specs.declared.expression.RMember.{RMember, map-RMember, out-RMember, fold_out-RMember}
use Rattle.evo_resolved.specs.declared.expression.RMember.TheVariants as y
use Rattle.evo_resolved.specs.declared.statement.RPlace.{RPlace}
use Rattle.evo_resolved.specs.declared.statement.RClauseLabel.{RClauseLabel}
use Rattle.evo_resolved.specs.declared.statement.RStmt.{RStmt, map-RStmt, out-RStmt, fold_out-RStmt}
use Rattle.evo_resolved.specs.declared.statement.RStmt.TheVariants as z
use Rattle.evo_resolved.specs.declared.statement.RBlock.{RBlock, RBlock-F, out-RBlock, roll-RBlock, out-roll-RBlock, fold_out-RBlock}
use Rattle.evo_resolved.specs.declared.statement.RClause.{RClause, RClause-F, out-RClause, roll-RClause, out-roll-RClause, fold_out-RClause}
use Rattle.evo_meaning.specs.Values.{Value, enum, payload_of}
use Rattle.evo_meaning.specs.Runs.{Run, pure, ◌>>=◌, ◌>>◌, each, local, set_local, self_value, set_self}
use Rattle.evo_meaning.specs.Operators as operator
use Rattle.evo_meaning.specs.Calls as call
use Rattle.evo_meaning.specs.Calls.{Context}
use Rattle.evo_meaning.specs.Expressions as expression
use Rattle.evo_meaning.specs.Expressions.{expression_step, member_step, evaluated, evaluated_member}
use Rattle.evo_meaning.specs.Statements as statement
use Rattle.evo_meaning.specs.Statements.{Completion, normal, breaks, continues, Clause, statement_step, block_step, clause_step, executed, executed_block, clause_of}

expression_out : (c : Context) (e : RExpr) → evaluated c e ≡ expression_step c (map-RExpr RExpr RMember (Run Value) (Value → Run Value) (evaluated c) (evaluated_member c) (out-RExpr e))
unfolding evaluated evaluated_member
expression_out c e = fold_out-RExpr (Run Value) (Value → Run Value) (expression_step c) (member_step c) e

member_out : (c : Context) (e : RMember) → evaluated_member c e ≡ member_step c (map-RMember RExpr RMember (Run Value) (Value → Run Value) (evaluated c) (evaluated_member c) (out-RMember e))
unfolding evaluated evaluated_member
member_out c e = fold_out-RMember (Run Value) (Value → Run Value) (expression_step c) (member_step c) e

statement_out : (c : Context) (s : RStmt) → executed c s ≡ statement_step c (map-RStmt RStmt RBlock RClause (Run Completion) (Run Completion) Clause (executed c) (executed_block c) (clause_of c) (out-RStmt s))
unfolding executed executed_block clause_of
statement_out c s = fold_out-RStmt (Run Completion) (Run Completion) Clause (statement_step c) block_step clause_step s

block_out : (c : Context) (b : RBlock) → executed_block c b ≡ statement.in_order (map (executed c) (out-RBlock b).statements)
unfolding executed executed_block
block_out c b = fold_out-RBlock (Run Completion) (Run Completion) Clause (statement_step c) block_step clause_step b

clause_out : (c : Context) (b : RClause) → clause_of c b ≡ record { label = (out-RClause b).label; body = statement.in_order (map (executed c) (out-RClause b).statements) }
unfolding executed clause_of
clause_out c b = fold_out-RClause (Run Completion) (Run Completion) Clause (statement_step c) block_step clause_step b

-- ---- expressions

pub literal : (c : Context) (l : Literal) → evaluated c (x.Literal l) ≡ pure (operator.literal_value l)
literal c l = rw (expression_out c (x.Literal l), x.outs-Literal l) refl

pub of_local : (c : Context) (p : Place) (n : ℕ) (w : RType) → evaluated c (x.Local p n w) ≡ local n
of_local c p n w = rw (expression_out c (x.Local p n w), x.outs-Local p n w) refl

pub of_self : (c : Context) (p : Place) (w : RType) → evaluated c (x.SelfValue p w) ≡ self_value
of_self c p w = rw (expression_out c (x.SelfValue p w), x.outs-SelfValue p w) refl

pub upcast : (c : Context) (e : RExpr) (w : RType) → evaluated c (x.Upcast e w) ≡ evaluated c e
upcast c e w = rw (expression_out c (x.Upcast e w), x.outs-Upcast e w) refl

pub prefix : (c : Context) (o : PrefixOperator) (e : RExpr) → evaluated c (x.Prefix o e) ≡ evaluated c e >>= operator.prefixed o
prefix c o e = rw (expression_out c (x.Prefix o e), x.outs-Prefix o e) refl

pub chain : (c : Context) (e : RExpr) (os : List (InfixOperator × RExpr)) (w : RType) → evaluated c (x.Chain e os w) ≡ expression.chained (evaluated c e) (map (λ (o : InfixOperator × RExpr). (o.0, evaluated c o.1)) os)
chain c e os w = rw (expression_out c (x.Chain e os w), x.outs-Chain e os w) refl

pub members : (c : Context) (e : RExpr) (ms : List RMember) → evaluated c (x.Members e ms) ≡ expression.with_members (evaluated c e) (map (evaluated_member c) ms)
members c e ms = rw (expression_out c (x.Members e ms), x.outs-Members e ms) refl

pub mutate : (c : Context) (i : Variable) (steps : List RUse) (a : RUse × List RExpr) → evaluated c (x.Mutate i steps a) ≡ each (map (evaluated c) a.1) >>= (λ vs. call.changed_variable i (call.updated c steps (call.mutating c a.0 vs)))
mutate c i steps a = rw (expression_out c (x.Mutate i steps a), x.outs-Mutate i steps a) refl

pub of_case : (c : Context) (a : RUse × List RExpr) → evaluated c (x.Case a) ≡ each (map (evaluated c) a.1) >>= (λ vs. pure (enum a.0.key (payload_of vs)))
of_case c a = rw (expression_out c (x.Case a), x.outs-Case a) refl

pub new : (c : Context) (a : RUse × List RExpr) → evaluated c (x.New a) ≡ each (map (evaluated c) a.1) >>= call.made c a.0
new c a = rw (expression_out c (x.New a), x.outs-New a) refl

pub of_call : (c : Context) (a : RUse × List RExpr) → evaluated c (x.Call a) ≡ each (map (evaluated c) a.1) >>= (λ vs. call.called c a.0 None vs >>= call.result_of)
of_call c a = rw (expression_out c (x.Call a), x.outs-Call a) refl

pub super : (c : Context) (a : RUse × List RExpr) → evaluated c (x.Super a) ≡ self_value >>= (λ i. each (map (evaluated c) a.1) >>= (λ vs. call.called_above c a.0 i vs >>= call.result_of))
super c a = rw (expression_out c (x.Super a), x.outs-Super a) refl

pub built_in : (c : Context) (p : Place) (b : Builtin) (es : List RExpr) → evaluated c (x.Builtin p b es) ≡ each (map (evaluated c) es) >>= operator.built_in b
built_in c p b es = rw (expression_out c (x.Builtin p b es), x.outs-Builtin p b es) refl

-- ---- members

pub property : (c : Context) (u : RUse) → evaluated_member c (y.Property u) ≡ (λ i. call.get c u i)
property c u = rw (member_out c (y.Property u), y.outs-Property u) refl

pub called : (c : Context) (a : RUse × List RExpr) → evaluated_member c (y.Called a) ≡ (λ i. each (map (evaluated c) a.1) >>= (λ vs. call.called c a.0 (Some i) vs >>= call.result_of))
called c a = rw (member_out c (y.Called a), y.outs-Called a) refl

pub mutated : (c : Context) (steps : List RUse) (a : RUse × List RExpr) → evaluated_member c (y.Mutated steps a) ≡ (λ i. each (map (evaluated c) a.1) >>= (λ vs. call.updated c steps (call.mutating c a.0 vs) i >>= call.result_of))
mutated c steps a = rw (member_out c (y.Mutated steps a), y.outs-Mutated steps a) refl

-- ---- statements

pub declare : (c : Context) (p : Place) (n : ℕ) (w : Option RTypeName) (e : RExpr) → executed c (z.Local p n w e) ≡ (evaluated c e >>= set_local n >> pure normal)
declare c p n w e = rw (statement_out c (z.Local p n w e), z.outs-Local p n w e) refl

pub expr : (c : Context) (e : RExpr) → executed c (z.Expr e) ≡ (evaluated c e >> pure normal)
expr c e = rw (statement_out c (z.Expr e), z.outs-Expr e) refl

pub assign : (c : Context) (p : Place) (l : RPlace) (o : AssignmentOperator) (e : RExpr) → executed c (z.Assign p l o e) ≡ (statement.assigned c l.root l.steps (operator.assigning o) (evaluated c e) >> pure normal)
assign c p l o e = rw (statement_out c (z.Assign p l o e), z.outs-Assign p l o e) refl

pub fill : (c : Context) (p : Place) (k : Key) (e : RExpr) → executed c (z.Fill p k e) ≡ (evaluated c e >>= (λ i. self_value >>= call.field_set k i) >>= set_self >> pure normal)
fill c p k e = rw (statement_out c (z.Fill p k e), z.outs-Fill p k e) refl

pub self_init : (c : Context) (a : RUse × List RExpr) → executed c (z.SelfInit a) ≡ (each (map (evaluated c) a.1) >>= call.made c a.0 >>= set_self >> pure normal)
self_init c a = rw (statement_out c (z.SelfInit a), z.outs-SelfInit a) refl

pub super_init : (c : Context) (a : RUse × List RExpr) → executed c (z.SuperInit a) ≡ (each (map (evaluated c) a.1) >>= (λ vs. self_value >>= call.initialised_above c a.0 vs) >> pure normal)
super_init c a = rw (statement_out c (z.SuperInit a), z.outs-SuperInit a) refl

pub if' : (c : Context) (p : Place) (bs : List (Option RExpr × RBlock)) → executed c (z.If p bs) ≡ statement.branched c (map (λ (b : Option RExpr × RBlock). (b.0, executed_block c b.1)) bs)
if' c p bs = rw (statement_out c (z.If p bs), z.outs-If p bs) refl

pub while : (c : Context) (p : Place) (e : Option RExpr) (b : RBlock) → executed c (z.While p e b) ≡ statement.looped c.turns (statement.condition c e) (executed_block c b)
while c p e b = rw (statement_out c (z.While p e b), z.outs-While p e b) refl

pub return : (c : Context) (p : Place) (e : Option RExpr) → executed c (z.Return p e) ≡ statement.returned c e
return c p e = rw (statement_out c (z.Return p e), z.outs-Return p e) refl

pub break : (c : Context) (p : Place) → executed c (z.Break p) ≡ pure breaks
break c p = rw (statement_out c (z.Break p), z.outs-Break p) refl

pub continue : (c : Context) (p : Place) → executed c (z.Continue p) ≡ pure continues
continue c p = rw (statement_out c (z.Continue p), z.outs-Continue p) refl

pub switch : (c : Context) (p : Place) (e : RExpr) (cs : List RClause) → executed c (z.Switch p e cs) ≡ (evaluated c e >>= statement.switched (map (clause_of c) cs) >>= statement.after_switch)
switch c p e cs = rw (statement_out c (z.Switch p e cs), z.outs-Switch p e cs) refl

-- ---- blocks and clauses

pub block : (c : Context) (p : Place) (ss : List RStmt) → executed_block c (roll-RBlock (record { statements = ss; «end» = p })) ≡ statement.in_order (map (executed c) ss)
block c p ss = block_out c (roll-RBlock (record { statements = ss; «end» = p })) ∙ ap (λ (b : RBlock-F RStmt RBlock RClause). statement.in_order (map (executed c) b.statements)) (out-roll-RBlock (record { statements = ss; «end» = p }))

pub clause : (c : Context) (p : Place) (l : RClauseLabel) (ss : List RStmt) → clause_of c (roll-RClause (record { place = p; label = l; statements = ss })) ≡ record { label = l; body = statement.in_order (map (executed c) ss) }
clause c p l ss = clause_out c (roll-RClause (record { place = p; label = l; statements = ss })) ∙ ap (λ (b : RClause-F RStmt RBlock RClause). record { label = b.label; body = statement.in_order (map (executed c) b.statements) }) (out-roll-RClause (record { place = p; label = l; statements = ss }))
