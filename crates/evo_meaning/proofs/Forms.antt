-- Each form of the language keeps what the six makers keep: one pass over the forms for every law.
use Rattle.std.proofs.Common.{◌≡◌, ℕ, Bool, true, false, List, [], ◌∷◌, map, Option, Some, None, refl, ℤ, ◌+ℤ◌, ◌-ℤ◌, ◌*ℤ◌, neg_ℤ, int_div, int_rem}
use Rattle.evo_base.specs.declared.key.Key.{Key}
use Rattle.evo_tree.specs.declared.declaration.NominalKind.TheVariants as nominal
use Rattle.evo_tree.specs.declared.expression.PrefixOperator.{PrefixOperator}
use Rattle.evo_tree.specs.declared.expression.PrefixOperator.TheVariants as prefix
use Rattle.evo_tree.specs.declared.expression.InfixOperator.{InfixOperator}
use Rattle.evo_tree.specs.declared.expression.InfixOperator.TheVariants as op
use Rattle.evo_resolved.specs.declared.declaration.Standing.{Standing}
use Rattle.evo_resolved.specs.declared.declaration.Standing.TheVariants as standing
use Rattle.evo_resolved.specs.declared.expression.Reach.{Reach}
use Rattle.evo_resolved.specs.declared.expression.Reach.TheVariants as reach
use Rattle.evo_resolved.specs.declared.expression.RUse.{RUse}
use Rattle.evo_resolved.specs.declared.expression.Variable.{Variable}
use Rattle.evo_resolved.specs.declared.expression.Variable.TheVariants as variable
use Rattle.evo_resolved.specs.declared.expression.Builtin.{Builtin}
use Rattle.evo_resolved.specs.declared.expression.Builtin.TheVariants as builtin
use Rattle.evo_resolved.specs.declared.expression.RExpr.{RExpr, RExpr-F, fold-RExpr, map-RExpr}
use Rattle.evo_resolved.specs.declared.expression.RExpr.TheOpen as r
use Rattle.evo_resolved.specs.declared.expression.RMember.{RMember, RMember-F, fold-RMember, map-RMember}
use Rattle.evo_resolved.specs.declared.statement.RRoot.{RRoot}
use Rattle.evo_resolved.specs.declared.statement.RRoot.TheVariants as root
use Rattle.evo_resolved.specs.declared.statement.RBlock.{RBlock, RBlock-F, fold-RBlock, map-RBlock}
use Rattle.evo_resolved.specs.declared.statement.RClause.{RClause, RClause-F, fold-RClause, map-RClause}
use Rattle.evo_resolved.specs.declared.statement.RStmt.{RStmt, RStmt-F, fold-RStmt, map-RStmt}
use Rattle.evo_resolved.specs.declared.statement.RStmt.TheOpen as q
use Rattle.evo_names.specs.Keys.{getter_key, setter_key}
use Rattle.evo_meaning.specs.Values.{Value, int, truth, text, struct, enum, object, nothing}
use Rattle.evo_meaning.specs.Runs.{overflow, divide, precondition, fatal, Stop, stuck, trapped, Store, Local, Environment, Run, pure, stop, ◌>>=◌, on_store, tick, write, or_stuck, within}
use Rattle.evo_meaning.specs.Runs as run
use Rattle.evo_meaning.specs.Programs.{MixedProgram, Implementation, Initialiser, written, memberwise, Access, in_place, by_accessor, Witness, by_member, by_default}
use Rattle.evo_meaning.specs.Operators as operator
use Rattle.evo_meaning.specs.Calls as call
use Rattle.evo_meaning.specs.Calls.{Reply, Callee, Context}
use Rattle.evo_meaning.specs.Expressions as expression
use Rattle.evo_meaning.specs.Expressions.{expression_step, member_step, evaluated}
use Rattle.evo_meaning.specs.Statements as statement
use Rattle.evo_meaning.specs.Statements.{Completion, normal, returns, breaks, continues, Clause, looped, statement_step, block_step, clause_step, executed_block}
use Rattle.evo_meaning.specs.Bodies as body
use Rattle.evo_meaning.proofs.Related.{related_exprs, related_blocks}

-- a relation between two runs that the six makers keep
pub record Kept (R : (A : Type 0) → Run A → Run A → Type 0) : Type 1 where
  pub pure : {A : Type 0} (a : A) → R A (pure a) (pure a)
  pub stop : {A : Type 0} (e : Stop) → R A (stop e) (stop e)
  pub then : {A B : Type 0} {m m' : Run A} {f f' : A → Run B} → R A m m' → ((a : A) → R B (f a) (f' a)) → R B (m >>= f) (m' >>= f')
  pub store : {A : Type 0} (f : Store → Option (A × Store)) → R A (on_store f) (on_store f)
  pub tick : R (Unit {0}) tick tick
  pub write : (bytes : List ℕ) → R (Unit {0}) (write bytes) (write bytes)

module _ (R : (A : Type 0) → Run A → Run A → Type 0) (k : Kept R) where
  -- a run that depends on nothing else
  abbrev Plain : {A : Type 0} → Run A → Type 0
  Plain m = R _ m m

  keeps_or_stuck : {A : Type 0} (o : Option A) → Plain (or_stuck o)
  keeps_or_stuck None = k.stop stuck
  keeps_or_stuck (Some a) = k.pure a

  keeps_integer_where : (b : Bool) (z : ℤ) → Plain (operator.integer_where b z)
  keeps_integer_where true z = k.pure (int z)
  keeps_integer_where false z = k.stop (trapped overflow)

  keeps_exact : (z : ℤ) → Plain (operator.exact z)
  keeps_exact z = keeps_integer_where (operator.fits z) z

  keeps_sum : (x y : Value) → Plain (operator.sum x y)
  keeps_sum (int a) (int b) = keeps_exact (a +ℤ b)
  keeps_sum (text a) (text b) = k.pure _
  keeps_sum _ _ = k.stop stuck

  keeps_on_integers : (f : ℤ → ℤ → Run Value) → ((a b : ℤ) → Plain (f a b)) → (x y : Value) → Plain (operator.on_integers f x y)
  keeps_on_integers f h (int a) (int b) = h a b
  keeps_on_integers f h _ _ = k.stop stuck

  keeps_unless_zero : {m : Run Value} (b : Bool) → Plain m → Plain (operator.unless_zero b m)
  keeps_unless_zero true h = k.stop (trapped divide)
  keeps_unless_zero false h = h

  keeps_divided : (f : ℤ → ℤ → ℤ) (a b : ℤ) → Plain (operator.divided f a b)
  keeps_divided f a b = keeps_unless_zero _ (k.then (keeps_exact (int_div a b)) (λ _. k.pure _))

  keeps_applied : (o : InfixOperator) (x y : Value) → Plain (operator.applied o x y)
  keeps_applied op.Or x y = k.stop stuck
  keeps_applied op.And x y = k.stop stuck
  keeps_applied op.Equal x y = keeps_or_stuck _
  keeps_applied op.NotEqual x y = keeps_or_stuck _
  keeps_applied op.Identical x y = keeps_or_stuck _
  keeps_applied op.NotIdentical x y = keeps_or_stuck _
  keeps_applied op.Less x y = keeps_on_integers _ (λ a b. k.pure _) x y
  keeps_applied op.LessOrEqual x y = keeps_on_integers _ (λ a b. k.pure _) x y
  keeps_applied op.Greater x y = keeps_on_integers _ (λ a b. k.pure _) x y
  keeps_applied op.GreaterOrEqual x y = keeps_on_integers _ (λ a b. k.pure _) x y
  keeps_applied op.Add x y = keeps_sum x y
  keeps_applied op.Subtract x y = keeps_on_integers _ (λ a b. keeps_exact (a -ℤ b)) x y
  keeps_applied op.WrappingAdd x y = keeps_on_integers _ (λ a b. k.pure _) x y
  keeps_applied op.WrappingSubtract x y = keeps_on_integers _ (λ a b. k.pure _) x y
  keeps_applied op.Multiply x y = keeps_on_integers _ (λ a b. keeps_exact (a *ℤ b)) x y
  keeps_applied op.Divide x y = keeps_on_integers _ (keeps_divided int_div) x y
  keeps_applied op.Remainder x y = keeps_on_integers _ (keeps_divided int_rem) x y
  keeps_applied op.WrappingMultiply x y = keeps_on_integers _ (λ a b. k.pure _) x y

  keeps_as_truth : (x : Value) → Plain (operator.as_truth x)
  keeps_as_truth (truth b) = k.pure b
  keeps_as_truth _ = k.stop stuck

  keeps_as_object : (x : Value) → Plain (operator.as_object x)
  keeps_as_object (object n) = k.pure n
  keeps_as_object _ = k.stop stuck

  keeps_prefixed : (o : PrefixOperator) (x : Value) → Plain (operator.prefixed o x)
  keeps_prefixed prefix.Minus (int a) = keeps_exact (neg_ℤ a)
  keeps_prefixed prefix.Not (truth b) = k.pure _
  keeps_prefixed prefix.Minus (truth b) = k.stop stuck
  keeps_prefixed prefix.Minus (text b) = k.stop stuck
  keeps_prefixed prefix.Minus (struct b) = k.stop stuck
  keeps_prefixed prefix.Minus (enum j b) = k.stop stuck
  keeps_prefixed prefix.Minus (object b) = k.stop stuck
  keeps_prefixed prefix.Minus nothing = k.stop stuck
  keeps_prefixed prefix.Not (int b) = k.stop stuck
  keeps_prefixed prefix.Not (text b) = k.stop stuck
  keeps_prefixed prefix.Not (struct b) = k.stop stuck
  keeps_prefixed prefix.Not (enum j b) = k.stop stuck
  keeps_prefixed prefix.Not (object b) = k.stop stuck
  keeps_prefixed prefix.Not nothing = k.stop stuck

  keeps_and_then : {m m' : Run Value} → R _ m m' → (b : Bool) → R _ (operator.and_then m b) (operator.and_then m' b)
  keeps_and_then h true = h
  keeps_and_then h false = k.pure (truth false)

  keeps_or_else : {m m' : Run Value} → R _ m m' → (b : Bool) → R _ (operator.or_else m b) (operator.or_else m' b)
  keeps_or_else h true = k.pure (truth true)
  keeps_or_else h false = h

  keeps_operated : {m m' : Run Value} (o : InfixOperator) → R _ m m' → (x : Value) → R _ (operator.operated o m x) (operator.operated o m' x)
  keeps_operated op.Or h x = k.then (keeps_as_truth x) (keeps_or_else h)
  keeps_operated op.And h x = k.then (keeps_as_truth x) (keeps_and_then h)
  keeps_operated op.Equal h x = k.then h (keeps_applied op.Equal x)
  keeps_operated op.NotEqual h x = k.then h (keeps_applied op.NotEqual x)
  keeps_operated op.Identical h x = k.then h (keeps_applied op.Identical x)
  keeps_operated op.NotIdentical h x = k.then h (keeps_applied op.NotIdentical x)
  keeps_operated op.Less h x = k.then h (keeps_applied op.Less x)
  keeps_operated op.LessOrEqual h x = k.then h (keeps_applied op.LessOrEqual x)
  keeps_operated op.Greater h x = k.then h (keeps_applied op.Greater x)
  keeps_operated op.GreaterOrEqual h x = k.then h (keeps_applied op.GreaterOrEqual x)
  keeps_operated op.Add h x = k.then h (keeps_applied op.Add x)
  keeps_operated op.Subtract h x = k.then h (keeps_applied op.Subtract x)
  keeps_operated op.WrappingAdd h x = k.then h (keeps_applied op.WrappingAdd x)
  keeps_operated op.WrappingSubtract h x = k.then h (keeps_applied op.WrappingSubtract x)
  keeps_operated op.Multiply h x = k.then h (keeps_applied op.Multiply x)
  keeps_operated op.Divide h x = k.then h (keeps_applied op.Divide x)
  keeps_operated op.Remainder h x = k.then h (keeps_applied op.Remainder x)
  keeps_operated op.WrappingMultiply h x = k.then h (keeps_applied op.WrappingMultiply x)

  keeps_held : (b : Bool) → Plain (operator.held b)
  keeps_held true = k.pure nothing
  keeps_held false = k.stop (trapped precondition)

  keeps_built_in : (b : Builtin) (vs : List Value) → Plain (operator.built_in b vs)
  keeps_built_in builtin.Print vs = k.then (k.then (keeps_or_stuck _) k.write) (λ _. k.pure nothing)
  keeps_built_in builtin.Precondition [] = k.stop stuck
  keeps_built_in builtin.Precondition (x ∷ []) = k.then (keeps_as_truth x) keeps_held
  keeps_built_in builtin.Precondition (x ∷ y ∷ ys) = k.stop stuck
  keeps_built_in builtin.Fatal vs = k.stop (trapped fatal)

  pub keeps_choice : {m m' n n' : Run Completion} (b : Bool) → R _ m m' → R _ n n' → R _ (statement.choice b m n) (statement.choice b m' n')
  keeps_choice true h j = h
  keeps_choice false h j = j

  pub keeps_after_turn : {m m' : Run Completion} (f : Completion) → R _ m m' → R _ (statement.after_turn f m) (statement.after_turn f m')
  keeps_after_turn normal h = h
  keeps_after_turn continues h = h
  keeps_after_turn breaks h = k.pure normal
  keeps_after_turn (returns x) h = k.pure (returns x)

  keeps_and_after : {m m' : Run Completion} (f : Completion) → R _ m m' → R _ (statement.and_after f m) (statement.and_after f m')
  keeps_and_after normal h = h
  keeps_and_after breaks h = k.pure breaks
  keeps_and_after continues h = k.pure continues
  keeps_and_after (returns x) h = k.pure (returns x)

  keeps_after_switch : (f : Completion) → Plain (statement.after_switch f)
  keeps_after_switch normal = k.pure normal
  keeps_after_switch breaks = k.pure normal
  keeps_after_switch continues = k.pure continues
  keeps_after_switch (returns x) = k.pure (returns x)

  keeps_set_locals : (ls : List Local) → Plain (run.set_locals ls)
  keeps_set_locals [] = k.pure tt
  keeps_set_locals (l ∷ ls) = k.then (k.store _) (λ _. keeps_set_locals ls)

  keeps_entered : {m m' n n' : Run Completion} (o : Option (List Local)) → R _ m m' → R _ n n' → R _ (statement.entered o m n) (statement.entered o m' n')
  keeps_entered None h j = j
  keeps_entered (Some ls) h j = k.then (keeps_set_locals ls) (λ _. h)

  keeps_result : (x : Reply) → Plain (call.result_of x)
  keeps_result x = k.pure x.value

  keeps_self : (x : Reply) → Plain (call.self_of x)
  keeps_self x = keeps_or_stuck x.self

  keeps_class : (self : Option Value) → Plain (call.class_of self)
  keeps_class self = k.then (k.then (k.then (keeps_or_stuck self) keeps_as_object) (λ n. k.store _)) (λ o. k.pure _)

  keeps_field_of : (j : Key) (x : Value) → Plain (call.field_of j x)
  keeps_field_of j (struct fs) = keeps_or_stuck _
  keeps_field_of j (object n) = k.then (k.store _) (λ o. keeps_or_stuck _)
  keeps_field_of j (int z) = k.stop stuck
  keeps_field_of j (truth z) = k.stop stuck
  keeps_field_of j (text z) = k.stop stuck
  keeps_field_of j (enum c z) = k.stop stuck
  keeps_field_of j nothing = k.stop stuck

  keeps_field_set : (j : Key) (new x : Value) → Plain (call.field_set j new x)
  keeps_field_set j new (struct fs) = k.pure _
  keeps_field_set j new (object n) = k.then (k.then (k.store _) (λ o. k.store _)) (λ _. k.pure _)
  keeps_field_set j new (int z) = k.stop stuck
  keeps_field_set j new (truth z) = k.stop stuck
  keeps_field_set j new (text z) = k.stop stuck
  keeps_field_set j new (enum c z) = k.stop stuck
  keeps_field_set j new nothing = k.stop stuck

  keeps_variable : (x : Variable) → Plain (call.variable_value x)
  keeps_variable (variable.Local n) = k.store _
  keeps_variable variable.SelfValue = k.store _

  keeps_set_variable : (x : Variable) (y : Value) → Plain (call.set_variable x y)
  keeps_set_variable (variable.Local n) y = k.store _
  keeps_set_variable variable.SelfValue y = k.store _

  keeps_changed_variable : (x : Variable) (f f' : Value → Run Reply) → ((y : Value) → R _ (f y) (f' y)) → R _ (call.changed_variable x f) (call.changed_variable x f')
  keeps_changed_variable x f f' h = k.then (k.then (keeps_variable x) h) (λ y. k.then (k.then (keeps_self y) (keeps_set_variable x)) (λ _. keeps_result y))

  -- ---- at one place, where calls and loops keep it

  module _ (p : MixedProgram) (callee : Callee) (n n' : ℕ) (runner runner' : Callee → Option Value → List Value → Run Reply) (calls : (f : Callee) (self : Option Value) (vs : List Value) → R _ (runner f self vs) (runner' f self vs)) (loops : (t t' : Run Bool) (x x' : Run Completion) → R _ t t' → R _ x x' → R _ (looped n t x) (looped n' t' x')) where
    abbrev h : Context
    h = body.context n p callee runner

    abbrev h' : Context
    h' = body.context n' p callee runner'

    keeps_tables : (u : RUse) → R _ (call.tables_for h u) (call.tables_for h' u)
    keeps_tables u = keeps_or_stuck _

    keeps_first_table : (u : RUse) → R _ (call.first_table h u) (call.first_table h' u)
    keeps_first_table u = k.then (keeps_tables u) (λ ts. keeps_or_stuck _)

    keeps_dispatched : (j : Key) (self : Option Value) → R _ (call.dispatched h j self) (call.dispatched h' j self)
    keeps_dispatched j self = k.then (keeps_class self) (λ class. keeps_or_stuck _)

    keeps_witness_callee : (table : Key) (self : Option Value) (x : Witness) → R _ (call.witness_callee h table self x) (call.witness_callee h' table self x)
    keeps_witness_callee table self (by_member i reach.Static) = keeps_or_stuck _
    keeps_witness_callee table self (by_member i reach.Dispatched) = keeps_dispatched i self
    keeps_witness_callee table self (by_member i reach.Witness) = k.stop stuck
    keeps_witness_callee table self (by_default i) = keeps_or_stuck _

    keeps_callee : (u : RUse) (self : Option Value) (x : Reach) → R _ (call.callee_by h u self x) (call.callee_by h' u self x)
    keeps_callee u self reach.Static = k.then (keeps_tables u) (λ ts. keeps_or_stuck _)
    keeps_callee u self reach.Dispatched = keeps_dispatched u.key self
    keeps_callee u self reach.Witness = k.then (keeps_first_table u) (λ c. k.then (keeps_or_stuck _) (keeps_witness_callee c self))

    keeps_called : (u : RUse) (self : Option Value) (vs : List Value) → R _ (call.called h u self vs) (call.called h' u self vs)
    keeps_called u self vs = k.then (keeps_callee u self u.reach) (λ c. calls c self vs)

    keeps_called_above : (u : RUse) (self : Value) (vs : List Value) → R _ (call.called_above h u self vs) (call.called_above h' u self vs)
    keeps_called_above u self vs = k.then (keeps_or_stuck _) (λ c. calls c (Some self) vs)

    keeps_access : (a : Key → Key) (u : RUse) (x : Reach) → R _ (call.access_by h a u x) (call.access_by h' a u x)
    keeps_access a u reach.Static = k.then (keeps_tables u) (λ ts. keeps_or_stuck _)
    keeps_access a u reach.Dispatched = k.then (keeps_tables u) (λ ts. keeps_or_stuck _)
    keeps_access a u reach.Witness = k.then (keeps_first_table u) (λ c. keeps_or_stuck _)

    keeps_read_by : (x : Value) (w : Access) → R _ (call.read_by h x w) (call.read_by h' x w)
    keeps_read_by x (in_place j) = keeps_field_of j x
    keeps_read_by x (by_accessor f ts) = k.then (calls _ _ _) keeps_result

    keeps_set_by : (new x : Value) (w : Access) → R _ (call.set_by h new x w) (call.set_by h' new x w)
    keeps_set_by new x (in_place j) = keeps_field_set j new x
    keeps_set_by new x (by_accessor f ts) = k.then (calls _ _ _) keeps_self

    keeps_get : (u : RUse) (x : Value) → R _ (call.get h u x) (call.get h' u x)
    keeps_get u x = k.then (keeps_access getter_key u u.reach) (keeps_read_by x)

    keeps_set : (u : RUse) (new x : Value) → R _ (call.set h u new x) (call.set h' u new x)
    keeps_set u new x = k.then (keeps_access setter_key u u.reach) (keeps_set_by new x)

    keeps_updated : (steps : List RUse) (f f' : Value → Run Reply) → ((y : Value) → R _ (f y) (f' y)) → (x : Value) → R _ (call.updated h steps f x) (call.updated h' steps f' x)
    keeps_updated [] f f' g x = g x
    keeps_updated (y ∷ steps) f f' g x =
        k.then (keeps_get y x) (λ inner. k.then (keeps_updated steps f f' g inner) (λ z. k.then (keeps_self z) (λ new. k.then (keeps_set y new x) (λ whole. k.pure _))))

    keeps_replaced : (steps : List RUse) (new x : Value) → R _ (call.replaced h steps new x) (call.replaced h' steps new x)
    keeps_replaced [] new x = k.pure _
    keeps_replaced (y ∷ []) new x = k.then (keeps_set y new x) (λ whole. k.pure _)
    keeps_replaced (y ∷ z ∷ steps) new x =
        k.then (keeps_get y x) (λ inner. k.then (keeps_replaced (z ∷ steps) new inner) (λ w. k.then (keeps_self w) (λ c. k.then (keeps_set y c x) (λ whole. k.pure _))))

    keeps_initialised : (u : RUse) (self : Option Value) (vs : List Value) (f : Implementation) → R _ (call.initialised h u self vs f) (call.initialised h' u self vs f)
    keeps_initialised u self vs f = k.then (keeps_tables u) (λ ts. calls _ self vs)

    keeps_made_from : (u : RUse) (self : Option Value) (vs : List Value) (f : Implementation) → R _ (call.initialised h u self vs f >>= call.self_of) (call.initialised h' u self vs f >>= call.self_of)
    keeps_made_from u self vs f = k.then (keeps_initialised u self vs f) keeps_self

    keeps_made_in : (u : RUse) (vs : List Value) (f : Implementation) (x : Standing) → R _ (call.made_in h u vs f x) (call.made_in h' u vs f x)
    keeps_made_in u vs f standing.TopLevel = keeps_made_from u _ vs f
    keeps_made_in u vs f (standing.Braces nominal.Struct j) = keeps_made_from u _ vs f
    keeps_made_in u vs f (standing.Braces nominal.Enum j) = keeps_made_from u _ vs f
    keeps_made_in u vs f (standing.Braces nominal.Class j) = k.then (k.store _) (λ o. k.then (keeps_initialised u (Some o) vs f) (λ _. k.pure o))
    keeps_made_in u vs f (standing.Braces nominal.Protocol j) = keeps_made_from u _ vs f
    keeps_made_in u vs f (standing.Extension nominal.Struct j) = keeps_made_from u _ vs f
    keeps_made_in u vs f (standing.Extension nominal.Enum j) = keeps_made_from u _ vs f
    keeps_made_in u vs f (standing.Extension nominal.Class j) = keeps_made_from u _ vs f
    keeps_made_in u vs f (standing.Extension nominal.Protocol j) = keeps_made_from u _ vs f

    keeps_made_by : (u : RUse) (vs : List Value) (x : Initialiser) → R _ (call.made_by h u vs x) (call.made_by h' u vs x)
    keeps_made_by u vs (written f) = keeps_made_in u vs f f.standing
    keeps_made_by u vs (memberwise ks) = keeps_or_stuck _

    keeps_made : (u : RUse) (vs : List Value) → R _ (call.made h u vs) (call.made h' u vs)
    keeps_made u vs = k.then (keeps_or_stuck _) (keeps_made_by u vs)

    keeps_initialised_above : (u : RUse) (vs : List Value) (x : Value) → R _ (call.initialised_above h u vs x) (call.initialised_above h' u vs x)
    keeps_initialised_above u vs x = k.then (keeps_or_stuck _) (keeps_initialised u (Some x) vs)

    -- ---- expressions

    abbrev of_expr : RExpr → Run Value
    of_expr = fold-RExpr (Run Value) (Value → Run Value) (expression_step h) (member_step h)

    abbrev of_expr' : RExpr → Run Value
    of_expr' = fold-RExpr (Run Value) (Value → Run Value) (expression_step h') (member_step h')

    abbrev of_member : RMember → Value → Run Value
    of_member = fold-RMember (Run Value) (Value → Run Value) (expression_step h) (member_step h)

    abbrev of_member' : RMember → Value → Run Value
    of_member' = fold-RMember (Run Value) (Value → Run Value) (expression_step h') (member_step h')

    abbrev SameMember : (Value → Run Value) → (Value → Run Value) → Type 0
    SameMember f g = (x : Value) → R _ (f x) (g x)

    abbrev EachExpr : Type 0
    EachExpr = (e : RExpr) × R _ (of_expr e) (of_expr' e)

    abbrev EachMember : Type 0
    EachMember = (e : RMember) × SameMember (of_member e) (of_member' e)

    keeps_each : (ys : List EachExpr) → R _ (run.each (map of_expr (map (λ p. p.0) ys))) (run.each (map of_expr' (map (λ p. p.0) ys)))
    keeps_each [] = k.pure []
    keeps_each (y ∷ ys) = k.then y.1 (λ x. k.then (keeps_each ys) (λ vs. k.pure (x ∷ vs)))

    keeps_with_members : (ys : List EachMember) (x x' : Run Value) → R _ x x' → R _ (expression.with_members x (map of_member (map (λ p. p.0) ys))) (expression.with_members x' (map of_member' (map (λ p. p.0) ys)))
    keeps_with_members [] x x' g = g
    keeps_with_members (y ∷ ys) x x' g = keeps_with_members ys (x >>= of_member y.0) (x' >>= of_member' y.0) (k.then g y.1)

    keeps_chained : (ys : List (InfixOperator × EachExpr)) (x x' : Run Value) → R _ x x' → R _ (expression.chained x (map (λ (p : InfixOperator × RExpr). (p.0, of_expr p.1)) (map (λ (p : InfixOperator × EachExpr). (p.0, p.1.0)) ys))) (expression.chained x' (map (λ (p : InfixOperator × RExpr). (p.0, of_expr' p.1)) (map (λ (p : InfixOperator × EachExpr). (p.0, p.1.0)) ys)))
    keeps_chained [] x x' g = g
    keeps_chained (y ∷ ys) x x' g = keeps_chained ys (x >>= operator.operated y.0 (of_expr y.1.0)) (x' >>= operator.operated y.0 (of_expr' y.1.0)) (k.then g (keeps_operated y.0 y.1.1))

    expr_keeps : (y : RExpr-F EachExpr EachMember) → R _ (expression_step h (map-RExpr RExpr RMember (Run Value) (Value → Run Value) of_expr of_member (map-RExpr EachExpr EachMember RExpr RMember (λ p. p.0) (λ p. p.0) y))) (expression_step h' (map-RExpr RExpr RMember (Run Value) (Value → Run Value) of_expr' of_member' (map-RExpr EachExpr EachMember RExpr RMember (λ p. p.0) (λ p. p.0) y)))
    expr_keeps (r.Literal l) = k.pure _
    expr_keeps (r.Local p i w) = k.store _
    expr_keeps (r.SelfValue p w) = k.store _
    expr_keeps (r.Upcast y w) = y.1
    expr_keeps (r.Prefix o y) = k.then y.1 (keeps_prefixed o)
    expr_keeps (r.Chain y os w) = keeps_chained os _ _ y.1
    expr_keeps (r.Members y ms) = keeps_with_members ms _ _ y.1
    expr_keeps (r.Mutate x steps a) = k.then (keeps_each a.1) (λ vs. keeps_changed_variable x _ _ (keeps_updated steps _ _ (λ self. keeps_called a.0 (Some self) vs)))
    expr_keeps (r.Case a) = k.then (keeps_each a.1) (λ vs. k.pure _)
    expr_keeps (r.New a) = k.then (keeps_each a.1) (keeps_made a.0)
    expr_keeps (r.Call a) = k.then (keeps_each a.1) (λ vs. k.then (keeps_called a.0 None vs) keeps_result)
    expr_keeps (r.Super a) = k.then (k.store _) (λ self. k.then (keeps_each a.1) (λ vs. k.then (keeps_called_above a.0 self vs) keeps_result))
    expr_keeps (r.Builtin p b parts) = k.then (keeps_each parts) (keeps_built_in b)

    member_keeps : (y : RMember-F EachExpr EachMember) → SameMember (member_step h (map-RMember RExpr RMember (Run Value) (Value → Run Value) of_expr of_member (map-RMember EachExpr EachMember RExpr RMember (λ p. p.0) (λ p. p.0) y))) (member_step h' (map-RMember RExpr RMember (Run Value) (Value → Run Value) of_expr' of_member' (map-RMember EachExpr EachMember RExpr RMember (λ p. p.0) (λ p. p.0) y)))
    member_keeps (RMember-F.Property s) x = keeps_get s x
    member_keeps (RMember-F.Called a) x = k.then (keeps_each a.1) (λ vs. k.then (keeps_called a.0 (Some x) vs) keeps_result)
    member_keeps (RMember-F.Mutated steps a) x = k.then (keeps_each a.1) (λ vs. k.then (keeps_updated steps _ _ (λ self. keeps_called a.0 (Some self) vs) x) keeps_result)

    pub keeps_expression : (e : RExpr) → R _ (evaluated h e) (evaluated h' e)
    unfolding evaluated
    keeps_expression = related_exprs (Run Value) (Value → Run Value) (Run Value) (Value → Run Value) (expression_step h) (member_step h) (expression_step h') (member_step h') (R Value) SameMember expr_keeps member_keeps

    keeps_expressions : (es : List RExpr) → R _ (run.each (map (evaluated h) es)) (run.each (map (evaluated h') es))
    keeps_expressions [] = k.pure []
    keeps_expressions (e ∷ es) = k.then (keeps_expression e) (λ x. k.then (keeps_expressions es) (λ vs. k.pure (x ∷ vs)))

    -- ---- statements

    keeps_assigned_behind : (steps : List RUse) (o : Option InfixOperator) (new x : Value) → R _ (statement.assigned_behind h steps o new x) (statement.assigned_behind h' steps o new x)
    keeps_assigned_behind steps None new x = keeps_replaced steps new x
    keeps_assigned_behind steps (Some o) new x = keeps_updated steps _ _ (λ old. k.then (keeps_applied o old new) (λ y. k.pure _)) x

    keeps_assigned_variable : (x : Variable) (steps : List RUse) (o : Option InfixOperator) (new : Value) → R _ (statement.assigned_variable h x steps o new) (statement.assigned_variable h' x steps o new)
    keeps_assigned_variable x [] None new = keeps_set_variable x new
    keeps_assigned_variable x [] (Some o) new = k.then (keeps_changed_variable x _ _ (keeps_assigned_behind [] (Some o) new)) (λ _. k.pure tt)
    keeps_assigned_variable x (y ∷ steps) o new = k.then (keeps_changed_variable x _ _ (keeps_assigned_behind (y ∷ steps) o new)) (λ _. k.pure tt)

    keeps_assigned : (x : RRoot) (steps : List RUse) (o : Option InfixOperator) (e : RExpr) → R _ (statement.assigned h x steps o (evaluated h e)) (statement.assigned h' x steps o (evaluated h' e))
    keeps_assigned (root.Variable x) steps o e = k.then (keeps_expression e) (keeps_assigned_variable x steps o)
    keeps_assigned (root.Object a) steps o e = k.then (k.then (keeps_expression a) (λ x. k.then (keeps_expression e) (λ new. keeps_assigned_behind steps o new x))) (λ _. k.pure tt)

    keeps_condition : (e : Option RExpr) → R _ (statement.condition h e) (statement.condition h' e)
    keeps_condition None = k.pure true
    keeps_condition (Some e) = k.then (keeps_expression e) keeps_as_truth

    keeps_returned : (e : Option RExpr) → R _ (statement.returned h e) (statement.returned h' e)
    keeps_returned None = k.pure _
    keeps_returned (Some e) = k.then (keeps_expression e) (λ x. k.pure _)

    abbrev SameClause : Clause → Clause → Type 0
    SameClause a b = (a.label ≡ b.label) × R _ a.body b.body

    abbrev of_stmt : RStmt → Run Completion
    of_stmt = fold-RStmt (Run Completion) (Run Completion) Clause (statement_step h) block_step clause_step

    abbrev of_stmt' : RStmt → Run Completion
    of_stmt' = fold-RStmt (Run Completion) (Run Completion) Clause (statement_step h') block_step clause_step

    abbrev of_block : RBlock → Run Completion
    of_block = fold-RBlock (Run Completion) (Run Completion) Clause (statement_step h) block_step clause_step

    abbrev of_block' : RBlock → Run Completion
    of_block' = fold-RBlock (Run Completion) (Run Completion) Clause (statement_step h') block_step clause_step

    abbrev of_clause : RClause → Clause
    of_clause = fold-RClause (Run Completion) (Run Completion) Clause (statement_step h) block_step clause_step

    abbrev of_clause' : RClause → Clause
    of_clause' = fold-RClause (Run Completion) (Run Completion) Clause (statement_step h') block_step clause_step

    abbrev AStmt : Type 0
    AStmt = (e : RStmt) × R _ (of_stmt e) (of_stmt' e)

    abbrev ABlock : Type 0
    ABlock = (e : RBlock) × R _ (of_block e) (of_block' e)

    abbrev AClause : Type 0
    AClause = (e : RClause) × SameClause (of_clause e) (of_clause' e)

    keeps_in_order : (ys : List AStmt) → R _ (statement.in_order (map of_stmt (map (λ p. p.0) ys))) (statement.in_order (map of_stmt' (map (λ p. p.0) ys)))
    keeps_in_order [] = k.pure normal
    keeps_in_order (y ∷ ys) = k.then y.1 (λ f. keeps_and_after f (keeps_in_order ys))

    keeps_switched : (x : Value) (ys : List AClause) → R _ (statement.switched (map of_clause (map (λ p. p.0) ys)) x) (statement.switched (map of_clause' (map (λ p. p.0) ys)) x)
    keeps_switched x [] = k.stop stuck
    keeps_switched x (y ∷ ys) = rw y.1.0 (keeps_entered (statement.label_matched _ x) y.1.1 (keeps_switched x ys))

    keeps_branched : (ys : List (Option RExpr × ABlock)) → R _ (statement.branched h (map (λ (p : Option RExpr × RBlock). (p.0, of_block p.1)) (map (λ (p : Option RExpr × ABlock). (p.0, p.1.0)) ys))) (statement.branched h' (map (λ (p : Option RExpr × RBlock). (p.0, of_block' p.1)) (map (λ (p : Option RExpr × ABlock). (p.0, p.1.0)) ys)))
    keeps_branched [] = k.pure normal
    keeps_branched (y ∷ ys) = k.then (keeps_condition y.0) (λ b. keeps_choice b y.1.1 (keeps_branched ys))

    stmt_keeps : (y : RStmt-F AStmt ABlock AClause) → R _ (statement_step h (map-RStmt RStmt RBlock RClause (Run Completion) (Run Completion) Clause of_stmt of_block of_clause (map-RStmt AStmt ABlock AClause RStmt RBlock RClause (λ p. p.0) (λ p. p.0) (λ p. p.0) y))) (statement_step h' (map-RStmt RStmt RBlock RClause (Run Completion) (Run Completion) Clause of_stmt' of_block' of_clause' (map-RStmt AStmt ABlock AClause RStmt RBlock RClause (λ p. p.0) (λ p. p.0) (λ p. p.0) y)))
    stmt_keeps (q.Local p i w e) = k.then (k.then (keeps_expression e) (λ x. k.store _)) (λ _. k.pure normal)
    stmt_keeps (q.Expr e) = k.then (keeps_expression e) (λ _. k.pure normal)
    stmt_keeps (q.Assign p l o e) = k.then (keeps_assigned l.root l.steps _ e) (λ _. k.pure normal)
    stmt_keeps (q.Fill p j e) = k.then (k.then (k.then (keeps_expression e) (λ x. k.then (k.store _) (keeps_field_set j x))) (λ x. k.store _)) (λ _. k.pure normal)
    stmt_keeps (q.SelfInit a) = k.then (k.then (k.then (keeps_expressions a.1) (keeps_made a.0)) (λ x. k.store _)) (λ _. k.pure normal)
    stmt_keeps (q.SuperInit a) = k.then (k.then (keeps_expressions a.1) (λ vs. k.then (k.store _) (keeps_initialised_above a.0 vs))) (λ _. k.pure normal)
    stmt_keeps (q.If p bs) = keeps_branched bs
    stmt_keeps (q.While p e b) = loops _ _ _ _ (keeps_condition e) b.1
    stmt_keeps (q.Return p e) = keeps_returned e
    stmt_keeps (q.Break p) = k.pure breaks
    stmt_keeps (q.Continue p) = k.pure continues
    stmt_keeps (q.Switch p e arms) = k.then (k.then (keeps_expression e) (λ x. keeps_switched x arms)) keeps_after_switch

    block_keeps : (y : RBlock-F AStmt ABlock AClause) → R _ (block_step (map-RBlock RStmt RBlock RClause (Run Completion) (Run Completion) Clause of_stmt of_block of_clause (map-RBlock AStmt ABlock AClause RStmt RBlock RClause (λ p. p.0) (λ p. p.0) (λ p. p.0) y))) (block_step (map-RBlock RStmt RBlock RClause (Run Completion) (Run Completion) Clause of_stmt' of_block' of_clause' (map-RBlock AStmt ABlock AClause RStmt RBlock RClause (λ p. p.0) (λ p. p.0) (λ p. p.0) y)))
    block_keeps y = keeps_in_order y.statements

    clause_keeps : (y : RClause-F AStmt ABlock AClause) → SameClause (clause_step (map-RClause RStmt RBlock RClause (Run Completion) (Run Completion) Clause of_stmt of_block of_clause (map-RClause AStmt ABlock AClause RStmt RBlock RClause (λ p. p.0) (λ p. p.0) (λ p. p.0) y))) (clause_step (map-RClause RStmt RBlock RClause (Run Completion) (Run Completion) Clause of_stmt' of_block' of_clause' (map-RClause AStmt ABlock AClause RStmt RBlock RClause (λ p. p.0) (λ p. p.0) (λ p. p.0) y)))
    clause_keeps y = (refl, keeps_in_order y.statements)

    pub keeps_block : (b : RBlock) → R _ (executed_block h b) (executed_block h' b)
    unfolding executed_block
    keeps_block = related_blocks (Run Completion) (Run Completion) Clause (Run Completion) (Run Completion) Clause (statement_step h) block_step clause_step (statement_step h') block_step clause_step (R Completion) (R Completion) SameClause stmt_keeps block_keeps clause_keeps

  keeps_reply_with : (x : Value) → Plain (body.reply_with x)
  keeps_reply_with x = k.then (k.store _) (λ self. k.pure _)

  pub keeps_reply : (f : Completion) → Plain (body.reply f)
  keeps_reply (returns x) = keeps_reply_with x
  keeps_reply normal = keeps_reply_with nothing
  keeps_reply breaks = k.stop stuck
  keeps_reply continues = k.stop stuck

  pub keeps_within : {A : Type 0} {x x' : Run A} (env : Environment) → R _ x x' → R _ (within env x) (within env x')
  keeps_within env g = k.then (k.store _) (λ old. k.then g (λ a. k.then (k.store _) (λ _. k.pure a)))
