-- What statements do: one clause for each form.
use Rattle.std.specs.Prelude.{ℕ, zero, suc, Bool, true, false, List, [], ◌∷◌, map, Option, Some, None}
use Rattle.std.specs.Option.{option_or}
use Rattle.evo_base.specs.declared.key.Key.{Key}
use Rattle.evo_tree.specs.declared.expression.InfixOperator.{InfixOperator}
use Rattle.evo_resolved.specs.declared.expression.RUse.{RUse}
use Rattle.evo_resolved.specs.declared.expression.Variable.{Variable}
use Rattle.evo_resolved.specs.declared.expression.RExpr.{RExpr}
use Rattle.evo_resolved.specs.declared.statement.RRoot.{RRoot}
use Rattle.evo_resolved.specs.declared.statement.RRoot.TheVariants as root
use Rattle.evo_resolved.specs.declared.statement.RPattern.{RPattern}
use Rattle.evo_resolved.specs.declared.statement.RPattern.TheVariants as pattern
use Rattle.evo_resolved.specs.declared.statement.RClauseLabel.{RClauseLabel}
use Rattle.evo_resolved.specs.declared.statement.RClauseLabel.TheVariants as label
use Rattle.evo_resolved.specs.declared.statement.RBlock.{RBlock, RBlock-F, fold-RBlock}
use Rattle.evo_resolved.specs.declared.statement.RClause.{RClause, RClause-F, fold-RClause}
use Rattle.evo_resolved.specs.declared.statement.RStmt.{RStmt, RStmt-F, fold-RStmt}
use Rattle.evo_resolved.specs.declared.statement.RStmt.TheOpen as statement
use Rattle.evo_meaning.specs.Keys.{same_key}
use Rattle.evo_meaning.specs.Values.{Value, enum, nothing, payload_values}
use Rattle.evo_meaning.specs.Runs.{out_of_ticks, stuck, Local, Run, pure, stop, ◌>>=◌, ◌>>◌, tick, each, set_local, set_locals, self_value, set_self}
use Rattle.evo_meaning.specs.Operators.{literal_value, as_truth, equal, applied, assigning}
use Rattle.evo_meaning.specs.Calls.{Reply, Context, field_set, updated, changed_to, replaced, changed_variable, set_variable, made, initialised_above}
use Rattle.evo_meaning.specs.Expressions.{evaluated}

-- how a statement ends
pub data Completion : Type 0 where
  normal : Completion
  returns : Value → Completion
  breaks : Completion
  continues : Completion

-- what stands behind a statement is reached where that ends normally
abbrev pub and_after : Completion → Run Completion → Run Completion
and_after normal rest = rest
and_after other rest = pure other

abbrev pub in_order : List (Run Completion) → Run Completion
in_order [] = pure normal
in_order (s ∷ ss) = s >>= (λ end. and_after end (in_order ss))

abbrev pub choice : Bool → Run Completion → Run Completion → Run Completion
choice true this other = this
choice false this other = other

-- ---- conditions and loops

-- a condition that is not written is true
abbrev pub condition : Context → Option RExpr → Run Bool
condition c None = pure true
condition c (Some e) = evaluated c e >>= as_truth

-- the first branch whose condition is true
abbrev pub branched : Context → List (Option RExpr × Run Completion) → Run Completion
branched c [] = pure normal
branched c (b ∷ bs) = condition c b.0 >>= (λ holds. choice holds b.1 (branched c bs))

abbrev pub after_turn : Completion → Run Completion → Run Completion
after_turn normal again = again
after_turn continues again = again
after_turn breaks again = pure normal
after_turn (returns value) again = pure (returns value)

-- Each turn takes a tick once its condition was true. The number bounds the turns; where it is greater than the ticks that are left, a tick is wanting before it is met.
unfoldable pub looped : ℕ → Run Bool → Run Completion → Run Completion
looped zero test turn = stop out_of_ticks
looped (suc n) test turn = test >>= (λ holds. choice holds (tick >> (turn >>= (λ end. after_turn end (looped n test turn)))) (pure normal))

-- ---- `switch`

pub record Clause : Type 0 where
  pub label : RClauseLabel
  pub body : Run Completion

-- the locals that a pattern binds to the values of a payload, by their places
abbrev pub bound : List (Option ℕ) → List Value → List Local
bound [] values = []
bound (n ∷ ns) [] = []
bound (None ∷ ns) (value ∷ values) = bound ns values
bound (Some n ∷ ns) (value ∷ values) = record { number = n; value = value } ∷ bound ns values

abbrev pub where_true : Bool → List Local → Option (List Local)
where_true true locals = Some locals
where_true false locals = None

abbrev pub case_matched : Key → List (Option ℕ) → Value → Option (List Local)
case_matched key ns (enum other payload) = where_true (same_key key other) (bound ns (payload_values payload))
case_matched key ns _ = None

abbrev pub literal_matched : Option Bool → Option (List Local)
literal_matched None = None
literal_matched (Some b) = where_true b []

-- the locals that it binds, where the pattern matches the value
abbrev pub matched : RPattern → Value → Option (List Local)
matched (pattern.Literal place l) value = literal_matched (equal (literal_value l) value)
matched (pattern.Case place type key ns) value = case_matched key ns value

abbrev pub some_matched : List RPattern → Value → Option (List Local)
some_matched [] value = None
some_matched (x ∷ xs) value = option_or (matched x value) (some_matched xs value)

abbrev pub label_matched : RClauseLabel → Value → Option (List Local)
label_matched (label.Case patterns) value = some_matched patterns value
label_matched label.Default value = Some []
label_matched label.UnknownDefault value = Some []

abbrev pub entered : Option (List Local) → Run Completion → Run Completion → Run Completion
entered None body others = others
entered (Some locals) body others = set_locals locals >> body

-- the first clause that matches the value
abbrev pub switched : List Clause → Value → Run Completion
switched [] value = stop stuck
switched (x ∷ xs) value = entered (label_matched x.label value) x.body (switched xs value)

abbrev pub after_switch : Completion → Run Completion
after_switch breaks = pure normal
after_switch other = pure other

-- ---- assignments

abbrev pub combined : InfixOperator → Value → Value → Run Reply
combined o right old = applied o old right >>= (λ new. pure (changed_to new))

-- to a place behind a value: with `=` what was there is not read
abbrev pub assigned_behind : Context → List RUse → Option InfixOperator → Value → Value → Run Reply
assigned_behind c steps None new = replaced c steps new
assigned_behind c steps (Some o) right = updated c steps (combined o right)

abbrev pub assigned_variable : Context → Variable → List RUse → Option InfixOperator → Value → Run (Unit {0})
assigned_variable c x [] None new = set_variable x new
assigned_variable c x steps o right = changed_variable x (assigned_behind c steps o right) >> pure tt

-- the root, where it is an object; the right side; then the place
abbrev pub assigned : Context → RRoot → List RUse → Option InfixOperator → Run Value → Run (Unit {0})
assigned c (root.Variable x) steps o right = right >>= assigned_variable c x steps o
assigned c (root.Object e) steps o right = evaluated c e >>= (λ object. right >>= (λ value. assigned_behind c steps o value object)) >> pure tt

-- ---- the forms

abbrev pub returned : Context → Option RExpr → Run Completion
returned c None = pure (returns nothing)
returned c (Some e) = evaluated c e >>= (λ value. pure (returns value))

-- what a statement does; what stands for its blocks and clauses is what they do
abbrev pub statement_step : Context → RStmt-F (Run Completion) (Run Completion) Clause → Run Completion
statement_step c (statement.Local place n type e) = evaluated c e >>= set_local n >> pure normal
statement_step c (statement.Expr e) = evaluated c e >> pure normal
statement_step c (statement.Assign place to o e) = assigned c to.root to.steps (assigning o) (evaluated c e) >> pure normal
statement_step c (statement.Fill place property e) = evaluated c e >>= (λ new. self_value >>= field_set property new) >>= set_self >> pure normal
statement_step c (statement.SelfInit a) = each (map (evaluated c) a.1) >>= made c a.0 >>= set_self >> pure normal
statement_step c (statement.SuperInit a) = each (map (evaluated c) a.1) >>= (λ arguments. self_value >>= initialised_above c a.0 arguments) >> pure normal
statement_step c (statement.If place branches) = branched c branches
statement_step c (statement.While place test block) = looped c.turns (condition c test) block
statement_step c (statement.Return place e) = returned c e
statement_step c (statement.Break place) = pure breaks
statement_step c (statement.Continue place) = pure continues
statement_step c (statement.Switch place e clauses) = evaluated c e >>= switched clauses >>= after_switch

abbrev pub block_step : RBlock-F (Run Completion) (Run Completion) Clause → Run Completion
block_step b = in_order b.statements

abbrev pub clause_step : RClause-F (Run Completion) (Run Completion) Clause → Clause
clause_step x = record { label = x.label; body = in_order x.statements }

unfoldable pub executed : Context → RStmt → Run Completion
executed c = fold-RStmt (Run Completion) (Run Completion) Clause (statement_step c) block_step clause_step

unfoldable pub executed_block : Context → RBlock → Run Completion
executed_block c = fold-RBlock (Run Completion) (Run Completion) Clause (statement_step c) block_step clause_step

unfoldable pub clause_of : Context → RClause → Clause
clause_of c = fold-RClause (Run Completion) (Run Completion) Clause (statement_step c) block_step clause_step
