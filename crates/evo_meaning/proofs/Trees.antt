-- Trees that compute, for the examples: plain data, of which resolved trees are made, and what those mean.
use Rattle.std.proofs.Common.{◌≡◌, ℕ, List, [], ◌∷◌, map, Option, Some, None, refl, ap, ◌∙◌, true}
use Rattle.evo_base.specs.declared.place.Place.{Place}
use Rattle.evo_base.specs.declared.key.Key.{Key}
use Rattle.evo_tree.specs.declared.expression.PrefixOperator.{PrefixOperator}
use Rattle.evo_tree.specs.declared.expression.InfixOperator.{InfixOperator}
use Rattle.evo_tree.specs.declared.statement.AssignmentOperator.{AssignmentOperator}
use Rattle.evo_resolved.specs.declared.resolved_type.RType.{RType}
use Rattle.evo_resolved.specs.declared.resolved_type.RType.TheVariants as type
use Rattle.evo_resolved.specs.declared.expression.Literal.{Literal}
use Rattle.evo_resolved.specs.declared.expression.RUse.{RUse}
use Rattle.evo_resolved.specs.declared.expression.Variable.{Variable}
use Rattle.evo_resolved.specs.declared.expression.Builtin.{Builtin}
use Rattle.evo_resolved.specs.declared.expression.RExpr.{RExpr}
use Rattle.evo_resolved.specs.declared.expression.RExpr.TheVariants as x
use Rattle.evo_resolved.specs.declared.expression.RMember.{RMember}
use Rattle.evo_resolved.specs.declared.expression.RMember.TheVariants as y
use Rattle.evo_resolved.specs.declared.statement.RRoot.TheVariants as root
use Rattle.evo_resolved.specs.declared.statement.RClauseLabel.{RClauseLabel}
use Rattle.evo_resolved.specs.declared.statement.RBlock.{RBlock, roll-RBlock}
use Rattle.evo_resolved.specs.declared.statement.RClause.{RClause, roll-RClause}
use Rattle.evo_resolved.specs.declared.statement.RStmt.{RStmt}
use Rattle.evo_resolved.specs.declared.statement.RStmt.TheVariants as z
use Rattle.evo_meaning.specs.Values.{Value, nothing, enum, payload_of}
use Rattle.evo_meaning.specs.Runs.{State, Run, pure, ◌>>=◌, ◌>>◌, each, local, set_local, self_value, set_self}
use Rattle.evo_meaning.specs.Operators.{literal_value, prefixed, built_in, assigning, as_truth}
use Rattle.evo_meaning.specs.Calls.{Context, result_of, called, called_above, get, field_set, updated, changed_variable, mutating, made, initialised_above}
use Rattle.evo_meaning.specs.Expressions.{evaluated, evaluated_member, chained, with_members}
use Rattle.evo_meaning.specs.Statements.{Completion, normal, returns, breaks, continues, Clause, in_order, choice, condition, branched, looped, switched, after_switch, assigned_variable, assigned_behind, executed, executed_block, clause_of}
use Rattle.evo_meaning.proofs.Equations as e

abbrev pub at : Place
at = record { line = 1; col = 1 }

-- evaluation reads no type
abbrev pub a_type : RType
a_type = type.NoValue

mutual
  pub data Term : Type 0 where
    literal : Literal → Term
    local_term : ℕ → Term
    self_term : Term
    upcast : Term → Term
    prefix : PrefixOperator → Term → Term
    chain : Term → InfixOperator → Term → Term
    members : Term → Members → Term
    mutate : Variable → List RUse → RUse → Terms → Term
    case_term : RUse → Terms → Term
    new : RUse → Terms → Term
    call : RUse → Terms → Term
    super : RUse → Terms → Term
    builtin : Builtin → Terms → Term

  pub data Terms : Type 0 where
    no_term : Terms
    term : Term → Terms → Terms

  pub data Members : Type 0 where
    no_member : Members
    property : RUse → Members → Members
    method : RUse → Terms → Members → Members
    mutated : List RUse → RUse → Terms → Members → Members

mutual
  pub data Statement : Type 0 where
    declare : ℕ → Term → Statement
    expression : Term → Statement
    assign : Variable → List RUse → AssignmentOperator → Term → Statement
    assign_behind : Term → List RUse → AssignmentOperator → Term → Statement
    fill : Key → Term → Statement
    self_init : RUse → Terms → Statement
    super_init : RUse → Terms → Statement
    branch : Branches → Statement
    while : Term → Statements → Statement
    while_true : Statements → Statement
    return_nothing : Statement
    return : Term → Statement
    break : Statement
    continue : Statement
    switch : Term → Clauses → Statement

  pub data Statements : Type 0 where
    no_statement : Statements
    statement : Statement → Statements → Statements

  pub data Branches : Type 0 where
    no_branch : Branches
    if_branch : Term → Statements → Branches → Branches
    else_branch : Statements → Branches

  pub data Clauses : Type 0 where
    no_clause : Clauses
    clause : RClauseLabel → Statements → Clauses → Clauses

-- ---- the resolved trees

mutual
  expression_of : Term → RExpr
  expression_of (literal l) = x.Literal l
  expression_of (local_term n) = x.Local at n a_type
  expression_of self_term = x.SelfValue at a_type
  expression_of (upcast t) = x.Upcast (expression_of t) a_type
  expression_of (prefix o t) = x.Prefix o (expression_of t)
  expression_of (chain t o u) = x.Chain (expression_of t) ((o, expression_of u) ∷ []) a_type
  expression_of (members t ms) = x.Members (expression_of t) (members_of ms)
  expression_of (mutate v steps u ts) = x.Mutate v steps (u, expressions_of ts)
  expression_of (case_term u ts) = x.Case (u, expressions_of ts)
  expression_of (new u ts) = x.New (u, expressions_of ts)
  expression_of (call u ts) = x.Call (u, expressions_of ts)
  expression_of (super u ts) = x.Super (u, expressions_of ts)
  expression_of (builtin b ts) = x.Builtin at b (expressions_of ts)

  expressions_of : Terms → List RExpr
  expressions_of no_term = []
  expressions_of (term t ts) = expression_of t ∷ expressions_of ts

  members_of : Members → List RMember
  members_of no_member = []
  members_of (property u ms) = y.Property u ∷ members_of ms
  members_of (method u ts ms) = y.Called (u, expressions_of ts) ∷ members_of ms
  members_of (mutated steps u ts ms) = y.Mutated steps (u, expressions_of ts) ∷ members_of ms

mutual
  statement_of : Statement → RStmt
  statement_of (declare n t) = z.Local at n None (expression_of t)
  statement_of (expression t) = z.Expr (expression_of t)
  statement_of (assign v steps o t) = z.Assign at (record { place = at; root = root.Variable v; steps = steps }) o (expression_of t)
  statement_of (assign_behind r steps o t) = z.Assign at (record { place = at; root = root.Object (expression_of r); steps = steps }) o (expression_of t)
  statement_of (fill k t) = z.Fill at k (expression_of t)
  statement_of (self_init u ts) = z.SelfInit (u, expressions_of ts)
  statement_of (super_init u ts) = z.SuperInit (u, expressions_of ts)
  statement_of (branch bs) = z.If at (branches_of bs)
  statement_of (while t ss) = z.While at (Some (expression_of t)) (roll-RBlock (record { statements = statements_of ss; «end» = at }))
  statement_of (while_true ss) = z.While at None (roll-RBlock (record { statements = statements_of ss; «end» = at }))
  statement_of return_nothing = z.Return at None
  statement_of (return t) = z.Return at (Some (expression_of t))
  statement_of break = z.Break at
  statement_of continue = z.Continue at
  statement_of (switch t cs) = z.Switch at (expression_of t) (clauses_of cs)

  statements_of : Statements → List RStmt
  statements_of no_statement = []
  statements_of (statement s ss) = statement_of s ∷ statements_of ss

  branches_of : Branches → List (Option RExpr × RBlock)
  branches_of no_branch = []
  branches_of (if_branch t ss bs) = (Some (expression_of t), roll-RBlock (record { statements = statements_of ss; «end» = at })) ∷ branches_of bs
  branches_of (else_branch ss) = (None, roll-RBlock (record { statements = statements_of ss; «end» = at })) ∷ []

  clauses_of : Clauses → List RClause
  clauses_of no_clause = []
  clauses_of (clause l ss cs) = roll-RClause (record { place = at; label = l; statements = statements_of ss }) ∷ clauses_of cs

-- the block of these statements
pub block_of : Statements → RBlock
block_of ss = roll-RBlock (record { statements = statements_of ss; «end» = at })

-- ---- what they do

unfoldable mutual
  pub does : Context → Term → Run Value
  does c (literal l) = pure (literal_value l)
  does c (local_term n) = local n
  does c self_term = self_value
  does c (upcast t) = does c t
  does c (prefix o t) = does c t >>= prefixed o
  does c (chain t o u) = chained (does c t) ((o, does c u) ∷ [])
  does c (members t ms) = with_members (does c t) (all_members c ms)
  does c (mutate v steps u ts) = each (all_do c ts) >>= (λ vs. changed_variable v (updated c steps (mutating c u vs)))
  does c (case_term u ts) = each (all_do c ts) >>= (λ vs. pure (enum u.key (payload_of vs)))
  does c (new u ts) = each (all_do c ts) >>= made c u
  does c (call u ts) = each (all_do c ts) >>= (λ vs. called c u None vs >>= result_of)
  does c (super u ts) = self_value >>= (λ self. each (all_do c ts) >>= (λ vs. called_above c u self vs >>= result_of))
  does c (builtin b ts) = each (all_do c ts) >>= built_in b

  pub all_do : Context → Terms → List (Run Value)
  all_do c no_term = []
  all_do c (term t ts) = does c t ∷ all_do c ts

  pub all_members : Context → Members → List (Value → Run Value)
  all_members c no_member = []
  all_members c (property u ms) = (λ i. get c u i) ∷ all_members c ms
  all_members c (method u ts ms) = (λ i. each (all_do c ts) >>= (λ vs. called c u (Some i) vs >>= result_of)) ∷ all_members c ms
  all_members c (mutated steps u ts ms) = (λ i. each (all_do c ts) >>= (λ vs. updated c steps (mutating c u vs) i >>= result_of)) ∷ all_members c ms

unfoldable mutual
  pub done_by : Context → Statement → Run Completion
  done_by c (declare n t) = does c t >>= set_local n >> pure normal
  done_by c (expression t) = does c t >> pure normal
  done_by c (assign v steps o t) = (does c t >>= assigned_variable c v steps (assigning o)) >> pure normal
  done_by c (assign_behind r steps o t) = (does c r >>= (λ object. does c t >>= (λ value. assigned_behind c steps (assigning o) value object)) >> pure {A = Unit {0}} tt) >> pure normal
  done_by c (fill k t) = does c t >>= (λ i. self_value >>= field_set k i) >>= set_self >> pure normal
  done_by c (self_init u ts) = each (all_do c ts) >>= made c u >>= set_self >> pure normal
  done_by c (super_init u ts) = each (all_do c ts) >>= (λ vs. self_value >>= initialised_above c u vs) >> pure normal
  done_by c (branch bs) = branched_by c bs
  done_by c (while t ss) = looped c.turns (does c t >>= as_truth) (in_order (all_done c ss))
  done_by c (while_true ss) = looped c.turns (condition c None) (in_order (all_done c ss))
  done_by c return_nothing = pure (returns nothing)
  done_by c (return t) = does c t >>= (λ v. pure (returns v))
  done_by c break = pure breaks
  done_by c continue = pure continues
  done_by c (switch t cs) = does c t >>= switched (all_clauses c cs) >>= after_switch

  pub all_done : Context → Statements → List (Run Completion)
  all_done c no_statement = []
  all_done c (statement s ss) = done_by c s ∷ all_done c ss

  pub branched_by : Context → Branches → Run Completion
  branched_by c no_branch = pure normal
  branched_by c (if_branch t ss bs) = (does c t >>= as_truth) >>= (λ b. choice b (in_order (all_done c ss)) (branched_by c bs))
  branched_by c (else_branch ss) = pure true >>= (λ b. choice b (in_order (all_done c ss)) (pure normal))

  pub all_clauses : Context → Clauses → List Clause
  all_clauses c no_clause = []
  all_clauses c (clause l ss cs) = record { label = l; body = in_order (all_done c ss) } ∷ all_clauses c cs

-- ---- that it is what the definitions say

mutual
  unfolding expression_of does

  term_is : (c : Context) (t : Term) → evaluated c (expression_of t) ≡ does c t
  term_is c (literal l) = e.literal c l
  term_is c (local_term n) = e.of_local c at n a_type
  term_is c self_term = e.of_self c at a_type
  term_is c (upcast t) = e.upcast c (expression_of t) a_type ∙ term_is c t
  term_is c (prefix o t) = e.prefix c o (expression_of t) ∙ ap (λ m. m >>= prefixed o) (term_is c t)
  term_is c (chain t o u) = e.chain c (expression_of t) ((o, expression_of u) ∷ []) a_type ∙ ap (λ m. chained m ((o, evaluated c (expression_of u)) ∷ [])) (term_is c t) ∙ ap (λ m. chained (does c t) ((o, m) ∷ [])) (term_is c u)
  term_is c (members t ms) = e.members c (expression_of t) (members_of ms) ∙ ap (λ m. with_members m (map (evaluated_member c) (members_of ms))) (term_is c t) ∙ ap (with_members (does c t)) (members_are c ms)
  term_is c (mutate v steps u ts) = e.mutate c v steps (u, expressions_of ts) ∙ ap (λ ms. each ms >>= (λ vs. changed_variable v (updated c steps (mutating c u vs)))) (terms_are c ts)
  term_is c (case_term u ts) = e.of_case c (u, expressions_of ts) ∙ ap (λ ms. each ms >>= (λ vs. pure (enum u.key (payload_of vs)))) (terms_are c ts)
  term_is c (new u ts) = e.new c (u, expressions_of ts) ∙ ap (λ ms. each ms >>= made c u) (terms_are c ts)
  term_is c (call u ts) = e.of_call c (u, expressions_of ts) ∙ ap (λ ms. each ms >>= (λ vs. called c u None vs >>= result_of)) (terms_are c ts)
  term_is c (super u ts) = e.super c (u, expressions_of ts) ∙ ap (λ ms. self_value >>= (λ self. each ms >>= (λ vs. called_above c u self vs >>= result_of))) (terms_are c ts)
  term_is c (builtin b ts) = e.built_in c at b (expressions_of ts) ∙ ap (λ ms. each ms >>= built_in b) (terms_are c ts)

  terms_are : (c : Context) (ts : Terms) → map (evaluated c) (expressions_of ts) ≡ all_do c ts
  terms_are c no_term = refl
  terms_are c (term t ts) = ap (λ m. m ∷ map (evaluated c) (expressions_of ts)) (term_is c t) ∙ ap (λ ms. does c t ∷ ms) (terms_are c ts)

  members_are : (c : Context) (ms : Members) → map (evaluated_member c) (members_of ms) ≡ all_members c ms
  members_are c no_member = refl
  members_are c (property u ms) = ap (λ m. m ∷ map (evaluated_member c) (members_of ms)) (e.property c u) ∙ ap (λ others. (λ i. get c u i) ∷ others) (members_are c ms)
  members_are c (method u ts ms) =
      ap (λ m. m ∷ map (evaluated_member c) (members_of ms)) (e.called c (u, expressions_of ts) ∙ ap (λ rs i. each rs >>= (λ vs. called c u (Some i) vs >>= result_of)) (terms_are c ts))
      ∙ ap (λ others. (λ i. each (all_do c ts) >>= (λ vs. called c u (Some i) vs >>= result_of)) ∷ others) (members_are c ms)
  members_are c (mutated steps u ts ms) =
      ap (λ m. m ∷ map (evaluated_member c) (members_of ms)) (e.mutated c steps (u, expressions_of ts) ∙ ap (λ rs i. each rs >>= (λ vs. updated c steps (mutating c u vs) i >>= result_of)) (terms_are c ts))
      ∙ ap (λ others. (λ i. each (all_do c ts) >>= (λ vs. updated c steps (mutating c u vs) i >>= result_of)) ∷ others) (members_are c ms)

abbrev inner : Statements → RBlock
inner ss = roll-RBlock (record { statements = statements_of ss; «end» = at })

in_block : (c : Context) (ss : Statements) → map (executed c) (statements_of ss) ≡ all_done c ss → executed_block c (inner ss) ≡ in_order (all_done c ss)
in_block c ss is = e.block c at (statements_of ss) ∙ ap in_order is

mutual
  unfolding statement_of done_by

  statement_is : (c : Context) (s : Statement) → executed c (statement_of s) ≡ done_by c s
  statement_is c (declare n t) = e.declare c at n None (expression_of t) ∙ ap (λ m. m >>= set_local n >> pure normal) (term_is c t)
  statement_is c (expression t) = e.expr c (expression_of t) ∙ ap (λ m. m >> pure normal) (term_is c t)
  statement_is c (assign v steps o t) = e.assign c at (record { place = at; root = root.Variable v; steps = steps }) o (expression_of t) ∙ ap (λ m. (m >>= assigned_variable c v steps (assigning o)) >> pure normal) (term_is c t)
  statement_is c (assign_behind r steps o t) =
      e.assign c at (record { place = at; root = root.Object (expression_of r); steps = steps }) o (expression_of t)
      ∙ ap (λ m. (m >>= (λ object. evaluated c (expression_of t) >>= (λ value. assigned_behind c steps (assigning o) value object)) >> pure {A = Unit {0}} tt) >> pure normal) (term_is c r)
      ∙ ap (λ m. (does c r >>= (λ object. m >>= (λ value. assigned_behind c steps (assigning o) value object)) >> pure {A = Unit {0}} tt) >> pure normal) (term_is c t)
  statement_is c (fill k t) = e.fill c at k (expression_of t) ∙ ap (λ m. m >>= (λ i. self_value >>= field_set k i) >>= set_self >> pure normal) (term_is c t)
  statement_is c (self_init u ts) = e.self_init c (u, expressions_of ts) ∙ ap (λ ms. each ms >>= made c u >>= set_self >> pure normal) (terms_are c ts)
  statement_is c (super_init u ts) = e.super_init c (u, expressions_of ts) ∙ ap (λ ms. each ms >>= (λ vs. self_value >>= initialised_above c u vs) >> pure normal) (terms_are c ts)
  statement_is c (branch bs) = e.if' c at (branches_of bs) ∙ branches_are c bs
  statement_is c (while t ss) = e.while c at (Some (expression_of t)) (inner ss) ∙ ap (λ m. looped c.turns (m >>= as_truth) (executed_block c (inner ss))) (term_is c t) ∙ ap (looped c.turns (does c t >>= as_truth)) (in_block c ss (statements_are c ss))
  statement_is c (while_true ss) = e.while c at None (inner ss) ∙ ap (looped c.turns (condition c None)) (in_block c ss (statements_are c ss))
  statement_is c return_nothing = e.return c at None
  statement_is c (return t) = e.return c at (Some (expression_of t)) ∙ ap (λ m. m >>= (λ v. pure (returns v))) (term_is c t)
  statement_is c break = e.break c at
  statement_is c continue = e.continue c at
  statement_is c (switch t cs) =
      e.switch c at (expression_of t) (clauses_of cs) ∙ ap (λ m. m >>= switched (map (clause_of c) (clauses_of cs)) >>= after_switch) (term_is c t) ∙ ap (λ ks. does c t >>= switched ks >>= after_switch) (clauses_are c cs)

  statements_are : (c : Context) (ss : Statements) → map (executed c) (statements_of ss) ≡ all_done c ss
  statements_are c no_statement = refl
  statements_are c (statement s ss) = ap (λ m. m ∷ map (executed c) (statements_of ss)) (statement_is c s) ∙ ap (λ ms. done_by c s ∷ ms) (statements_are c ss)

  branches_are : (c : Context) (bs : Branches) → branched c (map (λ (b : Option RExpr × RBlock). (b.0, executed_block c b.1)) (branches_of bs)) ≡ branched_by c bs
  branches_are c no_branch = refl
  branches_are c (if_branch t ss bs) =
      ap (λ m. (m >>= as_truth) >>= (λ b. choice b (executed_block c (inner ss)) (branched c (map (λ (b : Option RExpr × RBlock). (b.0, executed_block c b.1)) (branches_of bs))))) (term_is c t)
      ∙ ap (λ m. (does c t >>= as_truth) >>= (λ b. choice b m (branched c (map (λ (b : Option RExpr × RBlock). (b.0, executed_block c b.1)) (branches_of bs))))) (in_block c ss (statements_are c ss))
      ∙ ap (λ m. (does c t >>= as_truth) >>= (λ b. choice b (in_order (all_done c ss)) m)) (branches_are c bs)
  branches_are c (else_branch ss) = ap (λ m. pure true >>= (λ b. choice b m (pure normal))) (in_block c ss (statements_are c ss))

  clauses_are : (c : Context) (cs : Clauses) → map (clause_of c) (clauses_of cs) ≡ all_clauses c cs
  clauses_are c no_clause = refl
  clauses_are c (clause l ss cs) =
      ap (λ k. k ∷ map (clause_of c) (clauses_of cs)) (e.clause c at l (statements_of ss) ∙ ap (λ ms. record { label = l; body = in_order ms }) (statements_are c ss))
      ∙ ap (λ ks. record { label = l; body = in_order (all_done c ss) } ∷ ks) (clauses_are c cs)

-- what the block of a body does
pub block_does : (c : Context) (ss : Statements) → executed_block c (block_of ss) ≡ in_order (all_done c ss)
unfolding block_of
block_does c ss = in_block c ss (statements_are c ss)

-- the same of any state
pub block_does_at : (c : Context) (ss : Statements) (s : State) → executed_block c (block_of ss) s ≡ in_order (all_done c ss) s
block_does_at c ss s = ap (λ run. run s) (block_does c ss)
