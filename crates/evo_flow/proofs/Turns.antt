-- The flow of many ways in turn, and of one of many, and the equations of forms of trees.
use Rattle.std.proofs.Common.{◌≡◌, ℕ, ◌+◌, ◌<◌, ◌≤◌, suc, List, [], ◌∷◌, map, drop, length, get_or, Option, Some, None, refl, sym, ap, ◌∙◌, add-one, drop-cons}
use Rattle.std.proofs.lemmas.List.{drop_all}
use Rattle.evo_base.specs.declared.place.Place.{Place}
use Rattle.evo_tree.specs.declared.expression.InfixOperator.{InfixOperator}
use Rattle.evo_resolved.specs.declared.resolved_type.RType.{RType}
use Rattle.evo_resolved.specs.declared.expression.RMember.{RMember}
use Rattle.evo_resolved.specs.declared.expression.RExpr.{RExpr, map-RExpr, fold_out-RExpr}
use Rattle.evo_resolved.specs.declared.expression.RExpr.TheVariants as e
use Rattle.evo_resolved.specs.declared.statement.RClause.{RClause, out-RClause, fold_out-RClause}
use Rattle.evo_resolved.specs.declared.statement.RBlock.{RBlock, out-RBlock, fold_out-RBlock}
use Rattle.evo_resolved.specs.declared.statement.RStmt.{RStmt, map-RStmt, fold_out-RStmt}
use Rattle.evo_resolved.specs.declared.statement.RStmt.TheVariants as r
use Rattle.evo_flow.specs.declared.flow.Flow.{Flow}
use Rattle.evo_flow.specs.declared.flow.Effect.{Effect}
use Rattle.evo_flow.specs.Way.{Way, Step, seq, either, run_on, one_of, in_turn, any_of}
use Rattle.evo_flow.specs.Flows.{flow, run_flows, one_of_flows, then_flow, either_flow}
use Rattle.evo_flow.specs.Trees.{stmt_step, block_step, clause_step, stmt_way, block_way, clause_way, expr_way, member_way, expr_step, member_step, operand_way, operands_way, switch_way, branch_way, branches_way}
use Rattle.evo_flow.specs.TreeFlows.{switch_flow, branch_flow}

pub flows_run_on : {A : Type 0} (act : Step → Effect) (g : A → Way) (w : Way) (xs : List A) → flow act (run_on w (map g xs)) ≡ run_flows (flow act w) (map (λ x. flow act (g x)) xs)
flows_run_on act g w [] = refl
flows_run_on act g w (x ∷ xs) = flows_run_on act g (seq w (g x)) xs

pub flows_one_of : {A : Type 0} (act : Step → Effect) (g : A → Way) (w : Way) (xs : List A) → flow act (one_of w (map g xs)) ≡ one_of_flows (flow act w) (map (λ x. flow act (g x)) xs)
flows_one_of act g w [] = refl
flows_one_of act g w (x ∷ xs) = flows_one_of act g (either w (g x)) xs

-- ---- a step of a loop

pub cut_at : {A : Type 0} (xs : List A) (i : ℕ) (x : A) → i < length xs → x ≡ get_or xs i x → drop i xs ≡ x ∷ drop (i + 1) xs
cut_at xs i x h e = rw (add-one, drop-cons xs i x) (ap (λ y. y ∷ drop (suc i) xs) (sym e))

pub step_flows : {A : Type 0} (F : A → Flow) (xs : List A) (i : ℕ) (x : A) (whole so_far new : Flow) → i < length xs → x ≡ get_or xs i x → whole ≡ run_flows so_far (map F (drop i xs)) → new ≡ then_flow so_far (F x) → whole ≡ run_flows new (map F (drop (i + 1) xs))
step_flows F xs i x whole so_far new h e k n =
    k ∙ ap (λ l. run_flows so_far (map F l)) (cut_at xs i x h e) ∙ ap (λ f. run_flows f (map F (drop (i + 1) xs))) (sym n)

pub step_one_of : {A : Type 0} (F : A → Flow) (xs : List A) (i : ℕ) (x : A) (whole so_far new : Flow) → i < length xs → x ≡ get_or xs i x → whole ≡ one_of_flows so_far (map F (drop i xs)) → new ≡ either_flow so_far (F x) → whole ≡ one_of_flows new (map F (drop (i + 1) xs))
step_one_of F xs i x whole so_far new h e k n =
    k ∙ ap (λ l. one_of_flows so_far (map F l)) (cut_at xs i x h e) ∙ ap (λ f. one_of_flows f (map F (drop (i + 1) xs))) (sym n)

pub end_one_of : {A : Type 0} (F : A → Flow) (xs : List A) (i : ℕ) (whole so_far : Flow) → length xs ≤ i → whole ≡ one_of_flows so_far (map F (drop i xs)) → so_far ≡ whole
end_one_of F xs i whole so_far h k = sym (k ∙ ap (λ l. one_of_flows so_far (map F l)) (drop_all i xs h))

-- ---- forms of the tree

pub clause_is : (c : RClause) → clause_way c ≡ in_turn (map stmt_way (out-RClause c).statements)
clause_is c = fold_out-RClause Way Way Way stmt_step block_step clause_step c

pub block_is : (b : RBlock) → block_way b ≡ in_turn (map stmt_way (out-RBlock b).statements)
block_is b = fold_out-RBlock Way Way Way stmt_step block_step clause_step b

ways_are : (cs : List RClause) → map clause_way cs ≡ map (λ c. in_turn (map stmt_way (out-RClause c).statements)) cs
ways_are [] = refl
ways_are (c ∷ cs) = let e = clause_is c in let r = ways_are cs in cc

pub switch_is : (f : Step → Effect) (e : RExpr) (cs : List RClause) → flow f (switch_way e (map clause_way cs)) ≡ switch_flow f e (flow f (any_of (map (λ c. in_turn (map stmt_way (out-RClause c).statements)) cs)))
switch_is f e cs = ap (λ ws. flow f (switch_way e ws)) (ways_are cs)

pub branch_is : (f : Step → Effect) (c : Option RExpr) (b rest : Way) → flow f (branch_way c b rest) ≡ branch_flow f c (flow f b) (flow f rest)
branch_is f None b rest = refl
branch_is f (Some c) b rest = refl

pub step_branches : (f : Step → Effect) (bs : List (Option RExpr × RBlock)) (i : ℕ) (b : Option RExpr × RBlock) (rest new : Flow) → i < length bs → b ≡ get_or bs i b →
    rest ≡ flow f (branches_way (map (λ b. (b.0, block_way b.1)) (drop (i + 1) bs))) → new ≡ branch_flow f b.0 (flow f (block_way b.1)) rest → new ≡ flow f (branches_way (map (λ b. (b.0, block_way b.1)) (drop i bs)))
step_branches f bs i b rest new h e k n =
    n ∙ ap (branch_flow f b.0 (flow f (block_way b.1))) k
    ∙ sym (branch_is f b.0 (block_way b.1) (branches_way (map (λ b. (b.0, block_way b.1)) (drop (i + 1) bs))))
    ∙ ap (λ l. flow f (branches_way (map (λ b. (b.0, block_way b.1)) l))) (sym (cut_at bs i b h e))

pub stmt_switch_is : (p : Place) (e : RExpr) (cs : List RClause) → stmt_way (r.Switch p e cs) ≡ switch_way e (map clause_way cs)
stmt_switch_is p e cs =
    fold_out-RStmt Way Way Way stmt_step block_step clause_step (r.Switch p e cs)
    ∙ ap (λ o. stmt_step (map-RStmt RStmt RBlock RClause Way Way Way stmt_way block_way clause_way o)) (r.outs-Switch p e cs)

pub stmt_if_is : (p : Place) (bs : List (Option RExpr × RBlock)) → stmt_way (r.If p bs) ≡ branches_way (map (λ b. (b.0, block_way b.1)) bs)
stmt_if_is p bs =
    fold_out-RStmt Way Way Way stmt_step block_step clause_step (r.If p bs)
    ∙ ap (λ o. stmt_step (map-RStmt RStmt RBlock RClause Way Way Way stmt_way block_way clause_way o)) (r.outs-If p bs)

operands_are : (os : List (InfixOperator × RExpr)) → map (λ (o : InfixOperator × Way). operand_way o.0 o.1) (map (λ (o : InfixOperator × RExpr). (o.0, expr_way o.1)) os) ≡ map (λ (o : InfixOperator × RExpr). operand_way o.0 (expr_way o.1)) os
operands_are [] = refl
operands_are (o ∷ os) = ap (λ l. operand_way o.0 (expr_way o.1) ∷ l) (operands_are os)

pub chain_is : (a : RExpr) (os : List (InfixOperator × RExpr)) (t : RType) → expr_way (e.Chain a os t) ≡ seq (expr_way a) (operands_way os)
chain_is a os t =
    fold_out-RExpr Way Way expr_step member_step (e.Chain a os t)
    ∙ ap (λ o. expr_step (map-RExpr RExpr RMember Way Way expr_way member_way o)) (e.outs-Chain a os t)
    ∙ ap (λ ws. seq (expr_way a) (in_turn ws)) (operands_are os)
