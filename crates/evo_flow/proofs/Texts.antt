-- The faults in the text of forms of statements, and the first of several.
use Rattle.std.proofs.Common.{◌≡◌, List, [], ◌∷◌, ◌++◌, map, Option, Some, None, refl, sym, ap, ◌∙◌}
use Rattle.evo_base.specs.declared.place.Place.{Place}
use Rattle.evo_tree.specs.declared.module.SourceFault.{SourceFault}
use Rattle.evo_resolved.specs.declared.expression.RExpr.{RExpr}
use Rattle.evo_resolved.specs.declared.statement.RClauseLabel.{RClauseLabel}
use Rattle.evo_resolved.specs.declared.statement.RClause.{RClause, out-RClause, fold_out-RClause}
use Rattle.evo_resolved.specs.declared.statement.RBlock.{RBlock}
use Rattle.evo_resolved.specs.declared.statement.RStmt.{RStmt, map-RStmt, fold_out-RStmt}
use Rattle.evo_resolved.specs.declared.statement.RStmt.TheVariants as r
use Rattle.evo_flow.specs.declared.text.Around.{Around}
use Rattle.evo_flow.specs.Scenes.{Scene, subject_of}
use Rattle.evo_flow.specs.Switches.{is_exhaustive}
use Rattle.evo_flow.specs.Types.{type_of}
use Rattle.evo_flow.specs.Text.{Told, in_switch, open_switch, told_in_turn, stmt_told, block_told, clause_told, stmt_faults, block_faults, clause_faults, first_of}

pub first_left : {A : Type 0} (xs ys : List A) (x : A) → first_of xs ≡ Some x → first_of (xs ++ ys) ≡ Some x
first_left [] ys x e = absurd (cc e)
first_left (y ∷ xs) ys x e = e

pub first_right : {A : Type 0} (xs ys : List A) → first_of xs ≡ None → first_of (xs ++ ys) ≡ first_of ys
first_right [] ys e = refl
first_right (x ∷ xs) ys e = absurd (cc e)

branches_are : (c : Scene) (bs : List (Option RExpr × RBlock)) → map (λ (b : Option RExpr × Told). b.1) (map (λ (b : Option RExpr × RBlock). (b.0, block_faults c b.1)) bs) ≡ map (λ (b : Option RExpr × RBlock). block_faults c b.1) bs
branches_are c [] = refl
branches_are c (b ∷ bs) = ap (λ l. block_faults c b.1 ∷ l) (branches_are c bs)

pub if_told : (c : Scene) (p : Place) (bs : List (Option RExpr × RBlock)) (a : Around) → stmt_faults c (r.If p bs) a ≡ told_in_turn (map (λ (b : Option RExpr × RBlock). block_faults c b.1) bs) a
if_told c p bs a =
    ap (λ (t : Told). t a) (fold_out-RStmt Told Told (RClauseLabel × Told) (stmt_told c) block_told clause_told (r.If p bs))
    ∙ ap (λ o. stmt_told c (map-RStmt RStmt RBlock RClause Told Told (RClauseLabel × Told) (stmt_faults c) (block_faults c) (clause_faults c) o) a) (r.outs-If p bs)
    ∙ ap (λ ts. told_in_turn ts a) (branches_are c bs)

clause_is : (c : Scene) (k : RClause) → clause_faults c k ≡ ((out-RClause k).label, told_in_turn (map (stmt_faults c) (out-RClause k).statements))
clause_is c k = fold_out-RClause Told Told (RClauseLabel × Told) (stmt_told c) block_told clause_told k

labels_are : (c : Scene) (ks : List RClause) → map (λ (k : RClauseLabel × Told). k.0) (map (clause_faults c) ks) ≡ map (λ k. (out-RClause k).label) ks
labels_are c [] = refl
labels_are c (k ∷ ks) = let e = ap (λ (w : RClauseLabel × Told). w.0) (clause_is c k) in let r = labels_are c ks in cc

tolds_are : (c : Scene) (ks : List RClause) → map (λ (k : RClauseLabel × Told). k.1) (map (clause_faults c) ks) ≡ map (λ k. told_in_turn (map (stmt_faults c) (out-RClause k).statements)) ks
tolds_are c [] = refl
tolds_are c (k ∷ ks) = let e = ap (λ (w : RClauseLabel × Told). w.1) (clause_is c k) in let r = tolds_are c ks in cc

pub switch_told : (c : Scene) (p : Place) (e : RExpr) (ks : List RClause) (a : Around) → stmt_faults c (r.Switch p e ks) a ≡ open_switch (is_exhaustive c (subject_of (type_of e)) (map (λ k. (out-RClause k).label) ks)) p ++ told_in_turn (map (λ k. told_in_turn (map (stmt_faults c) (out-RClause k).statements)) ks) (in_switch a)
switch_told c p e ks a =
    ap (λ (t : Told). t a) (fold_out-RStmt Told Told (RClauseLabel × Told) (stmt_told c) block_told clause_told (r.Switch p e ks))
    ∙ ap (λ o. stmt_told c (map-RStmt RStmt RBlock RClause Told Told (RClauseLabel × Told) (stmt_faults c) (block_faults c) (clause_faults c) o) a) (r.outs-Switch p e ks)
    ∙ ap (λ ls. open_switch (is_exhaustive c (subject_of (type_of e)) ls) p ++ told_in_turn (map (λ (k : RClauseLabel × Told). k.1) (map (clause_faults c) ks)) (in_switch a)) (labels_are c ks)
    ∙ ap (λ ts. open_switch (is_exhaustive c (subject_of (type_of e)) (map (λ k. (out-RClause k).label) ks)) p ++ told_in_turn ts (in_switch a)) (tolds_are c ks)
