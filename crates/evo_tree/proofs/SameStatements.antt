-- Statements with blocks are the same but for places where their parts are.
use Rattle.std.proofs.Common.{◌≡◌, List, [], ◌∷◌, map, Option, ◌↔◌, refl, sym, ◌∙◌, ap}
use Rattle.evo_base.specs.declared.place.Place.{Place}
use Rattle.evo_tree.specs.declared.expression.Expr.{Expr}
use Rattle.evo_tree.specs.declared.statement.Block.{Block, roll-Block}
use Rattle.evo_tree.specs.declared.statement.Clause.{Clause, roll-Clause}
use Rattle.evo_tree.specs.declared.statement.Stmt.{Stmt, Stmt-F, out-Stmt, roll-Stmt, map-Stmt, fold_out-Stmt, out-roll-Stmt}
use Rattle.evo_tree.specs.declared.statement.Stmt.TheOpen as f
use Rattle.evo_tree.specs.declared.statement.Stmt.TheVariants as s
use Rattle.evo_tree.specs.declared.statement.Stmt.TheVariants.{outs-If, outs-While, outs-Switch}
use Rattle.evo_tree.specs.Bare.{origin, clear_block, clear_clause, clear_stmt, bare_expr, bare_block, bare_branch, bare_clause, bare_stmt}

abbrev pub Branch : Type 0
Branch = Option Expr × Block

-- the level without places
abbrev pub below : Stmt-F Stmt Block Clause → Stmt-F Stmt Block Clause
below x = clear_stmt (map-Stmt Stmt Block Clause Stmt Block Clause bare_stmt bare_block bare_clause x)

bare_out : (a : Stmt) → bare_stmt a ≡ roll-Stmt (below (out-Stmt a))
bare_out a = fold_out-Stmt Stmt Block Clause (λ x. roll-Stmt (clear_stmt x)) (λ b. roll-Block (clear_block b)) (λ c. roll-Clause (clear_clause c)) a

-- statements are the same where their levels without places are
same_by : (a b : Stmt) (x y z w : Stmt-F Stmt Block Clause) → out-Stmt a ≡ x → out-Stmt b ≡ y → below x ≡ z → below y ≡ w → (z ≡ w) ↔ (bare_stmt a ≡ bare_stmt b)
same_by a b x y z w p q lx ly =
    let ea : bare_stmt a ≡ roll-Stmt z = bare_out a ∙ ap (λ v. roll-Stmt (below v)) p ∙ ap roll-Stmt lx in
    let eb : bare_stmt b ≡ roll-Stmt w = bare_out b ∙ ap (λ v. roll-Stmt (below v)) q ∙ ap roll-Stmt ly in
    (λ e. ea ∙ ap roll-Stmt e ∙ sym eb, λ e. sym (out-roll-Stmt z) ∙ ap out-Stmt (sym ea ∙ e ∙ eb) ∙ out-roll-Stmt w)

branches_of : Stmt-F Stmt Block Clause → List Branch
branches_of (f.If p bs) = bs
branches_of x = []

branches_listed : (p : Place) (bs : List Branch) → branches_of (below (f.If p bs)) ≡ map bare_branch bs
unfolding branches_of
branches_listed p [] = refl
branches_listed p (b ∷ bs) = ap (λ zs. bare_branch b ∷ zs) (branches_listed p bs)

branches_below : (p : Place) (bs : List Branch) → below (f.If p bs) ≡ f.If origin (map bare_branch bs)
unfolding branches_of
branches_below p bs = ap (λ zs. f.If origin zs) (branches_listed p bs)

pub if_same : (a b : Stmt) (p q : Place) (xs ys : List Branch) → a ≡ s.If p xs → b ≡ s.If q ys → (map bare_branch xs ≡ map bare_branch ys) ↔ (bare_stmt a ≡ bare_stmt b)
if_same a b p q xs ys isa isb =
    let k = same_by a b (f.If p xs) (f.If q ys) (f.If origin (map bare_branch xs)) (f.If origin (map bare_branch ys)) (ap out-Stmt isa ∙ outs-If p xs) (ap out-Stmt isb ∙ outs-If q ys) (branches_below p xs) (branches_below q ys) in
    (λ h. k.0 (cc), λ h. let g = k.1 h in cc)

pub while_same : (a b : Stmt) (p q : Place) (x y : Expr) (v w : Block) → a ≡ s.While p x v → b ≡ s.While q y w → ((bare_expr x ≡ bare_expr y) × (bare_block v ≡ bare_block w)) ↔ (bare_stmt a ≡ bare_stmt b)
while_same a b p q x y v w isa isb =
    let k = same_by a b (f.While p x v) (f.While q y w) (f.While origin (bare_expr x) (bare_block v)) (f.While origin (bare_expr y) (bare_block w)) (ap out-Stmt isa ∙ outs-While p x v) (ap out-Stmt isb ∙ outs-While q y w) refl refl in
    (λ h. k.0 (let i = h.0 in let j = h.1 in cc), λ h. let g = k.1 h in (cc, cc))

pub switch_same : (a b : Stmt) (p q : Place) (x y : Expr) (xs ys : List Clause) → a ≡ s.Switch p x xs → b ≡ s.Switch q y ys →
    ((bare_expr x ≡ bare_expr y) × (map bare_clause xs ≡ map bare_clause ys)) ↔ (bare_stmt a ≡ bare_stmt b)
switch_same a b p q x y xs ys isa isb =
    let k = same_by a b (f.Switch p x xs) (f.Switch q y ys) (f.Switch origin (bare_expr x) (map bare_clause xs)) (f.Switch origin (bare_expr y) (map bare_clause ys)) (ap out-Stmt isa ∙ outs-Switch p x xs) (ap out-Stmt isb ∙ outs-Switch q y ys) refl refl in
    (λ h. k.0 (let i = h.0 in let j = h.1 in cc), λ h. let g = k.1 h in (cc, cc))
