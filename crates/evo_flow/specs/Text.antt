-- The faults that stand in the text of a body whether it is reached or not: jumps with nothing to leave, and a `switch` without a clause for every value.
use Rattle.std.specs.Prelude.{List, [], ◌∷◌, ◌++◌, map, flat_map, Bool, true, false, Option, Some, None, if◌then◌else◌}
use Rattle.evo_base.specs.declared.place.Place.{Place}
use Rattle.evo_base.specs.declared.fault_kind.FaultKind.TheVariants as kind
use Rattle.evo_tree.specs.declared.module.SourceFault.{SourceFault}
use Rattle.evo_resolved.specs.declared.statement.RClauseLabel.{RClauseLabel}
use Rattle.evo_resolved.specs.declared.statement.RBlock.{RBlock, RBlock-F, fold-RBlock}
use Rattle.evo_resolved.specs.declared.statement.RClause.{RClause, RClause-F, fold-RClause}
use Rattle.evo_resolved.specs.declared.statement.RStmt.{RStmt, RStmt-F, fold-RStmt}
use Rattle.evo_resolved.specs.declared.statement.RStmt.TheOpen as s
use Rattle.evo_flow.specs.Types.{type_of}
use Rattle.evo_flow.specs.declared.text.Around.{Around}
use Rattle.evo_flow.specs.Act.{fault}
use Rattle.evo_flow.specs.Scenes.{Scene, subject_of}
use Rattle.evo_flow.specs.Switches.{is_exhaustive}

abbrev pub outside : Around
outside = record { breaks = false; continues = false }

abbrev pub in_loop : Around
in_loop = record { breaks = true; continues = true }

abbrev pub in_switch : Around → Around
in_switch a = record { breaks = true; continues = a.continues }

-- the faults, in the order of the text, by what is around
abbrev pub Told : Type 0
Told = Around → List SourceFault

abbrev pub stray : Bool → Place → List SourceFault
stray true p = []
stray false p = fault kind.StrayJump p ∷ []

abbrev pub open_switch : Bool → Place → List SourceFault
open_switch true p = []
open_switch false p = fault kind.NotExhaustive p ∷ []

abbrev pub told_in_turn : List Told → Told
told_in_turn ts = λ a. flat_map (λ t. t a) ts

abbrev pub stmt_told : Scene → RStmt-F Told Told (RClauseLabel × Told) → Told
stmt_told c (s.Local p n t e) = λ a. []
stmt_told c (s.Expr e) = λ a. []
stmt_told c (s.Assign p t o e) = λ a. []
stmt_told c (s.Fill p k e) = λ a. []
stmt_told c (s.SelfInit u) = λ a. []
stmt_told c (s.SuperInit u) = λ a. []
stmt_told c (s.If p bs) = told_in_turn (map (λ b. b.1) bs)
stmt_told c (s.While p e b) = λ a. b in_loop
stmt_told c (s.Return p e) = λ a. []
stmt_told c (s.Break p) = λ a. stray a.breaks p
stmt_told c (s.Continue p) = λ a. stray a.continues p
stmt_told c (s.Switch p e ks) = λ a. open_switch (is_exhaustive c (subject_of (type_of e)) (map (λ k. k.0) ks)) p ++ told_in_turn (map (λ k. k.1) ks) (in_switch a)

abbrev pub block_told : RBlock-F Told Told (RClauseLabel × Told) → Told
block_told b = told_in_turn b.statements

abbrev pub clause_told : RClause-F Told Told (RClauseLabel × Told) → RClauseLabel × Told
clause_told k = (k.label, told_in_turn k.statements)

abbrev pub stmt_faults : Scene → RStmt → Told
stmt_faults c = fold-RStmt Told Told (RClauseLabel × Told) (stmt_told c) block_told clause_told

abbrev pub block_faults : Scene → RBlock → Told
block_faults c = fold-RBlock Told Told (RClauseLabel × Told) (stmt_told c) block_told clause_told

abbrev pub clause_faults : Scene → RClause → RClauseLabel × Told
clause_faults c = fold-RClause Told Told (RClauseLabel × Told) (stmt_told c) block_told clause_told

abbrev pub first_of : {A : Type 0} → List A → Option A
first_of [] = None
first_of (x ∷ xs) = Some x
