use Rattle.std.proofs.Common.{◌≡◌, map, drop}
use Rattle.evo_resolved.specs.declared.statement.RClause.{out-RClause}
use Rattle.evo_flow.specs.Scenes.{scene_of}
use Rattle.evo_flow.specs.Text.{block_faults, first_of, stmt_faults, told_in_turn}
use Rattle.evo_flow.proofs.text.+texts.Given as goal

abbrev pub invariant-in_statements-loop-statement : goal.invariant-in_statements-loop-statement
invariant-in_statements-loop-statement l = first_of (told_in_turn (map (stmt_faults (scene_of l.site)) l.statement-items) l.around) ≡ first_of (told_in_turn (map (stmt_faults (scene_of l.site)) (drop l.statement-index l.statement-items)) l.around)

abbrev pub invariant-in_branches-loop-branch : goal.invariant-in_branches-loop-branch
invariant-in_branches-loop-branch l = first_of (told_in_turn (map (λ b. block_faults (scene_of l.site) b.1) l.branch-items) l.around) ≡ first_of (told_in_turn (map (λ b. block_faults (scene_of l.site) b.1) (drop l.branch-index l.branch-items)) l.around)

abbrev pub invariant-in_clauses-loop-clause : goal.invariant-in_clauses-loop-clause
invariant-in_clauses-loop-clause l = first_of (told_in_turn (map (λ c. told_in_turn (map (stmt_faults (scene_of l.site)) (out-RClause c).statements)) l.clause-items) l.around) ≡ first_of (told_in_turn (map (λ c. told_in_turn (map (stmt_faults (scene_of l.site)) (out-RClause c).statements)) (drop l.clause-index l.clause-items)) l.around)
