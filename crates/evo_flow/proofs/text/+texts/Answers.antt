use Rattle.std.proofs.Common.{◌≡◌, map, ap, sym, ◌∙◌}
use Rattle.evo_resolved.specs.declared.statement.RClause.{out-RClause}
use Rattle.evo_flow.specs.Scenes.{scene_of, subject_of}
use Rattle.evo_flow.specs.Types.{type_of}
use Rattle.evo_flow.specs.Switches.{is_exhaustive}
use Rattle.evo_flow.specs.Text.{first_of, in_switch, open_switch, stmt_faults, told_in_turn}
use Rattle.evo_flow.proofs.Texts.{first_left, first_right, if_told, switch_told}
use Rattle.evo_flow.proofs.text.+texts.Goals as goal

pub in_stmt-returns-in-If : goal.in_stmt-returns-in-If
in_stmt-returns-in-If t c =
    let s = scene_of c.args.site in
    c.in_branches.ensures ∙ sym (ap (λ x. first_of (stmt_faults s x c.args.around)) c.in-If.is ∙ ap first_of (if_told s c.in-If.field-0 c.in-If.branches c.args.around))

pub in_stmt-returns-in-Some : goal.in_stmt-returns-in-Some
in_stmt-returns-in-Some t c =
    let s = scene_of c.args.site in
    let v = c.in-Switch in
    let here = open_switch (is_exhaustive s (subject_of (type_of v.value)) (map (λ k. (out-RClause k).label) v.clauses)) v.place in
    let within = told_in_turn (map (λ k. told_in_turn (map (stmt_faults s) (out-RClause k).statements)) v.clauses) (in_switch c.args.around) in
    sym (ap (λ x. first_of (stmt_faults s x c.args.around)) v.is
    ∙ ap first_of (switch_told s v.place v.value v.clauses c.args.around)
    ∙ first_left here within c.in-Some.fault (ap (λ l. first_of (open_switch (is_exhaustive s (subject_of (type_of v.value)) (map (λ k. (out-RClause k).label) l)) v.place)) (sym c.as_slice.ensures) ∙ sym c.open_switch.ensures ∙ c.in-Some.is))

pub in_stmt-returns-in-None : goal.in_stmt-returns-in-None
in_stmt-returns-in-None t c =
    let s = scene_of c.args.site in
    let v = c.in-Switch in
    let here = open_switch (is_exhaustive s (subject_of (type_of v.value)) (map (λ k. (out-RClause k).label) v.clauses)) v.place in
    let within = told_in_turn (map (λ k. told_in_turn (map (stmt_faults s) (out-RClause k).statements)) v.clauses) (in_switch c.args.around) in
    c.in_clauses.ensures
    ∙ ap (λ a. first_of (told_in_turn (map (λ k. told_in_turn (map (stmt_faults s) (out-RClause k).statements)) v.clauses) a)) c.in_switch.ensures
    ∙ sym (ap (λ x. first_of (stmt_faults s x c.args.around)) v.is
    ∙ ap first_of (switch_told s v.place v.value v.clauses c.args.around)
    ∙ first_right here within (ap (λ l. first_of (open_switch (is_exhaustive s (subject_of (type_of v.value)) (map (λ k. (out-RClause k).label) l)) v.place)) (sym c.as_slice.ensures) ∙ sym c.open_switch.ensures ∙ c.in-None.is))
