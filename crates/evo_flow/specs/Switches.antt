-- Whether a `switch` has a clause for every value.
use Rattle.std.specs.Prelude.{List, Bool, true, false, not, ◌&&◌, ◌||◌}
use Rattle.std.specs.List.{list_any, list_all}
use Rattle.evo_base.specs.declared.key.Key.{Key}
use Rattle.evo_resolved.specs.declared.expression.Literal.{Literal}
use Rattle.evo_resolved.specs.declared.expression.Literal.TheVariants as literal
use Rattle.evo_resolved.specs.declared.statement.RPattern.{RPattern}
use Rattle.evo_resolved.specs.declared.statement.RPattern.TheVariants as pattern
use Rattle.evo_resolved.specs.declared.statement.RClauseLabel.{RClauseLabel}
use Rattle.evo_resolved.specs.declared.statement.RClauseLabel.TheVariants as label
use Rattle.evo_resolved.specs.declared.declaration.RDecl.{RDecl}
use Rattle.evo_meaning.specs.Keys.{same_key}
use Rattle.evo_flow.specs.Scenes.{Scene, seen, is_closed, is_case_of, Subject, truth, a_type, other}

abbrev pub same_truth : Bool → Bool → Bool
same_truth true b = b
same_truth false b = not b

-- a pattern takes the case, with any payload
abbrev pub takes_case : Key → RPattern → Bool
takes_case k (pattern.Case p t c ls) = same_key c k
takes_case k (pattern.Literal p l) = false

abbrev pub is_truth : Bool → Literal → Bool
is_truth b (literal.Boolean c) = same_truth b c
is_truth b l = false

abbrev pub takes_truth : Bool → RPattern → Bool
takes_truth b (pattern.Literal p l) = is_truth b l
takes_truth b (pattern.Case p t c ls) = false

-- a clause has a pattern that passes the test
abbrev pub lists_by : (RPattern → Bool) → RClauseLabel → Bool
lists_by f (label.Case ps) = list_any f ps
lists_by f label.Default = false
lists_by f label.UnknownDefault = false

abbrev pub lists : (RPattern → Bool) → List RClauseLabel → Bool
lists f ls = list_any (lists_by f) ls

abbrev pub is_default : RClauseLabel → Bool
is_default (label.Case ps) = false
is_default label.Default = true
is_default label.UnknownDefault = true

abbrev pub is_listed : Key → List RClauseLabel → RDecl → Bool
is_listed k ls d = not (is_case_of k d) || lists (takes_case d.key) ls

-- each case that the enum's braces declare
abbrev pub lists_cases : Scene → Key → List RClauseLabel → Bool
lists_cases c k ls = list_all (is_listed k ls) (seen c)

abbrev pub lists_both : List RClauseLabel → Bool
lists_both ls = lists (takes_truth true) ls && lists (takes_truth false) ls

abbrev pub lists_all : Scene → Subject → List RClauseLabel → Bool
lists_all c truth ls = lists_both ls
lists_all c (a_type k) ls = is_closed c k && lists_cases c k ls
lists_all c other ls = false

abbrev pub is_exhaustive : Scene → Subject → List RClauseLabel → Bool
is_exhaustive c s ls = list_any is_default ls || lists_all c s ls
