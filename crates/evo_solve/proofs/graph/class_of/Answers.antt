use Rattle.std.proofs.Common.{ℕ, MatchOption, subst, sym, ap, ◌∙◌}
use Rattle.evo_solve.specs.declared.path.Path.{Path}
use Rattle.evo_solve.specs.Equal.{alone, parameter, path_of}
use Rattle.evo_solve.specs.Universe.{Has}
use Rattle.evo_solve.proofs.Leading.{root_option}
use Rattle.evo_solve.proofs.graph.class_of.Goals as goal

pub returns-in-Assoc : goal.returns-in-Assoc
returns-in-Assoc c =
    let P : Path → Type 0 = λ p. MatchOption c.class_at.result ((d : ℕ) → Has c.args.classes.now.nodes.items c.args.classes.now.reps.items p d → ⊥) (λ d. Has c.args.classes.now.nodes.items c.args.classes.now.reps.items p d) in
    subst P (sym (ap path_of c.in-Assoc.is ∙ ap (parameter c.in-Assoc.number) (sym c.as_slice.ensures))) c.class_at.ensures

pub returns-in-Param : goal.returns-in-Param
returns-in-Param c = root_option c.args.classes.now.nodes.items c.args.classes.now.reps.items c.args.ty.now c.root.result (ap alone c.in-Param.is ∙ sym (ap path_of c.in-Param.is)) c.root.ensures

pub returns-in-Named : goal.returns-in-Named
returns-in-Named c = root_option c.args.classes.now.nodes.items c.args.classes.now.reps.items c.args.ty.now c.root-in-Named.result (ap alone c.in-Named.is ∙ sym (ap path_of c.in-Named.is)) c.root-in-Named.ensures

pub returns-in-NoValue : goal.returns-in-NoValue
returns-in-NoValue c = root_option c.args.classes.now.nodes.items c.args.classes.now.reps.items c.args.ty.now c.root-in-NoValue.result (ap alone c.in-NoValue.is ∙ sym (ap path_of c.in-NoValue.is)) c.root-in-NoValue.ensures
