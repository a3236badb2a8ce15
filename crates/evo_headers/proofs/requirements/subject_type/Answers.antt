use Rattle.std.proofs.Common.{sym, subst}
use Rattle.evo_names.specs.Resolved.{IsType}
use Rattle.evo_headers.specs.declared.requirements.Subject.{Subject}
use Rattle.evo_headers.specs.Gaps.{Resolves}
use Rattle.evo_headers.specs.Sites.{site_scope}
use Rattle.evo_headers.specs.Subjects.{subject_types, subject_view}
use Rattle.evo_headers.specs.Unresolved.{One, here, IsVoid}
use Rattle.evo_headers.proofs.Lists.{resolves}
use Rattle.evo_headers.proofs.requirements.subject_type.Goals as goal

pub returns-in-Written : goal.returns-in-Written
returns-in-Written c = subst (λ (x : Subject). Resolves c.type_of.result (IsType (site_scope c.args.site) (subject_view x)) (One (IsVoid (site_scope c.args.site)) (subject_types x))) (sym c.in-Written.is) (resolves c.type_of.result (λ x p. p) here c.type_of.ensures)
