use Rattle.evo_headers.proofs.Lacking.{of_generics, of_requirements, requirements_all}
use Rattle.evo_headers.proofs.Lists.{exit}
use Rattle.evo_headers.proofs.requirements.requirements_of.Goals as goal

pub returns-in_err-push_generics : goal.returns-in_err-push_generics
returns-in_err-push_generics c = exit _ c.from_residual.result c.in_err-push_generics.field-0.0 c.from_residual.ensures.1 (of_generics c.args.header.now c.as_slice.result.now c.as_slice.ensures) c.in_err-push_generics.ensures

pub returns-in_err-push_requirements : goal.returns-in_err-push_requirements
returns-in_err-push_requirements c = exit _ c.from_residual-in_err-push_requirements.result c.in_err-push_requirements.field-0.0 c.from_residual-in_err-push_requirements.ensures.1 (of_requirements c.args.header.now c.as_slice-2.result.now c.as_slice-2.ensures) c.in_err-push_requirements.ensures

pub returns : goal.returns
returns c = requirements_all c.args.header.now _ _ _ _ _ _ c.as_slice.ensures c.as_slice-2.ensures c.new-found.ensures.items c.from_vec.ensures c.in_ok-push_generics.ensures c.in_ok-push_requirements.ensures
