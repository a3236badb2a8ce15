use Rattle.evo_headers.proofs.Lacking.{header_requirements}
use Rattle.evo_headers.proofs.Lists.{exit}
use Rattle.evo_headers.proofs.headers.signature_of.Goals as goal

pub returns-in_err-requirements : goal.returns-in_err-requirements
returns-in_err-requirements c = exit _ c.from_residual-in_err-requirements.result c.in_err-requirements.field-0.0 c.from_residual-in_err-requirements.ensures.1 (header_requirements c.args.header.now) c.in_err-requirements.ensures
