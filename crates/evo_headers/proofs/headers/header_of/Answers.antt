use Rattle.evo_headers.proofs.Lacking.{header_parameters, header_result}
use Rattle.evo_headers.proofs.Lists.{exit}
use Rattle.evo_headers.proofs.headers.header_of.Goals as goal

pub returns-in_err-parameters : goal.returns-in_err-parameters
returns-in_err-parameters c = exit _ c.from_residual-in_err-parameters.result c.in_err-parameters.field-0.0 c.from_residual-in_err-parameters.ensures.1 (header_parameters c.args.header.now c.as_slice.result.now c.as_slice.ensures) c.in_err-parameters.ensures

pub returns-in_err-result : goal.returns-in_err-result
returns-in_err-result c = exit _ c.from_residual-in_err-result.result c.in_err-result.field-0.0 c.from_residual-in_err-result.ensures.1 (header_result c.args.header.now) c.in_err-result.ensures
