use Rattle.std.proofs.lemmas.Result.{err_from_is_err_and}
use Rattle.evo_first_code.proofs.Exports.{own_fault}
use Rattle.evo_first_code.proofs.linker.check.Goals as goal

pub returns-in_err-check_own : goal.returns-in_err-check_own
returns-in_err-check_own c =
    let p = err_from_is_err_and c.from_residual.result c.from_residual.ensures.1 in
    rw (p.1, p.2) (own_fault c.args.theirs.now c.args.own.now c.args.needed.now c.args.imports.now _ c.in_err-check_own.ensures)
