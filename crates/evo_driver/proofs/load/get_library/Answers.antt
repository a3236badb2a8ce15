use Rattle.std.proofs.lemmas.Result.{err_from_is_err_and}
use Rattle.evo_driver.specs.declared.stop.Refusal.{Refusal}
use Rattle.evo_driver.specs.Files.{Holds, IsWrongLibrary}
use Rattle.evo_driver.specs.Loading.{IsWrongText}
use Rattle.evo_driver.proofs.Loads.{lacks_as, no_library}
use Rattle.evo_driver.proofs.load.get_library.Goals as goal

pub returns-in_err-text-clause-reads : goal.returns-in_err-text-clause-reads
returns-in_err-text-clause-reads g c =
    let p = err_from_is_err_and c.from_residual.result c.from_residual.ensures.1 in
    let held = (g.F.Files.state c.args.files.now).held c.args.name.now in
    rw (p.1, p.2) (lacks_as (IsWrongText held) (λ (why : Refusal). Holds held (IsWrongLibrary c.args.library.now why)) c.args.name.now c.args.at (g.F.Files.state c.args.files.now) (g.F.Files.state c.text_of.new.files) (no_library held c.args.library.now) c.in_err-text.field-0.0 c.in_err-text.ensures.reads)
