use Rattle.std.proofs.Common.{List, ℕ, Option, subst}
use Rattle.std.proofs.lemmas.Result.{err_from_is_err_and}
use Rattle.evo_first_form.specs.declared.Interface.{Interface}
use Rattle.evo_first_form.specs.Interface.{interface_of}
use Rattle.evo_driver.specs.declared.stop.Refusal.{Refusal}
use Rattle.evo_driver.specs.declared.stop.Input.TheVariants as which
use Rattle.evo_driver.specs.Files.{Holds, IsWrongClient}
use Rattle.evo_driver.specs.Files.Refuses.{client_is_wrong}
use Rattle.evo_driver.proofs.Loads.{stops_at}
use Rattle.evo_driver.proofs.load.load.Goals as goal

pub returns-in_err-client-clause-loads : goal.returns-in_err-client-clause-loads
returns-in_err-client-clause-loads g c =
    let p = err_from_is_err_and c.from_residual-in_err-client.result c.from_residual-in_err-client.ensures.1 in
    let a = c.in_ok-libraries.ensures in
    let l = a.loads.1 in
    let files = g.F.Files.state c.args.files.now in
    let later = g.F.Files.state c.load_libraries.new.files in
    let interface = c.in_ok-libraries.libraries.interface in
    rw (p.1, p.2) (stops_at (λ (why : Refusal). Holds (later.held c.args.job.now.client) (IsWrongClient interface why)) c.args.job.now which.Client files later (g.F.Files.state c.get_client.new.files)
    a.loads.0 (l.old, c.in_ok-libraries.libraries.functions, l.passes) (a.sure.0 c.args.job.now.client)
    (λ why wrong. client_is_wrong why l.old c.in_ok-libraries.libraries.functions l.passes
    (subst (λ (h : Option (List ℕ)). Holds h (IsWrongClient (interface_of c.args.job.now.library l.old) why)) (a.same c.args.job.now.client) (subst (λ (i : Interface). Holds (later.held c.args.job.now.client) (IsWrongClient i why)) l.interface_is wrong)))
    c.in_err-client.field-0.0 c.in_err-client.ensures.reads)
