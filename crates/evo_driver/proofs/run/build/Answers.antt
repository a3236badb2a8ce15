use Rattle.std.proofs.Common.{rules, ◌≡◌, subst, sym}
use Rattle.evo_code.specs.declared.object.Object.{Object}
use Rattle.evo_execution.specs.Loaded.{IsLoaded}
use Rattle.evo_first_code.specs.Objects.{library_object}
use Rattle.evo_first_code.specs.Works.{LinksWith}
use Rattle.evo_first_code.proofs.Exports.{never_twice, never_missing}
use Rattle.evo_driver.proofs.run.build.Goals as goal

pub unreachable-requires : goal.unreachable-requires
unreachable-requires c =
    let loaded = c.args.loaded.now in
    let built : c.in_ok-library.library ≡ library_object loaded.libraries.interface.name loaded.libraries.functions = search rules in
    let works = c.in_ok-client.ensures.works loaded.libraries.functions c.requires.library c.requires.keeps in
    let links : LinksWith c.in_ok-library.library c.in_ok-client.client = subst (λ (o : Object). LinksWith o c.in_ok-client.client) (sym built) works.0 in
    let fault = rw c.in-Err-Twice.field-0-is at c.in-Err-Twice.ensures in
    never_twice c.in_ok-library.library c.in_ok-client.client c.in-Err-Twice.field-0-0 links fault

pub unreachable-requires-in-Err-Missing : goal.unreachable-requires-in-Err-Missing
unreachable-requires-in-Err-Missing c =
    let loaded = c.args.loaded.now in
    let built : c.in_ok-library.library ≡ library_object loaded.libraries.interface.name loaded.libraries.functions = search rules in
    let works = c.in_ok-client.ensures.works loaded.libraries.functions c.requires.library c.requires.keeps in
    let links : LinksWith c.in_ok-library.library c.in_ok-client.client = subst (λ (o : Object). LinksWith o c.in_ok-client.client) (sym built) works.0 in
    let fault = rw c.in-Err-Missing.field-0-is at c.in-Err-Missing.ensures in
    never_missing c.in_ok-library.library c.in_ok-client.client c.in-Err-Missing.field-0-0 links fault

pub returns-in-Ok-clause-loads : goal.returns-in-Ok-clause-loads
returns-in-Ok-clause-loads c = subst IsLoaded (sym c.in-Ok.ensures.0) c.in-Ok.ensures.1.loads
