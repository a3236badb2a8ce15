use Rattle.std.proofs.Common.{rules, ◌≡◌, ◌++◌}
use Rattle.evo_first_code.specs.Works.{linked}
use Rattle.evo_first_code.proofs.Exports.{fit_is, links_of}
use Rattle.evo_first_code.proofs.linker.link.Goals as goal

pub returns : goal.returns
returns c =
    let library = c.args.library in
    let client = c.args.client in
    let theirs : c.into_vec.result.items ≡ library.functions = search rules in
    let own : c.into_vec-2.result.items ≡ client.functions = search rules in
    let needed : c.as_slice.result.now ≡ library.imports = search rules in
    let imports : c.as_slice-2.result.now ≡ client.imports = search rules in
    let fit = fit_is _ _ _ _ _ _ _ _ theirs own needed imports c.in_ok-functions.ensures.1 in
    let whole : c.in_ok-functions.functions ≡ library.functions ++ client.functions = search rules in
    let count : c.as_slice-count.result.now ≡ library.functions = search rules in
    let all : c.image_of.result ≡ linked library client = search rules in
    (all, links_of library client c.requires.library c.requires.client fit)
