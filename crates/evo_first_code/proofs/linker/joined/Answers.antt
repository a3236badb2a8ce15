use Rattle.std.proofs.Common.{rules, ◌≡◌, ◌∙◌, ◌++◌, List, length, take, drop, ap, refl}
use Rattle.evo_code.specs.declared.object.Function.{Function}
use Rattle.evo_first_code.proofs.Exports.{first_part, second_part, fit_is}
use Rattle.evo_first_code.proofs.linker.joined.Goals as goal

pub returns : goal.returns
returns c =
    let library = c.args.library.items in
    let client = c.args.client.items in
    let whole : c.deref.result.now ≡ library ++ client = search rules in
    let count : c.len-count.result ≡ length library = search rules in
    let theirs : c.split_at.result.0.now ≡ library = c.split_at.ensures.front ∙ ap (λ (l : List Function). take c.len-count.result l) whole ∙ first_part library client c.len-count.result count in
    let own : c.split_at.result.1.now ≡ client = c.split_at.ensures.back ∙ ap (λ (l : List Function). drop c.len-count.result l) whole ∙ second_part library client c.len-count.result count in
    let all : c.from_vec.result ≡ library ++ client = search rules in
    (all, fit_is _ _ _ _ _ _ _ _ theirs own refl refl c.in_ok-check.ensures)
