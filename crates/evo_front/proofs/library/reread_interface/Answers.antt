use Rattle.std.proofs.Common.{rules, ◌≡◌, ◌≤◌, ◌∙◌, subst, length, List, ℕ}
use Rattle.evo_first_form.specs.Interface.{interface_of}
use Rattle.evo_iface.specs.Text.{interface_text}
use Rattle.evo_front.specs.Texts.{interface_limit}
use Rattle.evo_front.proofs.Within.{within}
use Rattle.evo_front.proofs.library.reread_interface.Goals as goal

pub returns : goal.returns
returns c =
    let text : c.deref.result.now ≡ interface_text (interface_of c.args.library.now c.args.functions.now) = c.deref.ensures.value ∙ c.in_ok-text.ensures in
    let short : length c.in_ok-text.text.items ≤ interface_limit = search rules in
    within (interface_of c.args.library.now c.args.functions.now) c.deref.result.now text c.requires (subst (λ (l : List ℕ). length l ≤ interface_limit) c.in_ok-text.ensures short) c.read_interface.result c.read_interface.ensures
