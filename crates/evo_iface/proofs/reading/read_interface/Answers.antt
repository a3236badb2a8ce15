use Rattle.std.proofs.Common.{◌≡◌, List, ℕ, ◌++◌, sym, ◌∙◌, ap}
use Rattle.evo_first_form.specs.declared.Interface.{Interface}
use Rattle.evo_iface.specs.Text.{head_text, functions_text}
use Rattle.evo_iface.specs.declared.texts.TheConstants.{BEFORE_MODULE, BEHIND_MODULE}
use Rattle.evo_iface.proofs.Lines.{three}
use Rattle.evo_iface.proofs.reading.read_interface.Goals as goal

pub returns-in_default : goal.returns-in_default
returns-in_default c i readable e = (rw c.in_default.is at c.in_ok-name.ensures) i.name (functions_text i.functions) readable.name (e ∙ three BEFORE_MODULE.now i.name BEHIND_MODULE.now (functions_text i.functions))

pub returns-in_default-2 : goal.returns-in_default-2
returns-in_default-2 c i readable e =
    let named = rw c.in-Some.is at c.in_ok-name.ensures in
    let is = named.only i.name (functions_text i.functions) readable.name (e ∙ three BEFORE_MODULE.now i.name BEHIND_MODULE.now (functions_text i.functions)) in
    (rw c.in_default-2.is at c.in_ok-functions.ensures) i.functions readable.functions (sym is.1)

pub returns : goal.returns
returns c =
    let named = rw c.in-Some.is at c.in_ok-name.ensures in
    let lines = rw c.in-Some-2.is at c.in_ok-functions.ensures in
    let list = c.from_vec.ensures in (
      named.whole ∙ sym (three BEFORE_MODULE.now c.in-Some.name BEHIND_MODULE.now c.in-Some.rest.now) ∙ ap (λ (l : List ℕ). head_text c.in-Some.name ++ l) (lines.0 ∙ ap functions_text (sym list)),
      λ j readable e.
          let is = named.only j.name (functions_text j.functions) readable.name (e ∙ three BEFORE_MODULE.now j.name BEHIND_MODULE.now (functions_text j.functions)) in
          let functions = lines.1 j.functions readable.functions (sym is.1) in
          let whole : ◌≡◌ {A = Interface} (record { name = j.name; functions = j.functions }) (record { name = c.in-Some.name; functions = c.from_vec.result }) = cc in whole,
    )
