use Rattle.std.proofs.Common.{◌++◌, ◌∙◌, List, ℕ, Some, None, ap, sym}
use Rattle.std.proofs.lemmas.Result.{on_ok_weaker}
use Rattle.evo_iface.specs.Text.{function_text}
use Rattle.evo_iface.proofs.Lines.{public_text, inlinable_text}
use Rattle.evo_iface.proofs.writing.write_function.Goals as goal

pub returns-in-Public : goal.returns-in-Public
returns-in-Public c =
    let f = c.args.function.now in
    let lines = public_text f.name f.body f.access c.in-Public.is in
    on_ok_weaker c.write_between.result (λ e. e ∙ ap (λ (l : List ℕ). c.args.text.now.items ++ l) (ap (λ (n : List ℕ). function_text n None) c.as_slice-name.ensures.value ∙ sym lines)) c.write_between.ensures

pub returns-in-Inlinable : goal.returns-in-Inlinable
returns-in-Inlinable c =
    let f = c.args.function.now in
    let lines = inlinable_text f.name f.body f.access c.in-Inlinable.is in
    on_ok_weaker c.write_inlinable.result (λ e. e ∙ ap (λ (l : List ℕ). c.args.text.now.items ++ l) (ap (λ (n : List ℕ). function_text n (Some f.body)) c.as_slice-name.ensures.value ∙ sym lines)) c.write_inlinable.ensures
