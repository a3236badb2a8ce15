use Rattle.std.proofs.Common.{◌≡◌, ◌∷◌, ℕ, List, sym, ap, ◌∙◌, subst, string_bytes}
use Rattle.evo_execution.specs.Words.{Word, Answer, Got, and_then, shown, line_of}
use Rattle.evo_execution.specs.Execution.{texts}
use Rattle.evo_interpreter.specs.States.{state_of, Adds}
use Rattle.evo_interpreter.proofs.Lines.{line-first}
use Rattle.evo_interpreter.proofs.print.show_line.Goals as goal

pub returns : goal.returns
returns c =
    let more = texts c.args.image.now (state_of c.args.state.now) c.in-Some.more.now in
    let first = c.in_ok-show.ensures in
    let here : texts c.args.image.now (state_of c.args.state.now) c.args.items.now ≡ and_then more (λ (ts : List (List ℕ)). Got (first.0 ∷ ts)) =
    ap (texts c.args.image.now (state_of c.args.state.now)) c.in-Some.ensures.cases.0
    ∙ (ap (λ (a : Answer Word). and_then (and_then a shown) (λ (t : List ℕ). and_then more (λ (ts : List (List ℕ)). Got (t ∷ ts)))) c.in_ok-word.ensures
    ∙ ap (λ (a : Answer (List ℕ)). and_then a (λ (t : List ℕ). and_then more (λ (ts : List (List ℕ)). Got (t ∷ ts)))) first.2) in
    subst (λ (a : Answer (List (List ℕ))). Adds c.show_rest.result (string_bytes c.args.line.now) (string_bytes c.show_rest.new.line) (and_then a (λ ts. Got (line_of ts)))) (sym here)
    (line-first c.show_rest.result (string_bytes c.args.line.now) (string_bytes c.show.new.line) (string_bytes c.show_rest.new.line) first.0 more first.1 c.show_rest.ensures)
