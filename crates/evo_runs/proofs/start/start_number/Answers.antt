use Rattle.std.proofs.Common.{◌≡◌, ◌<◌, ◌+◌, ◌∙◌, List, drop, take, length, sym, ap, arith}
use Rattle.std.proofs.lemmas.List.{length-map}
use Rattle.evo_code.specs.declared.object.Function.{Function}
use Rattle.evo_execution.specs.Tables.{symbols_of, start_symbol}
use Rattle.evo_runs.proofs.Starts.{client-number, library-number, number-within}
use Rattle.evo_runs.proofs.start.start_number.Goals as goal

pub overflow_add-result : goal.overflow_add-result
overflow_add-result c =
    let n : c.in-Some.number < 0 + length (symbols_of c.split_at.result.1.now) = number-within 0 c.in-Some.number (symbols_of c.split_at.result.1.now) start_symbol (sym c.in-Some.ensures) in
    let m : length (symbols_of c.split_at.result.1.now) ≡ length c.split_at.result.1.now = length-map c.split_at.result.1.now (λ (f : Function). f.symbol) in
    omega arith

pub returns-in-Some : goal.returns-in-Some
returns-in-Some c =
    let back = c.split_at.ensures.back ∙ ap (λ (fs : List Function). drop c.args.image.now.library fs) c.as_slice-functions.ensures in
    sym (client-number c.args.image.now c.split_at.result.0.now c.split_at.result.1.now c.in-Some.number back (omega arith) (sym c.in-Some.ensures))

pub returns-in-None : goal.returns-in-None
returns-in-None c =
    let back = c.split_at.ensures.back ∙ ap (λ (fs : List Function). drop c.args.image.now.library fs) c.as_slice-functions.ensures in
    let front = c.split_at.ensures.front ∙ ap (λ (fs : List Function). take c.args.image.now.library fs) c.as_slice-functions.ensures in
    c.start_among-in-None.ensures ∙ library-number c.args.image.now c.split_at.result.0.now c.split_at.result.1.now back front (sym c.in-None.ensures)
