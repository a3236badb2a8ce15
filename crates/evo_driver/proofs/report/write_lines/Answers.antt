use Rattle.std.proofs.Common.{◌≡◌, ◌+◌, ◌++◌, List, ℕ, drop, ap, sym, refl, ◌∙◌, Ok}
use Rattle.std.proofs.lemmas.List.{drop_all}
use Rattle.evo_first_form.specs.Rules.{removed_lines}
use Rattle.evo_driver.proofs.Filters.{cut}
use Rattle.evo_driver.proofs.Gives.{Receives-none, WritesAll-then}
use Rattle.evo_driver.proofs.report.write_lines.Goals as goal

pub loop-name-preserved : goal.loop-name-preserved
loop-name-preserved g c new r h =
    let lines = removed_lines c.args.library.now in
    let names = c.args.names.now in
    let at = c.loop-name.name-index in
    let n = c.name-item.result in
    let piece = c.deref.result.now in
    let ok = c.in_ok-write.ensures in
    let all : lines (drop at names) ≡ piece ++ lines (drop (at + 1) names) =
    ap lines (cut names at n c.loop-name-test.true c.name-item.is) ∙ ap (λ (l : List ℕ). l ++ lines (drop (at + 1) names)) (sym (c.deref.ensures.value ∙ c.in_ok-line.ensures)) in
    c.loop-name.invariant new r (rw all (WritesAll-then piece (lines (drop (at + 1) names)) (g.O.Sink.state c.loop-name.out) (g.O.Sink.state c.write.new.self) (g.O.Sink.state new) r ok.content ok.cause ok.takes h))

pub returns : goal.returns
returns g c =
    let none : removed_lines c.args.library.now (drop c.loop-name.name-index c.args.names.now) ≡ _ = ap (removed_lines c.args.library.now) (drop_all c.loop-name.name-index c.args.names.now c.loop-name-test.false) in
    c.loop-name.invariant c.loop-name.out (Ok tt) (rw none (Receives-none (g.O.Sink.state c.loop-name.out)))
