use Rattle.std.proofs.Common.{rules, ◌≡◌, ◌+◌, List, ◌∷◌, ◌++◌, drop, false, subst, sym, ◌∙◌, ap}
use Rattle.std.specs.Prelude.{IsSome}
use Rattle.evo_base.specs.Names.{position_of}
use Rattle.evo_code.specs.declared.object.Function.{Function}
use Rattle.evo_execution.specs.Tables.{symbols_of}
use Rattle.evo_base.proofs.Loops.{cut}
use Rattle.evo_first_code.specs.Linking.{StandsTwice}
use Rattle.evo_first_code.proofs.Images.{stands_twice}
use Rattle.evo_first_code.proofs.linker.table_of.Goals as goal

pub returns-then-not-branch : goal.returns-then-not-branch
returns-then-not-branch c =
    let f = c.function-item.result in
    let rest = symbols_of (drop (c.loop-function.function-index + 1) c.args.functions.now) in
    let next : symbols_of c.args.functions.now ≡ c.loop-function.symbols ++ f.symbol ∷ rest =
    c.loop-function.invariant.symbols ∙ ap (λ (l : List Function). c.loop-function.symbols ++ symbols_of l) (cut c.args.functions.now c.loop-function.function-index f c.loop-function-test.true c.function-item.is) in
    let some : IsSome (position_of f.symbol c.loop-function.symbols) =
    let not : c.in_ok-insert.field-0 ≡ false = search rules in
    let there = rw not at c.in_ok-insert.ensures.ok in
    rw c.as_slice.ensures.value at there.0 in
    let symbol : c.in_ok-copy.field-0 ≡ f.symbol = search rules in
    rw symbol (subst (StandsTwice f.symbol) (sym next) (stands_twice c.loop-function.symbols f.symbol rest some))
