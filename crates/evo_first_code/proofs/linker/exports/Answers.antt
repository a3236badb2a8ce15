use Rattle.std.proofs.Common.{rules, ◌≡◌, ℕ, List, None, Some, sym, ◌∙◌, ap}
use Rattle.evo_base.specs.Names.{position_of}
use Rattle.evo_first_code.proofs.Exports.{exported_at, by_table, flag_here, flag_behind}
use Rattle.evo_first_code.proofs.linker.exports.Goals as goal

pub returns-in_default : goal.returns-in_default
returns-in_default c =
    let whole = by_table c.args.functions.now c.requires.0 c.args.symbol.now ∙ ap (λ (t : List (List ℕ)). exported_at c.args.functions.now (position_of c.args.symbol.now t)) (sym c.requires.1) in
    let none : position_of c.args.symbol.now c.args.symbols.now ≡ None = search rules in
    sym (whole ∙ ap (exported_at c.args.functions.now) none)

pub returns-in-Some-get : goal.returns-in-Some-get
returns-in-Some-get c =
    let whole = by_table c.args.functions.now c.requires.0 c.args.symbol.now ∙ ap (λ (t : List (List ℕ)). exported_at c.args.functions.now (position_of c.args.symbol.now t)) (sym c.requires.1) in
    let place : position_of c.args.symbol.now c.args.symbols.now ≡ Some c.in-Some.place = search rules in
    let found = c.in-Some-get.ensures.lookup in
    sym (whole ∙ ap (exported_at c.args.functions.now) place ∙ flag_here c.args.functions.now c.in-Some.place c.in-Some-get.function.now found.3.0 found.1)

pub returns-in-None : goal.returns-in-None
returns-in-None c =
    let whole = by_table c.args.functions.now c.requires.0 c.args.symbol.now ∙ ap (λ (t : List (List ℕ)). exported_at c.args.functions.now (position_of c.args.symbol.now t)) (sym c.requires.1) in
    let place : position_of c.args.symbol.now c.args.symbols.now ≡ Some c.in-Some.place = search rules in
    let found = c.in-None.ensures.lookup in
    sym (whole ∙ ap (exported_at c.args.functions.now) place ∙ flag_behind c.args.functions.now c.in-Some.place found.3)
