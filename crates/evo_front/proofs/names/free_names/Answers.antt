use Rattle.std.proofs.Common.{rules, ◌≡◌, ◌+◌, ℕ, List, [], ◌∷◌, ◌++◌, true, false, drop, ap, ◌∙◌, sym, subst, append_assoc}
use Rattle.evo_base.specs.Names.{AreDistinct}
use Rattle.evo_first_form.specs.declared.Function.{Function}
use Rattle.evo_first_form.specs.Interface.{names_of}
use Rattle.evo_first_form.specs.Accepted.{AreFree, is_taken}
use Rattle.evo_base.proofs.Loops.{cut, not_distinct}
use Rattle.evo_front.proofs.Free.{free-push, not_free}
use Rattle.evo_front.proofs.names.free_names.Goals as goal

pub returns-then-is_taken : goal.returns-then-is_taken
returns-then-is_taken c free distinct =
    let f = c.function-item.result in
    let rest = names_of (drop (c.loop-function.function-index + 1) c.args.functions.now) in
    let next : names_of c.args.functions.now ≡ c.loop-function.names ++ f.name ∷ rest =
    c.loop-function.invariant.all ∙ ap (λ (l : List Function). c.loop-function.names ++ names_of l) (cut c.args.functions.now c.loop-function.function-index f c.loop-function-test.true c.function-item.is) in
    let taken : is_taken c.args.library.now f.name ≡ true = rw c.as_slice-name.ensures.value at (sym c.is_taken.ensures ∙ c.if-is_taken.true) in
    not_free c.args.library.now c.loop-function.names f.name rest taken (subst (AreFree c.args.library.now) next free)

pub returns-then-not-branch : goal.returns-then-not-branch
returns-then-not-branch c free distinct =
    let f = c.function-item.result in
    let rest = names_of (drop (c.loop-function.function-index + 1) c.args.functions.now) in
    let next : names_of c.args.functions.now ≡ c.loop-function.names ++ f.name ∷ rest =
    c.loop-function.invariant.all ∙ ap (λ (l : List Function). c.loop-function.names ++ names_of l) (cut c.args.functions.now c.loop-function.function-index f c.loop-function-test.true c.function-item.is) in
    let old : c.in_ok-insert.field-0 ≡ false = search rules in
    let there = rw old at c.in_ok-insert.ensures.ok in
    not_distinct c.loop-function.names f.name rest (rw c.as_slice-name.ensures.value at there.0) (subst AreDistinct next distinct)

pub loop-function-preserved : goal.loop-function-preserved
loop-function-preserved c =
    let f = c.function-item.result in
    let rest = names_of (drop (c.loop-function.function-index + 1) c.args.functions.now) in
    let next : names_of c.args.functions.now ≡ c.loop-function.names ++ f.name ∷ rest =
    c.loop-function.invariant.all ∙ ap (λ (l : List Function). c.loop-function.names ++ names_of l) (cut c.args.functions.now c.loop-function.function-index f c.loop-function-test.true c.function-item.is) in
    let new : c.in_ok-insert.field-0 ≡ true = search rules in
    let there = rw new at c.in_ok-insert.ensures.ok in
    let name : c.as_slice-name.result.now ≡ f.name = c.as_slice-name.ensures.value in
    let longer : c.insert.new.self ≡ c.loop-function.names ++ f.name ∷ [] = there.1 ∙ ap (λ (n : List ℕ). c.loop-function.names ++ n ∷ []) name in
    let free : is_taken c.args.library.now f.name ≡ false = rw name at (sym c.is_taken.ensures ∙ c.if-is_taken.false) in
    record {
      all = next ∙ sym (append_assoc c.loop-function.names (f.name ∷ []) rest) ∙ ap (λ (l : List (List ℕ)). l ++ rest) (sym longer);
      free = subst (AreFree c.args.library.now) (sym longer) (free-push c.args.library.now c.loop-function.names f.name c.loop-function.invariant.free free);
      distinct = c.insert.ensures.distinct;
    }
