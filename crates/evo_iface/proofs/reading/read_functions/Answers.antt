use Rattle.std.proofs.Common.{rules, ◌≡◌, ◌≢◌, List, ℕ, [], ◌++◌, ◌∷◌, sym, ◌∙◌, ap, subst, append_assoc}
use Rattle.std.proofs.lemmas.List.{append-nil}
use Rattle.evo_first_form.specs.declared.Declaration.{Declaration}
use Rattle.evo_iface.specs.Text.{function_text, functions_text}
use Rattle.evo_iface.proofs.Lines.{no_functions, first_function, empty_functions, not_empty, is_empty}
use Rattle.evo_iface.proofs.reading.read_functions.Goals as goal

pub returns-in_default : goal.returns-in_default
returns-in_default c ds plain e =
    let all = c.loop-rest.invariant.only ds plain e in
    let some : c.loop-rest.rest.now ≢ [] = not_empty _ (search rules) in
    no_functions c.loop-rest.rest.now all.0 some (rw c.in_default.is at c.in_ok-function.ensures) all.2 all.3

pub loop-rest-preserved : goal.loop-rest-preserved
loop-rest-preserved c =
    let front = rw c.in-Some.is at c.in_ok-function.ensures in
    let some : c.loop-rest.rest.now ≢ [] = not_empty _ (search rules) in
    let pushed : c.push.new.self.items ≡ c.loop-rest.functions.items ++ c.in-Some.function ∷ [] = search rules in
    record {
      found = λ ds e. rw (pushed, append_assoc) (c.loop-rest.invariant.found (c.in-Some.function ∷ ds) (front.whole ∙ ap (λ (l : List ℕ). function_text c.in-Some.function.name c.in-Some.function.body ++ l) e));
      only = λ ds plain e.
          let all = c.loop-rest.invariant.only ds plain e in
          let one = first_function c.loop-rest.rest.now c.in-Some.function c.in-Some.more.now all.0 some front all.2 all.3 in
          (one.0, all.1 ∙ ap (λ (l : List Declaration). c.loop-rest.functions.items ++ l) one.1 ∙ sym (append_assoc c.loop-rest.functions.items (c.in-Some.function ∷ []) one.0) ∙ ap (λ (l : List Declaration). l ++ one.0) (sym pushed), one.2, one.3);
    }

pub returns : goal.returns
returns c =
    let none : c.loop-rest.rest.now ≡ [] = is_empty _ (search rules) in (
      subst (λ (l : List Declaration). c.args.text.now ≡ functions_text l) (append-nil c.loop-rest.functions.items) (c.loop-rest.invariant.found [] none),
      λ ds plain e.
          let all = c.loop-rest.invariant.only ds plain e in
          all.1 ∙ ap (λ (l : List Declaration). c.loop-rest.functions.items ++ l) (empty_functions all.0 (sym none ∙ all.3)) ∙ append-nil c.loop-rest.functions.items,
    )
