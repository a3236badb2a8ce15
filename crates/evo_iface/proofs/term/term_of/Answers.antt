use Rattle.std.proofs.Common.{rules, ◌≡◌, ℕ, List, [], ◌∷◌, ◌++◌, ◌∙◌, ap, sym, subst}
use Rattle.std.specs.Str.{IsUtf8}
use Rattle.evo_iface.specs.Text.{IsPlainTerm}
use Rattle.evo_iface.proofs.Fronts.{cut_off, not_cut_off}
use Rattle.evo_iface.proofs.Terms.{only_call, only_integer, no_term}
use Rattle.evo_iface.proofs.term.term_of.Goals as goal

pub returns-in_default-2 : goal.returns-in_default-2
returns-in_default-2 c t plain e =
    let whole = cut_off c.args.text.now c.in-Some.name.now (40 ∷ 41 ∷ []) c.in-Some.ensures.cases.0 c.in-Some.ensures.cases.1 in
    let no : IsUtf8 c.in-Some.name.now → ⊥ = rw c.in_default-2.is at c.in_ok-name.ensures in
    let same = subst IsPlainTerm (only_call c.args.text.now c.in-Some.name.now whole t plain e) plain in
    no same.utf8

pub returns-in-Some : goal.returns-in-Some
returns-in-Some c =
    let whole = cut_off c.args.text.now c.in-Some.name.now (40 ∷ 41 ∷ []) c.in-Some.ensures.cases.0 c.in-Some.ensures.cases.1 in
    let name : c.in-Some-2.name ≡ c.in-Some.name.now = search rules in
    let is : c.args.text.now ≡ c.in-Some-2.name ++ 40 ∷ 41 ∷ [] = whole ∙ ap (λ (l : List ℕ). l ++ 40 ∷ 41 ∷ []) (sym name) in
    (is, only_call c.args.text.now c.in-Some-2.name is)

pub returns-in_default-3 : goal.returns-in_default-3
returns-in_default-3 c = no_term c.args.text.now (λ name. not_cut_off c.args.text.now name (40 ∷ 41 ∷ []) c.in_default.ensures.cases) (rw c.in_default-3.is at c.in_ok-number.ensures)

pub returns : goal.returns
returns c =
    let number = rw c.in-Some-3.is at c.in_ok-number.ensures in
    (number.0, only_integer c.args.text.now c.in-Some-3.number number.0 number.1)
