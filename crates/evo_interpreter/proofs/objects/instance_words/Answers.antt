use Rattle.std.proofs.Common.{◌≡◌, ◌++◌, ℕ, List, Option, Some, codes, sym, ap, ◌∙◌}
use Rattle.std.specs.Option.{option_and_then, option_map}
use Rattle.evo_code.specs.Named.{item_named}
use Rattle.evo_code.specs.declared.image.SizeWords.{SizeWords}
use Rattle.evo_execution.specs.Tables.{before}
use Rattle.evo_interpreter.proofs.objects.instance_words.Goals as goal

pub returns-in-Some-item_named : goal.returns-in-Some-item_named
returns-in-Some-item_named c =
    let front = c.in-Some.front.now in
    let sizes = c.args.image.now.sizes in
    let named : before (codes "#class") c.args.class.now ≡ Some front = ap (λ (t : List ℕ). before t c.args.class.now) (sym c.as_slice.ensures) ∙ (ap (before c.as_slice.result.now) (sym c.as_slice-2.ensures.value) ∙ c.in-Some.ensures) in
    let text : c.as_slice-4.result.now ≡ front ++ codes "#instance" =
    c.as_slice-4.ensures.value ∙ (c.in_ok-extend_from_slice.ensures.items ∙ (ap (λ (t : List ℕ). t ++ c.as_slice-3.result.now) (c.in_ok-symbol.ensures.items_if_clones_equal (λ x y h. h)) ∙ ap (λ (t : List ℕ). front ++ t) c.as_slice-3.ensures)) in
    let found : item_named (λ (r : SizeWords). r.symbol) sizes (front ++ codes "#instance") ≡ Some c.in-Some-item_named.size.now = ap (item_named (λ (r : SizeWords). r.symbol) sizes) (sym text) ∙ c.in-Some-item_named.ensures in
    sym (ap (λ (o : Option (List ℕ)). option_and_then (λ (name : List ℕ). option_map (λ (r : SizeWords). r.words) (item_named (λ (r : SizeWords). r.symbol) sizes (name ++ codes "#instance"))) o) named ∙ ap (option_map (λ (r : SizeWords). r.words)) found)
