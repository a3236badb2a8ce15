use Rattle.std.proofs.Common.{◌≡◌, ℕ, suc, ◌+◌, ◌-◌, ◌<◌, ◌≤◌, List, length, take, drop, true, false, refl, ◌∙◌, ap, arith, rules, add-one}
use Rattle.std.proofs.lemmas.List.{take_all, drop-drop, length-drop}
use Rattle.evo_lex.specs.Front.{starts, comment_from}
use Rattle.evo_lex.proofs.Comments.{closes, opens, passes}
use Rattle.evo_lex.proofs.comment.comment_end.Goals as goal

to_end : (text : List ℕ) (i : ℕ) → take (length text - i) (drop i text) ≡ drop i text
to_end text i = take_all _ _ (omega (arith, length-drop i text))

pred : (n : ℕ) → 0 < n → n ≡ suc (n - 1)
pred n lt = omega arith

pub loop-read-preserved-then-starts : goal.loop-read-preserved-then-starts
loop-read-preserved-then-starts c =
    let text = c.args.text.now in
    let read = c.loop-read.read in
    let depth = c.loop-read.depth in
    let is : starts 42 47 (drop read text) ≡ true = search (rules, to_end) in
    let long : 2 ≤ length (drop read text) = search (rules, to_end) in
    record {
      within = omega (arith, long, length-drop read text);
      shallow = omega arith;
      rest = c.loop-read.invariant.rest ∙ ap (λ (d : ℕ). comment_from (read + 2) d (drop read text)) (pred depth (omega arith)) ∙ closes (read + 2) (depth - 1) (drop read text) is ∙ rw drop-drop refl;
    }

pub loop-read-preserved-then-starts-2 : goal.loop-read-preserved-then-starts-2
loop-read-preserved-then-starts-2 c =
    let text = c.args.text.now in
    let read = c.loop-read.read in
    let depth = c.loop-read.depth in
    let close : starts 42 47 (drop read text) ≡ false = search (rules, to_end) in
    let is : starts 47 42 (drop read text) ≡ true = search (rules, to_end) in
    let long : 2 ≤ length (drop read text) = search (rules, to_end) in
    record {
      within = omega (arith, long, length-drop read text);
      shallow = omega arith;
      rest = c.loop-read.invariant.rest ∙ opens (read + 2) depth (drop read text) close is ∙ rw (drop-drop, add-one) refl;
    }

pub loop-read-preserved : goal.loop-read-preserved
loop-read-preserved c =
    let text = c.args.text.now in
    let read = c.loop-read.read in
    let depth = c.loop-read.depth in
    let close : starts 42 47 (drop read text) ≡ false = search (rules, to_end) in
    let other : starts 47 42 (drop read text) ≡ false = search (rules, to_end) in
    let same : read + 1 + 2 ≡ read + 2 + 1 = omega arith in
    record {
      within = omega arith;
      shallow = omega arith;
      rest = c.loop-read.invariant.rest ∙ passes (read + 2) depth (drop read text) close other ∙ rw (drop-drop, same) refl;
    }
