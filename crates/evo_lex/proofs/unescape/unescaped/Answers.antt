use Rattle.std.proofs.Common.{◌≡◌, ℕ, zero, suc, ◌+◌, ◌-◌, ◌<◌, List, ◌∷◌, ◌++◌, drop, get_or, drop-cons, add-one, sym, ◌∙◌, ap, arith}
use Rattle.evo_lex.specs.Strings.{unescaped}
use Rattle.evo_lex.proofs.unescape.unescaped.Goals as goal

skipped : (k c : ℕ) (text : List ℕ) → 0 < k → unescaped k (c ∷ text) ≡ unescaped (k - 1) text
skipped zero c text h = absurd (omega arith)
skipped (suc k) c text h = let e : k ≡ suc k - 1 = omega arith in ap (λ n. unescaped n text) e

pub loop-i-preserved-then-skip-gt0 : goal.loop-i-preserved-then-skip-gt0
loop-i-preserved-then-skip-gt0 c =
    let text = c.args.text.now in
    let i = c.loop-i.i in
    let rest = drop (suc i) text in
    let cut : drop i text ≡ get_or text i 0 ∷ rest = drop-cons text i 0 c.loop-i-test.true in
    let step = ap (unescaped c.loop-i.skip) cut ∙ skipped c.loop-i.skip (get_or text i 0) rest c.if-skip-gt0.true in
    let next : drop (i + 1) text ≡ rest = ap (λ n. drop n text) (add-one i) in
    ap (λ r. c.loop-i.found.items ++ unescaped (c.loop-i.skip - 1) r) next ∙ ap (λ r. c.loop-i.found.items ++ r) (sym step) ∙ c.loop-i.invariant
