use Rattle.std.proofs.Common.{◌≡◌, ℕ, ◌+◌, ◌-◌, ◌<◌, ◌≤◌, List, [], ◌∷◌, ◌++◌, length, take, drop, Some, None, refl, sym, ◌∙◌, ap, subst, arith, rules, append_assoc, get_or, drop-cons, add-one}
use Rattle.std.proofs.lemmas.List.{take_all, drop_all, append-nil, drop-drop, length-drop}
use Rattle.evo_lex.specs.declared.spot.Position.{Position}
use Rattle.evo_lex.specs.Front.{front_of}
use Rattle.evo_lex.specs.Tokenization.{CutFrom, BadFrom, beyond, tokens_of, origin}
use Rattle.evo_lex.specs.Tokenization.CutFrom.{ended}
use Rattle.evo_lex.specs.Tokenization.BadFrom.{bad, past}
use Rattle.evo_lex.proofs.Cuts.{cut_on}
use Rattle.evo_lex.proofs.Spots.{forward, split}
use Rattle.evo_lex.proofs.lexer.cut.Goals as goal

to_end : (text : List ℕ) (i : ℕ) → take (length text - i) (drop i text) ≡ drop i text
to_end text i = take_all _ _ (omega (arith, length-drop i text))

parts : (text : List ℕ) (i : ℕ) → i < length text → drop i text ≡ get_or text i 0 ∷ drop (i + 1) text
parts text i lt = rw add-one (drop-cons text i 0 lt)

bad_here : (rest : List ℕ) (c : ℕ) (tail : List ℕ) (s : Position) → rest ≡ c ∷ tail → front_of rest ≡ None → BadFrom s rest s.place
bad_here rest c tail s e none = rw e (bad {text = tail} (rw e at none))

pub returns-in_default-clause-bad : goal.returns-in_default-clause-bad
returns-in_default-clause-bad c =
    let text = c.args.text.now in
    let read = c.loop-read.read in
    let none : front_of (drop read text) ≡ None = rw to_end at (sym c.in_default.ensures.value) in
    (refl, c.loop-read.invariant.bad _ (bad_here (drop read text) _ _ c.loop-read.spot (parts text read c.loop-read-test.true) none))

taken : (read len : ℕ) (rest : List ℕ) → take (read + len - read) rest ≡ take len rest
taken read len rest = ap (λ n. take n rest) (let e : read + len - read ≡ len = omega arith in e)

pub beyond-next-requires-clause-at : goal.beyond-next-requires-clause-at
beyond-next-requires-clause-at c =
    let text = c.args.text.now in
    let read = c.loop-read.read in
    let len = c.in-Some.len in
    let rest = drop read text in
    let at : (beyond (take len rest) c.loop-read.spot).at ≤ (beyond (drop len rest) (beyond (take len rest) c.loop-read.spot)).at = forward (drop len rest) (beyond (take len rest) c.loop-read.spot) in
    let whole : (beyond (drop len rest) (beyond (take len rest) c.loop-read.spot)).at ≡ (beyond text origin).at = ap (λ (s : Position). s.at) (split len rest c.loop-read.spot ∙ sym c.loop-read.invariant.end) in
    rw taken (omega (arith, at, whole))

pub loop-read-preserved : goal.loop-read-preserved
loop-read-preserved c =
    let text = c.args.text.now in
    let read = c.loop-read.read in
    let len = c.in-Some.len in
    let rest = drop read text in
    let from = c.loop-read.spot in
    let next = c.beyond-next.result in
    let same : next ≡ beyond (take len rest) from = rw taken at c.beyond-next.ensures.value in
    let some : front_of rest ≡ Some (c.in-Some.found, len) = rw to_end at (sym c.in-Some.ensures.value) in
    let after : drop (read + len) text ≡ drop len rest = rw drop-drop refl in
    let kept : c.keep.new.tokens.items ≡ c.loop-read.tokens.items ++ tokens_of c.in-Some.found from (beyond (take len rest) from) = rw (← same) (search rules) in
    record {
      within = omega (arith, c.in-Some.ensures.within, length-drop read text);
      line = c.beyond-next.ensures.line;
      column = c.beyond-next.ensures.column;
      end = c.loop-read.invariant.end ∙ sym (split len rest from) ∙ ap (beyond (drop len rest)) (sym same) ∙ ap (λ cs. beyond cs next) (sym after);
      found = λ more cut.
          let cut' : CutFrom (beyond (take len rest) from) (drop len rest) more = subst (λ (s : Position). CutFrom s (drop len rest) more) same (subst (λ (cs : List ℕ). CutFrom next cs more) after cut) in
          let whole = c.loop-read.invariant.found _ (cut_on some cut') in
          rw (kept, append_assoc) whole;
      bad = λ place fault.
          let fault' : BadFrom (beyond (take len rest) from) (drop len rest) place = subst (λ (s : Position). BadFrom s (drop len rest) place) same (subst (λ (cs : List ℕ). BadFrom next cs place) after fault) in
          c.loop-read.invariant.bad place (past some fault');
    }

pub returns-clause-found : goal.returns-clause-found
returns-clause-found c =
    let end : drop c.loop-read.read c.args.text.now ≡ [] = drop_all _ _ c.loop-read-test.false in
    let all = c.loop-read.invariant.found [] (rw end ended) in
    (rw append-nil at all, sym (rw end at c.loop-read.invariant.end))
