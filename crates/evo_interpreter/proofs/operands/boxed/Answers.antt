use Rattle.std.proofs.Common.{◌≡◌, List, map, sym, ap, ◌∙◌}
use Rattle.evo_execution.specs.Words.{Answer, Got, Boxed, and_then, boxed_of, pack}
use Rattle.evo_execution.specs.Words as defined
use Rattle.evo_interpreter.specs.declared.word.Word.{Word, fold-roll-Word}
use Rattle.evo_interpreter.specs.declared.word.Word.TheOpen as word
use Rattle.evo_interpreter.specs.declared.word.Word.TheVariants.{rolls-Boxed}
use Rattle.evo_interpreter.specs.Words.{word_of, level_word}
use Rattle.evo_interpreter.proofs.Lists.{unpack-pack}
use Rattle.evo_interpreter.proofs.operands.boxed.Goals as goal

pub returns-in-Boxed : goal.returns-in-Boxed
returns-in-Boxed c =
    let words = c.in-Boxed.words in
    let is : word_of c.in_ok-words.field-0.now ≡ Boxed (pack (map word_of words)) = ap word_of (c.in-Boxed.is ∙ sym (rolls-Boxed words)) ∙ fold-roll-Word defined.Word level_word (word.Boxed words) in
    ap (λ (a : Answer defined.Word). and_then a boxed_of) c.in_ok-words.ensures
    ∙ (ap boxed_of is
    ∙ (ap (λ (ws : List defined.Word). Got ws) (unpack-pack (map word_of words))
    ∙ ap (λ (ws : List Word). Got (map word_of ws)) (sym c.as_slice.ensures)))
