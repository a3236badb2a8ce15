use Rattle.std.proofs.Common.{ℕ, List, encode_utf8_all, ap, ◌∙◌}
use Rattle.std.specs.Prelude.{chars}
use Rattle.unicode_normalization.specs.Forms.{nfd}
use Rattle.evo_interpreter.proofs.Texts.{texts-agree}
use Rattle.evo_interpreter.proofs.strings.same_text.Goals as goal

pub returns : goal.returns
returns c =
    let whole = λ (t : List ℕ). encode_utf8_all (nfd (chars t)) in
    texts-agree c.eq.result c.as_str-3.result.now c.as_str-4.result.now c.args.left.now c.args.right.now c.eq.ensures
    (c.as_str-3.ensures.value ∙ (c.in_ok-left.ensures ∙ ap whole c.as_str.ensures.value))
    (c.as_str-4.ensures.value ∙ (c.in_ok-right.ensures ∙ ap whole c.as_str-2.ensures.value))
