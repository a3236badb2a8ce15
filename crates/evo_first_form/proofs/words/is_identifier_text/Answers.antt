use Rattle.std.proofs.Common.{◌≡◌, ℕ, Bool, true, false, List, refl, ◌∙◌, ap}
use Rattle.std.specs.Prelude.{◌&&◌}
use Rattle.std.specs.Str.{IsUtf8, is_utf8}
use Rattle.std.proofs.lemmas.Str.{IsUtf8-from_is_utf8, is_utf8-from_IsUtf8}
use Rattle.evo_lex.specs.Identifier.{is_identifier}
use Rattle.evo_first_form.proofs.words.is_identifier_text.Goals as goal

and_true : (a b : Bool) → a ≡ true → b ≡ (a && b)
and_true a b e = rw e refl

none : (word : List ℕ) (b : Bool) → (IsUtf8 word → ⊥) → false ≡ (is_utf8 word && b)
none word b fails = go (is_utf8 word) refl
  where
    go : (a : Bool) → is_utf8 word ≡ a → false ≡ (is_utf8 word && b)
    go true e = absurd (fails (IsUtf8-from_is_utf8 word e))
    go false e = rw e refl

pub returns-in-Ok : goal.returns-in-Ok
returns-in-Ok c =
    let text : c.in-Ok.text.now ≡ c.args.word.now = c.in-Ok.ensures.cases.0 in
    let utf8 = is_utf8-from_IsUtf8 c.args.word.now c.in-Ok.ensures.cases.1 in
    c.is_identifier.ensures ∙ ap is_identifier text ∙ and_true (is_utf8 c.args.word.now) (is_identifier c.args.word.now) utf8

pub returns-in-Err : goal.returns-in-Err
returns-in-Err c = none c.args.word.now (is_identifier c.args.word.now) c.in-Err.ensures.cases.0
