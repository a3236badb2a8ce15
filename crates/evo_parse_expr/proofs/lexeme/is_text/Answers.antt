use Rattle.std.proofs.Common.{◌≡◌, ℕ, Bool, true, false, List, refl, sym}
use Rattle.std.specs.Str.{IsUtf8, is_utf8}
use Rattle.std.proofs.lemmas.Str.{IsUtf8-from_is_utf8, is_utf8-from_IsUtf8}
use Rattle.evo_parse_expr.proofs.lexeme.is_text.Goals as goal

pub returns-in-Ok : goal.returns-in-Ok
returns-in-Ok c = sym (is_utf8-from_IsUtf8 c.args.text.now c.in-Ok.ensures.cases.1)

none : (text : List ℕ) → (IsUtf8 text → ⊥) → false ≡ is_utf8 text
none text fails = go (is_utf8 text) refl
  where
    go : (a : Bool) → is_utf8 text ≡ a → false ≡ is_utf8 text
    go true e = absurd (fails (IsUtf8-from_is_utf8 text e))
    go false e = sym e

pub returns-in-Err : goal.returns-in-Err
returns-in-Err c = none c.args.text.now c.in-Err.ensures.cases.0
