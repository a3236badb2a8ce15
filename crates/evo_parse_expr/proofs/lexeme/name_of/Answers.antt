use Rattle.std.proofs.Common.{◌≡◌, ℕ, Bool, true, false, List, Some, None, refl, sym, ◌∙◌, ap, rules}
use Rattle.std.specs.Str.{IsUtf8, is_utf8}
use Rattle.std.proofs.lemmas.Str.{IsUtf8-from_is_utf8, is_utf8-from_IsUtf8}
use Rattle.evo_lex.specs.Front.{when}
use Rattle.evo_parse_expr.proofs.lexeme.name_of.Goals as goal

pub returns-in_ok-to_vec-in-Ok : goal.returns-in_ok-to_vec-in-Ok
returns-in_ok-to_vec-in-Ok c =
    let items : c.from_vec.result ≡ c.args.text.now = search rules in
    let utf8 = is_utf8-from_IsUtf8 c.args.text.now c.in-Ok.ensures.cases.1 in
    ap (λ (t : List ℕ). Some t) items ∙ ap (λ b. when b c.args.text.now) (sym utf8)

none : (text : List ℕ) → (IsUtf8 text → ⊥) → None ≡ when (is_utf8 text) text
none text fails = go (is_utf8 text) refl
  where
    go : (a : Bool) → is_utf8 text ≡ a → None ≡ when a text
    go true e = absurd (fails (IsUtf8-from_is_utf8 text e))
    go false e = refl

pub returns-in-Err : goal.returns-in-Err
returns-in-Err c = none c.args.text.now c.in-Err.ensures.cases.0
