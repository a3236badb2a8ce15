use Rattle.std.proofs.Common.{◌≡◌, length, ◌∙◌, ap, arith, rules}
use Rattle.std.specs.Str.{chars, encode_utf8_all}
use Rattle.std.proofs.lemmas.Str.{chars_from_encodes, encodes-chars}
use Rattle.evo_lex.specs.Tokenization.{origin}
use Rattle.evo_lex.proofs.Spots.{bytes}
use Rattle.evo_lex.proofs.lexer.characters.Goals as goal

pub returns-clause-characters : goal.returns-clause-characters
returns-clause-characters c = search (rules, chars_from_encodes)

pub returns-clause-room : goal.returns-clause-room
returns-clause-room c =
    let items = c.in_ok-collect.field-0.items in
    let same : items ≡ chars c.args.text.now = search (rules, chars_from_encodes) in
    let long : length (encode_utf8_all items) ≡ length c.args.text.now = ap (λ cs. length (encode_utf8_all cs)) same ∙ ap length (encodes-chars c.args.text.now c.utf8.text) in
    let at = bytes items origin in
    omega arith
