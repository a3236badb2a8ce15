use Rattle.std.proofs.Common.{◌≡◌, ℕ, List, sym, subst, rules}
use Rattle.evo_base.specs.declared.place.Place.{Place}
use Rattle.evo_base.specs.declared.fault_kind.FaultKind.TheVariants as kind
use Rattle.evo_base.specs.declared.token.Token.{Token}
use Rattle.evo_lex.specs.Tokenization as cut
use Rattle.evo_lex.specs.Tokenization.{Tokenization}
use Rattle.evo_lex.specs.Fault.{OnBad}
use Rattle.evo_lex.specs.declared.lexer.LexFault.{LexFault}
use Rattle.evo_tree.specs.declared.module.Form.{Form}
use Rattle.evo_tree.specs.declared.module.SourceFault.{SourceFault}
use Rattle.evo_parse_expr.specs.declared.parse.ParseFault.{ParseFault}
use Rattle.evo_parse_expr.specs.declared.parse.ParseFault.TheVariants as parsing
use Rattle.evo_parse.specs.declared.text.TextFault.TheVariants as fault
use Rattle.evo_parse.specs.Contract.{IsFault}
use Rattle.evo_parse.specs.Text.{IsTextFault, IsUnread, lexical, refused, deep}
use Rattle.evo_parse.proofs.text.read_module.Goals as goal

-- faults of tokens are faults of their text
of_tokens : (text : List ℕ) (tokens : List Token) (f : Form) (p : Place) → Tokenization text tokens → IsFault text tokens f (parsing.Grammar p) → IsTextFault text f (record { kind = kind.Grammar; place = p })
of_tokens text tokens f p whole (end, is, at) = subst (λ q. IsTextFault text f (record { kind = kind.Grammar; place = q })) (sym at) (refused whole is)

of_depth : (text : List ℕ) (tokens : List Token) (f : Form) (p : Place) → Tokenization text tokens → IsFault text tokens f (parsing.Deep p) → IsTextFault text f (record { kind = kind.Deep; place = p })
of_depth text tokens f p whole (end, is, at) = subst (λ q. IsTextFault text f (record { kind = kind.Deep; place = q })) (sym at) (deep whole is)

pub returns-in-Err-Bad-clause-fault : goal.returns-in-Err-Bad-clause-fault
returns-in-Err-Bad-clause-fault c =
    let text = c.args.text.now in
    let form = c.args.form in
    let found : SourceFault = record { kind = c.in-Err-Bad.kind; place = c.in-Err-Bad.place } in
    let bad : cut.IsFault text found.kind found.place = subst (λ (e : LexFault). OnBad e (cut.IsFault text)) c.in-Err-Bad.field-0-is c.in-Err-Bad.ensures.bad in
    let is : c.refused.result ≡ fault.Refused found = search rules in
    subst (IsUnread text form) (sym is) (lexical bad)

pub returns-in-Err-Grammar-clause-fault : goal.returns-in-Err-Grammar-clause-fault
returns-in-Err-Grammar-clause-fault c =
    let text = c.args.text.now in
    let form = c.args.form in
    let tokens = c.deref.result.now in
    let whole : Tokenization text tokens = subst (Tokenization text) (sym c.deref.ensures.value) c.in-Ok.ensures.found in
    let bad = subst (λ (e : ParseFault). IsFault text tokens form e) c.in-Err-Grammar.field-0-is c.in-Err-Grammar.ensures.fault in
    subst (IsUnread text form) (sym c.refused-in-Err-Grammar.ensures) (of_tokens text tokens form c.in-Err-Grammar.place whole bad)

pub returns-in-Err-Deep-clause-fault : goal.returns-in-Err-Deep-clause-fault
returns-in-Err-Deep-clause-fault c =
    let text = c.args.text.now in
    let form = c.args.form in
    let tokens = c.deref.result.now in
    let whole : Tokenization text tokens = subst (Tokenization text) (sym c.deref.ensures.value) c.in-Ok.ensures.found in
    let bad = subst (λ (e : ParseFault). IsFault text tokens form e) c.in-Err-Deep.field-0-is c.in-Err-Deep.ensures.fault in
    subst (IsUnread text form) (sym c.refused-in-Err-Deep.ensures) (of_depth text tokens form c.in-Err-Deep.place whole bad)
