use Rattle.std.proofs.Common.{◌≡◌, ℕ, List, sym, ◌∙◌, ap, subst, rules}
use Rattle.std.specs.Str.{IsUtf8}
use Rattle.std.proofs.lemmas.Result.{err_from_is_err_and}
use Rattle.evo_base.specs.declared.token.Token.{Token}
use Rattle.evo_base.specs.declared.fault_kind.FaultKind.{FaultKind}
use Rattle.evo_base.specs.declared.fault_kind.FaultKind.TheVariants.{BadToken}
use Rattle.evo_base.specs.declared.fault_kind.FaultKind.TheVariants as fault_kind
use Rattle.evo_lex.specs.declared.lexer.LexFault.{LexFault}
use Rattle.evo_lex.specs.declared.lexer.LexFault.TheVariants as fault
use Rattle.evo_lex.specs.declared.spot.Position.{Position}
use Rattle.evo_lex.specs.Fault.{OnBad}
use Rattle.evo_lex.specs.Tokenization.{CutFrom, BadFrom, IsFault, origin, beyond, front_chars}
use Rattle.evo_lex.specs.Tokenization.IsFault.{bad_token, not_utf8}
use Rattle.evo_lex.proofs.Cuts.{front_whole}
use Rattle.evo_lex.proofs.lexer.lex.Goals as goal

faulty : (text cs : List ℕ) (e : LexFault) → cs ≡ front_chars text → OnBad e (λ kind place. (kind ≡ BadToken) × BadFrom origin cs place) → OnBad e (IsFault text)
faulty text cs (fault.Bad kind place) same h =
    subst (λ (k : FaultKind). IsFault text k place) (sym h.0) (bad_token (subst (λ (cs : List ℕ). BadFrom origin cs place) same h.1))
faulty text cs fault.Memory same h = tt

undecoded : (text cs : List ℕ) (tokens : List Token) (end : Position) → cs ≡ front_chars text → (IsUtf8 text → ⊥) → CutFrom origin cs tokens → end ≡ beyond cs origin → IsFault text fault_kind.NotUtf8 end.place
undecoded text cs tokens end same fails cut e =
    let cut' : CutFrom origin (front_chars text) tokens = subst (λ (cs : List ℕ). CutFrom origin cs tokens) same cut in
    let end' : end ≡ beyond (front_chars text) origin = e ∙ ap (λ (cs : List ℕ). beyond cs origin) same in
    subst (λ (s : Position). IsFault text fault_kind.NotUtf8 s.place) (sym end') (not_utf8 fails cut')

pub returns-in_err-tokens-clause-bad : goal.returns-in_err-tokens-clause-bad
returns-in_err-tokens-clause-bad c =
    let p = err_from_is_err_and c.from_residual-in_err-tokens.result c.from_residual-in_err-tokens.ensures.1 in
    let same : c.deref.result.now ≡ front_chars c.args.text.now = search rules in
    let h = faulty c.args.text.now _ _ same c.in_err-tokens.ensures.bad in
    rw (p.1, p.2) h

pub returns-then-whole-clause-found : goal.returns-then-whole-clause-found
returns-then-whole-clause-found c =
    let same : c.deref.result.now ≡ front_chars c.args.text.now = search rules in
    let utf8 : IsUtf8 c.args.text.now = search rules in
    record {
      utf8 = utf8;
      cut = subst (λ (cs : List ℕ). CutFrom origin cs c.in_ok-tokens.tokens.items) (same ∙ front_whole c.args.text.now utf8) c.in_ok-tokens.ensures.found.0;
    }

pub returns-clause-bad : goal.returns-clause-bad
returns-clause-bad c =
    let same : c.deref.result.now ≡ front_chars c.args.text.now = search rules in
    let fails : IsUtf8 c.args.text.now → ⊥ = search rules in
    undecoded c.args.text.now _ _ _ same fails c.in_ok-tokens.ensures.found.0 c.in_ok-tokens.ensures.found.1
