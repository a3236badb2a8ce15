-- That a text has one cut or one fault, and how a cut goes on from its front.
use Rattle.std.proofs.Common.{◌≡◌, ℕ, List, [], ◌∷◌, ◌++◌, take, drop, Option, Some, None, refl, sym, ◌∙◌, ap, subst, arith}
use Rattle.std.specs.Str.{IsUtf8, chars}
use Rattle.std.specs.Str.Lossy.{utf8_valid_len}
use Rattle.std.proofs.lemmas.Str.{utf8_valid_len-IsUtf8}
use Rattle.std.proofs.lemmas.List.{take_all}
use Rattle.evo_base.specs.declared.place.Place.{Place}
use Rattle.evo_base.specs.declared.fault_kind.FaultKind.{FaultKind}
use Rattle.evo_base.specs.declared.token.Token.{Token}
use Rattle.evo_lex.specs.declared.spot.Position.{Position}
use Rattle.evo_lex.specs.declared.front.Front.{Front}
use Rattle.evo_lex.specs.declared.front.Front.TheVariants as front
use Rattle.evo_lex.specs.Front.{front_of}
use Rattle.evo_lex.specs.Tokenization.{Tokenization, CutFrom, BadFrom, IsFault, origin, beyond, tokens_of, token_between, front_chars}
use Rattle.evo_lex.specs.Tokenization.CutFrom.{ended, white, token}
use Rattle.evo_lex.specs.Tokenization.BadFrom.{bad, past}
use Rattle.evo_lex.specs.Tokenization.IsFault.{bad_token, not_utf8}

front_nil : front_of [] ≡ None
unfolding front_of
front_nil = refl

none_is : (p : Front × ℕ) (f : Option (Front × ℕ)) → f ≡ None → f ≡ Some p → ⊥
none_is p f a b = let e = sym a ∙ b in absurd cc

pair_is : (p q : Front × ℕ) → Some p ≡ Some q → p ≡ q
pair_is p q e = cc

-- what is cut behind the front
abbrev Behind : Position → List ℕ → List Token → Front × ℕ → Type 0
Behind s text tokens p = (rest : List Token) × (tokens ≡ tokens_of p.0 s (beyond (take p.1 text) s) ++ rest) × CutFrom (beyond (take p.1 text) s) (drop p.1 text) rest

-- a cut goes over the front
pub cut_on : {s : Position} {n : ℕ} {f : Front} {text : List ℕ} {rest : List Token} → front_of text ≡ Some (f, n) → CutFrom (beyond (take n text) s) (drop n text) rest →
    CutFrom s text (tokens_of f s (beyond (take n text) s) ++ rest)
cut_on {f = front.White} e rest = white e rest
cut_on {f = front.Token k} e rest = token e rest

pub cut_behind : {s : Position} {n : ℕ} {f : Front} {text : List ℕ} {tokens : List Token} → front_of text ≡ Some (f, n) → CutFrom s text tokens → Behind s text tokens (f, n)
cut_behind e ended = absurd (none_is _ _ front_nil e)
cut_behind {s} {n} {f} {text} e (white {n = m} {tokens} g rest) = subst (Behind s text tokens) (pair_is (front.White, m) (f, n) (sym g ∙ e)) (tokens, refl, rest)
cut_behind {s} {n} {f} {text} e (token {n = m} {k} {tokens} g rest) =
    subst (Behind s text (token_between k s (beyond (take m text) s) ∷ tokens)) (pair_is (front.Token k, m) (f, n) (sym g ∙ e)) (tokens, refl, rest)

cut_nil : {s : Position} {tokens : List Token} → CutFrom s [] tokens → tokens ≡ []
cut_nil ended = refl
cut_nil (white e rest) = absurd (none_is _ _ front_nil e)
cut_nil (token e rest) = absurd (none_is _ _ front_nil e)

pub one_cut_from : {s : Position} {text : List ℕ} {a b : List Token} → CutFrom s text a → CutFrom s text b → a ≡ b
one_cut_from ended cb = sym (cut_nil cb)
one_cut_from (white e rest) cb = let t = cut_behind e cb in one_cut_from rest t.2 ∙ sym t.1
one_cut_from {s} (token {n} {k} {text} e rest) cb =
    let t = cut_behind e cb in ap (λ (ts : List Token). token_between k s (beyond (take n text) s) ∷ ts) (one_cut_from rest t.2) ∙ sym t.1

-- where nothing stands at the front, no cut goes on
cut_none : {s : Position} {c : ℕ} {text : List ℕ} {tokens : List Token} → front_of (c ∷ text) ≡ None → CutFrom s (c ∷ text) tokens → ⊥
cut_none none (white e rest) = none_is _ _ none e
cut_none none (token e rest) = none_is _ _ none e

pub bad_no_cut : {s : Position} {text : List ℕ} {place : Place} {tokens : List Token} → BadFrom s text place → CutFrom s text tokens → ⊥
bad_no_cut (bad none) cut = cut_none none cut
bad_no_cut (past e rest) cut = let t = cut_behind e cut in bad_no_cut rest t.2

abbrev BadBehind : Position → List ℕ → Place → Front × ℕ → Type 0
BadBehind s text place p = BadFrom (beyond (take p.1 text) s) (drop p.1 text) place

bad_behind : {s : Position} {n : ℕ} {f : Front} {text : List ℕ} {place : Place} → front_of text ≡ Some (f, n) → BadFrom s text place → BadBehind s text place (f, n)
bad_behind e (bad none) = absurd (none_is _ _ none e)
bad_behind {s} {n} {f} {text} {place} e (past {n = m} {f = g} e' rest) = subst (BadBehind s text place) (pair_is (g, m) (f, n) (sym e' ∙ e)) rest

bad_here : {s : Position} {c : ℕ} {text : List ℕ} {place : Place} → front_of (c ∷ text) ≡ None → BadFrom s (c ∷ text) place → s.place ≡ place
bad_here none (bad other) = refl
bad_here none (past e rest) = absurd (none_is _ _ none e)

one_bad : {s : Position} {text : List ℕ} {p q : Place} → BadFrom s text p → BadFrom s text q → p ≡ q
one_bad (bad none) other = bad_here none other
one_bad (past e rest) other = one_bad rest (bad_behind e other)

-- a text that is UTF-8 is the whole of its front
pub front_whole : (text : List ℕ) → IsUtf8 text → front_chars text ≡ chars text
front_whole text utf8 = ap chars (take_all (utf8_valid_len text) text (let e = utf8_valid_len-IsUtf8 text utf8 in omega arith))

pub one_cut : (text : List ℕ) (a b : List Token) → Tokenization text a → Tokenization text b → a ≡ b
one_cut text a b x y = one_cut_from x.cut y.cut

pub fault_no_cut : (text : List ℕ) (kind : FaultKind) (place : Place) (tokens : List Token) → IsFault text kind place → Tokenization text tokens → ⊥
fault_no_cut text kind place tokens (bad_token b) cut = bad_no_cut (subst (λ (cs : List ℕ). BadFrom origin cs place) (front_whole text cut.utf8) b) cut.cut
fault_no_cut text kind place tokens (not_utf8 fails other) cut = fails cut.utf8

pub one_fault : (text : List ℕ) (kind kind' : FaultKind) (place place' : Place) → IsFault text kind place → IsFault text kind' place' → (kind ≡ kind') × (place ≡ place')
one_fault text kind kind' place place' (bad_token b) (bad_token b') = (refl, one_bad b b')
one_fault text kind kind' place place' (bad_token b) (not_utf8 fails cut) = absurd (bad_no_cut b cut)
one_fault text kind kind' place place' (not_utf8 fails cut) (bad_token b) = absurd (bad_no_cut b cut)
one_fault text kind kind' place place' (not_utf8 fails cut) (not_utf8 fails' cut') = (refl, refl)
