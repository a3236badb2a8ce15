-- What the test of an identifier says.
use Rattle.std.proofs.Common.{◌≡◌, ℕ, ◌<◌, length, get_or, Bool, true, false, not, List, [], ◌∷◌, sym, ◌∙◌, ap, subst, arith}
use Rattle.std.specs.Prelude.{◌≢◌, ◌||◌, ◌==◌}
use Rattle.std.specs.List.{list_all}
use Rattle.std.specs.Str.{IsUtf8, chars, NonePass, NoCharPasses}
use Rattle.std.proofs.lemmas.Bool.{and_parts, and_from}
use Rattle.std.proofs.lemmas.Str.{encodes-chars, NoCharPasses-byte}
use Rattle.std.specs.Char.{is_ascii_alphanumeric}
use Rattle.unicode_ident.specs.Ident.{is_xid_continue}
use Rattle.unicode_ident.proofs.IdentLemmas.{is_xid_continue-ascii}
use Rattle.evo_lex.specs.Identifier.{begins_well, is_identifier, IsIdentifier}

pub identifier_says : (word : List ℕ) → is_identifier word ≡ true → IsIdentifier word
unfolding is_identifier
identifier_says word e = let both = and_parts (begins_well (chars word)) (list_all is_xid_continue (chars word)) e in record { begins = both.0; goes_on = both.1 }

pub identifier_is : (word : List ℕ) → IsIdentifier word → is_identifier word ≡ true
unfolding is_identifier
identifier_is word i = and_from (begins_well (chars word)) (list_all is_xid_continue (chars word)) i.begins i.goes_on

-- where each character passes a test, none passes its opposite
none_fails : (test : ℕ → Bool) (cs : List ℕ) → list_all test cs ≡ true → NonePass (λ (c : ℕ). not (test c)) cs
none_fails test [] e = tt
none_fails test (c ∷ cs) e =
    let both = and_parts (test c) (list_all test cs) e in
    (ap not both.0, none_fails test cs both.1)

-- no byte of an identifier is an ASCII character with which none goes on
pub identifier_lacks : (byte : ℕ) → byte < 128 → (is_ascii_alphanumeric byte || (byte == 95)) ≡ false → (word : List ℕ) → IsUtf8 word → IsIdentifier word → (i : ℕ) → i < length word → get_or word i 0 ≢ byte
identifier_lacks byte low never word utf8 is i lt e =
    let none : NoCharPasses (λ (c : ℕ). not (is_xid_continue c)) word = (chars word, encodes-chars word utf8, none_fails is_xid_continue (chars word) is.goes_on) in
    let fails : not (is_xid_continue (get_or word i 0)) ≡ false = NoCharPasses-byte (λ (c : ℕ). not (is_xid_continue c)) word i none lt (omega (arith, e)) in
    let at : not (is_xid_continue byte) ≡ false = subst (λ (b : ℕ). not (is_xid_continue b) ≡ false) e fails in
    let false_true : true ≡ false = sym (ap not (is_xid_continue-ascii byte low ∙ never)) ∙ at in
    absurd cc
