-- The names and terms of a library that was read can be read again in its interface.
use Rattle.std.proofs.Common.{◌≡◌, ◌≢◌, ℕ, suc, ◌<◌, length, get_or, false, List, [], ◌∷◌, refl, arith}
use Rattle.std.specs.Prelude.{◌||◌, ◌==◌}
use Rattle.std.specs.Char.{is_ascii_alphanumeric}
use Rattle.evo_first_form.specs.declared.Access.{Access}
use Rattle.evo_first_form.specs.declared.Access.TheVariants as is
use Rattle.evo_first_form.specs.declared.Term.{Term}
use Rattle.evo_first_form.specs.declared.Term.TheVariants.{Integer, Call}
use Rattle.evo_first_form.specs.declared.Function.{Function}
use Rattle.evo_first_form.specs.Interface.{declarations_of, interface_of}
use Rattle.evo_lex.proofs.Identifiers.{identifier_lacks}
use Rattle.evo_first_form.specs.Words.{IsName}
use Rattle.evo_first_form.specs.Facts.{FunctionFacts, LibraryFacts, TermFacts}
use Rattle.evo_first_form.proofs.WordLemmas.{name_text, name_is}
use Rattle.evo_iface.specs.Text.{Lacks, IsPlain, IsPlainTerm, ArePlain, IsReadable}

lacks : (byte : ℕ) (xs : List ℕ) → ((i : ℕ) → i < length xs → get_or xs i 0 ≢ byte) → Lacks byte xs
lacks byte [] none = tt
lacks byte (c ∷ cs) none = (none 0 (omega arith), lacks byte cs (λ i lt. none (suc i) (omega arith)))

-- a name has no ASCII character with which no identifier goes on
plain_name : (byte : ℕ) → byte < 128 → (is_ascii_alphanumeric byte || (byte == 95)) ≡ false → (name : List ℕ) → IsName name → IsPlain byte name
plain_name byte low never name is =
    let utf8 = name_text name (name_is name is) in
    record { utf8 = utf8; lacks = lacks byte name (identifier_lacks byte low never name utf8 is.identifier) }

plain_term : (t : Term) → TermFacts t → IsPlainTerm t
plain_term (Integer n) lt = omega arith
plain_term (Call name) is = plain_name 10 (omega arith) refl name is

plain_functions : (fs : List Function) → LibraryFacts fs → ArePlain (declarations_of fs)
plain_functions [] facts = tt
plain_functions (f ∷ fs) facts =
    let fact : FunctionFacts f = facts 0 f (omega arith) in
    by f.access f.name f.body (plain_name 40 (omega arith) refl f.name fact.name) (plain_term f.body fact.body) (plain_functions fs (λ k d lt. facts (suc k) d (omega arith)))
  where
    by : (a : Access) (name : List ℕ) (body : Term) → IsPlain 40 name → IsPlainTerm body → ArePlain (declarations_of fs) → ArePlain (declarations_of (record { access = a; name = name; body = body } ∷ fs))
    by is.Internal name body plain term more = more
    by is.Public name body plain term more = (plain, tt, more)
    by is.Inlinable name body plain term more = (plain, term, more)

-- the interface of such a library
pub readable : (library : List ℕ) (fs : List Function) → IsPlain 32 library → LibraryFacts fs → IsReadable (interface_of library fs)
readable library fs plain facts = record { name = plain; functions = plain_functions fs facts }
