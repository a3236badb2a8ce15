-- What the names of modules are made of.
use Rattle.std.proofs.Common.{◌≡◌, ◌≢◌, ℕ, ◌<◌, length, get_or, Bool, true, false, not, List, refl, sym, arith}
use Rattle.std.specs.Prelude.{◌↔◌, IsTrue, codes}
use Rattle.std.specs.List.{Contains}
use Rattle.std.specs.Str.{IsUtf8, bytes_eq}
use Rattle.evo_base.specs.Keywords.{is_keyword}
use Rattle.std.proofs.lemmas.Slice.Eq.{bytes_eq-Decides}
use Rattle.evo_lex.specs.Identifier.{is_identifier}
use Rattle.evo_lex.proofs.Identifiers.{identifier_says, identifier_is, identifier_lacks}
use Rattle.evo_lex.specs.ModuleName.{taken, is_taken, IsModule}
use Rattle.evo_base.proofs.KeywordLemmas.{any_contains, contains_any, keyword_says, keyword_is, is_true}
use Rattle.evo_lex.proofs.Bytes.{unequal}

-- a look through the taken words finds a word that is among them, and no other
pub taken_says : (word : List ℕ) → is_taken word ≡ true → Contains taken word
unfolding is_taken
taken_says word e = any_contains taken word e

pub taken_is : (word : List ℕ) → Contains taken word → is_taken word ≡ true
unfolding is_taken
taken_is word k = contains_any taken word k

-- no byte of a module's name is a space
pub no_space : (name : List ℕ) → IsUtf8 name → IsModule name → (i : ℕ) → i < length name → get_or name i 0 ≢ 32
no_space name utf8 is i lt = identifier_lacks 32 (omega arith) refl name utf8 is.identifier i lt

-- what is no identifier, `_` alone and a keyword name no module
no_module : (name : List ℕ) → (IsModule name → ⊥) → IsTrue false ↔ IsModule name
no_module name none = (λ t. absurd cc, λ m. absurd (none m))

pub other_names_none : (name : List ℕ) → is_identifier name ≡ false → IsTrue false ↔ IsModule name
other_names_none name e = no_module name (λ m. let is = identifier_is name m.identifier in absurd cc)

pub blank_names_none : (name : List ℕ) → bytes_eq name (codes "_") ≡ true → IsTrue false ↔ IsModule name
blank_names_none name e = no_module name (λ m. m.no_blank ((bytes_eq-Decides name (codes "_")).0 e))

pub keyword_names_none : (name : List ℕ) → is_keyword name ≡ true → IsTrue false ↔ IsModule name
keyword_names_none name e = no_module name (λ m. m.no_keyword (keyword_says name e))

-- the last test says whether a name that passes the other tests may name a module
pub module_iff : (name : List ℕ) (found : Bool) → is_identifier name ≡ true → bytes_eq name (codes "_") ≡ false
    → is_keyword name ≡ false → found ≡ is_taken name → IsTrue (not found) ↔ IsModule name
module_iff name true identifier blank keyword is = (λ t. absurd cc, λ m. absurd (m.not_taken (taken_says name (sym is))))
module_iff name false identifier blank keyword is = (
  λ t. record {
    identifier = identifier_says name identifier;
    no_blank = λ e. unequal name (codes "_") blank e;
    no_keyword = λ word. let found = keyword_is name word in absurd cc;
    not_taken = λ word. let found = taken_is name word in absurd cc;
  },
  λ m. is_true true refl,
)
