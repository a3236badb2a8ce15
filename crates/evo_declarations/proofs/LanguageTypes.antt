-- The names of the language's types are UTF-8.
use Rattle.std.proofs.Common.{rules, ◌≡◌, Bool, true, false, ◌||◌, codes, refl, subst, sym}
use Rattle.std.specs.Str.{bytes_eq, is_utf8}
use Rattle.std.proofs.lemmas.Slice.Eq.{bytes_eq-Decides}
use Rattle.std.proofs.lemmas.Str.{is_utf8-from_IsUtf8}
use Rattle.evo_names.specs.Listed.{Text}
use Rattle.evo_names.specs.Heads.{is_language_type}

swift : is_utf8 (codes "Swift") ≡ true
swift = is_utf8-from_IsUtf8 (codes "Swift") (search rules)

int : is_utf8 (codes "Int") ≡ true
int = is_utf8-from_IsUtf8 (codes "Int") (search rules)

bool : is_utf8 (codes "Bool") ≡ true
bool = is_utf8-from_IsUtf8 (codes "Bool") (search rules)

string : is_utf8 (codes "String") ≡ true
string = is_utf8-from_IsUtf8 (codes "String") (search rules)

pub is_language : (n : Text) → n ≡ codes "Swift" → is_utf8 n ≡ true
is_language n e = subst (λ (t : Text). is_utf8 t ≡ true) (sym e) swift

one : (n m : Text) → is_utf8 m ≡ true → bytes_eq n m ≡ true → is_utf8 n ≡ true
one n m u e = subst (λ (t : Text). is_utf8 t ≡ true) (sym ((bytes_eq-Decides n m).0 e)) u

pub language_text : (n : Text) → is_language_type n ≡ true → is_utf8 n ≡ true
language_text n e = by (bytes_eq n (codes "Int")) (bytes_eq n (codes "Bool")) (bytes_eq n (codes "String")) refl refl refl e
  where
    by : (a b c : Bool) → bytes_eq n (codes "Int") ≡ a → bytes_eq n (codes "Bool") ≡ b → bytes_eq n (codes "String") ≡ c → (a || b || c) ≡ true → is_utf8 n ≡ true
    by true b c i j k t = one n (codes "Int") int i
    by false true c i j k t = one n (codes "Bool") bool j
    by false false true i j k t = one n (codes "String") string k
    by false false false i j k t = absurd cc
