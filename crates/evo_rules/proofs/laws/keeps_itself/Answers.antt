use Rattle.std.proofs.Common.{◌≡◌, ℕ, suc, List, [], ◌∷◌, ◌++◌, Bool, true, false, Option, Some, None, refl, subst, append_assoc}
use Rattle.std.specs.Prelude.{filter, not, is_some, if◌then◌else◌}
use Rattle.std.specs.Option.{option_map}
use Rattle.std.specs.Str.{bytes_eq}
use Rattle.std.proofs.lemmas.Slice.Eq.{bytes_eq-Decides}
use Rattle.evo_base.specs.Names.{position_of}
use Rattle.evo_first_form.specs.Interface.{declared_names}
use Rattle.evo_rules.proofs.laws.keeps_itself.Goals as goal

some_later : (o : Option ℕ) → is_some o ≡ true → is_some (option_map suc o) ≡ true
some_later None e = e
some_later (Some n) e = refl

same : (x : List ℕ) → bytes_eq x x ≡ true
same x = (bytes_eq-Decides x x).1 refl

-- a name is found among names that have it
found : (x : List ℕ) (front xs : List (List ℕ)) → is_some (position_of x (front ++ x ∷ xs)) ≡ true
found x [] xs = rw (same x) refl
found x (y ∷ front) xs = at (bytes_eq x y) (found x front xs)
  where
    at : (b : Bool) → is_some (position_of x (front ++ x ∷ xs)) ≡ true → is_some (if b then Some 0 else option_map suc (position_of x (front ++ x ∷ xs))) ≡ true
    at true e = refl
    at false e = some_later (position_of x (front ++ x ∷ xs)) e

none_missing : (front xs : List (List ℕ)) → filter (λ name. not (is_some (position_of name (front ++ xs)))) xs ≡ []
none_missing front [] = refl
none_missing front (x ∷ xs) =
    let among : List (List ℕ) → Type 0 = λ names. filter (λ name. not (is_some (position_of name names))) xs ≡ [] in
    rw (found x front xs) (subst among (append_assoc front (x ∷ []) xs) (none_missing (front ++ x ∷ []) xs))

pub returns : goal.returns
returns c interface = none_missing [] (declared_names interface.functions)
