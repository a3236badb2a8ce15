-- The lines of functions.
use Rattle.std.proofs.Common.{◌≡◌, ◌≢◌, ℕ, List, [], ◌∷◌, ◌++◌, length, slice_index, codes, Option, Some, None, refl, sym, ◌∙◌, ap, append_assoc, arith}
use Rattle.std.proofs.lemmas.List.{append-nil}
use Rattle.evo_first_form.specs.declared.Access.TheVariants as is
use Rattle.evo_first_form.specs.declared.Access.{Access}
use Rattle.evo_first_form.specs.declared.Term.{Term}
use Rattle.evo_first_form.specs.declared.Declaration.{Declaration}
use Rattle.evo_first_form.specs.Interface.{declarations_of}
use Rattle.evo_iface.specs.Text.{IsPlain, IsPlainTerm, IsPlainBody, ArePlain, function_text, functions_text}
use Rattle.evo_iface.specs.Fronts.{IsBetween, IsInlinable, IsFront}

pub not_empty : (xs : List ℕ) → length xs ≢ 0 → xs ≢ []
not_empty xs some e = some (ap length e)

pub is_empty : (xs : List ℕ) → length xs ≡ 0 → xs ≡ []
is_empty [] e = refl
is_empty (x ∷ xs) e = absurd (omega arith)

-- pieces and the rest
pub three : (a n b rest : List ℕ) → (a ++ (n ++ b)) ++ rest ≡ a ++ (n ++ (b ++ rest))
three a n b rest = simp append_assoc

pub five : (a n b t c rest : List ℕ) → (a ++ (n ++ (b ++ (t ++ c)))) ++ rest ≡ a ++ (n ++ (b ++ (t ++ (c ++ rest))))
five a n b t c rest = simp append_assoc

-- A name between two texts, a term, and a third text.
module _ (text a b c name rest : List ℕ) where
  abbrev all : List ℕ → List ℕ → List ℕ → List ℕ
  all m t more = (a ++ (m ++ (b ++ (t ++ c)))) ++ more

  pub no_name : ((m more : List ℕ) → IsPlain (slice_index b 0) m → text ≡ a ++ (m ++ (b ++ more)) → ⊥) → (m t more : List ℕ) → IsPlain (slice_index b 0) m → text ≡ all m t more → ⊥
  no_name none m t more plain e = none m (t ++ (c ++ more)) plain (e ∙ five a m b t c more)

  module _ (named : IsBetween a b text name rest) where
    pub name_is : (m t more : List ℕ) → IsPlain (slice_index b 0) m → text ≡ all m t more → (m ≡ name) × (rest ≡ t ++ (c ++ more))
    name_is m t more plain e = let is = named.only m (t ++ (c ++ more)) plain (e ∙ five a m b t c more) in (is.0, sym is.1)

    pub no_line : ((m more : List ℕ) → IsPlain (slice_index c 0) m → rest ≡ m ++ (c ++ more) → ⊥) → (m t more : List ℕ) → IsPlain (slice_index b 0) m → IsPlain (slice_index c 0) t → text ≡ all m t more → ⊥
    no_line none m t more plain line e = none t more line (name_is m t more plain e).1

    module _ (line behind : List ℕ) (lined : IsBetween [] c rest line behind) where
      pub line_is : (m t more : List ℕ) → IsPlain (slice_index b 0) m → IsPlain (slice_index c 0) t → text ≡ all m t more → (m ≡ name) × (t ≡ line) × (more ≡ behind)
      line_is m t more plain term e =
          let is = name_is m t more plain e in
          let then = lined.only t more term is.1 in
          (is.0, then.0, then.1)

      pub all_is : (t : List ℕ) → line ≡ t → text ≡ all name t behind
      all_is t e = named.whole ∙ ap (λ (l : List ℕ). a ++ (name ++ (b ++ l))) (lined.whole ∙ ap (λ (l : List ℕ). l ++ (c ++ behind)) e) ∙ sym (five a name b t c behind)

-- the lines of an inlinable function begin with another byte than those of others
apart : (xs ys : List ℕ) → 64 ∷ xs ≡ 112 ∷ ys → ⊥
apart xs ys e = absurd cc

-- The function at the front of a text.
module _ (text : List ℕ) where
  -- one with a body to copy
  pub front_inlinable : (name : List ℕ) (body : Term) (rest : List ℕ) → IsInlinable text name body rest → IsFront text name (Some body) rest
  front_inlinable name body rest found = record { whole = found.whole; only = only }
    where
      only : (m : List ℕ) (b : Option Term) (more : List ℕ) → IsPlain 40 m → IsPlainBody b → text ≡ function_text m b ++ more → (m ≡ name) × (b ≡ Some body) × (more ≡ rest)
      only m None more plain term e = absurd (apart _ _ (sym found.whole ∙ e))
      only m (Some b) more plain term e = let is = found.only m b more plain term e in (is.0, ap Some is.1, is.2)

  module _ (none : (m : List ℕ) (b : Term) (more : List ℕ) → IsPlain 40 m → IsPlainTerm b → text ≡ function_text m (Some b) ++ more → ⊥) where
    -- one without
    pub front_public : (name rest : List ℕ) → IsBetween (codes "public func ") (codes "() -> Swift.Int\n") text name rest → IsFront text name None rest
    front_public name rest found = record { whole = found.whole ∙ sym (three (codes "public func ") name (codes "() -> Swift.Int\n") rest); only = only }
      where
        only : (m : List ℕ) (b : Option Term) (more : List ℕ) → IsPlain 40 m → IsPlainBody b → text ≡ function_text m b ++ more → (m ≡ name) × (b ≡ None) × (more ≡ rest)
        only m None more plain term e = let is = found.only m more plain (e ∙ three (codes "public func ") m (codes "() -> Swift.Int\n") more) in (is.0, refl, is.1)
        only m (Some b) more plain term e = absurd (none m b more plain term e)

    -- none of either
    pub no_front : ((m more : List ℕ) → IsPlain 40 m → text ≡ codes "public func " ++ (m ++ (codes "() -> Swift.Int\n" ++ more)) → ⊥) → (m : List ℕ) (b : Option Term) (more : List ℕ) → IsPlain 40 m → IsPlainBody b → text ≡ function_text m b ++ more → ⊥
    no_front other m None more plain term e = other m more plain (e ∙ three (codes "public func ") m (codes "() -> Swift.Int\n") more)
    no_front other m (Some b) more plain term e = none m b more plain term e

-- no lines of a function are empty
some_text : (name : List ℕ) (body : Option Term) (rest : List ℕ) → [] ≡ function_text name body ++ rest → ⊥
some_text name None rest e = absurd cc
some_text name (Some body) rest e = absurd cc

made : (name : List ℕ) (body : Option Term) (other : List ℕ) (other_body : Option Term) → name ≡ other → body ≡ other_body → ◌≡◌ {A = Declaration} (record { name = name; body = body }) (record { name = other; body = other_body })
made name body other other_body p q = cc

-- a text that is not empty and has no function at its front is no functions
pub no_functions : (text : List ℕ) (ds : List Declaration) → text ≢ [] → ((m : List ℕ) (b : Option Term) (more : List ℕ) → IsPlain 40 m → IsPlainBody b → text ≡ function_text m b ++ more → ⊥) → ArePlain ds → text ≡ functions_text ds → ⊥
no_functions text [] some none plain e = some e
no_functions text (d ∷ ds) some none plain e = none d.name d.body (functions_text ds) plain.0 plain.1 e

-- the functions of a text that is not empty begin with that at its front
pub first_function : (text : List ℕ) (found : Declaration) (rest : List ℕ) (ds : List Declaration) → text ≢ [] → IsFront text found.name found.body rest → ArePlain ds → text ≡ functions_text ds → (more : List Declaration) × (ds ≡ found ∷ more) × ArePlain more × (rest ≡ functions_text more)
first_function text found rest [] some front plain e = absurd (some e)
first_function text found rest (d ∷ ds) some front plain e =
    let is = front.only d.name d.body (functions_text ds) plain.0 plain.1 e in
    let same : d ≡ found = made d.name d.body found.name found.body is.0 is.1 in
    (ds, ap (λ (m : Declaration). m ∷ ds) same, plain.2, sym is.2)

-- an empty text has no functions
pub empty_functions : (ds : List Declaration) → [] ≡ functions_text ds → ds ≡ []
empty_functions [] e = refl
empty_functions (d ∷ ds) e = absurd (some_text d.name d.body (functions_text ds) e)

-- the lines of a function that clients see
module _ (name : List ℕ) (body : Term) where
  pub public_text : (access : Access) → access ≡ is.Public → functions_text (declarations_of (record { access = access; name = name; body = body } ∷ [])) ≡ function_text name None
  public_text is.Internal e = absurd cc
  public_text is.Public e = append-nil (function_text name None)
  public_text is.Inlinable e = absurd cc

  pub inlinable_text : (access : Access) → access ≡ is.Inlinable → functions_text (declarations_of (record { access = access; name = name; body = body } ∷ [])) ≡ function_text name (Some body)
  inlinable_text is.Internal e = absurd cc
  inlinable_text is.Public e = absurd cc
  inlinable_text is.Inlinable e = append-nil (function_text name (Some body))

-- a name between two texts, a term and a third text, behind what was written
pub written : (text a n b t c one two end : List ℕ) → one ≡ text ++ (a ++ (n ++ b)) → two ≡ one ++ t → end ≡ two ++ c → end ≡ text ++ (a ++ (n ++ (b ++ (t ++ c))))
written text a n b t c one two end p q r =
    let joined : ((text ++ (a ++ (n ++ b))) ++ t) ++ c ≡ text ++ (a ++ (n ++ (b ++ (t ++ c)))) = simp append_assoc in
    r ∙ ap (λ (l : List ℕ). l ++ c) (q ∙ ap (λ (l : List ℕ). l ++ t) p) ∙ joined
