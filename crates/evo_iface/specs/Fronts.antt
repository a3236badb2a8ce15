-- What stands at the front of a text that is read from the left.
use Rattle.std.specs.Prelude.{◌≡◌, ℕ, List, ◌++◌, Option, Some, None, not, ◌==◌, slice_index}
use Rattle.std.specs.List.{prefix_len}
use denote.Ref.{Bor}
use Rattle.evo_first_form.specs.declared.Term.{Term}
use Rattle.evo_first_form.specs.declared.Declaration.{Declaration}
use Rattle.evo_iface.specs.Text.{IsPlain, IsPlainTerm, IsPlainBody, ArePlain, term_text, function_text, functions_text}

-- how many bytes stand before the first such byte
abbrev pub length_before : ℕ → List ℕ → ℕ
length_before byte text = prefix_len (λ c. not (c == byte)) text

-- a text is this name between two texts and then the rest; the name goes up to the byte with which the second begins
pub record IsBetween (before behind text name rest : List ℕ) : Type 0 where
  pub whole : text ≡ before ++ (name ++ (behind ++ rest))
  pub only : (m more : List ℕ) → IsPlain (slice_index behind 0) m → text ≡ before ++ (m ++ (behind ++ more)) → (m ≡ name) × (more ≡ rest)

abbrev pub Between : List ℕ → List ℕ → List ℕ → Option (List ℕ × Bor (List ℕ)) → Type 0
Between before behind text None = (m more : List ℕ) → IsPlain (slice_index behind 0) m → text ≡ before ++ (m ++ (behind ++ more)) → ⊥
Between before behind text (Some (name, rest)) = IsBetween before behind text name rest.now

-- the term of a whole text
abbrev pub IsTerm : List ℕ → Option Term → Type 0
IsTerm text None = (t : Term) → IsPlainTerm t → text ≡ term_text t → ⊥
IsTerm text (Some found) = (text ≡ term_text found) × ((t : Term) → IsPlainTerm t → text ≡ term_text t → t ≡ found)

-- a text is the lines of this function and then the rest
pub record IsFront (text name : List ℕ) (body : Option Term) (rest : List ℕ) : Type 0 where
  pub whole : text ≡ function_text name body ++ rest
  pub only : (m : List ℕ) (b : Option Term) (more : List ℕ) → IsPlain 40 m → IsPlainBody b → text ≡ function_text m b ++ more → (m ≡ name) × (b ≡ body) × (more ≡ rest)

abbrev pub Front : List ℕ → Option (Declaration × Bor (List ℕ)) → Type 0
Front text None = (m : List ℕ) (b : Option Term) (more : List ℕ) → IsPlain 40 m → IsPlainBody b → text ≡ function_text m b ++ more → ⊥
Front text (Some (d, rest)) = IsFront text d.name d.body rest.now

-- a text is the lines of this function with a body to copy, and then the rest
pub record IsInlinable (text name : List ℕ) (body : Term) (rest : List ℕ) : Type 0 where
  pub whole : text ≡ function_text name (Some body) ++ rest
  pub only : (m : List ℕ) (b : Term) (more : List ℕ) → IsPlain 40 m → IsPlainTerm b → text ≡ function_text m (Some b) ++ more → (m ≡ name) × (b ≡ body) × (more ≡ rest)

abbrev pub Inlinable : List ℕ → Option (List ℕ × Term × Bor (List ℕ)) → Type 0
Inlinable text None = (m : List ℕ) (b : Term) (more : List ℕ) → IsPlain 40 m → IsPlainTerm b → text ≡ function_text m (Some b) ++ more → ⊥
Inlinable text (Some (name, body, rest)) = IsInlinable text name body rest.now

-- the functions of a whole text
abbrev pub Functions : List ℕ → Option (List Declaration) → Type 0
Functions text None = (ds : List Declaration) → ArePlain ds → text ≡ functions_text ds → ⊥
Functions text (Some found) = (text ≡ functions_text found) × ((ds : List Declaration) → ArePlain ds → text ≡ functions_text ds → ds ≡ found)
