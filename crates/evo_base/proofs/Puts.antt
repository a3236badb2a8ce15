-- What a put leaves of each name.
use Rattle.std.proofs.Common.{◌≡◌, ◌≢◌, ℕ, Bool, true, false, List, [], ◌∷◌, refl, sym, ◌∙◌}
use Rattle.std.specs.Option.{option_map}
use Rattle.std.specs.Str.{bytes_eq}
use Rattle.std.proofs.lemmas.Slice.Eq.{bytes_eq-Decides}
use Rattle.evo_base.specs.MemFilesState.{StoredFile, put_entry, bytes_of, room_of, PutsTo}

same : (name bytes : List ℕ) (es : List StoredFile) → bytes_of name (put_entry name bytes es) ≡ option_map (λ (had : List ℕ). bytes) (bytes_of name es)
same name bytes [] = refl
same name bytes (x ∷ xs) =
    let at : (b : Bool) → bytes_eq x.name name ≡ b → bytes_of name (put_entry name bytes (x ∷ xs)) ≡ option_map (λ (had : List ℕ). bytes) (bytes_of name (x ∷ xs))
    = elim [ true ↦ λ is. simp is | false ↦ λ not. simp not (same name bytes xs) ] in
    at (bytes_eq x.name name) refl

-- two names are not both the entry's
apart : (mine name other : List ℕ) → other ≢ name → bytes_eq mine name ≡ true → bytes_eq mine other ≡ false
apart mine name other ne is =
    let at : (b : Bool) → bytes_eq mine other ≡ b → bytes_eq mine other ≡ false
    = elim [
      | true ↦ λ too. absurd (ne (sym ((bytes_eq-Decides mine other).0 too) ∙ (bytes_eq-Decides mine name).0 is))
      | false ↦ λ not. not
    ] in
    at (bytes_eq mine other) refl

others : (name bytes : List ℕ) (es : List StoredFile) (other : List ℕ) → other ≢ name → bytes_of other (put_entry name bytes es) ≡ bytes_of other es
others name bytes [] other ne = refl
others name bytes (x ∷ xs) other ne =
    let rest = others name bytes xs other ne in
    let tail : (b : Bool) → bytes_eq x.name other ≡ b → bytes_of other (x ∷ put_entry name bytes xs) ≡ bytes_of other (x ∷ xs)
    = elim [ true ↦ λ is. simp is | false ↦ λ not. simp not rest ] in
    let at : (b : Bool) → bytes_eq x.name name ≡ b → bytes_of other (put_entry name bytes (x ∷ xs)) ≡ bytes_of other (x ∷ xs)
    = elim [
      | true ↦ λ is. let no = apart x.name name other ne is in simp (is, no)
      | false ↦ λ not. simp not (tail (bytes_eq x.name other) refl)
    ] in
    at (bytes_eq x.name name) refl

rooms : (name bytes : List ℕ) (es : List StoredFile) (other : List ℕ) → room_of other (put_entry name bytes es) ≡ room_of other es
rooms name bytes [] other = refl
rooms name bytes (x ∷ xs) other =
    let rest = rooms name bytes xs other in
    let tail : (b : Bool) → bytes_eq x.name other ≡ b → room_of other (x ∷ put_entry name bytes xs) ≡ room_of other (x ∷ xs)
    = elim [ true ↦ λ is. simp is | false ↦ λ not. simp not rest ] in
    let head : (b : Bool) → bytes_eq x.name other ≡ b → room_of other (record x { bytes = bytes } ∷ xs) ≡ room_of other (x ∷ xs)
    = elim [ true ↦ λ is. simp is | false ↦ λ not. simp not ] in
    let at : (b : Bool) → bytes_eq x.name name ≡ b → room_of other (put_entry name bytes (x ∷ xs)) ≡ room_of other (x ∷ xs)
    = elim [
      | true ↦ λ is. simp is (head (bytes_eq x.name other) refl)
      | false ↦ λ not. simp not (tail (bytes_eq x.name other) refl)
    ] in
    at (bytes_eq x.name name) refl

pub puts_to : (name bytes : List ℕ) (es : List StoredFile) → PutsTo es (put_entry name bytes es) name bytes
puts_to name bytes es = record { entries = refl; content = same name bytes es; others = others name bytes es; rooms = rooms name bytes es }
