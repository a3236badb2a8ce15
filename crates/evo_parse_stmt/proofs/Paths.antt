-- The loop that reads the names of a path.
use Rattle.std.specs.Prelude.{◌≡◌, ℕ, ◌-◌, ◌+◌, ◌<◌, List, [], ◌∷◌, ◌++◌, length, Some, None, Result, Ok, Err, refl}
use Rattle.std.proofs.Common.{sym, subst}
use Rattle.evo_base.specs.declared.place.Place.{Place}
use Rattle.evo_combinators.specs.Reader.{Outcome, Fails, Reads, one, lead}
use Rattle.evo_combinators.specs.declared.ReadError.{ReadError}
use Rattle.evo_combinators.specs.declared.ReadError.TheVariants as errors
use Rattle.evo_combinators.proofs.Folds.{FoldAfter, fold_init, fold_none, fold_err, fold_more}
use Rattle.evo_tree.specs.declared.name.Identifier.{Identifier}
use Rattle.evo_tree.specs.declared.name.TypeName.{TypeName}
use Rattle.evo_tree.specs.declared.terminal.Terminal.TheVariants.{Dot}
use Rattle.evo_tree.specs.Pieces.{Piece, mark, identifier}
use Rattle.evo_tree.specs.Statements.{path_of}
use Rattle.evo_parse_stmt.specs.Read.{rest_of_path}

abbrev Names : Type 0
Names = List (List ℕ) × Identifier

abbrev path_by : Place → Names → List Identifier → TypeName × Identifier
path_by p s ns = path_of p s.0 s.1 ns

abbrev longer : Names → Identifier → Names
longer s n = (s.0 ++ s.1.text ∷ [], n)

-- what the rest of a path makes of the names before it
abbrev pub PathAfter : Place → ℕ → List (List ℕ) → Identifier → List Piece → Outcome Piece (TypeName × Identifier)
PathAfter p n names last ts = FoldAfter (mark Dot) (λ _. one identifier) (path_by p) longer (λ s b bs. refl) n (names, last) ts

pub path_init : (head : Place × List ℕ) (second : Identifier) (ts : List Piece) → rest_of_path head second ts ≡ PathAfter head.0 (length ts - 0) (head.1 ∷ []) second ts
path_init head second ts = fold_init (mark Dot) (λ _. one identifier) (path_by head.0) longer (λ s b bs. refl) (head.1 ∷ [], second) ts

pub path_more : (p : Place) (o : Outcome Piece (TypeName × Identifier)) (e i : ℕ) (names : List (List ℕ)) (last : Identifier) (ts : List Piece) → o ≡ PathAfter p (e - i) names last ts → i < e →
    (a : Place) (us : List Piece) (n : Identifier) (rest : List Piece) → lead (mark Dot) ts ≡ Some (a, us) → one identifier us ≡ Ok (n, rest) → o ≡ PathAfter p (e - (i + 1)) (names ++ last.text ∷ []) n rest
path_more p o e i names last ts is below a us n rest some good =
    fold_more (mark Dot) (λ _. one identifier) (path_by p) longer (λ s b bs. refl) o e i (names, last) ts is below a us n rest some good

module _ (p : Place) (o : Outcome Piece (TypeName × Identifier)) (e i : ℕ) (names : List (List ℕ)) (last : Identifier) (ts : List Piece) (is : o ≡ PathAfter p (e - i) names last ts) where
  pub path_none : i < e → lead (mark Dot) ts ≡ None → o ≡ Ok (path_of p names last [], ts)
  path_none below none = fold_none (mark Dot) (λ _. one identifier) (path_by p) longer (λ s b bs. refl) o e i (names, last) ts is below none

  pub path_fails : i < e → (a : Place) (us : List Piece) → lead (mark Dot) ts ≡ Some (a, us) → (d : ReadError) → Fails d (one identifier us) → Fails d o
  path_fails below a us some errors.Memory bad = tt
  path_fails below a us some (errors.Fault d) bad = fold_err (mark Dot) (λ _. one identifier) (path_by p) longer (λ s b bs. refl) o e i (names, last) ts is below a us d some bad

-- a reader whose error goes on as it is
pub reads_err : {A : Type 0} (o : Outcome Piece A) (r : Result A ReadError) (d : ReadError) (ts : List Piece) → r ≡ Err d → Fails d o → Reads o r ts
reads_err {A} o r d ts is fails = subst (λ (x : Result A ReadError). Reads o x ts) (sym is) fails
