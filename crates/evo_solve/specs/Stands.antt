-- What a type of a signature stands for where types are put for its parameters, and whether an `==` is fulfilled there.
use Rattle.std.specs.Prelude.{◌≡◌, ℕ, List, [], ◌∷◌, ◌++◌, Some, IsTrue, slice_get}
use Rattle.evo_base.specs.declared.key.Key.{Key}
use Rattle.evo_resolved.specs.declared.resolved_type.RType.{RType}
use Rattle.evo_resolved.specs.declared.resolved_type.RType.TheVariants as ty
use Rattle.evo_resolved.specs.declared.declaration.RRequirement.{RRequirement}
use Rattle.evo_resolved.specs.declared.declaration.RRequirement.TheVariants as requirement
use Rattle.evo_resolved.specs.declared.declaration.Signature.{Signature}
use Rattle.evo_names.specs.Listed.{Text, World}
use Rattle.evo_names.specs.Heads.{is_among, top_view}
use Rattle.evo_names.specs.Written.{Start, associated_type}
use Rattle.evo_names.specs.Written as written
use Rattle.evo_solve.specs.declared.path.Path.{Path}
use Rattle.evo_solve.specs.declared.path.Word.{Word}
use Rattle.evo_solve.specs.declared.declarations.Declarations.{Declarations}
use Rattle.evo_solve.specs.Equal.{Equal, alone, parameter, path_of, taken}
use Rattle.evo_solve.specs.Canonical.{IsNamed, IsCanonical}
use Rattle.evo_solve.specs.Words.{table_words}
use Rattle.evo_solve.specs.Ways.{IsNumber, Leads}

-- a signature requires of a path that it conforms to a protocol: by a conformance that it requires, what that inherits and constrains, and its `==`
pub record Requires (d : Declarations) (s : Signature) (p : Path) (protocol : Key) : Type 0 where
  pub number : ℕ
  pub word : Word
  pub at : slice_get (table_words s) number ≡ Some word
  pub first : ℕ
  pub last : ℕ
  pub steps : List ℕ
  pub names : List Key
  pub end : Path
  pub first_is : IsNumber d.protocols word.protocol first
  pub last_is : IsNumber d.protocols protocol last
  pub leads : Leads d.protocols (path_of word.subject) first steps names end last
  pub equal : Equal s.requirements end p

-- they are all that is required of the path
pub record AreRequired (d : Declarations) (s : Signature) (p : Path) (protocols : List Key) : Type 0 where
  pub each : (k : Key) → Requires d s p k → IsTrue (is_among k protocols)
  pub only : (i : ℕ) (k : Key) → slice_get protocols i ≡ Some k → Requires d s p k

-- The associated type of what takes the place of a path. That of a named type is taken of its declared conformances to the protocols that are required there, and has none where there is no such conformance.
abbrev pub TakenOf : World → Declarations → Signature → Path → RType → Text → RType → Type 0
TakenOf w d s p (ty.Param i) n u = u ≡ ty.Assoc i (n ∷ [])
TakenOf w d s p (ty.Assoc i ns) n u = u ≡ ty.Assoc i (ns ++ n ∷ [])
TakenOf w d s p (ty.Named k) n u = (protocols : List Key) × AreRequired d s p protocols × (x : Start) × (associated_type w protocols k n ≡ Some x) × (met : List Key) × written.Leads w (top_view w) x [] met u
TakenOf w d s p ty.NoValue n u = ⊥

-- what a path over the parameters of a signature is, where these types take their place
pub data Becomes (w : World) (d : Declarations) (s : Signature) (types : List RType) : Path → RType → Type 0 where
  stays : {t : RType} → IsNamed t → Becomes w d s types (alone t) t
  given : {t : RType} (i : ℕ) → slice_get types i ≡ Some t → Becomes w d s types (parameter i []) t
  further : {p : Path} {t u : RType} (n : Text) → Becomes w d s types p t → TakenOf w d s p t n u → Becomes w d s types (taken p n) u

-- what a type stands for at a use: the canonical type, under the requirements round the use
pub record StandsFor (w : World) (d : Declarations) (s : Signature) (types : List RType) (around : List RRequirement) (t u : RType) : Type 0 where
  pub plain : RType
  pub becomes : Becomes w d s types (path_of t) plain
  pub canonical : IsCanonical around plain u

-- both sides of an `==` stand for one type
abbrev pub IsFulfilled : World → Declarations → Signature → List RType → List RRequirement → RRequirement → Type 0
IsFulfilled w d s types around (requirement.Same l place r) = (u : RType) × StandsFor w d s types around l.ty u × StandsFor w d s types around r.ty u
IsFulfilled w d s types around (requirement.Conforms t p) = Unit {0}
