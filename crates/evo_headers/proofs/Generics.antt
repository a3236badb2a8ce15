-- A generic parameter is a type always.
use Rattle.std.proofs.Common.{◌≡◌, ℕ, zero, suc, ◌+◌, ◌<◌, List, [], ◌∷◌, length, map, get_or, Bool, true, false, Some, if◌then◌else◌, refl, sym, ap, ◌∙◌, arith}
use Rattle.std.specs.Option.{option_map}
use Rattle.std.specs.Str.{bytes_eq}
use Rattle.std.proofs.lemmas.Slice.Eq.{bytes_eq-Decides}
use Rattle.evo_base.specs.Names.{position_of}
use Rattle.evo_tree.specs.declared.declaration.GenericParameter.{GenericParameter}
use Rattle.evo_resolved.specs.declared.resolved_type.RType.TheVariants as ty
use Rattle.evo_names.specs.Listed.{Text, World}
use Rattle.evo_names.specs.Written.{Scope, fixed, whole, elsewhere, beginning, first_number}
use Rattle.evo_headers.specs.Unresolved.{MeansNothing}
use Rattle.evo_headers.specs.Unresolved.{One, here, later}

record Placed (n : Text) (xs : List Text) : Type 0 where
  number : ℕ
  at : position_of n xs ≡ Some number

placed : (n : Text) (xs : List Text) → One (λ (m : Text). m ≡ n) xs → Placed n xs
placed n (x ∷ xs) (here e) = let same : bytes_eq n x ≡ true = (bytes_eq-Decides n x).1 (sym e) in record { number = 0; at = ap (λ (b : Bool). if b then Some 0 else option_map suc (position_of n xs)) same }
placed n (x ∷ xs) (later o) = by (bytes_eq n x) refl (placed n xs o)
  where
    by : (b : Bool) → bytes_eq n x ≡ b → Placed n xs → Placed n (x ∷ xs)
    by true is p = record { number = 0; at = ap (λ (b : Bool). if b then Some 0 else option_map suc (position_of n xs)) is }
    by false is p = record { number = suc p.number; at = ap (λ (b : Bool). if b then Some 0 else option_map suc (position_of n xs)) is ∙ ap (option_map suc) p.at }
placed n [] o = elim o [ ]

begins : (w : World) (s : Scope) (n : Text) (i : ℕ) → position_of n s.generics ≡ Some i → beginning w s (n ∷ []) ≡ Some (fixed (ty.Param (first_number s.around + i)), [])
unfolding beginning
begins w s n i at = rw at refl

pub generic_means : (w : World) (s : Scope) (n : Text) → One (λ (m : Text). m ≡ n) s.generics → MeansNothing w s (n ∷ []) → ⊥
generic_means w s n o nothing =
    let p = placed n s.generics o in
    nothing [] (ty.Param (first_number s.around + p.number)) (elsewhere (fixed (ty.Param (first_number s.around + p.number))) [] [] [] (ty.Param (first_number s.around + p.number)) (begins w s n p.number p.at) whole whole refl)

-- of a header's generic parameters each is one of its scope
pub is_among : (gs : List GenericParameter) (i : ℕ) (g : GenericParameter) → i < length gs → g ≡ get_or gs i g → One (λ (m : Text). m ≡ g.name.text) (map (λ (h : GenericParameter). h.name.text) gs)
is_among [] i g lt e = absurd (omega arith)
is_among (h ∷ hs) zero g lt e = here (ap (λ (x : GenericParameter). x.name.text) (sym e))
is_among (h ∷ hs) (suc i) g lt e = later (is_among hs i g (omega arith) e)
