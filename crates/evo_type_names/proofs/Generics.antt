-- The numbers of generic parameters.
use Rattle.std.proofs.Common.{◌≡◌, ℕ, suc, ◌+◌, List, [], ◌∷◌, Option, Some, None, Bool, true, false, refl, ap, ◌∙◌, arith, if◌then◌else◌}
use Rattle.std.specs.Option.{option_map}
use Rattle.std.specs.Str.{bytes_eq}
use Rattle.evo_base.specs.Names.{position_of}
use Rattle.evo_tree.specs.declared.declaration.GenericParameter.{GenericParameter}
use Rattle.evo_resolved.specs.declared.resolved_type.RType.TheVariants as ty
use Rattle.evo_declarations.specs.declared.world.World.{World}
use Rattle.evo_members.specs.declared.located.Around.{Around}
use Rattle.evo_members.specs.declared.located.Around.TheVariants as around
use Rattle.evo_members.specs.Located.{around_of}
use Rattle.evo_names.specs.Listed.{Text}
use Rattle.evo_names.specs.Written.{Start, fixed, first_number, generic}
use Rattle.evo_type_names.specs.declared.scope.Scope.{Scope}
use Rattle.evo_type_names.specs.Prefixes.{has_self, number_from}
use Rattle.evo_type_names.specs.Starts.{generic_names, scope_of}

shifted : (k : ℕ) (o : Option ℕ) → option_map (λ (i : ℕ). k + 1 + i) o ≡ option_map (λ (i : ℕ). k + i) (option_map suc o)
shifted k None = refl
shifted k (Some i) = let e : k + 1 + i ≡ k + suc i = omega arith in ap (λ (j : ℕ). Some j) e

at_first : (b : Bool) (k : ℕ) (rest : Option ℕ) (o : Option ℕ) → rest ≡ option_map (λ (i : ℕ). k + 1 + i) o → (if b then Some k else rest) ≡ option_map (λ (i : ℕ). k + i) (if b then Some 0 else option_map suc o)
at_first true k rest o is = let e : k ≡ k + 0 = omega arith in ap (λ (j : ℕ). Some j) e
at_first false k rest o is = is ∙ shifted k o

numbers : (k : ℕ) (n : Text) (gs : List GenericParameter) → number_from k n gs ≡ option_map (λ (i : ℕ). k + i) (position_of n (generic_names gs))
numbers k n [] = refl
numbers k n (g ∷ gs) = at_first (bytes_eq n g.name.text) k (number_from (k + 1) n gs) (position_of n (generic_names gs)) (numbers (k + 1) n gs)

first_is : (a : Around) → (if has_self a then 1 else 0) ≡ first_number (around_of a)
first_is around.Nowhere = refl
first_is (around.InType t) = refl
first_is (around.InProtocol p s) = refl

abbrev parameters : Option ℕ → Option Start
parameters o = option_map (λ (i : ℕ). fixed (ty.Param i)) o

twice : (k : ℕ) (o : Option ℕ) → parameters (option_map (λ (i : ℕ). k + i) o) ≡ option_map (λ (i : ℕ). fixed (ty.Param (k + i))) o
twice k None = refl
twice k (Some i) = refl

pub generics_are : (w : World) (s : Scope) (n : Text) (b : Bool) (o : Option ℕ) → b ≡ has_self s.around → o ≡ number_from (if b then 1 else 0) n s.generics.now → parameters o ≡ generic (scope_of w s) n
generics_are w s n b o has is =
    ap parameters (is ∙ ap (λ (c : Bool). number_from (if c then 1 else 0) n s.generics.now) has ∙ ap (λ (k : ℕ). number_from k n s.generics.now) (first_is s.around) ∙ numbers (first_number (around_of s.around)) n s.generics.now)
    ∙ twice (first_number (around_of s.around)) (position_of n (generic_names s.generics.now))
