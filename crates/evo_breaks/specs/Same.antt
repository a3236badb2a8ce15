-- When types, requirements and lists of them are the same. A type is compared by what it stands for, wherever it is written.
use Rattle.std.specs.Prelude.{ℕ, Bool, true, false, not, ◌&&◌, ◌||◌, ◌==◌, List, [], ◌∷◌, Option, Some, None}
use Rattle.std.specs.List.{list_any, list_all}
use Rattle.std.specs.Str.{bytes_eq}
use Rattle.evo_names.specs.Meets.{same_names}
use Rattle.evo_meaning.specs.Keys.{same_key}
use Rattle.evo_resolved.specs.declared.resolved_type.RType.{RType}
use Rattle.evo_resolved.specs.declared.resolved_type.RType.TheVariants as ty
use Rattle.evo_resolved.specs.declared.resolved_type.RTypeName.{RTypeName}
use Rattle.evo_resolved.specs.declared.resolved_type.RReference.{RReference}
use Rattle.evo_resolved.specs.declared.declaration.RRequirement.{RRequirement}
use Rattle.evo_resolved.specs.declared.declaration.RRequirement.TheVariants as requirement

-- one by one
abbrev pub same_list : {A : Type 0} → (A → A → Bool) → List A → List A → Bool
same_list same [] [] = true
same_list same (x ∷ xs) (y ∷ ys) = same x y && same_list same xs ys
same_list same [] (y ∷ ys) = false
same_list same (x ∷ xs) [] = false

-- each of the first is among the second
abbrev pub is_within : {A : Type 0} → (A → A → Bool) → List A → List A → Bool
is_within same xs ys = list_all (λ x. list_any (λ y. same x y) ys) xs

abbrev pub same_set : {A : Type 0} → (A → A → Bool) → List A → List A → Bool
same_set same xs ys = is_within same xs ys && is_within same ys xs

abbrev pub same_type : RType → RType → Bool
same_type (ty.Named a) (ty.Named b) = same_key a b
same_type (ty.Param a) (ty.Param b) = a == b
same_type (ty.Assoc a xs) (ty.Assoc b ys) = (a == b) && same_names xs ys
same_type ty.NoValue ty.NoValue = true
same_type _ _ = false

-- the same type is written
abbrev pub same_written : RTypeName → RTypeName → Bool
same_written a b = same_type a.ty b.ty

abbrev pub same_reference : RReference → RReference → Bool
same_reference a b = same_key a.key b.key

-- `A == B` and `B == A` are different requirements
abbrev pub same_requirement : RRequirement → RRequirement → Bool
same_requirement (requirement.Conforms a p) (requirement.Conforms b q) = same_written a b && same_reference p q
same_requirement (requirement.Same a p b) (requirement.Same c q d) = same_written a c && same_written b d
same_requirement _ _ = false

-- nothing is the same as nothing alone
abbrev pub same_result : Option RTypeName → Option RTypeName → Bool
same_result None None = true
same_result (Some a) (Some b) = same_written a b
same_result None (Some b) = false
same_result (Some a) None = false

abbrev pub same_label : Option (List ℕ) → Option (List ℕ) → Bool
same_label None None = true
same_label (Some a) (Some b) = bytes_eq a b
same_label None (Some b) = false
same_label (Some a) None = false
