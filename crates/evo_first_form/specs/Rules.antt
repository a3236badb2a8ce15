-- The rules of evolution that two interfaces of the first form can break.
use Rattle.std.specs.Prelude.{◌≡◌, ℕ, List, [], ◌∷◌, ◌++◌, codes, filter, not, is_some}
use Rattle.evo_base.specs.Names.{position_of}
use Rattle.evo_first_form.specs.declared.Interface.{Interface}
use Rattle.evo_first_form.specs.Interface.{declared_names}

-- those of the second names that are not among the first
abbrev pub missing_from : List (List ℕ) → List (List ℕ) → List (List ℕ)
missing_from names old = filter (λ name. not (is_some (position_of name names))) old

-- E1, declaration removed: the functions of the old interface that the new one does not have
abbrev pub removed : Interface → Interface → List (List ℕ)
removed old new = missing_from (declared_names new.functions) (declared_names old.functions)

-- no rule is broken
abbrev pub BreaksNoRule : Interface → Interface → Type 0
BreaksNoRule old new = removed old new ≡ []

-- the line of a report on a function of the old module that was removed; the new side is the module
abbrev pub removed_line : List ℕ → List ℕ → List ℕ
removed_line library name = codes "E1 old " ++ (library ++ (codes "." ++ (name ++ (codes "() new " ++ (library ++ codes ": declaration removed\n")))))

abbrev pub removed_lines : List ℕ → List (List ℕ) → List ℕ
removed_lines library [] = []
removed_lines library (name ∷ names) = removed_line library name ++ removed_lines library names

-- the report: a line for each broken rule, in the order of the old interface
abbrev pub report_of : Interface → Interface → List ℕ
report_of old new = removed_lines old.name (removed old new)
