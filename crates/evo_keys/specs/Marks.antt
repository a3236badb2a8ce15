-- The marks of what a declaration itself is.
use Rattle.std.specs.Prelude.{List, [], ◌∷◌, ◌++◌, Bool, true, false}
use Rattle.evo_base.specs.declared.key.Mark.{Mark}
use Rattle.evo_base.specs.declared.key.Mark.TheVariants as mark
use Rattle.evo_names.specs.Meets.{marks_of}

-- what overrides has one of its own
abbrev pub own_marks : Bool → Bool → List Mark
own_marks requirement true = marks_of requirement ++ mark.Override ∷ []
own_marks requirement false = marks_of requirement
