-- What conforms by a requirement: a generic parameter, or a written type.
use Rattle.std.specs.Prelude.{List, [], ◌∷◌, ◌≡◌, true}
use Rattle.evo_tree.specs.declared.name.TypeName.{TypeName}
use Rattle.evo_tree.specs.declared.declaration.GenericParameter.{GenericParameter}
use Rattle.evo_headers.specs.declared.requirements.Subject.{Subject}
use Rattle.evo_headers.specs.declared.site.Site.{Site}
use Rattle.evo_headers.specs.Sites.{site_scope}
use Rattle.evo_headers.specs.Unresolved.{One}
use Rattle.evo_names.specs.Listed.{Text}
use Rattle.evo_headers.specs.declared.requirements.Subject.TheVariants as subject

-- a generic parameter where it is used
abbrev pub generic_name : GenericParameter → TypeName
generic_name g = record { place = g.name.place; names = g.name.text ∷ [] }

abbrev pub subject_view : Subject → TypeName
subject_view (subject.Generic g) = generic_name g.now
subject_view (subject.Written t) = t.now

-- a generic parameter is a type always
abbrev pub subject_types : Subject → List TypeName
subject_types (subject.Generic g) = []
subject_types (subject.Written t) = t.now ∷ []

-- a generic parameter is one of the scope
abbrev pub IsGenericOf : Site → Text → Type 0
IsGenericOf s n = One (λ (m : Text). m ≡ n) (site_scope s).generics

abbrev pub IsKnown : Site → Subject → Type 0
IsKnown s (subject.Generic g) = IsGenericOf s g.now.name.text
IsKnown s (subject.Written t) = true ≡ true
