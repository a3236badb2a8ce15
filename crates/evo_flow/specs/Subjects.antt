-- What the subject of a `switch` stands for.
use Rattle.evo_flow.specs.declared.looked.Subject.{Subject}
use Rattle.evo_flow.specs.declared.looked.Subject.TheVariants as subject
use Rattle.evo_flow.specs.Scenes as declared

abbrev pub subject_view : Subject → declared.Subject
subject_view subject.Truth = declared.truth
subject_view (subject.Declared k) = declared.a_type k.now
subject_view subject.Other = declared.other
