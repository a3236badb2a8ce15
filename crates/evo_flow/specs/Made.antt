-- What a body makes, as the definitions say it.
use Rattle.evo_flow.specs.declared.check.Made.{Made}
use Rattle.evo_flow.specs.declared.check.Made.TheVariants as made
use Rattle.evo_flow.specs.Faults as faults

abbrev pub made_view : Made → faults.Made
made_view made.Nothing = faults.nothing
made_view (made.Struct k) = faults.a_struct k.now
made_view made.Enum = faults.an_enum
made_view (made.Object k) = faults.an_object k.now
made_view made.OfLanguage = faults.of_language
