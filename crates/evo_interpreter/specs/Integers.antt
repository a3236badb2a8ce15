-- What results of the machine are as answers of the definition.
use Rattle.std.specs.Prelude.{Result, Ok, Err}
use Rattle.evo_execution.specs.Words.{Answer, Got, Stops}
use Rattle.evo_execution.specs.declared.end.Stop.{Stop}

abbrev pub answer_of : {A : Type 0} → Result A Stop → Answer A
answer_of (Ok x) = Got x
answer_of (Err e) = Stops e
