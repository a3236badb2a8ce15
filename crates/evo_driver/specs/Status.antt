use Rattle.std.specs.Prelude.{ℕ}
use Rattle.evo_driver.specs.declared.status.Status.{Status}
use Rattle.evo_driver.specs.declared.status.Status.TheVariants as status

-- the number that the program ends with
abbrev pub code_of : Status → ℕ
code_of status.Done = 0
code_of status.OutOfTicks = 2
code_of status.NotUnderstood = 3
code_of status.NotAccepted = 4
code_of status.BreaksRules = 5
code_of status.NotRead = 6
code_of status.NotWritten = 7
code_of status.Memory = 8
code_of status.TooLong = 11
