-- What the rules say by themselves.
use Rattle.evo_first_form.specs.declared.Interface.{Interface}
use Rattle.evo_first_form.specs.Rules.{BreaksNoRule}

-- an interface breaks no rule against itself
abbrev pub KeepsItself : Type 0
KeepsItself = (interface : Interface) → BreaksNoRule interface interface
