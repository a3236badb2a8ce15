use Rattle.evo_typing.proofs.Grows.{typed_on}
use Rattle.evo_typing.proofs.laws.typing_survives.Goals as goal

pub returns : goal.returns
returns c = λ s t keeps scope b h. typed_on keeps h
