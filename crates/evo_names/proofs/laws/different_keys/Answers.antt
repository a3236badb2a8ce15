use Rattle.std.proofs.Common.{◌≡◌, true}
use Rattle.evo_names.specs.Meets.{meets}
use Rattle.evo_names.proofs.OneKey.{meet_by_key}
use Rattle.evo_names.proofs.Formed.{formed}
use Rattle.evo_names.proofs.laws.different_keys.Goals as goal

pub returns : goal.returns
returns c d e s t of_d of_e apart same =
    let met : meets s t ≡ true = meet_by_key s t same (formed d s of_d) (formed e t of_e) in
    absurd cc
