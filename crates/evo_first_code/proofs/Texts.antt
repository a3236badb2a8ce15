-- What symbols add to names is ASCII.
use Rattle.std.proofs.Common.{zero, suc, [], ◌∷◌}
use Rattle.std.specs.Str.{IsUtf8, IsAscii}
use Rattle.std.proofs.lemmas.Str.{IsUtf8-from_ascii}
use Rattle.std.proofs.Common.{lit<}

dot_ascii : IsAscii (46 ∷ [])
dot_ascii zero = lit< tt
dot_ascii (suc i) = lit< tt

brackets_ascii : IsAscii (40 ∷ 41 ∷ [])
brackets_ascii zero = lit< tt
brackets_ascii (suc zero) = lit< tt
brackets_ascii (suc (suc i)) = lit< tt

copy_ascii : IsAscii (35 ∷ 99 ∷ 111 ∷ 112 ∷ 121 ∷ [])
copy_ascii zero = lit< tt
copy_ascii (suc zero) = lit< tt
copy_ascii (suc (suc zero)) = lit< tt
copy_ascii (suc (suc (suc zero))) = lit< tt
copy_ascii (suc (suc (suc (suc zero)))) = lit< tt
copy_ascii (suc (suc (suc (suc (suc i))))) = lit< tt

pub dot_is : IsUtf8 (46 ∷ [])
dot_is = IsUtf8-from_ascii _ dot_ascii

pub brackets_are : IsUtf8 (40 ∷ 41 ∷ [])
brackets_are = IsUtf8-from_ascii _ brackets_ascii

pub copy_is : IsUtf8 (35 ∷ 99 ∷ 111 ∷ 112 ∷ 121 ∷ [])
copy_is = IsUtf8-from_ascii _ copy_ascii
