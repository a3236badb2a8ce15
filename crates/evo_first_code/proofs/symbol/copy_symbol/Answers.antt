use Rattle.std.proofs.Common.{rules, ◌≡◌, ◌++◌, ◌∷◌, [], subst, sym}
use Rattle.std.specs.Str.{IsUtf8}
use Rattle.std.proofs.lemmas.Str.{IsUtf8-append}
use Rattle.evo_first_code.proofs.Texts.{copy_is}
use Rattle.evo_first_code.proofs.symbol.copy_symbol.Goals as goal

pub from_vec-requires : goal.from_vec-requires
from_vec-requires c =
    let shape : c.extend_from_slice.new.self.items ≡ c.in_ok-symbol.symbol ++ 35 ∷ 99 ∷ 111 ∷ 112 ∷ 121 ∷ [] = search rules in
    subst IsUtf8 (sym shape) (IsUtf8-append c.in_ok-symbol.symbol (35 ∷ 99 ∷ 111 ∷ 112 ∷ 121 ∷ []) c.as_slice.ensures.utf8 copy_is)
