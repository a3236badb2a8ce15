use Rattle.std.proofs.Common.{rules, ◌≡◌, ◌++◌, ◌∷◌, [], subst, sym}
use Rattle.std.specs.Str.{IsUtf8}
use Rattle.std.proofs.lemmas.Str.{IsUtf8-append}
use Rattle.evo_first_code.proofs.Texts.{dot_is, brackets_are}
use Rattle.evo_first_code.proofs.symbol.symbol_of.Goals as goal

pub from_vec-requires : goal.from_vec-requires
from_vec-requires c =
    let shape : c.extend_from_slice-2.new.self.items ≡ ((c.args.library.now ++ 46 ∷ []) ++ c.args.name.now) ++ 40 ∷ 41 ∷ [] = search rules in
    subst IsUtf8 (sym shape) (IsUtf8-append _ _ (IsUtf8-append _ _ (IsUtf8-append _ _ c.as_slice.ensures.utf8 dot_is) c.as_slice-2.ensures.utf8) brackets_are)
