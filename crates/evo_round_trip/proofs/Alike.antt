-- Two lists that are alike.
use Rattle.std.specs.Prelude.{List, [], ◌∷◌}

-- value by value
abbrev pub AllLike : {B : Type 0} → (B → B → Type 0) → List B → List B → Type 0
AllLike Same [] [] = Unit {0}
AllLike Same [] (b ∷ bs) = ⊥
AllLike Same (a ∷ as') [] = ⊥
AllLike Same (a ∷ as') (b ∷ bs) = Same a b × AllLike Same as' bs
