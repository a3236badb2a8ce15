-- Rules and readers that look ahead by three tokens.
use Rattle.std.specs.Prelude.{Bool, true, false, List, [], ◌∷◌}
use Rattle.evo_combinators.specs.Reader.{Reader}
use Rattle.evo_combinators.specs.Guard.{starts_two, choose}

-- the tests of the second and the third token, where the first one was right
abbrev pub behind_first : {T : Type 0} → Bool → (T → Bool) → (T → Bool) → List T → Bool
behind_first true g h ts = starts_two g h ts
behind_first false g h ts = false

-- there are three tokens, the first one of these, the second one of those and the third one of those
unfoldable pub starts_three : {T : Type 0} → (T → Bool) → (T → Bool) → (T → Bool) → List T → Bool
starts_three f g h [] = false
starts_three f g h (t ∷ ts) = behind_first (f t) g h ts

-- by the first three tokens, which the readers themselves take
abbrev pub three : {T B : Type 0} → (T → Bool) → (T → Bool) → (T → Bool) → Reader T B → Reader T B → Reader T B
three f g h p r = choose (starts_three f g h) p r
