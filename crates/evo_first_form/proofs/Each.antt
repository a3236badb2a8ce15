-- What a loop has made of the items before, and what is made of the rest.
use Rattle.std.proofs.Common.{List, ◌++◌, Option, Some, None}

-- what was made, and then what is made of the rest, where that is something
abbrev pub then_of : {B : Type 0} → List B → Option (List B) → Option (List B)
then_of made None = None
then_of made (Some rest) = Some (made ++ rest)
