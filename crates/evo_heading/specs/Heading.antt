-- The two lines with which the text of an interface begins, and the parts of which they are made.
use Rattle.std.specs.Prelude.{◌≡◌, ◌<◌, ◌^◌, ℕ, List, ◌∷◌, ◌++◌, Option, Some, None}
use Rattle.std.specs.Char.{is_ascii_digit}
use Rattle.std.specs.List.{prefix_len}
use Rattle.std.specs.Str.{IsUtf8}
use Rattle.std.specs.Fmt.{decimal}
use denote.Ref.{Bor}
use Rattle.evo_lex.specs.ModuleName.{IsModule}
use Rattle.evo_base.specs.declared.place.Release.{Release}
use Rattle.evo_tree.specs.Modules.{IsLineEnd, IsHeading}
use Rattle.evo_heading.specs.declared.lines.Heading.{Heading}

-- what reading a text's heading answers: the one with which it begins, or nothing where it begins with none
abbrev pub Heads : List ℕ → Option Heading → Type 0
Heads text None = (name : List ℕ) (release : Release) → IsHeading text name release → ⊥
Heads text (Some h) = IsHeading text h.name h.release

-- a text begins with at most one heading
abbrev pub OneHeading : Type 0
OneHeading = (text a b : List ℕ) (r s : Release) → IsHeading text a r → IsHeading text b s → (a ≡ b) × (r ≡ s)

-- ---- parts

-- what taking a part off the front of a text answers: what stands behind it, or nothing where there is no such part
abbrev pub Rest : (List ℕ → Type 0) → Option (Bor (List ℕ)) → Type 0
Rest is None = (rest : List ℕ) → is rest → ⊥
Rest is (Some rest) = is rest.now

-- what reading a part at the front of a text answers: its value and what stands behind it, or nothing where there is no such part
abbrev pub Front : {A : Type 0} → (A → List ℕ → Type 0) → Option (A × Bor (List ℕ)) → Type 0
Front {A} is None = (value : A) (rest : List ℕ) → is value rest → ⊥
Front is (Some (value, rest)) = is value rest.now

-- a text is a line's end and then the rest
pub record IsEnded (text rest : List ℕ) : Type 0 where
  pub end : List ℕ
  pub ends : IsLineEnd end
  pub whole : text ≡ end ++ rest

-- a text is this line with its end, the words that begin another line, and then the rest
pub record IsOpened (line words text rest : List ℕ) : Type 0 where
  pub behind : List ℕ
  pub whole : text ≡ line ++ behind
  pub ended : IsEnded behind (words ++ rest)

-- a text is the name of a module, a space, and then the rest
pub record IsNamed (text name rest : List ℕ) : Type 0 where
  pub utf8 : IsUtf8 name
  pub is : IsModule name
  pub whole : text ≡ name ++ 32 ∷ rest

-- a text is a number below 2^32 and then the rest, which begins with no digit
pub record IsNumbered (text : List ℕ) (n : ℕ) (rest : List ℕ) : Type 0 where
  pub small : n < 2 ^ 32
  pub whole : text ≡ decimal n ++ rest
  pub apart : prefix_len is_ascii_digit rest ≡ 0

-- a text is a release and then the rest, which begins with no digit
pub record IsReleased (text : List ℕ) (release : Release) (rest : List ℕ) : Type 0 where
  pub behind : List ℕ
  pub major : IsNumbered text release.major (46 ∷ behind)
  pub minor : IsNumbered behind release.minor rest
