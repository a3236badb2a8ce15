-- The text of an interface.
use Rattle.std.specs.Prelude.{◌≡◌, ◌≢◌, ◌<◌, ◌^◌, ℕ, List, [], ◌∷◌, ◌++◌, codes, Option, Some, None}
use Rattle.std.specs.Str.{IsUtf8}
use Rattle.std.specs.Fmt.{decimal}
use Rattle.evo_first_form.specs.declared.Term.{Term}
use Rattle.evo_first_form.specs.declared.Term.TheVariants.{Integer, Call}
use Rattle.evo_first_form.specs.declared.Declaration.{Declaration}
use Rattle.evo_first_form.specs.declared.Interface.{Interface}

abbrev pub term_text : Term → List ℕ
term_text (Integer n) = decimal n
term_text (Call name) = name ++ codes "()"

-- the lines of a function: one, or three where clients may copy the body
abbrev pub function_text : List ℕ → Option Term → List ℕ
function_text name None = codes "public func " ++ (name ++ codes "() -> Swift.Int\n")
function_text name (Some body) = codes "@inlinable public func " ++ (name ++ (codes "() -> Swift.Int {\n  return " ++ (term_text body ++ codes "\n}\n")))

abbrev pub functions_text : List Declaration → List ℕ
functions_text [] = []
functions_text (d ∷ ds) = function_text d.name d.body ++ functions_text ds

-- the two first lines, which have the format's version and the module's name with its release, and the import
abbrev pub head_text : List ℕ → List ℕ
head_text library = codes "// swift-interface-format-version: 1.0\n// swevo-module: " ++ (library ++ codes " 1.0\nimport Swift\n")

-- the canonical text
abbrev pub interface_text : Interface → List ℕ
interface_text i = head_text i.name ++ functions_text i.functions

-- a text without this byte
abbrev pub Lacks : ℕ → List ℕ → Type 0
Lacks byte [] = Unit {0}
Lacks byte (c ∷ cs) = (c ≢ byte) × Lacks byte cs

-- a name that can be found again: UTF-8 without the byte that stands behind it
pub record IsPlain (byte : ℕ) (name : List ℕ) : Type 0 where
  pub utf8 : IsUtf8 name
  pub lacks : Lacks byte name

-- a term that can be found again: an integer that has 64 bits, or a call of a name without a line feed
abbrev pub IsPlainTerm : Term → Type 0
IsPlainTerm (Integer n) = n < 2 ^ 64
IsPlainTerm (Call name) = IsPlain 10 name

abbrev pub IsPlainBody : Option Term → Type 0
IsPlainBody None = Unit {0}
IsPlainBody (Some body) = IsPlainTerm body

-- functions that can be found again: no name has a bracket
abbrev pub ArePlain : List Declaration → Type 0
ArePlain [] = Unit {0}
ArePlain (d ∷ ds) = IsPlain 40 d.name × IsPlainBody d.body × ArePlain ds

-- an interface that can be read again: the module's name has no space, and its functions can be found again
pub record IsReadable (i : Interface) : Type 0 where
  pub name : IsPlain 32 i.name
  pub functions : ArePlain i.functions

-- what reading a text answers: the interface whose text it is
abbrev pub Reads : List ℕ → Option Interface → Type 0
Reads text None = (i : Interface) → IsReadable i → text ≡ interface_text i → ⊥
Reads text (Some i) = (text ≡ interface_text i) × ((j : Interface) → IsReadable j → text ≡ interface_text j → j ≡ i)
