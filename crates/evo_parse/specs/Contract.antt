-- What the answers of the parser say of the grammar of modules.
use Rattle.std.specs.Prelude.{◌≡◌, ℕ, suc, List, [], ◌∷◌, length, Bool, true, false, Result, Ok, Err}
use Rattle.evo_base.specs.declared.token.Token.{Token}
use Rattle.evo_combinators.specs.declared.Fault.{Fault}
use Rattle.evo_combinators.specs.declared.Fault.TheVariants.{Grammar}
use Rattle.evo_combinators.specs.Reader.{Outcome}
use Rattle.evo_combinators.specs.Contract as contract
use Rattle.evo_base.specs.declared.place.Release.{Release}
use Rattle.evo_tree.specs.declared.module.Form.{Form}
use Rattle.evo_tree.specs.declared.module.Form.TheVariants as form
use Rattle.evo_tree.specs.declared.module.ModulePart.{ModulePart}
use Rattle.evo_tree.specs.Pieces.{Piece, pieces, opens_nesting}
use Rattle.evo_tree.specs.Expressions.{Rule}
use Rattle.evo_tree.specs.Modules.{Parts, IsHeading, nesting}
use Rattle.evo_parse_expr.specs.declared.parse.ParseFault.{ParseFault}
use Rattle.evo_parse_expr.specs.declared.parse.ParseFault.TheVariants as fault
use Rattle.evo_parse_expr.specs.Contract.{place_at}
use Rattle.evo_parse_decl.specs.Closed.{BlockAt, StmtAt}

-- the parts of a module of a form, by how much nesting may open
abbrev pub PartsIn : Form → ℕ → Rule (List ModulePart)
PartsIn f d = Parts BlockAt StmtAt f d

-- whether a text is read as a client's
abbrev pub is_client : Form → Bool
is_client form.Client = true
is_client form.Interface = false
is_client (form.Library name) = false

-- spellings of a module go on with the tokens before this one and not with it, or it is the end and none ends there
abbrev pub IsRefusedIn : Form → List Piece → ℕ → Type 0
IsRefusedIn f ps end = contract.IsRefusedIn opens_nesting (PartsIn f) nesting ps end

-- the token of this number is the first that opens one nesting too many
abbrev pub IsDeepIn : Form → List Piece → ℕ → Type 0
IsDeepIn f ps end = contract.IsDeepAt opens_nesting (PartsIn f) nesting ps 0 end

-- the fault of the tokens of a text
abbrev pub IsFault : List ℕ → List Token → Form → ParseFault → Type 0
IsFault text tokens f (fault.Grammar place) = (end : ℕ) × IsRefusedIn f (pieces text tokens) end × (place ≡ place_at text tokens end)
IsFault text tokens f (fault.Deep place) = (end : ℕ) × IsDeepIn f (pieces text tokens) end × (place ≡ place_at text tokens end)
IsFault text tokens f fault.Memory = Unit {0}

-- an interface begins with its two lines
abbrev pub IsHeaded : List ℕ → Form → Type 0
IsHeaded text form.Interface = (name : List ℕ) × (release : Release) × IsHeading text name release
IsHeaded text form.Client = Unit {0}
IsHeaded text (form.Library name) = Unit {0}

-- what reading all tokens answers: the value, or the first token that is left over or refused
abbrev pub all_of : {A : Type 0} → Outcome Piece A → Result A Fault
all_of (Ok (x, [])) = Ok x
all_of (Ok (x, t ∷ rest)) = Err (Grammar (suc (length rest)))
all_of (Err e) = Err e
