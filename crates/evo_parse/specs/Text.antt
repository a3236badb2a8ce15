-- The first fault of a text that spells no module of a form.
use Rattle.std.specs.Prelude.{◌≡◌, ℕ, List}
use Rattle.evo_base.specs.declared.place.Place.{Place}
use Rattle.evo_base.specs.declared.fault_kind.FaultKind.{FaultKind}
use Rattle.evo_base.specs.declared.fault_kind.FaultKind.TheVariants as kind
use Rattle.evo_base.specs.declared.token.Token.{Token}
use Rattle.evo_lex.specs.Tokenization as cut
use Rattle.evo_lex.specs.Tokenization.{Tokenization}
use Rattle.evo_tree.specs.declared.module.Form.{Form}
use Rattle.evo_tree.specs.declared.module.ModuleTree.{ModuleTree}
use Rattle.evo_tree.specs.declared.module.SourceFault.{SourceFault}
use Rattle.evo_tree.specs.Pieces.{pieces}
use Rattle.evo_tree.specs.Modules.{Spells}
use Rattle.evo_parse_expr.specs.Contract.{place_at}
use Rattle.evo_parse.specs.Contract.{IsRefusedIn, IsDeepIn}
use Rattle.evo_parse.specs.declared.text.TextFault.{TextFault}
use Rattle.evo_parse.specs.declared.text.TextFault.TheVariants as fault

-- The text is no tokens, or its tokens spell no module of the form: this is its first fault.
pub data IsTextFault : List ℕ → Form → SourceFault → Type 0 where
  lexical : {text : List ℕ} {f : Form} {k : FaultKind} {place : Place} → cut.IsFault text k place → IsTextFault text f (record { kind = k; place = place })
  refused : {text : List ℕ} {f : Form} {tokens : List Token} {end : ℕ} → Tokenization text tokens → IsRefusedIn f (pieces text tokens) end → IsTextFault text f (record { kind = kind.Grammar; place = place_at text tokens end })
  deep : {text : List ℕ} {f : Form} {tokens : List Token} {end : ℕ} → Tokenization text tokens → IsDeepIn f (pieces text tokens) end → IsTextFault text f (record { kind = kind.Deep; place = place_at text tokens end })

-- why a text is no module
abbrev pub IsUnread : List ℕ → Form → TextFault → Type 0
IsUnread text f (fault.Refused found) = IsTextFault text f found
IsUnread text f fault.Memory = Unit {0}

-- a text spells at most one module of a form
abbrev pub OneModule : Type 0
OneModule = (text : List ℕ) (f : Form) (m n : ModuleTree) → Spells text f m → Spells text f n → m ≡ n

-- a text that spells a module has no fault
abbrev pub NoFault : Type 0
NoFault = (text : List ℕ) (f : Form) (m : ModuleTree) (x : SourceFault) → Spells text f m → IsTextFault text f x → ⊥

-- a text has at most one first fault
abbrev pub OneFault : Type 0
OneFault = (text : List ℕ) (f : Form) (x y : SourceFault) → IsTextFault text f x → IsTextFault text f y → x ≡ y
