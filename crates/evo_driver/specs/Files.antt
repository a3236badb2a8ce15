-- What a job finds in its files, in the order in which it reads them.
use Rattle.std.specs.Prelude.{◌≡◌, ◌⊎◌, ℕ, ◌+◌, ◌<◌, ◌≤◌, List, length, Option}
use Rattle.evo_base.specs.Content.{ReadsUpTo}
use Rattle.evo_base.specs.declared.fault_kind.FaultKind.TheVariants as kind
use Rattle.evo_tree.specs.declared.module.Form.TheVariants as form
use Rattle.evo_tree.specs.declared.module.SourceFault.{SourceFault}
use Rattle.evo_first_form.specs.declared.Function.{Function}
use Rattle.evo_first_form.specs.declared.Client.{Client}
use Rattle.evo_first_form.specs.declared.Interface.{Interface}
use Rattle.evo_first_form.specs.Interface.{interface_of}
use Rattle.evo_first_form.specs.Rules.{BreaksNoRule}
use Rattle.evo_iface.specs.Text.{interface_text}
use Rattle.evo_front.specs.Texts.{file_limit, interface_limit, IsLibraryText, IsClientText, IsUnbuiltLibrary, IsUnbuiltClient}
use Rattle.evo_parse.specs.Text.{IsTextFault}
use Rattle.evo_words.specs.declared.words.Job.{Job}
use Rattle.evo_driver.specs.declared.stop.Input.{Input}
use Rattle.evo_driver.specs.declared.stop.Input.TheVariants as which
use Rattle.evo_driver.specs.declared.stop.Refusal.{Refusal}
use Rattle.evo_driver.specs.declared.stop.Refusal.TheVariants as refusal

-- A file's text, where the file tells it, is such a text. So much of a longer file is read that it is seen to be too long.
abbrev pub Holds : Option (List ℕ) → (List ℕ → Type 0) → Type 0
Holds held is = (text : List ℕ) × ReadsUpTo held (file_limit + 1) text × is text

-- a text that is the library of this name with these functions, where neither it nor its interface is too long
pub record IsShortLibrary (library text : List ℕ) (functions : List Function) : Type 0 where
  pub short : length text ≤ file_limit
  pub is : IsLibraryText library text functions
  pub interface_short : length (interface_text (interface_of library functions)) ≤ interface_limit

-- a library whose interface is too long
pub record IsLongLibrary (library text : List ℕ) : Type 0 where
  pub short : length text ≤ file_limit
  pub functions : List Function
  pub is : IsLibraryText library text functions
  pub interface_long : interface_limit < length (interface_text (interface_of library functions))

-- the fault of a text that spells a module which is not accepted: it is not built yet, at the first place
abbrev pub unbuilt : SourceFault
unbuilt = record { kind = kind.NotBuilt; place = record { line = 1; col = 1 } }

-- a text that is no library, and its fault: the first one of a text that spells no module, or that its module is not accepted
pub record IsNoLibrary (library text : List ℕ) (fault : SourceFault) : Type 0 where
  pub short : length text ≤ file_limit
  pub why : IsTextFault text (form.Library library) fault ⊎ ((fault ≡ unbuilt) × IsUnbuiltLibrary library text)

-- what is wrong with a text that is to be the library of this name
abbrev pub IsWrongLibrary : List ℕ → Refusal → List ℕ → Type 0
IsWrongLibrary library refusal.TooLong text = file_limit < length text
IsWrongLibrary library (refusal.Source fault) text = IsNoLibrary library text fault
IsWrongLibrary library refusal.InterfaceTooLong text = IsLongLibrary library text

-- a text that is this client of the interface, and is not too long
pub record IsShortClient (interface : Interface) (text : List ℕ) (client : Client) : Type 0 where
  pub short : length text ≤ file_limit
  pub is : IsClientText interface text client

-- a text that is no client of the interface, and its fault: the first one of a text that spells no module, or that its module is not accepted
pub record IsNoClient (interface : Interface) (text : List ℕ) (fault : SourceFault) : Type 0 where
  pub short : length text ≤ file_limit
  pub why : IsTextFault text form.Client fault ⊎ ((fault ≡ unbuilt) × IsUnbuiltClient interface text)

-- what is wrong with a text that is to be a client of the interface
abbrev pub IsWrongClient : Interface → Refusal → List ℕ → Type 0
IsWrongClient interface refusal.TooLong text = file_limit < length text
IsWrongClient interface (refusal.Source fault) text = IsNoClient interface text fault
IsWrongClient interface refusal.InterfaceTooLong text = ⊥

abbrev pub HoldsLibrary : Option (List ℕ) → List ℕ → List Function → Type 0
HoldsLibrary held library functions = Holds held (λ text. IsShortLibrary library text functions)

abbrev pub HoldsClient : Option (List ℕ) → Interface → Client → Type 0
HoldsClient held interface client = Holds held (λ text. IsShortClient interface text client)

abbrev pub name_of : Job → Input → List ℕ
name_of job which.Old = job.old
name_of job which.New = job.new
name_of job which.Client = job.client

-- both libraries are accepted
pub record HoldsBoth (held : List ℕ → Option (List ℕ)) (job : Job) (old new : List Function) : Type 0 where
  pub old_holds : HoldsLibrary (held job.old) job.library old
  pub new_holds : HoldsLibrary (held job.new) job.library new

-- both libraries are accepted, and no rule is broken
pub record Passes (held : List ℕ → Option (List ℕ)) (job : Job) (old new : List Function) : Type 0 where
  pub both : HoldsBoth held job old new
  pub keeps : BreaksNoRule (interface_of job.library old) (interface_of job.library new)

-- both libraries are accepted, and a rule is broken
pub record Breaks (held : List ℕ → Option (List ℕ)) (job : Job) (old new : List Function) : Type 0 where
  pub both : HoldsBoth held job old new
  pub broken : BreaksNoRule (interface_of job.library old) (interface_of job.library new) → ⊥

-- nothing that stands before this file's turn ends the job
abbrev pub Reaches : (List ℕ → Option (List ℕ)) → Job → Input → Type 0
Reaches held job which.Old = Unit {0}
Reaches held job which.New = (old : List Function) × HoldsLibrary (held job.old) job.library old
Reaches held job which.Client = (old : List Function) × (new : List Function) × Passes held job old new

-- the first file with which something is wrong, and what
pub data Refuses (held : List ℕ → Option (List ℕ)) (job : Job) : Input → Refusal → Type 0 where
  old_is_wrong : (why : Refusal) → Holds (held job.old) (IsWrongLibrary job.library why) → Refuses held job which.Old why
  new_is_wrong : (why : Refusal) (old : List Function) → HoldsLibrary (held job.old) job.library old → Holds (held job.new) (IsWrongLibrary job.library why) → Refuses held job which.New why
  client_is_wrong : (why : Refusal) (old new : List Function) → Passes held job old new → Holds (held job.client) (IsWrongClient (interface_of job.library old) why) → Refuses held job which.Client why

-- all three files are accepted, and no rule is broken
pub record Accepts (held : List ℕ → Option (List ℕ)) (job : Job) (old new : List Function) (client : Client) : Type 0 where
  pub passes : Passes held job old new
  pub client_holds : HoldsClient (held job.client) (interface_of job.library old) client
