-- Which texts are accepted.
use Rattle.std.specs.Prelude.{◌≡◌, ◌≤◌, ◌<◌, ◌^◌, ℕ, List, Option, Some, None, Result, Ok, Err, length}
use Rattle.evo_first_form.specs.declared.Function.{Function}
use Rattle.evo_first_form.specs.declared.Client.{Client}
use Rattle.evo_first_form.specs.declared.Interface.{Interface}
use Rattle.evo_first_form.specs.Interface.{interface_of}
use Rattle.evo_first_form.specs.Accepted.{IsAcceptedLibrary, IsAcceptedInterface, IsAcceptedClient}
use Rattle.evo_first_form.specs.FirstForm.{library_of, client_of}
use Rattle.evo_tree.specs.declared.module.Form.TheVariants as form
use Rattle.evo_tree.specs.declared.module.ModuleTree.{ModuleTree}
use Rattle.evo_tree.specs.Modules.{Spells}
use Rattle.evo_parse.specs.Text.{IsTextFault}
use Rattle.evo_iface.specs.Text.{interface_text}
use Rattle.evo_front.specs.declared.client.ClientFault.{ClientFault}
use Rattle.evo_front.specs.declared.client.ClientFault.TheVariants as client_fault
use Rattle.evo_front.specs.declared.library.AcceptedLibrary.{AcceptedLibrary}
use Rattle.evo_front.specs.declared.library.LibraryFault.{LibraryFault}
use Rattle.evo_front.specs.declared.library.LibraryFault.TheVariants as fault

-- the most bytes of a source file
abbrev pub file_limit : ℕ
file_limit = 2 ^ 20

-- the most bytes of an interface's text
abbrev pub interface_limit : ℕ
interface_limit = 2 ^ 24

-- a text that is accepted as a library of this name, with these functions: it spells a module of the first form
pub record IsLibraryText (library text : List ℕ) (functions : List Function) : Type 0 where
  pub tree : ModuleTree
  pub spells : Spells text (form.Library library) tree
  pub form_is : library_of tree ≡ Some functions
  pub accepted : IsAcceptedLibrary library functions

-- a text that is accepted as a client of the interface: it spells a module of the first form
pub record IsClientText (interface : Interface) (text : List ℕ) (client : Client) : Type 0 where
  pub tree : ModuleTree
  pub spells : Spells text form.Client tree
  pub form_is : client_of tree ≡ Some client
  pub accepted : IsAcceptedClient interface client

-- a text that spells the module of a library, which is not accepted
pub record IsUnbuiltLibrary (library text : List ℕ) : Type 0 where
  pub tree : ModuleTree
  pub spells : Spells text (form.Library library) tree
  pub none : (functions : List Function) → IsLibraryText library text functions → ⊥

-- a text that spells the module of a client, which is not accepted
pub record IsUnbuiltClient (interface : Interface) (text : List ℕ) : Type 0 where
  pub tree : ModuleTree
  pub spells : Spells text form.Client tree
  pub none : (client : Client) → IsClientText interface text client → ⊥

-- the functions of the library that a module is, or that it is none that is accepted
abbrev pub FindsLibrary : List ℕ → ModuleTree → Option (List Function) → Type 0
FindsLibrary library tree None = (functions : List Function) → library_of tree ≡ Some functions → IsAcceptedLibrary library functions → ⊥
FindsLibrary library tree (Some functions) = (library_of tree ≡ Some functions) × IsAcceptedLibrary library functions

-- the client that a module is, or that it is none that is accepted
abbrev pub FindsClient : Interface → ModuleTree → Option Client → Type 0
FindsClient interface tree None = (client : Client) → client_of tree ≡ Some client → IsAcceptedClient interface client → ⊥
FindsClient interface tree (Some client) = (client_of tree ≡ Some client) × IsAcceptedClient interface client

-- the interface, or that its text is too long
abbrev pub IsInterfaceWithin : Interface → Option Interface → Type 0
IsInterfaceWithin interface None = interface_limit < length (interface_text interface)
IsInterfaceWithin interface (Some found) = (found ≡ interface) × (length (interface_text interface) ≤ interface_limit)

-- what acceptance answers: the library of the text with its interface, or why there is none
abbrev pub AcceptsLibrary : List ℕ → List ℕ → Result AcceptedLibrary LibraryFault → Type 0
AcceptsLibrary library text (Ok found) = IsLibraryText library text found.functions × (found.interface ≡ interface_of library found.functions) × (length (interface_text found.interface) ≤ interface_limit)
AcceptsLibrary library text (Err (fault.Refused found)) = IsTextFault text (form.Library library) found
AcceptsLibrary library text (Err fault.NotBuilt) = IsUnbuiltLibrary library text
AcceptsLibrary library text (Err fault.InterfaceTooLong) = (functions : List Function) × IsLibraryText library text functions × (interface_limit < length (interface_text (interface_of library functions)))
AcceptsLibrary library text (Err fault.Memory) = Unit {0}

-- the interface of a library that is accepted is accepted
abbrev pub HasAcceptedInterface : Result AcceptedLibrary LibraryFault → Type 0
HasAcceptedInterface (Ok found) = IsAcceptedInterface found.interface
HasAcceptedInterface (Err e) = Unit {0}

-- what acceptance answers for a client
abbrev pub AcceptsClient : Interface → List ℕ → Result Client ClientFault → Type 0
AcceptsClient interface text (Ok client) = IsClientText interface text client
AcceptsClient interface text (Err (client_fault.Refused found)) = IsTextFault text form.Client found
AcceptsClient interface text (Err client_fault.NotBuilt) = IsUnbuiltClient interface text
AcceptsClient interface text (Err client_fault.Memory) = Unit {0}
