-- Reading the text of an interface again gives the interface.
use Rattle.std.proofs.Common.{◌≡◌, ◌≤◌, ℕ, List, length, sym, Result, Ok, Err, Option, Some, None}
use Rattle.std.specs.Prelude.{IfOk}
use Rattle.std.specs.declared.alloc.AllocError.{AllocError}
use Rattle.evo_first_form.specs.declared.Interface.{Interface}
use Rattle.evo_iface.specs.Text.{interface_text, IsReadable, Reads}
use Rattle.evo_front.specs.Texts.{IsInterfaceWithin, interface_limit}

pub within : (i : Interface) (text : List ℕ) → text ≡ interface_text i → IsReadable i → length (interface_text i) ≤ interface_limit → (r : Result (Option Interface) AllocError) → IfOk r (Reads text) → IfOk r (IsInterfaceWithin i)
within i text e readable short (Ok None) reads = absurd (reads i readable e)
within i text e readable short (Ok (Some found)) reads = (sym (reads.1 i readable e), short)
within i text e readable short (Err x) reads = tt
