use Rattle.std.proofs.Common.{◌≡◌, ℕ, List, Some, subst, sym}
use Rattle.evo_first_form.specs.Interface.{interface_of}
use Rattle.evo_first_form.specs.Accepted.{IsAcceptedLibrary, IsAcceptedInterface}
use Rattle.evo_first_form.specs.FirstForm.{library_of}
use Rattle.evo_first_form.proofs.FactLemmas.{library_fact}
use Rattle.evo_tree.specs.declared.module.Form.TheVariants as form
use Rattle.evo_tree.specs.Modules.{Spells}
use Rattle.evo_front.proofs.Plain.{readable}
use Rattle.evo_front.proofs.Unbuilt.{unbuilt_library}
use Rattle.evo_front.proofs.Visible.{accepted_interface}
use Rattle.evo_front.proofs.library.accept_library.Goals as goal

pub returns-in_default-clause-accepts : goal.returns-in_default-clause-accepts
returns-in_default-clause-accepts c =
    let spells : Spells c.args.text.now (form.Library c.args.library.now) c.in-Ok.tree = subst (λ (name : List ℕ). Spells c.args.text.now (form.Library name) c.in-Ok.tree) c.in_ok-copy.ensures c.in-Ok.ensures.spelled in
    unbuilt_library c.one_module.ensures c.args.library.now c.args.text.now c.in-Ok.tree spells (rw c.in_default.is at c.in_ok-functions.ensures)

pub reread_interface-requires : goal.reread_interface-requires
reread_interface-requires c =
    let found : (library_of c.in-Ok.tree ≡ Some c.in-Some.functions) × IsAcceptedLibrary c.args.library.now c.in-Some.functions = rw c.in-Some.is at c.in_ok-functions.ensures in
    let list : c.as_slice.result.now ≡ c.in-Some.functions = c.as_slice.ensures in
    rw list (readable c.args.library.now c.in-Some.functions c.requires.plain (library_fact c.in-Ok.tree c.in-Some.functions found.0))

pub returns-clause-interface : goal.returns-clause-interface
returns-clause-interface c =
    let accepted : IsAcceptedLibrary c.args.library.now c.in-Some.functions = (rw c.in-Some.is at c.in_ok-functions.ensures).1 in
    let found : c.in-Some-2.interface ≡ interface_of c.args.library.now c.in-Some.functions = rw c.as_slice.ensures at (rw c.in-Some-2.is at c.in_ok-interface.ensures).0 in
    subst IsAcceptedInterface (sym found) (accepted_interface c.args.library.now c.in-Some.functions accepted)
