-- Texts that spell a module which is not accepted.
use Rattle.std.proofs.Common.{◌≡◌, ℕ, List, Some, None, subst}
use Rattle.evo_first_form.specs.declared.Interface.{Interface}
use Rattle.evo_first_form.specs.FirstForm.{library_of, client_of}
use Rattle.evo_tree.specs.declared.module.Form.TheVariants as form
use Rattle.evo_tree.specs.declared.module.ModuleTree.{ModuleTree}
use Rattle.evo_tree.specs.Modules.{Spells}
use Rattle.evo_parse.specs.Text.{OneModule}
use Rattle.evo_front.specs.Texts.{FindsLibrary, FindsClient, IsUnbuiltLibrary, IsUnbuiltClient}

pub unbuilt_library : OneModule → (library text : List ℕ) (tree : ModuleTree) → Spells text (form.Library library) tree → FindsLibrary library tree None → IsUnbuiltLibrary library text
unbuilt_library one library text tree spells none = record {
  tree = tree;
  spells = spells;
  none = λ functions is.
      let same : is.tree ≡ tree = one text (form.Library library) is.tree tree is.spells spells in
      none functions (subst (λ (m : ModuleTree). library_of m ≡ Some functions) same is.form_is) is.accepted;
}

pub unbuilt_client : OneModule → (interface : Interface) (text : List ℕ) (tree : ModuleTree) → Spells text form.Client tree → FindsClient interface tree None → IsUnbuiltClient interface text
unbuilt_client one interface text tree spells none = record {
  tree = tree;
  spells = spells;
  none = λ client is.
      let same : is.tree ≡ tree = one text form.Client is.tree tree is.spells spells in
      none client (subst (λ (m : ModuleTree). client_of m ≡ Some client) same is.form_is) is.accepted;
}
