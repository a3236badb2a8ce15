-- Parts that are gathered one after the other.
use Rattle.std.proofs.Common.{◌≡◌, ◌-◌, List, [], ◌∷◌, ◌++◌, length, sym, ◌∙◌, ap, arith, append_assoc, append-nil}
use Rattle.evo_combinators.specs.Reader.{Reader, with_front}
use Rattle.evo_combinators.specs.Attempt.{tries_from, tries}
use Rattle.evo_combinators.proofs.TriesTurns.{TriesAfter}
use Rattle.evo_tree.specs.declared.name.Identifier.{Identifier}
use Rattle.evo_tree.specs.declared.module.Item.{Item}
use Rattle.evo_tree.specs.declared.module.ModulePart.{ModulePart}
use Rattle.evo_tree.specs.declared.module.ModulePart.TheVariants as part
use Rattle.evo_tree.specs.Modules.{imports_of, items_of}

pub tries_begin : {T B St : Type 0} (q : St → Reader T B) (next : St → B → St) (found : List B) (s : St) (ts : List T) →
    with_front found (tries q next s ts) ≡ TriesAfter q next (length ts - 0) found s ts
unfolding tries
tries_begin q next found s ts = let n : length ts ≡ length ts - 0 = omega arith in ap (λ k. with_front found (tries_from q next k s ts)) n

module _ (x : ModulePart) (n : Identifier) (is : x ≡ part.Import n) where
  pub imports_import : (parts : List ModulePart) → imports_of (parts ++ x ∷ []) ≡ imports_of parts ++ n ∷ []
  imports_import [] = ap (λ y. imports_of (y ∷ [])) is
  imports_import (part.Import m ∷ parts) = ap (λ ns. m ∷ ns) (imports_import parts)
  imports_import (part.Items ms ∷ parts) = imports_import parts

  pub items_import : (parts : List ModulePart) → items_of (parts ++ x ∷ []) ≡ items_of parts
  items_import [] = ap (λ y. items_of (y ∷ [])) is
  items_import (part.Import m ∷ parts) = items_import parts
  items_import (part.Items ms ∷ parts) = ap (λ rest. ms ++ rest) (items_import parts)

module _ (x : ModulePart) (more : List Item) (is : x ≡ part.Items more) where
  pub imports_items : (parts : List ModulePart) → imports_of (parts ++ x ∷ []) ≡ imports_of parts
  imports_items [] = ap (λ y. imports_of (y ∷ [])) is
  imports_items (part.Import m ∷ parts) = ap (λ ns. m ∷ ns) (imports_items parts)
  imports_items (part.Items ms ∷ parts) = imports_items parts

  pub items_items : (parts : List ModulePart) → items_of (parts ++ x ∷ []) ≡ items_of parts ++ more
  items_items [] = ap (λ y. items_of (y ∷ [])) is ∙ append-nil more
  items_items (part.Import m ∷ parts) = items_items parts
  items_items (part.Items ms ∷ parts) = ap (λ rest. ms ++ rest) (items_items parts) ∙ sym (append_assoc ms (items_of parts) more)
