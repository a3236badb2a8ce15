-- The key of a `typealias`.
use Rattle.std.proofs.Common.{◌≡◌, ℕ, List, Option, Some, None, false, slice_get, refl, sym, ap, ◌∙◌}
use Rattle.std.specs.Option.{option_and_then, option_map}
use Rattle.evo_base.specs.declared.key.Key.{Key}
use Rattle.evo_base.specs.declared.key.Mark.{Mark}
use Rattle.evo_base.specs.declared.place.Place.{Place}
use Rattle.evo_tree.specs.declared.name.Identifier.{Identifier}
use Rattle.evo_tree.specs.declared.name.TypeName.{TypeName}
use Rattle.evo_tree.specs.declared.declaration.NominalKind.TheVariants as nominal
use Rattle.evo_tree.specs.declared.declaration.DeclKind.TheOpen as de
use Rattle.evo_names.specs.declared.declared_name.Sort.TheVariants as sort
use Rattle.evo_names.specs.Listed.{Text, Within, top, braces, extension, Kind, World, Declaration, declarations, is_requirement, labels_of, sort_of, name_by}
use Rattle.evo_names.specs.Meets.{key_by_name, marks_of}
use Rattle.evo_names.specs.Keys.{context_of, declared_name, declared_name_by, own_key}
use Rattle.evo_type_names.specs.Aliases.{alias_at, alias_by, alias_in, alias_name}

no_requirement : (within : Within) → is_requirement within sort.Alias ≡ false
no_requirement top = refl
no_requirement (braces nominal.Struct n) = refl
no_requirement (braces nominal.Enum n) = refl
no_requirement (braces nominal.Class n) = refl
no_requirement (braces nominal.Protocol n) = refl
no_requirement (extension t) = refl

abbrev key_with : Text → List Text → Text → Option (List Text) → List Mark → Key
key_with m context n labels marks = record { «module» = m; context = context; base = n; labels = labels; part = record { marks = marks } }

key_of_alias : (d : Declaration) (i : Identifier) (t : TypeName) → d.entry.kind ≡ de.TypeAlias i t → (context : List Text) → key_by_name (declared_name_by d.world d.entry (i.place, i.text) context) ≡ alias_in d.world i.text context
key_of_alias d i t same context =
    ap (λ (ls : Option (List Text)). key_with d.world.own.name context i.text ls (marks_of (is_requirement d.entry.within (sort_of d.entry.kind)))) (ap labels_of same)
    ∙ ap (key_with d.world.own.name context i.text None) (ap (λ (k : Kind). marks_of (is_requirement d.entry.within (sort_of k))) same ∙ ap marks_of (no_requirement d.entry.within))

in_context : (d : Declaration) (i : Identifier) (t : TypeName) → d.entry.kind ≡ de.TypeAlias i t → (o : Option (List Text)) → option_map (alias_in d.world i.text) o ≡ option_map key_by_name (option_map (declared_name_by d.world d.entry (i.place, i.text)) o)
in_context d i t same None = refl
in_context d i t same (Some context) = ap (λ (k : Key). Some k) (sym (key_of_alias d i t same context))

own_alias : (d : Declaration) (i : Identifier) (t : TypeName) → d.entry.kind ≡ de.TypeAlias i t → option_map (alias_in d.world i.text) (context_of d.world d.entry.within) ≡ own_key d
unfolding declared_name
own_alias d i t same =
    in_context d i t same (context_of d.world d.entry.within)
    ∙ ap (λ (k : Kind). option_map key_by_name (option_and_then (λ (name : Place × Text). option_map (declared_name_by d.world d.entry name) (context_of d.world d.entry.within)) (name_by d.entry.place k))) (sym same)

pub alias_found : (w : World) (number : ℕ) (d : Declaration) (i : Identifier) (t : TypeName) → Some d ≡ slice_get (declarations w) number → d.entry.kind ≡ de.TypeAlias i t → option_map (alias_in d.world i.text) (context_of d.world d.entry.within) ≡ alias_at w number
alias_found w number d i t at same =
    own_alias d i t same ∙ ap (λ (k : Kind). alias_by d k) (sym same) ∙ ap (λ (o : Option Declaration). option_and_then (λ (d : Declaration). alias_by d d.entry.kind) o) at

named_kind : (d : Declaration) (i : Identifier) (kind : Kind) → d.entry.kind ≡ kind → Some i ≡ alias_name kind → option_map (alias_in d.world i.text) (context_of d.world d.entry.within) ≡ alias_by d kind
named_kind d i (de.TypeAlias j t) is same = let same : i ≡ j = cc in ap (λ (k : Identifier). option_map (alias_in d.world k.text) (context_of d.world d.entry.within)) same ∙ own_alias d j t is
named_kind d i (de.Function j h b) is same = absurd cc
named_kind d i (de.Initialiser h b) is same = absurd cc
named_kind d i (de.Property k j t x) is same = absurd cc
named_kind d i (de.AssociatedType j ts t) is same = absurd cc
named_kind d i (de.Case j ps) is same = absurd cc
named_kind d i (de.Nominal k j ts ds) is same = absurd cc
named_kind d i (de.Extension t ts ds) is same = absurd cc

pub alias_named : (w : World) (number : ℕ) (d : Declaration) (i : Identifier) → Some d ≡ slice_get (declarations w) number → Some i ≡ alias_name d.entry.kind → option_map (alias_in d.world i.text) (context_of d.world d.entry.within) ≡ alias_at w number
alias_named w number d i at same = named_kind d i d.entry.kind refl same ∙ ap (λ (o : Option Declaration). option_and_then (λ (d : Declaration). alias_by d d.entry.kind) o) at

unnamed_kind : (d : Declaration) (kind : Kind) → None ≡ alias_name kind → None ≡ alias_by d kind
unnamed_kind d (de.TypeAlias j t) same = absurd cc
unnamed_kind d k same = refl

pub alias_unnamed : (w : World) (number : ℕ) (d : Declaration) → Some d ≡ slice_get (declarations w) number → None ≡ alias_name d.entry.kind → None ≡ alias_at w number
alias_unnamed w number d at same = unnamed_kind d d.entry.kind same ∙ ap (λ (o : Option Declaration). option_and_then (λ (d : Declaration). alias_by d d.entry.kind) o) at
