-- The condition of each rule that compares an old declaration with the new one of its key.
use Rattle.std.specs.Prelude.{ℕ, suc, zero, Bool, true, false, not, ◌&&◌, ◌||◌, ◌==◌, List, [], ◌∷◌, filter, length, Option, Some, None, if◌then◌else◌}
use Rattle.std.specs.Option.{option_map, option_and_then, option_map_or}
use Rattle.std.specs.Str.{bytes_eq}
use Rattle.evo_base.specs.declared.key.Key.{Key}
use Rattle.evo_tree.specs.declared.statement.Introducer.{Introducer}
use Rattle.evo_tree.specs.declared.statement.Introducer.TheVariants as introducer
use Rattle.evo_tree.specs.declared.declaration.NominalKind.TheVariants as nominal
use Rattle.evo_resolved.specs.declared.declaration.RDecl.{RDecl}
use Rattle.evo_resolved.specs.declared.declaration.RDeclKind.{RDeclKind}
use Rattle.evo_resolved.specs.declared.declaration.RDeclKind.TheVariants as kind
use Rattle.evo_resolved.specs.declared.declaration.RHeader.{RHeader}
use Rattle.evo_resolved.specs.declared.declaration.RParameter.{RParameter}
use Rattle.evo_resolved.specs.declared.declaration.RPayload.{RPayload}
use Rattle.evo_resolved.specs.declared.declaration.Kept.{Kept}
use Rattle.evo_resolved.specs.declared.declaration.Kept.TheVariants as kept
use Rattle.evo_resolved.specs.declared.resolved_type.RReference.{RReference}
use Rattle.evo_resolved.specs.declared.resolved_type.RTypeName.{RTypeName}
use Rattle.evo_resolved.specs.declared.module.RModule.{RModule}
use Rattle.evo_meaning.specs.Keys.{same_key}
use Rattle.evo_breaks.specs.declared.rule.Rule.{Rule}
use Rattle.evo_breaks.specs.declared.rule.Rule.TheVariants as rule
use Rattle.evo_breaks.specs.Words.{is_lost, differs, is_open, is_public, is_usable, is_final, is_static, is_mutating, is_frozen, is_introduced_later}
use Rattle.evo_breaks.specs.Same.{same_list, same_set, same_written, same_reference, same_requirement, same_result, same_label}
use Rattle.evo_breaks.specs.Found.{owner_of, is_in_extension, type_in, type_round, is_same_type_kind}

-- ---- access, for all to which clients may refer

abbrev pub is_class : RDeclKind → Bool
is_class (kind.Nominal nominal.Class u ps) = true
is_class k = false

-- what was seen by clients no longer is, what inlinable bodies could use they no longer can, or a class can no longer be subclassed
abbrev pub is_access_lowered : RDecl → RDecl → Bool
is_access_lowered d n = is_lost (is_public d) (is_public n) || is_lost (is_usable d) (is_usable n) || (is_class d.kind && is_lost (is_open d) (is_open n))

-- ---- functions and initialisers

abbrev pub same_parameter : RParameter → RParameter → Bool
same_parameter a b = same_written a.written b.written

-- names of parameters, of generic ones too, do not count, and labels are in the key
abbrev pub same_header : RHeader → RHeader → Bool
same_header a b = (length a.signature.generics == length b.signature.generics) && same_set same_requirement a.signature.requirements b.signature.requirements && same_list same_parameter a.parameters b.parameters && same_result a.result b.result

abbrev pub is_other_header : RDeclKind → RDeclKind → Bool
is_other_header (kind.Function a) (kind.Function b) = not (same_header a b)
is_other_header (kind.Initialiser a) (kind.Initialiser b) = not (same_header a b)
is_other_header (kind.Function a) n = true
is_other_header (kind.Initialiser a) n = true
is_other_header d n = false

abbrev pub is_called : RDeclKind → Bool
is_called (kind.Function h) = true
is_called (kind.Initialiser h) = true
is_called k = false

abbrev pub is_signature_changed : RDecl → RDecl → Bool
is_signature_changed d n = is_called d.kind && (is_other_header d.kind n.kind || differs (is_static d) (is_static n) || differs (is_mutating d) (is_mutating n))

-- ---- properties

abbrev pub is_settable : Introducer → Kept → Bool
is_settable introducer.Var kept.Stored = true
is_settable i (kept.Computed setter) = setter
is_settable i k = false

abbrev pub is_property_changed_by : RDeclKind → RDeclKind → Bool
is_property_changed_by (kind.Property i t k) (kind.Property j u l) = not (same_written t u) || is_lost (is_settable i k) (is_settable j l)
is_property_changed_by (kind.Property i t k) n = true
is_property_changed_by d n = false

-- ---- what clients lay out and enumerate

-- the stored properties and the cases of a type are the members that make it up
abbrev pub is_component : RDeclKind → Bool
is_component (kind.Property i t kept.Stored) = true
is_component (kind.Case ps) = true
is_component k = false

abbrev pub is_owned_by : Key → Option Key → Bool
is_owned_by k None = false
is_owned_by k (Some o) = same_key o k

abbrev pub is_component_of : Key → RDecl → Bool
is_component_of k d = is_component d.kind && is_owned_by k (owner_of d)

unfoldable pub components : RModule → Key → List RDecl
components m k = filter (is_component_of k) m.decls

abbrev pub same_value : RPayload → RPayload → Bool
same_value a b = same_label a.label b.label && same_written a.written b.written

abbrev pub same_payload : RDeclKind → RDeclKind → Bool
same_payload (kind.Case ps) (kind.Case qs) = same_list same_value ps qs
same_payload _ _ = false

abbrev pub same_content : RDeclKind → RDeclKind → Bool
same_content (kind.Property i t k) (kind.Property j u l) = same_written t u
same_content (kind.Case ps) (kind.Case qs) = same_list same_value ps qs
same_content _ _ = false

-- the name, and what it holds
abbrev pub same_component : RDecl → RDecl → Bool
same_component a b = bytes_eq a.key.base b.key.base && same_content a.kind b.kind

unfoldable pub same_components : RModule → RModule → Key → Bool
same_components old new k = same_list same_component (components old k) (components new k)

abbrev pub are_frozen : RDecl → RDecl → Bool
are_frozen d n = is_frozen d && is_frozen n

abbrev pub is_struct : RDeclKind → Bool
is_struct (kind.Nominal nominal.Struct u ps) = true
is_struct k = false

abbrev pub is_enum : RDeclKind → Bool
is_enum (kind.Nominal nominal.Enum u ps) = true
is_enum k = false

unfoldable pub is_layout_changed : RModule → RModule → RDecl → RDecl → Bool
is_layout_changed old new d n = are_frozen d n && not (same_components old new d.own)

-- ---- classes

abbrev pub superclass_by : RDeclKind → Option Key
superclass_by (kind.Nominal n u ps) = option_map (λ (r : RReference). r.key) u
superclass_by k = None

abbrev pub superclass_in : RModule → Key → Option Key
superclass_in m k = option_and_then (λ (d : RDecl). superclass_by d.kind) (type_in m k)

-- the class stands above, so many steps up at most
unfoldable pub is_above : ℕ → RModule → Option Key → Key → Bool
is_above zero m below above = false
is_above (suc n) m None above = false
is_above (suc n) m (Some k) above = same_key k above || is_above n m (superclass_in m k) above

-- no way upwards without a circle is longer than there are declarations
unfoldable pub is_ancestor : RModule → Key → Key → Bool
is_ancestor m above k = is_above (suc (length m.decls)) m (superclass_in m k) above

abbrev pub is_superclass_lost : RModule → RDecl → Bool
is_superclass_lost new d = option_map_or (λ up. not (is_ancestor new up d.own)) (superclass_by d.kind) false

abbrev pub is_class_there : Option RDecl → Bool
is_class_there None = false
is_class_there (Some d) = is_class d.kind

abbrev pub is_final_there : Option RDecl → Bool
is_final_there None = false
is_final_there (Some d) = is_final d

-- it cannot be overridden: by its own word, by that of its class, or since it stands in an extension
unfoldable pub is_closed : RModule → RDecl → Bool
is_closed m d = is_final d || is_in_extension d.standing || is_final_there (type_round m d)

abbrev pub is_function : RDeclKind → Bool
is_function (kind.Function h) = true
is_function k = false

unfoldable pub is_overriding_changed : RModule → RModule → RDecl → RDecl → Bool
is_overriding_changed old new d n = is_function d.kind && is_class_there (type_round old d) && (is_lost (is_open d) (is_open n) || differs (is_closed old d) (is_closed new n))

-- ---- protocols

abbrev pub same_setter : RDeclKind → RDeclKind → Bool
same_setter (kind.Property i t k) (kind.Property j u l) = not (differs (is_settable i k) (is_settable j l))
same_setter d n = true

abbrev pub is_requirement_changed : RDecl → RDecl → Bool
is_requirement_changed d n = is_signature_changed d n || is_property_changed_by d.kind n.kind || not (same_setter d.kind n.kind)

abbrev pub inherited_by : RDeclKind → List RReference
inherited_by (kind.Nominal n u ps) = ps
inherited_by k = []

abbrev pub is_protocol : RDeclKind → Bool
is_protocol (kind.Nominal nominal.Protocol u ps) = true
is_protocol k = false

abbrev pub is_inheritance_changed : RDecl → RDecl → Bool
is_inheritance_changed d n = is_protocol d.kind && not (same_set same_reference (inherited_by d.kind) (inherited_by n.kind))

abbrev pub is_there : {A : Type 0} → Option A → Bool
is_there None = false
is_there (Some x) = true

abbrev pub is_association_changed : RDeclKind → RDeclKind → Bool
is_association_changed (kind.AssociatedType ps t) (kind.AssociatedType qs u) = not (same_set same_reference ps qs) || is_lost (is_there t) (is_there u)
is_association_changed d n = true

-- ---- the rules

-- whether the old declaration and the new one of its key break a rule
unfoldable pub is_broken : Rule → RModule → RModule → RDecl → RDecl → Bool
is_broken rule.KindChanged old new d n = not (is_same_type_kind d.kind n.kind)
is_broken rule.AccessLowered old new d n = is_access_lowered d n
is_broken rule.SignatureChanged old new d n = is_signature_changed d n
is_broken rule.PropertyChanged old new d n = is_property_changed_by d.kind n.kind
is_broken rule.FrozenChanged old new d n = differs (is_frozen d) (is_frozen n)
is_broken rule.FrozenStorageChanged old new d n = is_struct d.kind && is_layout_changed old new d n
is_broken rule.FrozenCasesChanged old new d n = is_enum d.kind && is_layout_changed old new d n
is_broken rule.CaseChanged old new d n = not (same_payload d.kind n.kind)
is_broken rule.ClassFinalityChanged old new d n = is_class d.kind && differs (is_final d) (is_final n)
is_broken rule.SuperclassLost old new d n = is_superclass_lost new d
is_broken rule.OpenOrFinalChanged old new d n = is_overriding_changed old new d n
is_broken rule.RequirementChanged old new d n = is_requirement_changed d n
is_broken rule.AssociatedTypeChanged old new d n = is_association_changed d.kind n.kind
is_broken rule.InheritedProtocolsChanged old new d n = is_inheritance_changed d n
is_broken rule.IntroducedLater old new d n = is_introduced_later d.attrs n.attrs
is_broken _ old new d n = false
