-- The rules of evolution as one list: what an old interface and a new one break, in the order of the old one.
use Rattle.std.specs.Prelude.{ℕ, Bool, true, false, not, ◌&&◌, ◌||◌, ◌==◌, List, [], ◌∷◌, ◌++◌, map, filter, flat_map, Option, Some, None, if◌then◌else◌}
use Rattle.std.specs.List.{list_any, list_all}
use Rattle.std.specs.Option.{option_map, option_map_or}
use Rattle.std.specs.Str.{bytes_eq}
use Rattle.evo_base.specs.declared.key.Key.{Key}
use Rattle.evo_tree.specs.declared.declaration.NominalKind.TheVariants as nominal
use Rattle.evo_resolved.specs.declared.declaration.RDecl.{RDecl}
use Rattle.evo_resolved.specs.declared.declaration.RDeclKind.{RDeclKind}
use Rattle.evo_resolved.specs.declared.declaration.RDeclKind.TheVariants as kind
use Rattle.evo_resolved.specs.declared.resolved_type.RReference.{RReference}
use Rattle.evo_resolved.specs.declared.module.RConformance.{RConformance}
use Rattle.evo_resolved.specs.declared.module.RDefault.{RDefault}
use Rattle.evo_resolved.specs.declared.module.RProtocol.{RProtocol}
use Rattle.evo_resolved.specs.declared.module.RTypeWitness.{RTypeWitness}
use Rattle.evo_resolved.specs.declared.module.RModule.{RModule}
use Rattle.evo_meaning.specs.Keys.{same_key}
use Rattle.evo_breaks.specs.declared.sort.Sort.{Sort}
use Rattle.evo_breaks.specs.declared.sort.Sort.TheVariants as sort
use Rattle.evo_breaks.specs.declared.rule.Rule.{Rule}
use Rattle.evo_breaks.specs.declared.rule.Rule.TheVariants as rule
use Rattle.evo_breaks.specs.declared.rule.Side.{Side}
use Rattle.evo_breaks.specs.declared.rule.Side.TheVariants as side
use Rattle.evo_breaks.specs.declared.rule.Break.{Break}
use Rattle.evo_breaks.specs.Words.{is_public, is_usable, is_frozen}
use Rattle.evo_breaks.specs.Same.{same_type}
use Rattle.evo_breaks.specs.Found.{owner_of, sort_of, declared, declared_as, conformance_in, type_in, type_round, is_gone, is_with_gone}
use Rattle.evo_breaks.specs.Conditions.{is_owned_by, is_there, is_protocol, is_broken}

-- ---- pairs of declarations

-- the rules that are tried of a declaration and the new one of its key. Of a protocol those on what its new members ask of clients stand between the two lists.
unfoldable pub first_rules : Sort → List Rule
first_rules sort.Nominal = rule.AccessLowered ∷ rule.FrozenChanged ∷ rule.FrozenStorageChanged ∷ rule.FrozenCasesChanged ∷ rule.ClassFinalityChanged ∷ rule.SuperclassLost ∷ []
first_rules sort.Member = rule.AccessLowered ∷ rule.SignatureChanged ∷ rule.PropertyChanged ∷ rule.OpenOrFinalChanged ∷ rule.IntroducedLater ∷ []
first_rules sort.Requirement = rule.RequirementChanged ∷ []
first_rules sort.AssociatedType = rule.AssociatedTypeChanged ∷ rule.IntroducedLater ∷ []
first_rules sort.Case = rule.CaseChanged ∷ []
first_rules sort.Untried = []

unfoldable pub last_rules : Sort → List Rule
last_rules sort.Nominal = rule.InheritedProtocolsChanged ∷ rule.IntroducedLater ∷ []
last_rules s = []

abbrev pub kind_rules : List Rule
kind_rules = rule.KindChanged ∷ []

abbrev pub between : Rule → Key → Key → Break
between r a b = record { rule = r; old = side.Declared a; new = side.Declared b }

abbrev pub broken_by : List Rule → RModule → RModule → RDecl → RDecl → List Break
broken_by [] old new d n = []
broken_by (r ∷ rs) old new d n = if is_broken r old new d n then between r d.own n.own ∷ broken_by rs old new d n else broken_by rs old new d n

-- ---- what a protocol newly asks of the types that conform to it

abbrev pub protocol_in : List RProtocol → Key → List RDefault
protocol_in [] k = []
protocol_in (p ∷ ps) k = if same_key p.key k then p.defaults else protocol_in ps k

-- the member of an extension that stands in is `public`
abbrev pub has_public_default : RModule → RDefault → Bool
has_public_default m x = option_map_or (λ k. option_map_or is_public (declared m k) false) x.member false

-- a requirement that the old interface does not have, without a public default
abbrev pub is_demanding : RModule → RModule → RDefault → Bool
is_demanding old new x = not (is_there (declared_as sort.Requirement old x.requirement)) && not (has_public_default new x)

abbrev pub is_associated : RDeclKind → Bool
is_associated (kind.AssociatedType ps t) = true
is_associated k = false

-- an associated type of this name in another protocol
abbrev pub is_namesake : Key → RDecl → RDecl → Bool
is_namesake protocol a d = is_associated d.kind && bytes_eq d.own.base a.own.base && not (is_owned_by protocol (owner_of d))

unfoldable pub has_namesake : RModule → Key → RDecl → Bool
has_namesake m protocol a = list_any (is_namesake protocol a) m.decls

abbrev pub is_constrained : List RReference → Bool
is_constrained [] = false
is_constrained (p ∷ ps) = true

-- without a default, or with a constraint that a type may not meet that has a type of this name for another protocol
abbrev pub asks_more_by : Bool → RDeclKind → Bool
asks_more_by namesake (kind.AssociatedType ps t) = not (is_there t) || (is_constrained ps && namesake)
asks_more_by namesake k = false

-- an associated type of the protocol that the old interface does not have, and that asks more of what conforms
unfoldable pub asks_more : RModule → Key → RDecl → Bool
asks_more old protocol a = (is_associated a.kind && is_owned_by protocol (owner_of a)) && not (is_there (declared_as sort.AssociatedType old a.own)) && asks_more_by (has_namesake old protocol a) a.kind

unfoldable pub demands : RModule → RModule → Key → List Break
demands old new protocol = map (λ (x : RDefault). between rule.RequirementWithoutDefault protocol x.requirement) (filter (is_demanding old new) (protocol_in new.protocols protocol))

unfoldable pub associations : RModule → RModule → Key → List Break
associations old new protocol = map (λ (a : RDecl). between rule.AssociatedTypeChanged protocol a.own) (filter (asks_more old protocol) new.decls)

unfoldable pub protocol_breaks : RModule → RModule → RDecl → List Break
protocol_breaks old new d = if is_protocol d.kind then demands old new d.own ++ associations old new d.own else []

-- ---- what is gone

-- the type or protocol of a removed declaration, where the new interface declares it
abbrev pub side_of : Option RDecl → Side
side_of None = side.Module
side_of (Some d) = side.Declared d.own

unfoldable pub side_round : RModule → Option Key → Side
side_round new None = side.Module
side_round new (Some k) = side_of (type_in new k)

abbrev pub removal_rule : Sort → Rule
removal_rule sort.Requirement = rule.RequirementChanged
removal_rule sort.Case = rule.CaseChanged
removal_rule sort.AssociatedType = rule.AssociatedTypeChanged
removal_rule s = rule.DeclarationRemoved

abbrev pub removed : Rule → RModule → Key → Option Key → List Break
removed r new k owner = record { rule = r; old = side.Declared k; new = side_round new owner } ∷ []

-- ---- declarations

unfoldable pub compared : RModule → RModule → RDecl → RDecl → List Break
compared old new d n = broken_by (first_rules (sort_of d)) old new d n ++ protocol_breaks old new d ++ broken_by (last_rules (sort_of d)) old new d n

-- of a type or protocol that is of another kind nothing else is tried
unfoldable pub compared_by_kind : RModule → RModule → RDecl → RDecl → List Break
compared_by_kind old new d n = if is_broken rule.KindChanged old new d n then between rule.KindChanged d.own n.own ∷ [] else compared old new d n

abbrev pub is_nominal : Sort → Bool
is_nominal sort.Nominal = true
is_nominal s = false

unfoldable pub compared_to : RModule → RModule → RDecl → Option RDecl → List Break
compared_to old new d None = removed (removal_rule (sort_of d)) new d.own (owner_of d)
compared_to old new d (Some n) = if is_nominal (sort_of d) then compared_by_kind old new d n else compared old new d n

abbrev pub is_frozen_there : Option RDecl → Bool
is_frozen_there None = false
is_frozen_there (Some d) = is_frozen d

-- an enum that is frozen in both is compared as a whole
abbrev pub is_in_frozen : RModule → RModule → RDecl → Bool
is_in_frozen old new d = is_frozen_there (type_round old d) && is_frozen_there (type_round new d)

-- a property that is not kept for clients is storage alone, which is compared with its type
abbrev pub is_storage_alone : RDecl → RDeclKind → Bool
is_storage_alone d (kind.Property i t k) = not (is_usable d)
is_storage_alone d k = false

abbrev pub is_tried_as : Sort → RModule → RModule → RDecl → Bool
is_tried_as sort.Member old new d = not (is_storage_alone d d.kind)
is_tried_as sort.Case old new d = not (is_in_frozen old new d)
is_tried_as sort.Untried old new d = false
is_tried_as s old new d = true

unfoldable pub is_tried : RModule → RModule → RDecl → Bool
is_tried old new d = is_tried_as (sort_of d) old new d && not (is_with_gone old new (owner_of d))

unfoldable pub declaration_breaks : RModule → RModule → RDecl → List Break
declaration_breaks old new d = if is_tried old new d then compared_to old new d (declared_as (sort_of d) new d.own) else []

-- ---- conformances

-- the protocols to which a header says that a type conforms
abbrev pub conforms_to : RDeclKind → List RReference
conforms_to (kind.Nominal nominal.Protocol u ps) = []
conforms_to (kind.Nominal n u ps) = ps
conforms_to (kind.Extension n t ps) = ps
conforms_to k = []

abbrev pub is_conformance_to : Key → Key → RConformance → Bool
is_conformance_to k p c = same_key c.conformer k && same_key c.protocol.key p

abbrev pub conformance_of : List RConformance → Key → Key → Option RConformance
conformance_of [] k p = None
conformance_of (c ∷ cs) k p = if is_conformance_to k p c then Some c else conformance_of cs k p

-- the associated type has the same name and type
abbrev pub same_witness : RTypeWitness → RTypeWitness → Bool
same_witness a b = bytes_eq a.name b.name && same_type a.ty b.ty

abbrev pub keeps_types : RConformance → RConformance → Bool
keeps_types c n = list_all (λ a. list_any (λ b. same_witness a b) n.types) c.types

abbrev pub compared_conformance : RModule → RConformance → Option RConformance → List Break
compared_conformance new c None = removed rule.ConformanceChanged new c.key (Some c.conformer)
compared_conformance new c (Some n) = if keeps_types c n then [] else between rule.ConformanceChanged c.key n.key ∷ []

unfoldable pub conformance_breaks : RModule → RModule → Key → RReference → List Break
conformance_breaks old new k p = option_map_or (λ (c : RConformance). compared_conformance new c (conformance_in new c.key)) (conformance_of old.conformances k p.key) []

-- those of a type that is gone are not tried
unfoldable pub header_breaks : RModule → RModule → RDecl → List Break
header_breaks old new d = if is_gone old new d.own then [] else flat_map (conformance_breaks old new d.own) (conforms_to d.kind)

-- ---- the whole list

-- a declaration, and then the conformances of its header
unfoldable pub breaks_of : RModule → RModule → RDecl → List Break
breaks_of old new d = declaration_breaks old new d ++ header_breaks old new d

abbrev pub all_breaks : RModule → RModule → List Break
all_breaks old new = flat_map (breaks_of old new) old.decls

abbrev pub module_break : Break
module_break = record { rule = rule.ModuleNameDiffers; old = side.Module; new = side.Module }

unfoldable pub broken_rules : RModule → RModule → List Break
broken_rules old new = if bytes_eq old.name new.name then all_breaks old new else module_break ∷ []
