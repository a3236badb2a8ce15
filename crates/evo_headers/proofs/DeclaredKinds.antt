-- What is declared, by the parts of its header.
use Rattle.std.proofs.Common.{◌≡◌, ℕ, zero, suc, List, [], ◌∷◌, map, true, false, Option, Some, None, refl, sym, ap, subst, ◌∙◌}
use Rattle.std.specs.Option.{option_map_or}
use Rattle.evo_base.specs.declared.key.Key.{Key}
use Rattle.evo_tree.specs.declared.name.Identifier.{Identifier}
use Rattle.evo_tree.specs.declared.name.TypeName.{TypeName}
use Rattle.evo_tree.specs.declared.statement.Block.{Block}
use Rattle.evo_tree.specs.declared.statement.Introducer.{Introducer}
use Rattle.evo_tree.specs.declared.declaration.Accessors.{Accessors}
use Rattle.evo_tree.specs.declared.declaration.GenericParameter.{GenericParameter}
use Rattle.evo_tree.specs.declared.declaration.Header.{Header}
use Rattle.evo_tree.specs.declared.declaration.Payload.{Payload}
use Rattle.evo_tree.specs.declared.declaration.NominalKind.{NominalKind}
use Rattle.evo_tree.specs.declared.declaration.NominalKind.TheVariants as nominal
use Rattle.evo_tree.specs.declared.declaration.Decl.{Decl}
use Rattle.evo_tree.specs.declared.declaration.DeclKind.TheOpen as de
use Rattle.evo_resolved.specs.declared.resolved_type.RTypeName.{RTypeName}
use Rattle.evo_resolved.specs.declared.declaration.RHeader.{RHeader}
use Rattle.evo_resolved.specs.declared.declaration.RPayload.{RPayload}
use Rattle.evo_resolved.specs.declared.declaration.RDeclKind.{RDeclKind}
use Rattle.evo_resolved.specs.declared.declaration.RDeclKind.TheVariants as rk
use Rattle.evo_names.specs.Listed.{Kind, World, Declaration, generics_of}
use Rattle.evo_names.specs.Heads.{class_named}
use Rattle.evo_names.specs.Written.{Scope}
use Rattle.evo_names.specs.Faults.{At, is_superclass, names_protocol, protocols_of, scope_of, types_of}
use Rattle.evo_names.specs.Resolved as resolved
use Rattle.evo_names.specs.Resolved.{IsHeader, IsKind, IsPayload, IsType, Pairs, kept_as, parted, protocol_of}
use Rattle.evo_headers.specs.Headers.{IsWhole}
use Rattle.evo_headers.specs.Inherited.{IsAssociated, IsExtension, IsNominal, NoExtension, no_head, no_protocols}
use Rattle.evo_headers.specs.Unresolved.{One, here, later, IsVoid, IsNoProtocol, Lacks, no_type, no_protocol, IsUnresolved, written, protocol, extended}
use Rattle.evo_headers.proofs.Lists.{found_in}

-- ---- what lacks something

void_type : (d : Declaration) (ts : List TypeName) → types_of d.entry.kind ≡ ts → One (IsVoid (scope_of d)) ts → IsUnresolved d
unfolding scope_of
void_type d ts is o =
    let f = found_in (types_of d.entry.kind) (subst (One (IsVoid (scope_of d))) (sym is) o) in
    written f.number f.item f.at f.holds

plain_protocol : (d : Declaration) (ps : List TypeName) → protocols_of d.entry.kind ≡ ps → ((j : ℕ) (t : TypeName) → is_superclass d.world d.entry.kind j t ≡ false) → One (IsNoProtocol d.world) ps → IsUnresolved d
plain_protocol d ps is none o =
    let f = found_in (protocols_of d.entry.kind) (subst (One (IsNoProtocol d.world)) (sym is) o) in
    protocol f.number f.item f.at f.holds (none f.number f.item)

lacking : (d : Declaration) (ts ps : List TypeName) → types_of d.entry.kind ≡ ts → protocols_of d.entry.kind ≡ ps → ((j : ℕ) (t : TypeName) → is_superclass d.world d.entry.kind j t ≡ false) → Lacks (scope_of d) ts ps → IsUnresolved d
unfolding scope_of
lacking d ts ps types protocols none (no_type o) = void_type d ts types o
lacking d ts ps types protocols none (no_protocol o) = plain_protocol d ps protocols none o

-- ---- behind a type's own name

record Behind (d : Declaration) (k : Kind) : Type 0 where
  number : ℕ
  item : TypeName
  at : At (protocols_of k) number item
  none : names_protocol d.world item ≡ false
  other : is_superclass d.world k number item ≡ false

behind_plain : (d : Declaration) (k : Kind) → ((j : ℕ) (t : TypeName) → is_superclass d.world k j t ≡ false) → One (IsNoProtocol d.world) (protocols_of k) → Behind d k
behind_plain d k none o = let f = found_in (protocols_of k) o in record { number = f.number; item = f.item; at = f.at; none = f.holds; other = none f.number f.item }

-- the first name is a class
behind_first : (d : Declaration) (i : Identifier) (t : TypeName) (ts : List TypeName) (ds : List Decl) → One (IsNoProtocol d.world) ts → Behind d (de.Nominal nominal.Class i (t ∷ ts) ds)
behind_first d i t ts ds o = let f = found_in ts o in record { number = suc f.number; item = f.item; at = f.at; none = f.holds; other = refl }

-- the first name is none
behind_no_class : (d : Declaration) (i : Identifier) (t : TypeName) (ts : List TypeName) (ds : List Decl) → class_named d.world t ≡ None → One (IsNoProtocol d.world) (t ∷ ts) → Behind d (de.Nominal nominal.Class i (t ∷ ts) ds)
behind_no_class d i t ts ds e (here p) = record { number = zero; item = t; at = refl; none = p; other = ap (λ o. option_map_or (λ (k : Key). true) o false) e }
behind_no_class d i t ts ds e (later o) = behind_first d i t ts ds o

by_class : (d : Declaration) (i : Identifier) (t : TypeName) (ts : List TypeName) (ds : List Decl) (o : Option Key) → class_named d.world t ≡ o → One (IsNoProtocol d.world) (option_map_or (λ (k : Key). let p : Option TypeName × List TypeName = (Some t, ts) in p) o (None, t ∷ ts)).1 → Behind d (de.Nominal nominal.Class i (t ∷ ts) ds)
by_class d i t ts ds (Some k) e o = behind_first d i t ts ds o
by_class d i t ts ds None e o = behind_no_class d i t ts ds e o

behind_name : (d : Declaration) (k : NominalKind) (i : Identifier) (ts : List TypeName) (ds : List Decl) → One (IsNoProtocol d.world) (parted d.world k ts).1 → Behind d (de.Nominal k i ts ds)
behind_name d nominal.Class i [] ds o = elim o [ ]
behind_name d nominal.Class i (t ∷ ts) ds o = by_class d i t ts ds (class_named d.world t) refl o
behind_name d nominal.Struct i ts ds o = behind_plain d (de.Nominal nominal.Struct i ts ds) (λ j t. refl) o
behind_name d nominal.Enum i ts ds o = behind_plain d (de.Nominal nominal.Enum i ts ds) (λ j t. refl) o
behind_name d nominal.Protocol i ts ds o = behind_plain d (de.Nominal nominal.Protocol i ts ds) (λ j t. refl) o

of_inherited : (d : Declaration) (k : NominalKind) (i : Identifier) (ts : List TypeName) (ds : List Decl) → d.entry.kind ≡ de.Nominal k i ts ds → One (IsNoProtocol d.world) (parted d.world k ts).1 → IsUnresolved d
of_inherited d k i ts ds is o =
    let b = behind_name d k i ts ds o in
    protocol b.number b.item (subst (λ (e : Kind). At (protocols_of e) b.number b.item) (sym is) b.at) b.none (subst (λ (e : Kind). is_superclass d.world e b.number b.item ≡ false) (sym is) b.other)

associated_by : (d : Declaration) (i : Identifier) (ts : List TypeName) (t : Option TypeName) (r : RDeclKind) → IsAssociated (scope_of d) ts t r → IsKind d (de.AssociatedType i ts t) r
unfolding scope_of
associated_by d i ts t r a = subst (IsKind d (de.AssociatedType i ts t)) (sym a.whole) (resolved.associated a.named a.written)

module _ (d : Declaration) (s : Scope) (same : s ≡ scope_of d) where
  pub type_void : (ts : List TypeName) (k : Kind) → d.entry.kind ≡ k → types_of k ≡ ts → One (IsVoid s) ts → IsUnresolved d
  type_void ts k is types o = void_type d ts (ap types_of is ∙ types) (subst (λ (s : Scope). One (IsVoid s) ts) same o)

  -- but for a superclass
  pub lacks : (ts ps : List TypeName) (k : Kind) → d.entry.kind ≡ k → types_of k ≡ ts → protocols_of k ≡ ps → ((j : ℕ) (t : TypeName) → is_superclass d.world k j t ≡ false) → Lacks s ts ps → IsUnresolved d
  lacks ts ps k is types protocols none l = lacking d ts ps (ap types_of is ∙ types) (ap protocols_of is ∙ protocols) (λ j t. ap (λ (k : Kind). is_superclass d.world k j t) is ∙ none j t) (subst (λ (s : Scope). Lacks s ts ps) same l)

  home_is : s.home ≡ d.world
  unfolding scope_of
  home_is = ap (λ (s : Scope). s.home) same

  pub generics_are : (h : Header) (k : Kind) → d.entry.kind ≡ k → generics_of k ≡ h.generics → s.generics ≡ map (λ (g : GenericParameter). g.name.text) h.generics
  unfolding scope_of
  generics_are h k is gs = ap (λ (s : Scope). s.generics) same ∙ ap (map (λ (g : GenericParameter). g.name.text)) (ap generics_of is ∙ gs)

  pub header_is : (h : Header) (r : RHeader) → IsWhole s (protocol_of d) h r → IsHeader d h r
  header_is h r w = by (subst (λ (s : Scope). IsWhole s (protocol_of d) h r) same w)
    where
      by : IsWhole (scope_of d) (protocol_of d) h r → IsHeader d h r
      by w = record { signature = record { «protocol» = w.signature.known; generics = w.signature.generics; requirements = w.signature.requirements }; parameters = w.parameters; result = w.result }

  pub is_function : (i : Identifier) (h : Header) (b : Option Block) (r : RHeader) → d.entry.kind ≡ de.Function i h b → IsWhole s (protocol_of d) h r → IsKind d d.entry.kind (rk.Function r)
  is_function i h b r is w = subst (λ (k : Kind). IsKind d k (rk.Function r)) (sym is) (resolved.function (header_is h r w))

  pub is_initialiser : (h : Header) (b : Option Block) (r : RHeader) → d.entry.kind ≡ de.Initialiser h b → IsWhole s (protocol_of d) h r → IsKind d d.entry.kind (rk.Initialiser r)
  is_initialiser h b r is w = subst (λ (k : Kind). IsKind d k (rk.Initialiser r)) (sym is) (resolved.initialiser (header_is h r w))

  pub is_property : (k : Introducer) (i : Identifier) (t : TypeName) (a : Accessors) (r : RTypeName) → d.entry.kind ≡ de.Property k i t a → IsType s t r → IsKind d d.entry.kind (rk.Property k r (kept_as a))
  is_property k i t a r is w = subst (λ (e : Kind). IsKind d e (rk.Property k r (kept_as a))) (sym is) (resolved.property (subst (λ (s : Scope). IsType s t r) same w))

  pub is_alias : (i : Identifier) (t : TypeName) (r : RTypeName) → d.entry.kind ≡ de.TypeAlias i t → IsType s t r → IsKind d d.entry.kind (rk.TypeAlias r)
  is_alias i t r is w = subst (λ (e : Kind). IsKind d e (rk.TypeAlias r)) (sym is) (resolved.alias (subst (λ (s : Scope). IsType s t r) same w))

  pub is_case : (i : Identifier) (ps : List Payload) (rs : List RPayload) → d.entry.kind ≡ de.Case i ps → Pairs (IsPayload s) ps rs → IsKind d d.entry.kind (rk.Case rs)
  is_case i ps rs is p = subst (λ (e : Kind). IsKind d e (rk.Case rs)) (sym is) (resolved.one_case (subst (λ (s : Scope). Pairs (IsPayload s) ps rs) same p))

  pub is_associated : (i : Identifier) (ts : List TypeName) (t : Option TypeName) (r : RDeclKind) → d.entry.kind ≡ de.AssociatedType i ts t → IsAssociated s ts t r → IsKind d d.entry.kind r
  is_associated i ts t r is a = subst (λ (e : Kind). IsKind d e r) (sym is) (associated_by d i ts t r (subst (λ (s : Scope). IsAssociated s ts t r) same a))

  pub is_nominal : (k : NominalKind) (i : Identifier) (ts : List TypeName) (ds : List Decl) (r : RDeclKind) → d.entry.kind ≡ de.Nominal k i ts ds → IsNominal s.home k ts r → IsKind d d.entry.kind r
  is_nominal k i ts ds r is a = subst (λ (e : Kind). IsKind d e r) (sym is) (by (subst (λ (w : World). IsNominal w k ts r) home_is a))
    where
      by : IsNominal d.world k ts r → IsKind d (de.Nominal k i ts ds) r
      by a = subst (IsKind d (de.Nominal k i ts ds)) (sym a.whole) (resolved.type a.superclass a.others)

  pub is_extension : (t : TypeName) (ts : List TypeName) (ds : List Decl) (r : RDeclKind) → d.entry.kind ≡ de.Extension t ts ds → IsExtension s.home t ts r → IsKind d d.entry.kind r
  is_extension t ts ds r is a = subst (λ (e : Kind). IsKind d e r) (sym is) (by (subst (λ (w : World). IsExtension w t ts r) home_is a))
    where
      by : IsExtension d.world t ts r → IsKind d (de.Extension t ts ds) r
      by a = subst (IsKind d (de.Extension t ts ds)) (sym a.whole) (resolved.extended a.found a.place a.key a.others)

  pub no_extension : (t : TypeName) (ts : List TypeName) (ds : List Decl) → d.entry.kind ≡ de.Extension t ts ds → NoExtension s.home t ts → IsUnresolved d
  no_extension t ts ds is a = by (subst (λ (w : World). NoExtension w t ts) home_is a)
    where
      by : NoExtension d.world t ts → IsUnresolved d
      by (no_head e) = extended is e
      by (no_protocols o) = plain_protocol d ts (ap protocols_of is) (λ j u. ap (λ (k : Kind). is_superclass d.world k j u) is) o

  pub no_nominal : (k : NominalKind) (i : Identifier) (ts : List TypeName) (ds : List Decl) → d.entry.kind ≡ de.Nominal k i ts ds → One (IsNoProtocol s.home) (parted s.home k ts).1 → IsUnresolved d
  no_nominal k i ts ds is a = of_inherited d k i ts ds is (subst (λ (w : World). One (IsNoProtocol w) (parted w k ts).1) home_is a)
