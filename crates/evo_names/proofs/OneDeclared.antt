-- A declaration of the text has at most one form once its names are resolved.
use Rattle.std.proofs.Common.{◌≡◌, ℕ, List, [], ◌∷◌, Option, Some, None, refl, sym, ap, ap₂, subst, ◌∙◌}
use Rattle.evo_base.specs.declared.place.Place.{Place}
use Rattle.evo_base.specs.declared.key.Key.{Key}
use Rattle.evo_tree.specs.declared.name.TypeName.{TypeName}
use Rattle.evo_tree.specs.declared.declaration.Header.{Header}
use Rattle.evo_tree.specs.declared.declaration.Parameter.{Parameter}
use Rattle.evo_tree.specs.declared.declaration.Payload.{Payload}
use Rattle.evo_resolved.specs.declared.resolved_type.RType.{RType}
use Rattle.evo_resolved.specs.declared.resolved_type.RTypeName.{RTypeName}
use Rattle.evo_resolved.specs.declared.resolved_type.RReference.{RReference}
use Rattle.evo_resolved.specs.declared.declaration.RRequirement.{RRequirement}
use Rattle.evo_resolved.specs.declared.declaration.RRequirement.TheVariants as rr
use Rattle.evo_resolved.specs.declared.declaration.Signature.{Signature}
use Rattle.evo_resolved.specs.declared.declaration.RParameter.{RParameter}
use Rattle.evo_resolved.specs.declared.declaration.RHeader.{RHeader}
use Rattle.evo_resolved.specs.declared.declaration.RPayload.{RPayload}
use Rattle.evo_resolved.specs.declared.declaration.Standing.{Standing}
use Rattle.evo_resolved.specs.declared.declaration.RDeclKind.{RDeclKind}
use Rattle.evo_resolved.specs.declared.declaration.RDeclKind.TheVariants as rk
use Rattle.evo_resolved.specs.declared.declaration.RDecl.{RDecl}
use Rattle.evo_names.specs.Listed.{Kind, World, Declaration}
use Rattle.evo_names.specs.Heads.{Head}
use Rattle.evo_names.specs.Written.{Scope}
use Rattle.evo_names.specs.Resolved.{Pairs, no_more, one_more, Both, neither, each, IsType, IsReference, WrittenRequirement, IsRequirement, conforming, equal, IsSignature, IsParameter, IsHeader, IsPayload, IsKind, function, initialiser, property, alias, associated, one_case, type, extended, IsDeclared, kept_as}
use Rattle.evo_names.proofs.OneMeaning.{one_meaning}

-- ---- lists and options

pairs_once : {A B : Type 0} {R : A → B → Type 0} → ((x : A) (y z : B) → R x y → R x z → y ≡ z) → {xs : List A} {ys zs : List B} → Pairs R xs ys → Pairs R xs zs → ys ≡ zs
pairs_once once no_more no_more = refl
pairs_once once (one_more {x} {y} p ps) (one_more {y = z} q qs) = ap₂ (λ a as'. a ∷ as') (once x y z p q) (pairs_once once ps qs)

both_once : {A B : Type 0} {R : A → B → Type 0} → ((x : A) (y z : B) → R x y → R x z → y ≡ z) → {x : Option A} {y z : Option B} → Both R x y → Both R x z → y ≡ z
both_once once neither neither = refl
both_once once (each {x} {y} p) (each {y = z} q) = ap Some (once x y z p q)

-- ---- types and references

same_type : (r q : RTypeName) → r.place ≡ q.place → r.aliases ≡ q.aliases → r.ty ≡ q.ty → r ≡ q
same_type r q e f g = ap (λ x. let z : RTypeName = record { place = x; aliases = r.aliases; ty = r.ty } in z) e ∙ ap (λ x. let z : RTypeName = record { place = q.place; aliases = x; ty = r.ty } in z) f ∙ ap (λ x. let z : RTypeName = record { place = q.place; aliases = q.aliases; ty = x } in z) g

type_once : (s : Scope) (t : TypeName) (r q : RTypeName) → IsType s t r → IsType s t q → r ≡ q
type_once s t r q a b = let one = one_meaning s.home a.means b.means in same_type r q (a.place ∙ sym b.place) one.0 one.1

same_reference : (r q : RReference) → r.place ≡ q.place → r.key ≡ q.key → r ≡ q
same_reference r q e f = ap (λ x. let z : RReference = record { place = x; key = r.key } in z) e ∙ ap (λ x. let z : RReference = record { place = q.place; key = x } in z) f

key_once : {k l : Key} → (o : Option Key) → o ≡ Some k → o ≡ Some l → k ≡ l
key_once o e f = cc

reference_once : (named : TypeName → Option Key) (t : TypeName) (r q : RReference) → IsReference named t r → IsReference named t q → r ≡ q
reference_once named t r q a b = same_reference r q (a.place ∙ sym b.place) (key_once (named t) a.key b.key)

-- ---- headers

requirement_once : (s : Scope) (w : WrittenRequirement) (r q : RRequirement) → IsRequirement s w r → IsRequirement s w q → r ≡ q
requirement_once s _ _ _ (conforming {t} {p} {r} {q} a b) (conforming {r = r'} {q = q'} c d) = ap₂ (λ x y. rr.Conforms x y) (type_once s t r r' a c) (reference_once _ p q q' b d)
requirement_once s _ _ _ (equal {t} {u} {p} {r} {v} a b) (equal {r = r'} {v = v'} c d) = ap₂ (λ x y. rr.Same x p y) (type_once s t r r' a c) (type_once s u v v' b d)

same_signature : (r q : Signature) → r.«protocol» ≡ q.«protocol» → r.generics ≡ q.generics → r.requirements ≡ q.requirements → r ≡ q
same_signature r q e f g = ap (λ x. let z : Signature = record { «protocol» = x; generics = r.generics; requirements = r.requirements } in z) e ∙ ap (λ x. let z : Signature = record { «protocol» = q.«protocol»; generics = x; requirements = r.requirements } in z) f ∙ ap (λ x. let z : Signature = record { «protocol» = q.«protocol»; generics = q.generics; requirements = x } in z) g

signature_once : (d : Declaration) (h : Header) (r q : Signature) → IsSignature d h r → IsSignature d h q → r ≡ q
signature_once d h r q a b = same_signature r q (a.«protocol» ∙ sym b.«protocol») (a.generics ∙ sym b.generics) (pairs_once (requirement_once _) a.requirements b.requirements)

same_parameter : (r q : RParameter) → r.place ≡ q.place → r.label ≡ q.label → r.name ≡ q.name → r.written ≡ q.written → r ≡ q
same_parameter r q e f g h = ap (λ x. let z : RParameter = record { place = x; label = r.label; name = r.name; written = r.written } in z) e ∙ ap (λ x. let z : RParameter = record { place = q.place; label = x; name = r.name; written = r.written } in z) f ∙ ap (λ x. let z : RParameter = record { place = q.place; label = q.label; name = x; written = r.written } in z) g ∙ ap (λ x. let z : RParameter = record { place = q.place; label = q.label; name = q.name; written = x } in z) h

parameter_once : (s : Scope) (p : Parameter) (r q : RParameter) → IsParameter s p r → IsParameter s p q → r ≡ q
parameter_once s p r q a b = same_parameter r q (a.place ∙ sym b.place) (a.label ∙ sym b.label) (a.name ∙ sym b.name) (type_once s p.type_name r.written q.written a.type b.type)

same_header : (r q : RHeader) → r.signature ≡ q.signature → r.parameters ≡ q.parameters → r.result ≡ q.result → r ≡ q
same_header r q e f g = ap (λ x. let z : RHeader = record { signature = x; parameters = r.parameters; result = r.result } in z) e ∙ ap (λ x. let z : RHeader = record { signature = q.signature; parameters = x; result = r.result } in z) f ∙ ap (λ x. let z : RHeader = record { signature = q.signature; parameters = q.parameters; result = x } in z) g

header_once : (d : Declaration) (h : Header) (r q : RHeader) → IsHeader d h r → IsHeader d h q → r ≡ q
header_once d h r q a b = same_header r q (signature_once d h r.signature q.signature a.signature b.signature) (pairs_once (parameter_once _) a.parameters b.parameters) (both_once (type_once _) a.result b.result)

same_payload : (r q : RPayload) → r.label ≡ q.label → r.written ≡ q.written → r ≡ q
same_payload r q e f = ap (λ x. let z : RPayload = record { label = x; written = r.written } in z) e ∙ ap (λ x. let z : RPayload = record { label = q.label; written = x } in z) f

payload_once : (s : Scope) (p : Payload) (r q : RPayload) → IsPayload s p r → IsPayload s p q → r ≡ q
payload_once s p r q a b = same_payload r q (a.label ∙ sym b.label) (type_once s p.type_name r.written q.written a.type b.type)

-- ---- declarations

extension_once : {o : Option Head} {h g : Head} (r q : RReference) → o ≡ Some h → o ≡ Some g → r.place ≡ q.place → r.key ≡ h.key → q.key ≡ g.key → (h ≡ g) × (r ≡ q)
extension_once r q e f places here there =
    let heads : _ ≡ _ = cc in
    (heads, same_reference r q places (here ∙ ap (λ (x : Head). x.key) heads ∙ sym there))

kind_once : (d : Declaration) (k : Kind) (r q : RDeclKind) → IsKind d k r → IsKind d k q → r ≡ q
kind_once d _ _ _ (function {h = h} {r = r} a) (function {r = q} b) = ap (λ x. rk.Function x) (header_once d h r q a b)
kind_once d _ _ _ (initialiser {h = h} {r = r} a) (initialiser {r = q} b) = ap (λ x. rk.Initialiser x) (header_once d h r q a b)
kind_once d _ _ _ (property {k} {t = t} {a = s} {r = r} a) (property {r = q} b) = ap (λ x. rk.Property k x (kept_as s)) (type_once _ t r q a b)
kind_once d _ _ _ (alias {t = t} {r = r} a) (alias {r = q} b) = ap (λ x. rk.TypeAlias x) (type_once _ t r q a b)
kind_once d _ _ _ (associated a b) (associated e f) = ap₂ (λ x y. rk.AssociatedType x y) (pairs_once (reference_once _) a e) (both_once (type_once _) b f)
kind_once d _ _ _ (one_case a) (one_case b) = ap (λ x. rk.Case x) (pairs_once (payload_once _) a b)
kind_once d _ _ _ (type {k} a b) (type e f) = ap₂ (λ x y. rk.Nominal k x y) (both_once (reference_once _) a e) (pairs_once (reference_once _) b f)
kind_once d _ _ _ (extended {h = h} {r = r} {qs = ps} named place key rest) (extended {h = g} {r = q} {qs = qs} named' place' key' rest') =
    let both = extension_once r q named named' (place ∙ sym place') key key' in
    ap₂ (λ (x : Head) y. rk.Extension x.kind y ps) both.0 both.1 ∙ ap (λ x. rk.Extension g.kind q x) (pairs_once (reference_once _) rest rest')

same_declaration : (r q : RDecl) → r.place ≡ q.place → r.name_place ≡ q.name_place → r.key ≡ q.key → r.own ≡ q.own → r.standing ≡ q.standing → r.attrs ≡ q.attrs → r.modifiers ≡ q.modifiers → r.kind ≡ q.kind → r ≡ q
same_declaration r q a b c d e f g h = ap (λ x. let z : RDecl = record { place = x; name_place = r.name_place; key = r.key; own = r.own; standing = r.standing; attrs = r.attrs; modifiers = r.modifiers; kind = r.kind } in z) a ∙ ap (λ x. let z : RDecl = record { place = q.place; name_place = x; key = r.key; own = r.own; standing = r.standing; attrs = r.attrs; modifiers = r.modifiers; kind = r.kind } in z) b ∙ ap (λ x. let z : RDecl = record { place = q.place; name_place = q.name_place; key = x; own = r.own; standing = r.standing; attrs = r.attrs; modifiers = r.modifiers; kind = r.kind } in z) c ∙ ap (λ x. let z : RDecl = record { place = q.place; name_place = q.name_place; key = q.key; own = x; standing = r.standing; attrs = r.attrs; modifiers = r.modifiers; kind = r.kind } in z) d ∙ ap (λ x. let z : RDecl = record { place = q.place; name_place = q.name_place; key = q.key; own = q.own; standing = x; attrs = r.attrs; modifiers = r.modifiers; kind = r.kind } in z) e ∙ ap (λ x. let z : RDecl = record { place = q.place; name_place = q.name_place; key = q.key; own = q.own; standing = q.standing; attrs = x; modifiers = r.modifiers; kind = r.kind } in z) f ∙ ap (λ x. let z : RDecl = record { place = q.place; name_place = q.name_place; key = q.key; own = q.own; standing = q.standing; attrs = q.attrs; modifiers = x; kind = r.kind } in z) g ∙ ap (λ x. let z : RDecl = record { place = q.place; name_place = q.name_place; key = q.key; own = q.own; standing = q.standing; attrs = q.attrs; modifiers = q.modifiers; kind = x } in z) h

standing_once : {k l : Standing} → (o : Option Standing) → o ≡ Some k → o ≡ Some l → k ≡ l
standing_once o e f = cc

pub one_declared : (d : Declaration) (r q : RDecl) → IsDeclared d r → IsDeclared d q → r ≡ q
one_declared d r q a b = same_declaration r q (a.place ∙ sym b.place) (a.name ∙ sym b.name) (key_once _ a.key b.key) (key_once _ a.own b.own) (standing_once _ a.standing b.standing) (a.attrs ∙ sym b.attrs) (a.modifiers ∙ sym b.modifiers) (kind_once d d.entry.kind r.kind q.kind a.kind b.kind)
