-- The texts of declarations by those of their parts, and that they are the same where their parts are.
use Rattle.std.proofs.Common.{◌≡◌, ℕ, ◌+◌, List, ◌++◌, map, codes, Option, sym, ◌∙◌, ap, ap₂}
use Rattle.std.specs.List.{flat_map}
use Rattle.std.specs.Option.{option_map}
use Rattle.std.proofs.lemmas.List.Folds.{flat_map-map}
use Rattle.evo_base.specs.declared.place.Place.{Place}
use Rattle.evo_tree.specs.declared.name.Identifier.{Identifier}
use Rattle.evo_tree.specs.declared.name.TypeName.{TypeName}
use Rattle.evo_tree.specs.declared.statement.Block.{Block}
use Rattle.evo_tree.specs.declared.statement.Introducer.{Introducer}
use Rattle.evo_tree.specs.declared.declaration.Attr.{Attr}
use Rattle.evo_tree.specs.declared.declaration.Modifier.{Modifier}
use Rattle.evo_tree.specs.declared.declaration.Header.{Header}
use Rattle.evo_tree.specs.declared.declaration.Accessors.{Accessors}
use Rattle.evo_tree.specs.declared.declaration.Payload.{Payload}
use Rattle.evo_tree.specs.declared.declaration.NominalKind.{NominalKind}
use Rattle.evo_tree.specs.declared.declaration.Decl.{Decl, Decl-F, roll-Decl, fold-roll-Decl}
use Rattle.evo_tree.specs.declared.declaration.DeclKind.{DeclKind, DeclKind-F, out-DeclKind, roll-DeclKind, map-DeclKind, fold_out-DeclKind}
use Rattle.evo_tree.specs.declared.declaration.DeclKind.TheOpen as f
use Rattle.evo_tree.specs.declared.declaration.DeclKind.TheVariants as k
use Rattle.evo_tree.specs.declared.declaration.DeclKind.TheVariants.{outs-Function, outs-Initialiser, outs-Property, outs-TypeAlias, outs-AssociatedType, outs-Case, outs-Nominal, outs-Extension}
use Rattle.evo_tree.specs.declared.scope.Scope.{Scope}
use Rattle.evo_tree.specs.Bare.{origin, bare_identifier, bare_type, bare_block, bare_attr, bare_modifier, bare_header, bare_accessors, bare_payload, clear_decl, clear_kind, bare_decl, bare_kind}
use Rattle.evo_tree.specs.Canonical.{Text, optional, unless_empty, listed, indent, line, name_text, type_text, typed, introducer_text, nominal_text, attr_text, modifier_text, constraint_text, inherited_text, header_text, body_text, accessors_text, payload_text, kind_level, decl_level, decl_text}
use Rattle.evo_tree.specs.Declarations.{ordered_attributes, ordered_modifiers, with_access, has_access, declaration}
use Rattle.evo_print.specs.Texts.{Lines, kind_text}

-- ---- the texts of kinds

module _ (a : DeclKind) (x : DeclKind-F DeclKind Decl) (is : out-DeclKind a ≡ x) (d : ℕ) where
  text_by : kind_text a d ≡ kind_level (map-DeclKind DeclKind Decl Lines Lines kind_text decl_text x) d
  text_by = ap (λ (l : Lines). l d) (fold_out-DeclKind Lines Lines kind_level decl_level a ∙ ap (λ (z : DeclKind-F DeclKind Decl). kind_level (map-DeclKind DeclKind Decl Lines Lines kind_text decl_text z)) is)

pub function_text : (i : Identifier) (h : Header) (b : Option Block) (d : ℕ) → kind_text (k.Function i h b) d ≡ codes "func " ++ name_text i ++ header_text h ++ body_text d b
function_text i h b d = text_by (k.Function i h b) (f.Function i h b) (outs-Function i h b) d

pub initialiser_text : (h : Header) (b : Option Block) (d : ℕ) → kind_text (k.Initialiser h b) d ≡ codes "init" ++ header_text h ++ body_text d b
initialiser_text h b d = text_by (k.Initialiser h b) (f.Initialiser h b) (outs-Initialiser h b) d

pub property_text : (m : Introducer) (i : Identifier) (t : TypeName) (a : Accessors) (d : ℕ) → kind_text (k.Property m i t a) d ≡ introducer_text m ++ name_text i ++ typed t ++ accessors_text d a
property_text m i t a d = text_by (k.Property m i t a) (f.Property m i t a) (outs-Property m i t a) d

pub alias_text : (i : Identifier) (t : TypeName) (d : ℕ) → kind_text (k.TypeAlias i t) d ≡ codes "typealias " ++ name_text i ++ codes " = " ++ type_text t
alias_text i t d = text_by (k.TypeAlias i t) (f.TypeAlias i t) (outs-TypeAlias i t) d

pub associated_text : (i : Identifier) (ts : List TypeName) (t : Option TypeName) (d : ℕ) → kind_text (k.AssociatedType i ts t) d ≡ codes "associatedtype " ++ name_text i ++ constraint_text ts ++ optional (λ u. codes " = " ++ type_text u) t
associated_text i ts t d = text_by (k.AssociatedType i ts t) (f.AssociatedType i ts t) (outs-AssociatedType i ts t) d

pub case_text : (i : Identifier) (ps : List Payload) (d : ℕ) → kind_text (k.Case i ps) d ≡ codes "case " ++ name_text i ++ unless_empty (codes "(") (listed payload_text) (codes ")") ps
case_text i ps d = text_by (k.Case i ps) (f.Case i ps) (outs-Case i ps) d

-- members in braces
abbrev pub members_text : List Decl → Lines
members_text ms d = codes "{\n" ++ flat_map (λ x. decl_text x (d + 1)) ms ++ indent d ++ codes "}"

members_by : (ms : List Decl) (d : ℕ) → codes "{\n" ++ flat_map (λ (l : Lines). l (d + 1)) (map decl_text ms) ++ indent d ++ codes "}" ≡ members_text ms d
members_by ms d = ap (λ (l : Text). codes "{\n" ++ l ++ indent d ++ codes "}") (flat_map-map (λ (l : Lines). l (d + 1)) decl_text ms)

pub nominal_is : (n : NominalKind) (i : Identifier) (ts : List TypeName) (ms : List Decl) (d : ℕ) → kind_text (k.Nominal n i ts ms) d ≡ nominal_text n ++ name_text i ++ inherited_text ts ++ codes " " ++ members_text ms d
nominal_is n i ts ms d =
    text_by (k.Nominal n i ts ms) (f.Nominal n i ts ms) (outs-Nominal n i ts ms) d
    ∙ ap (λ (l : Text). nominal_text n ++ name_text i ++ inherited_text ts ++ codes " " ++ l) (members_by ms d)

pub extension_is : (t : TypeName) (ts : List TypeName) (ms : List Decl) (d : ℕ) → kind_text (k.Extension t ts ms) d ≡ codes "extension " ++ type_text t ++ inherited_text ts ++ codes " " ++ members_text ms d
extension_is t ts ms d =
    text_by (k.Extension t ts ms) (f.Extension t ts ms) (outs-Extension t ts ms) d
    ∙ ap (λ (l : Text). codes "extension " ++ type_text t ++ inherited_text ts ++ codes " " ++ l) (members_by ms d)

-- ---- the texts of declarations

-- a declaration is the line of its attributes, its modifiers and its kind
pub decl_is : (r : Decl-F DeclKind Decl) (d : ℕ) → decl_text (roll-Decl r) d ≡ line d (flat_map (λ a. attr_text a.kind) r.attrs ++ flat_map (λ m. modifier_text m.kind) r.modifiers ++ kind_text r.kind d)
decl_is r d = ap (λ (l : Lines). l d) (fold-roll-Decl Lines Lines kind_level decl_level r)

-- what the grammar makes of a declaration
pub declaration_is : (s : Scope) (attrs : List Attr) (modifiers : List Modifier) (p : Place) (kind : DeclKind) (d : ℕ) →
    decl_text (declaration s attrs modifiers p kind) d ≡ line d (flat_map (λ a. attr_text a.kind) (ordered_attributes attrs) ++ flat_map (λ m. modifier_text m.kind) (with_access (has_access s modifiers kind) p (ordered_modifiers modifiers)) ++ kind_text kind d)
declaration_is s attrs modifiers p kind d = decl_is (record { place = p; attrs = ordered_attributes attrs; modifiers = with_access (has_access s modifiers kind) p (ordered_modifiers modifiers); kind = kind }) d

-- ---- the same but for places

abbrev pub SameDecl : Decl → Decl → Type 0
SameDecl x y = bare_decl x ≡ bare_decl y

abbrev pub SameKind : DeclKind → DeclKind → Type 0
SameKind x y = bare_kind x ≡ bare_kind y

-- the level without places
abbrev pub below : DeclKind-F DeclKind Decl → DeclKind-F DeclKind Decl
below x = clear_kind (map-DeclKind DeclKind Decl DeclKind Decl bare_kind bare_decl x)

pub bare_is : (a : DeclKind) (x : DeclKind-F DeclKind Decl) → out-DeclKind a ≡ x → bare_kind a ≡ roll-DeclKind (below x)
bare_is a x is = fold_out-DeclKind DeclKind Decl (λ z. roll-DeclKind (clear_kind z)) (λ z. roll-Decl (clear_decl z)) a ∙ ap (λ z. roll-DeclKind (below z)) is

-- kinds are the same where their levels without places are
same_by : (a b : DeclKind) (x y : DeclKind-F DeclKind Decl) → out-DeclKind a ≡ x → out-DeclKind b ≡ y → below x ≡ below y → SameKind a b
same_by a b x y p q e = bare_is a x p ∙ ap roll-DeclKind e ∙ sym (bare_is b y q)

pub function_same : (i j : Identifier) (g h : Header) (b c : Option Block) → bare_identifier i ≡ bare_identifier j → bare_header g ≡ bare_header h → option_map bare_block b ≡ option_map bare_block c → SameKind (k.Function i g b) (k.Function j h c)
function_same i j g h b c ei eh eb = same_by (k.Function i g b) (k.Function j h c) (f.Function i g b) (f.Function j h c) (outs-Function i g b) (outs-Function j h c)
    (ap₂ (λ v w. f.Function v w (option_map bare_block b)) ei eh ∙ ap (λ v. f.Function (bare_identifier j) (bare_header h) v) eb)

pub initialiser_same : (g h : Header) (b c : Option Block) → bare_header g ≡ bare_header h → option_map bare_block b ≡ option_map bare_block c → SameKind (k.Initialiser g b) (k.Initialiser h c)
initialiser_same g h b c eh eb = same_by (k.Initialiser g b) (k.Initialiser h c) (f.Initialiser g b) (f.Initialiser h c) (outs-Initialiser g b) (outs-Initialiser h c) (ap₂ (λ v w. f.Initialiser v w) eh eb)

pub property_same : (m : Introducer) (i j : Identifier) (t u : TypeName) (a b : Accessors) → bare_identifier i ≡ bare_identifier j → bare_type t ≡ bare_type u → bare_accessors a ≡ bare_accessors b → SameKind (k.Property m i t a) (k.Property m j u b)
property_same m i j t u a b ei et ea = same_by (k.Property m i t a) (k.Property m j u b) (f.Property m i t a) (f.Property m j u b) (outs-Property m i t a) (outs-Property m j u b)
    (ap₂ (λ v w. f.Property m v w (bare_accessors a)) ei et ∙ ap (λ v. f.Property m (bare_identifier j) (bare_type u) v) ea)

pub alias_same : (i j : Identifier) (t u : TypeName) → bare_identifier i ≡ bare_identifier j → bare_type t ≡ bare_type u → SameKind (k.TypeAlias i t) (k.TypeAlias j u)
alias_same i j t u ei et = same_by (k.TypeAlias i t) (k.TypeAlias j u) (f.TypeAlias i t) (f.TypeAlias j u) (outs-TypeAlias i t) (outs-TypeAlias j u) (ap₂ (λ v w. f.TypeAlias v w) ei et)

pub associated_same : (i j : Identifier) (ts us : List TypeName) (t u : Option TypeName) → bare_identifier i ≡ bare_identifier j → map bare_type ts ≡ map bare_type us → option_map bare_type t ≡ option_map bare_type u → SameKind (k.AssociatedType i ts t) (k.AssociatedType j us u)
associated_same i j ts us t u ei ets et = same_by (k.AssociatedType i ts t) (k.AssociatedType j us u) (f.AssociatedType i ts t) (f.AssociatedType j us u) (outs-AssociatedType i ts t) (outs-AssociatedType j us u)
    (ap₂ (λ v w. f.AssociatedType v w (option_map bare_type t)) ei ets ∙ ap (λ v. f.AssociatedType (bare_identifier j) (map bare_type us) v) et)

pub case_same : (i j : Identifier) (ps qs : List Payload) → bare_identifier i ≡ bare_identifier j → map bare_payload ps ≡ map bare_payload qs → SameKind (k.Case i ps) (k.Case j qs)
case_same i j ps qs ei e = same_by (k.Case i ps) (k.Case j qs) (f.Case i ps) (f.Case j qs) (outs-Case i ps) (outs-Case j qs) (ap₂ (λ v w. f.Case v w) ei e)

pub nominal_same : (n : NominalKind) (i j : Identifier) (ts us : List TypeName) (xs ys : List Decl) → bare_identifier i ≡ bare_identifier j → map bare_type ts ≡ map bare_type us → map bare_decl xs ≡ map bare_decl ys → SameKind (k.Nominal n i ts xs) (k.Nominal n j us ys)
nominal_same n i j ts us xs ys ei et e = same_by (k.Nominal n i ts xs) (k.Nominal n j us ys) (f.Nominal n i ts xs) (f.Nominal n j us ys) (outs-Nominal n i ts xs) (outs-Nominal n j us ys)
    (ap₂ (λ v w. f.Nominal n v w (map bare_decl xs)) ei et ∙ ap (λ v. f.Nominal n (bare_identifier j) (map bare_type us) v) e)

pub extension_same : (t u : TypeName) (ts us : List TypeName) (xs ys : List Decl) → bare_type t ≡ bare_type u → map bare_type ts ≡ map bare_type us → map bare_decl xs ≡ map bare_decl ys → SameKind (k.Extension t ts xs) (k.Extension u us ys)
extension_same t u ts us xs ys et ets e = same_by (k.Extension t ts xs) (k.Extension u us ys) (f.Extension t ts xs) (f.Extension u us ys) (outs-Extension t ts xs) (outs-Extension u us ys)
    (ap₂ (λ v w. f.Extension v w (map bare_decl xs)) et ets ∙ ap (λ v. f.Extension (bare_type u) (map bare_type us) v) e)

abbrev bare_decl_of : List Attr → List Modifier → DeclKind → Decl
bare_decl_of attrs modifiers kind = roll-Decl (record { place = origin; attrs = attrs; modifiers = modifiers; kind = kind })

decl_bare : (r : Decl-F DeclKind Decl) → bare_decl (roll-Decl r) ≡ bare_decl_of (map bare_attr r.attrs) (map bare_modifier r.modifiers) (bare_kind r.kind)
decl_bare r = fold-roll-Decl DeclKind Decl (λ z. roll-DeclKind (clear_kind z)) (λ z. roll-Decl (clear_decl z)) r

pub decl_same : (r q : Decl-F DeclKind Decl) → map bare_attr r.attrs ≡ map bare_attr q.attrs → map bare_modifier r.modifiers ≡ map bare_modifier q.modifiers → SameKind r.kind q.kind → SameDecl (roll-Decl r) (roll-Decl q)
decl_same r q ea em ek = decl_bare r
    ∙ ap₂ (λ v w. bare_decl_of v w (bare_kind r.kind)) ea em
    ∙ ap (λ v. bare_decl_of (map bare_attr q.attrs) (map bare_modifier q.modifiers) v) ek
    ∙ sym (decl_bare q)
