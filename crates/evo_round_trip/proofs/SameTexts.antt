-- Modules that are the same but for places have one canonical text.
use Rattle.std.proofs.Common.{◌≡◌, ℕ, ◌+◌, List, [], ◌∷◌, ◌++◌, map, codes, Option, Some, None, refl, sym, ◌∙◌, ap, ap₂, subst}
use Rattle.std.specs.List.{flat_map}
use Rattle.std.specs.Option.{option_map}
use Rattle.evo_tree.specs.declared.name.TypeName.{TypeName}
use Rattle.evo_tree.specs.declared.statement.Block.{Block}
use Rattle.evo_tree.specs.declared.declaration.GenericParameter.{GenericParameter}
use Rattle.evo_tree.specs.declared.declaration.ParameterLabel.{ParameterLabel}
use Rattle.evo_tree.specs.declared.declaration.ParameterLabel.TheVariants as label
use Rattle.evo_tree.specs.declared.declaration.Parameter.{Parameter}
use Rattle.evo_tree.specs.declared.declaration.Requirement.{Requirement}
use Rattle.evo_tree.specs.declared.declaration.Requirement.TheVariants as requirement
use Rattle.evo_tree.specs.declared.declaration.Header.{Header}
use Rattle.evo_tree.specs.declared.declaration.Accessors.{Accessors}
use Rattle.evo_tree.specs.declared.declaration.Accessors.TheVariants as accessors
use Rattle.evo_tree.specs.declared.declaration.Payload.{Payload}
use Rattle.evo_tree.specs.declared.declaration.Decl.{Decl, Decl-F, roll-Decl, map-Decl, fold-roll-Decl, ind-Decl}
use Rattle.evo_tree.specs.declared.declaration.DeclKind.{DeclKind, DeclKind-F, roll-DeclKind, map-DeclKind, fold-roll-DeclKind}
use Rattle.evo_tree.specs.declared.declaration.DeclKind.TheOpen as f
use Rattle.evo_tree.specs.declared.module.Item.{Item}
use Rattle.evo_tree.specs.declared.module.Item.TheVariants as item
use Rattle.evo_tree.specs.declared.module.ModuleTree.{ModuleTree}
use Rattle.evo_tree.specs.Bare.{bare_identifier, bare_type, bare_attr, bare_modifier, bare_generic, bare_parameter_label, bare_parameter, bare_requirement, bare_header, bare_block, bare_accessors, bare_payload, clear_decl, clear_kind, bare_decl, bare_kind, bare_item, bare_module, Same}
use Rattle.evo_tree.specs.Canonical.{Text, optional, unless_empty, listed, joined, indent, line, name_text, type_text, typed, block_text, introducer_text, nominal_text, attr_text, modifier_text, constraint_text, inherited_text, generic_text, parameter_label_text, parameter_text, requirement_text, header_text, body_text, accessors_text, payload_text, kind_level, decl_level, decl_text, item_text, import_text, first_lines, canonical_text}
use Rattle.evo_print.specs.Texts.{Lines, kind_text}
use Rattle.evo_round_trip.proofs.KeptExpressions.{flat_kept, join_kept, option_kept, label_kept}
use Rattle.evo_round_trip.proofs.KeptStatements.{stmt_kept, block_kept}

-- ---- parts of declarations

unless_kept : {A : Type 0} (before : Text) (f : List A → Text) (behind : Text) (g : A → A) → ((xs : List A) → f (map g xs) ≡ f xs) → (xs : List A) → unless_empty before f behind (map g xs) ≡ unless_empty before f behind xs
unless_kept before f behind g law [] = refl
unless_kept before f behind g law (x ∷ xs) = ap (λ (v : Text). before ++ v ++ behind) (law (x ∷ xs))

constraint_kept : (ts : List TypeName) → constraint_text (map bare_type ts) ≡ constraint_text ts
constraint_kept ts = unless_kept (codes ": ") joined [] bare_type (join_kept type_text bare_type (λ t. refl) (codes " & ")) ts

inherited_kept : (ts : List TypeName) → inherited_text (map bare_type ts) ≡ inherited_text ts
inherited_kept ts = unless_kept (codes ": ") (listed type_text) [] bare_type (join_kept type_text bare_type (λ t. refl) (codes ", ")) ts

generic_kept : (g : GenericParameter) → generic_text (bare_generic g) ≡ generic_text g
generic_kept g = ap (λ (v : Text). name_text g.name ++ v) (constraint_kept g.protocols)

parameter_label_kept : (l : ParameterLabel) → parameter_label_text (bare_parameter_label l) ≡ parameter_label_text l
parameter_label_kept label.Same = refl
parameter_label_kept label.Blank = refl
parameter_label_kept (label.Written i) = refl

parameter_kept : (p : Parameter) → parameter_text (bare_parameter p) ≡ parameter_text p
parameter_kept p = ap (λ (v : Text). v ++ name_text p.name ++ typed p.type_name) (parameter_label_kept p.label)

requirement_kept : (r : Requirement) → requirement_text (bare_requirement r) ≡ requirement_text r
requirement_kept (requirement.Conforms t ts) = ap (λ (v : Text). type_text t ++ v) (constraint_kept ts)
requirement_kept (requirement.Same t p u) = refl

result_kept : (t : Option TypeName) → optional (λ t. codes " -> " ++ type_text t) (option_map bare_type t) ≡ optional (λ t. codes " -> " ++ type_text t) t
result_kept t = option_kept (λ (t : TypeName). codes " -> " ++ type_text t) bare_type (λ t. refl) t

default_kept : (t : Option TypeName) → optional (λ t. codes " = " ++ type_text t) (option_map bare_type t) ≡ optional (λ t. codes " = " ++ type_text t) t
default_kept t = option_kept (λ (t : TypeName). codes " = " ++ type_text t) bare_type (λ t. refl) t

pub header_kept : (h : Header) → header_text (bare_header h) ≡ header_text h
header_kept h =
    ap₂ (λ (v w : Text). v ++ codes "(" ++ w ++ codes ")" ++ optional (λ t. codes " -> " ++ type_text t) (option_map bare_type h.result) ++ unless_empty (codes " where ") (listed requirement_text) [] (map bare_requirement h.requirements))
    (unless_kept (codes "<") (listed generic_text) (codes ">") bare_generic (join_kept generic_text bare_generic generic_kept (codes ", ")) h.generics)
    (join_kept parameter_text bare_parameter parameter_kept (codes ", ") h.parameters)
    ∙ ap₂ (λ (v w : Text). unless_empty (codes "<") (listed generic_text) (codes ">") h.generics ++ codes "(" ++ listed parameter_text h.parameters ++ codes ")" ++ v ++ w)
    (result_kept h.result)
    (unless_kept (codes " where ") (listed requirement_text) [] bare_requirement (join_kept requirement_text bare_requirement requirement_kept (codes ", ")) h.requirements)

body_kept : (b : Option Block) (d : ℕ) → body_text d (option_map bare_block b) ≡ body_text d b
body_kept b d = option_kept (λ (x : Block). codes " " ++ block_text x d) bare_block (λ x. ap (λ (v : Text). codes " " ++ v) (block_kept x d)) b

pub accessors_kept : (a : Accessors) (d : ℕ) → accessors_text d (bare_accessors a) ≡ accessors_text d a
accessors_kept accessors.Stored d = refl
accessors_kept accessors.Get d = refl
accessors_kept accessors.GetSet d = refl
accessors_kept (accessors.Block b) d = ap (λ (v : Text). codes " " ++ v) (block_kept b d)
accessors_kept (accessors.Blocks b None) d = ap (λ (v : Text). codes " " ++ (codes "{\n" ++ (line (d + 1) (codes "get" ++ codes " " ++ v) ++ []) ++ indent d ++ codes "}")) (block_kept b (d + 1))
accessors_kept (accessors.Blocks b (Some c)) d =
    ap₂ (λ (v w : Text). codes " " ++ (codes "{\n" ++ (line (d + 1) (codes "get" ++ codes " " ++ v) ++ (line (d + 1) (codes "set" ++ codes " " ++ w) ++ [])) ++ indent d ++ codes "}")) (block_kept b (d + 1)) (block_kept c (d + 1))

payload_kept : (p : Payload) → payload_text (bare_payload p) ≡ payload_text p
payload_kept p = ap (λ (v : Text). v ++ type_text p.type_name) (label_kept p.label)

-- ---- declarations

abbrev KeepsKind : DeclKind → Type 0
KeepsKind x = (d : ℕ) → kind_text (bare_kind x) d ≡ kind_text x d

abbrev KeepsDecl : Decl → Type 0
KeepsDecl x = (d : ℕ) → decl_text (bare_decl x) d ≡ decl_text x d

abbrev KeptKind : Type 0
KeptKind = (x : DeclKind) × KeepsKind x

abbrev KeptDecl : Type 0
KeptDecl = (x : Decl) × KeepsDecl x

-- the texts of a level
abbrev plain : DeclKind-F DeclKind Decl → DeclKind-F Lines Lines
plain x = map-DeclKind DeclKind Decl Lines Lines kind_text decl_text x

-- and without places
abbrev bared : DeclKind-F DeclKind Decl → DeclKind-F Lines Lines
bared x = plain (clear_kind (map-DeclKind DeclKind Decl DeclKind Decl bare_kind bare_decl x))

abbrev parts : DeclKind-F KeptKind KeptDecl → DeclKind-F DeclKind Decl
parts y = map-DeclKind KeptKind KeptDecl DeclKind Decl (λ e. e.0) (λ e. e.0) y

members_kept : (ms : List KeptDecl) (d : ℕ) → flat_map (λ (l : Lines). l d) (map decl_text (map bare_decl (map (λ (e : KeptDecl). e.0) ms))) ≡ flat_map (λ (l : Lines). l d) (map decl_text (map (λ (e : KeptDecl). e.0) ms))
members_kept [] d = refl
members_kept (e ∷ ms) d = ap₂ (λ (v w : Text). v ++ w) (e.1 d) (members_kept ms d)

level_kept : (y : DeclKind-F KeptKind KeptDecl) (d : ℕ) → kind_level (bared (parts y)) d ≡ kind_level (plain (parts y)) d
level_kept (f.Function i h b) d = ap₂ (λ (v w : Text). codes "func " ++ name_text i ++ v ++ w) (header_kept h) (body_kept b d)
level_kept (f.Initialiser h b) d = ap₂ (λ (v w : Text). codes "init" ++ v ++ w) (header_kept h) (body_kept b d)
level_kept (f.Property k i t a) d = ap (λ (v : Text). introducer_text k ++ name_text i ++ typed t ++ v) (accessors_kept a d)
level_kept (f.TypeAlias i t) d = refl
level_kept (f.AssociatedType i ts t) d = ap₂ (λ (v w : Text). codes "associatedtype " ++ name_text i ++ v ++ w) (constraint_kept ts) (default_kept t)
level_kept (f.Case i ps) d = ap (λ (v : Text). codes "case " ++ name_text i ++ v) (unless_kept (codes "(") (listed payload_text) (codes ")") bare_payload (join_kept payload_text bare_payload payload_kept (codes ", ")) ps)
level_kept (f.Nominal k i ts ms) d = ap₂ (λ (v w : Text). nominal_text k ++ name_text i ++ v ++ codes " " ++ (codes "{\n" ++ w ++ indent d ++ codes "}")) (inherited_kept ts) (members_kept ms (d + 1))
level_kept (f.Extension t ts ms) d = ap₂ (λ (v w : Text). codes "extension " ++ type_text t ++ v ++ codes " " ++ (codes "{\n" ++ w ++ indent d ++ codes "}")) (inherited_kept ts) (members_kept ms (d + 1))

abbrev bare_kind_level : DeclKind-F DeclKind Decl → DeclKind
bare_kind_level z = roll-DeclKind (clear_kind z)

abbrev bare_decl_level : Decl-F DeclKind Decl → Decl
bare_decl_level z = roll-Decl (clear_decl z)

abbrev opened : Decl-F DeclKind Decl → Decl-F Lines Lines
opened z = map-Decl DeclKind Decl Lines Lines kind_text decl_text z

kind_step : (x : DeclKind-F DeclKind Decl) (y : DeclKind-F KeptKind KeptDecl) → parts y ≡ x → KeepsKind (roll-DeclKind x)
kind_step x y is d =
    ap (λ z. kind_text z d) (fold-roll-DeclKind DeclKind Decl bare_kind_level bare_decl_level x)
    ∙ ap (λ (l : Lines). l d) (fold-roll-DeclKind Lines Lines kind_level decl_level (clear_kind (map-DeclKind DeclKind Decl DeclKind Decl bare_kind bare_decl x)))
    ∙ subst (λ (z : DeclKind-F DeclKind Decl). kind_level (bared z) d ≡ kind_level (plain z) d) is (level_kept y d)
    ∙ sym (ap (λ (l : Lines). l d) (fold-roll-DeclKind Lines Lines kind_level decl_level x))

decl_step : (x : Decl-F DeclKind Decl) (y : Decl-F KeptKind KeptDecl) → map-Decl KeptKind KeptDecl DeclKind Decl (λ e. e.0) (λ e. e.0) y ≡ x → KeepsDecl (roll-Decl x)
decl_step x y is d =
    ap (λ z. decl_text z d) (fold-roll-Decl DeclKind Decl bare_kind_level bare_decl_level x)
    ∙ ap (λ (l : Lines). l d) (fold-roll-Decl Lines Lines kind_level decl_level (clear_decl (map-Decl DeclKind Decl DeclKind Decl bare_kind bare_decl x)))
    ∙ subst (λ (z : Decl-F DeclKind Decl). decl_level (opened (clear_decl (map-Decl DeclKind Decl DeclKind Decl bare_kind bare_decl z))) d ≡ decl_level (opened z) d) is
    (ap₂ (λ (v w : Text). line d (v ++ flat_map (λ m. modifier_text m.kind) (map bare_modifier y.modifiers) ++ w)) (flat_kept (λ a. attr_text a.kind) bare_attr (λ a. refl) y.attrs) (y.kind.1 d)
    ∙ ap (λ (v : Text). line d (flat_map (λ a. attr_text a.kind) y.attrs ++ v ++ kind_text y.kind.0 d)) (flat_kept (λ m. modifier_text m.kind) bare_modifier (λ m. refl) y.modifiers))
    ∙ sym (ap (λ (l : Lines). l d) (fold-roll-Decl Lines Lines kind_level decl_level x))

-- the text of a declaration says nothing of its places
pub decl_kept : (x : Decl) (d : ℕ) → decl_text (bare_decl x) d ≡ decl_text x d
decl_kept = ind-Decl KeepsKind KeepsDecl kind_step decl_step

-- ---- modules

item_kept : (i : Item) → item_text (bare_item i) ≡ item_text i
item_kept (item.Decl x) = decl_kept x 0
item_kept (item.Stmt x) = stmt_kept x 0

-- the text of a module says nothing of its places
pub module_kept : (m : ModuleTree) → canonical_text (bare_module m) ≡ canonical_text m
module_kept m = ap₂ (λ (v w : Text). first_lines m.form m.name m.release ++ v ++ w) (flat_kept import_text bare_identifier (λ i. refl) m.imports) (flat_kept item_text bare_item item_kept m.items)

-- modules that are the same but for places have one text
pub same_text : (m n : ModuleTree) → Same m n → canonical_text m ≡ canonical_text n
same_text m n same = sym (module_kept m) ∙ ap canonical_text same ∙ module_kept n
