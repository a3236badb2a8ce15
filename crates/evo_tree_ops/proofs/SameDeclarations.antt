-- Declarations with members are the same but for places where their parts are.
use Rattle.std.proofs.Common.{◌≡◌, List, map, ◌↔◌, refl, sym, ◌∙◌, ap}
use Rattle.evo_tree.specs.declared.name.Identifier.{Identifier}
use Rattle.evo_tree.specs.declared.name.TypeName.{TypeName}
use Rattle.evo_tree.specs.declared.declaration.NominalKind.{NominalKind}
use Rattle.evo_tree.specs.declared.declaration.Decl.{Decl, roll-Decl}
use Rattle.evo_tree.specs.declared.declaration.DeclKind.{DeclKind, DeclKind-F, out-DeclKind, roll-DeclKind, map-DeclKind, fold_out-DeclKind, out-roll-DeclKind}
use Rattle.evo_tree.specs.declared.declaration.DeclKind.TheOpen as f
use Rattle.evo_tree.specs.declared.declaration.DeclKind.TheVariants as d
use Rattle.evo_tree.specs.declared.declaration.DeclKind.TheVariants.{outs-Nominal, outs-Extension}
use Rattle.evo_tree.specs.Bare.{clear_decl, clear_kind, bare_identifier, bare_type, bare_decl, bare_kind}

-- the level without places
abbrev below : DeclKind-F DeclKind Decl → DeclKind-F DeclKind Decl
below x = clear_kind (map-DeclKind DeclKind Decl DeclKind Decl bare_kind bare_decl x)

bare_out : (a : DeclKind) → bare_kind a ≡ roll-DeclKind (below (out-DeclKind a))
bare_out a = fold_out-DeclKind DeclKind Decl (λ x. roll-DeclKind (clear_kind x)) (λ x. roll-Decl (clear_decl x)) a

-- declarations are the same where their levels without places are
same_by : (a b : DeclKind) (x y z w : DeclKind-F DeclKind Decl) → out-DeclKind a ≡ x → out-DeclKind b ≡ y → below x ≡ z → below y ≡ w → (z ≡ w) ↔ (bare_kind a ≡ bare_kind b)
same_by a b x y z w p q lx ly =
    let ea : bare_kind a ≡ roll-DeclKind z = bare_out a ∙ ap (λ v. roll-DeclKind (below v)) p ∙ ap roll-DeclKind lx in
    let eb : bare_kind b ≡ roll-DeclKind w = bare_out b ∙ ap (λ v. roll-DeclKind (below v)) q ∙ ap roll-DeclKind ly in
    (λ e. ea ∙ ap roll-DeclKind e ∙ sym eb, λ e. sym (out-roll-DeclKind z) ∙ ap out-DeclKind (sym ea ∙ e ∙ eb) ∙ out-roll-DeclKind w)

pub nominal_same : (a b : DeclKind) (k l : NominalKind) (n m : Identifier) (ts us : List TypeName) (xs ys : List Decl) → a ≡ d.Nominal k n ts xs → b ≡ d.Nominal l m us ys →
    ((k ≡ l) × ((bare_identifier n ≡ bare_identifier m) × ((map bare_type ts ≡ map bare_type us) × (map bare_decl xs ≡ map bare_decl ys)))) ↔ (bare_kind a ≡ bare_kind b)
nominal_same a b k l n m ts us xs ys isa isb =
    let e = same_by a b (f.Nominal k n ts xs) (f.Nominal l m us ys) (f.Nominal k (bare_identifier n) (map bare_type ts) (map bare_decl xs)) (f.Nominal l (bare_identifier m) (map bare_type us) (map bare_decl ys)) (ap out-DeclKind isa ∙ outs-Nominal k n ts xs) (ap out-DeclKind isb ∙ outs-Nominal l m us ys) refl refl in
    (λ h. e.0 (let h0 = h.0 in let h1 = h.1.0 in let h2 = h.1.1.0 in let h3 = h.1.1.1 in cc), λ h. let g = e.1 h in (cc, (cc, (cc, cc))))

pub extension_same : (a b : DeclKind) (t u : TypeName) (ts us : List TypeName) (xs ys : List Decl) → a ≡ d.Extension t ts xs → b ≡ d.Extension u us ys →
    ((bare_type t ≡ bare_type u) × ((map bare_type ts ≡ map bare_type us) × (map bare_decl xs ≡ map bare_decl ys))) ↔ (bare_kind a ≡ bare_kind b)
extension_same a b t u ts us xs ys isa isb =
    let e = same_by a b (f.Extension t ts xs) (f.Extension u us ys) (f.Extension (bare_type t) (map bare_type ts) (map bare_decl xs)) (f.Extension (bare_type u) (map bare_type us) (map bare_decl ys)) (ap out-DeclKind isa ∙ outs-Extension t ts xs) (ap out-DeclKind isb ∙ outs-Extension u us ys) refl refl in
    (λ h. e.0 (let h0 = h.0 in let h1 = h.1.0 in let h2 = h.1.1 in cc), λ h. let g = e.1 h in (cc, (cc, cc)))
