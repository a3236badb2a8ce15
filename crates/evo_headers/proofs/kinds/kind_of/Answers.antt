use Rattle.std.proofs.Common.{ap, refl, sym, subst, ◌∙◌}
use Rattle.evo_tree.specs.declared.declaration.DeclKind.{out-DeclKind}
use Rattle.evo_tree.specs.declared.declaration.DeclKind.TheVariants.{outs-Function, outs-Initialiser, outs-Property, outs-TypeAlias, outs-AssociatedType, outs-Case, outs-Nominal, outs-Extension}
use Rattle.evo_resolved.specs.declared.declaration.Kept.{Kept}
use Rattle.evo_resolved.specs.declared.declaration.RDeclKind.TheVariants as rk
use Rattle.evo_names.specs.Faults.{header_protocols, header_types}
use Rattle.evo_names.specs.Listed as names
use Rattle.evo_names.specs.Resolved.{IsKind}
use Rattle.evo_headers.specs.Sites.{declaration_at, site_scope}
use Rattle.evo_headers.specs.Unresolved.{here}
use Rattle.evo_headers.proofs.DeclaredKinds.{generics_are, is_alias, is_associated, is_case, is_extension, is_function, is_initialiser, is_nominal, is_property, lacks, no_extension, no_nominal, type_void}
use Rattle.evo_headers.proofs.Lists.{exit, resolves}
use Rattle.evo_headers.proofs.kinds.kind_of.Goals as goal

pub called-requires-clause-theirs : goal.called-requires-clause-theirs
called-requires-clause-theirs c = generics_are (declaration_at c.args.site c.args.listed.now) (site_scope c.args.site) c.requires.theirs c.in-Function.header _ (ap out-DeclKind c.in-Function.is ∙ outs-Function _ _ _) refl

pub called-requires-in-Initialiser-clause-theirs : goal.called-requires-in-Initialiser-clause-theirs
called-requires-in-Initialiser-clause-theirs c = generics_are (declaration_at c.args.site c.args.listed.now) (site_scope c.args.site) c.requires.theirs c.in-Initialiser.header _ (ap out-DeclKind c.in-Initialiser.is ∙ outs-Initialiser _ _) refl

pub returns-in_err-header-in-Function : goal.returns-in_err-header-in-Function
returns-in_err-header-in-Function c = exit _ c.from_residual.result c.in_err-header-in-Function.field-0.0 c.from_residual.ensures.1 (lacks (declaration_at c.args.site c.args.listed.now) (site_scope c.args.site) c.requires.theirs (header_types c.in-Function.header) (header_protocols c.in-Function.header) _ (ap out-DeclKind c.in-Function.is ∙ outs-Function _ _ _) refl refl (λ j t. refl)) c.in_err-header-in-Function.ensures

pub returns-in_err-header-in-Initialiser : goal.returns-in_err-header-in-Initialiser
returns-in_err-header-in-Initialiser c = exit _ c.from_residual-in_err-header-in-Initialiser.result c.in_err-header-in-Initialiser.field-0.0 c.from_residual-in_err-header-in-Initialiser.ensures.1 (lacks (declaration_at c.args.site c.args.listed.now) (site_scope c.args.site) c.requires.theirs (header_types c.in-Initialiser.header) (header_protocols c.in-Initialiser.header) _ (ap out-DeclKind c.in-Initialiser.is ∙ outs-Initialiser _ _) refl refl (λ j t. refl)) c.in_err-header-in-Initialiser.ensures

pub returns-in_err-written-in-Property : goal.returns-in_err-written-in-Property
returns-in_err-written-in-Property c = exit _ c.from_residual-in_err-written-in-Property.result c.in_err-written-in-Property.field-0.0 c.from_residual-in_err-written-in-Property.ensures.1 (λ v. type_void (declaration_at c.args.site c.args.listed.now) (site_scope c.args.site) c.requires.theirs _ _ (ap out-DeclKind c.in-Property.is ∙ outs-Property _ _ _ _) refl (here v)) c.in_err-written-in-Property.ensures

pub returns-in_err-written-in-TypeAlias : goal.returns-in_err-written-in-TypeAlias
returns-in_err-written-in-TypeAlias c = exit _ c.from_residual-in_err-written-in-TypeAlias.result c.in_err-written-in-TypeAlias.field-0.0 c.from_residual-in_err-written-in-TypeAlias.ensures.1 (λ v. type_void (declaration_at c.args.site c.args.listed.now) (site_scope c.args.site) c.requires.theirs _ _ (ap out-DeclKind c.in-TypeAlias.is ∙ outs-TypeAlias _ _) refl (here v)) c.in_err-written-in-TypeAlias.ensures

pub returns-in_err-payloads-in-Case : goal.returns-in_err-payloads-in-Case
returns-in_err-payloads-in-Case c = exit _ c.from_residual-in_err-payloads-in-Case.result c.in_err-payloads-in-Case.field-0.0 c.from_residual-in_err-payloads-in-Case.ensures.1 (type_void (declaration_at c.args.site c.args.listed.now) (site_scope c.args.site) c.requires.theirs _ _ (ap out-DeclKind c.in-Case.is ∙ outs-Case _ _) refl) (rw c.as_slice-in-Case.ensures at c.in_err-payloads-in-Case.ensures)

pub returns-in_ok-header-in-Function : goal.returns-in_ok-header-in-Function
returns-in_ok-header-in-Function c = is_function (declaration_at c.args.site c.args.listed.now) (site_scope c.args.site) c.requires.theirs _ c.in-Function.header _ c.in_ok-header-in-Function.header (ap out-DeclKind c.in-Function.is ∙ outs-Function _ _ _) c.in_ok-header-in-Function.ensures

pub returns-in_ok-header-in-Initialiser : goal.returns-in_ok-header-in-Initialiser
returns-in_ok-header-in-Initialiser c = is_initialiser (declaration_at c.args.site c.args.listed.now) (site_scope c.args.site) c.requires.theirs c.in-Initialiser.header _ c.in_ok-header-in-Initialiser.header (ap out-DeclKind c.in-Initialiser.is ∙ outs-Initialiser _ _) c.in_ok-header-in-Initialiser.ensures

pub returns-in_ok-written-in-Property : goal.returns-in_ok-written-in-Property
returns-in_ok-written-in-Property c = subst (λ (q : Kept). IsKind (declaration_at c.args.site c.args.listed.now) (names.kind_of c.args.listed.now.decl.now) (rk.Property c.in-Property.introducer c.in_ok-written-in-Property.written q)) (sym c.kept_as.ensures) (is_property (declaration_at c.args.site c.args.listed.now) (site_scope c.args.site) c.requires.theirs c.in-Property.introducer _ c.in-Property.written c.in-Property.accessors c.in_ok-written-in-Property.written (ap out-DeclKind c.in-Property.is ∙ outs-Property _ _ _ _) c.in_ok-written-in-Property.ensures)

pub returns-in_ok-written-in-TypeAlias : goal.returns-in_ok-written-in-TypeAlias
returns-in_ok-written-in-TypeAlias c = is_alias (declaration_at c.args.site c.args.listed.now) (site_scope c.args.site) c.requires.theirs _ c.in-TypeAlias.written c.in_ok-written-in-TypeAlias.written (ap out-DeclKind c.in-TypeAlias.is ∙ outs-TypeAlias _ _) c.in_ok-written-in-TypeAlias.ensures

pub returns-in-AssociatedType : goal.returns-in-AssociatedType
returns-in-AssociatedType c = resolves c.associated.result (λ r a. is_associated (declaration_at c.args.site c.args.listed.now) (site_scope c.args.site) c.requires.theirs _ c.in-AssociatedType.protocols c.in-AssociatedType.default r (ap out-DeclKind c.in-AssociatedType.is ∙ outs-AssociatedType _ _ _) a) (lacks (declaration_at c.args.site c.args.listed.now) (site_scope c.args.site) c.requires.theirs _ c.in-AssociatedType.protocols _ (ap out-DeclKind c.in-AssociatedType.is ∙ outs-AssociatedType _ _ _) refl refl (λ j t. refl)) (rw c.as_slice.ensures at c.associated.ensures)

pub returns-in_ok-payloads-in-Case : goal.returns-in_ok-payloads-in-Case
returns-in_ok-payloads-in-Case c = is_case (declaration_at c.args.site c.args.listed.now) (site_scope c.args.site) c.requires.theirs _ c.in-Case.payloads c.in_ok-payloads-in-Case.payloads (ap out-DeclKind c.in-Case.is ∙ outs-Case _ _) (rw c.as_slice-in-Case.ensures at c.in_ok-payloads-in-Case.ensures)

pub returns-in-Nominal : goal.returns-in-Nominal
returns-in-Nominal c = resolves c.nominal.result (λ r a. is_nominal (declaration_at c.args.site c.args.listed.now) (site_scope c.args.site) c.requires.theirs c.in-Nominal.kind _ c.in-Nominal.inherited _ r (ap out-DeclKind c.in-Nominal.is ∙ outs-Nominal _ _ _ _) a) (no_nominal (declaration_at c.args.site c.args.listed.now) (site_scope c.args.site) c.requires.theirs c.in-Nominal.kind _ c.in-Nominal.inherited _ (ap out-DeclKind c.in-Nominal.is ∙ outs-Nominal _ _ _ _)) (rw c.as_slice-in-Nominal.ensures at c.nominal.ensures)

pub returns-in-Extension : goal.returns-in-Extension
returns-in-Extension c = resolves c.extension.result (λ r a. is_extension (declaration_at c.args.site c.args.listed.now) (site_scope c.args.site) c.requires.theirs c.in-Extension.extended c.in-Extension.inherited _ r (ap out-DeclKind c.in-Extension.is ∙ outs-Extension _ _ _) a) (no_extension (declaration_at c.args.site c.args.listed.now) (site_scope c.args.site) c.requires.theirs c.in-Extension.extended c.in-Extension.inherited _ (ap out-DeclKind c.in-Extension.is ∙ outs-Extension _ _ _)) (rw c.as_slice-in-Extension.ensures at c.extension.ensures)
