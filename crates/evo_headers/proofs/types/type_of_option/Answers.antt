use Rattle.std.proofs.Common.{Option, None, Some, sym, subst}
use Rattle.evo_tree.specs.declared.name.TypeName.{TypeName}
use Rattle.evo_names.specs.Listed.{list_of}
use Rattle.evo_names.specs.Resolved.{Both, neither, each, IsType}
use Rattle.evo_headers.specs.Sites.{site_scope}
use Rattle.evo_headers.specs.Unresolved.{One, here, IsVoid}
use Rattle.evo_headers.proofs.Lists.{exit}
use Rattle.evo_headers.proofs.types.type_of_option.Goals as goal

pub returns-in_err-found-in-Some : goal.returns-in_err-found-in-Some
returns-in_err-found-in-Some c = exit _ c.from_residual.result c.in_err-found-in-Some.field-0.0 c.from_residual.ensures.1 (λ v. subst (λ (o : Option TypeName). One (IsVoid (site_scope c.args.site)) (list_of o)) (sym c.in-Some.is) (here v)) c.in_err-found-in-Some.ensures

pub returns-in_ok-found-in-Some : goal.returns-in_ok-found-in-Some
returns-in_ok-found-in-Some c = subst (λ (o : Option TypeName). Both (IsType (site_scope c.args.site)) o (Some c.in_ok-found-in-Some.found)) (sym c.in-Some.is) (each c.in_ok-found-in-Some.ensures)

pub returns-in-None : goal.returns-in-None
returns-in-None c = subst (λ (o : Option TypeName). Both (IsType (site_scope c.args.site)) o None) (sym c.in-None.is) neither
