use Rattle.std.proofs.Common.{◌∙◌, List, subst}
use Rattle.std.specs.Prelude.{MatchOption}
use Rattle.evo_resolved.specs.Found.{IsFound}
use Rattle.evo_resolved.specs.Named.{decl_key, is_declared}
use Rattle.evo_resolved.specs.declared.declaration.RDecl.{RDecl}
use Rattle.evo_resolved.proofs.lists.Decls.find.Goals as goal

pub returns : goal.returns
returns c = subst (λ (items : List RDecl). MatchOption c.find_in.result ((x : RDecl) → IsFound decl_key is_declared items c.args.key.now x → ⊥) (λ x. IsFound decl_key is_declared items c.args.key.now x.now)) (c.as_slice.ensures ∙ c.self.view_is) c.find_in.ensures
