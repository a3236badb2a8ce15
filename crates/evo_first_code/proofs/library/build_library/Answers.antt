use Rattle.std.proofs.Common.{rules, ◌≡◌, subst, sym}
use Rattle.evo_code.specs.declared.object.Object.{Object}
use Rattle.evo_first_code.specs.Objects.{library_object}
use Rattle.evo_first_code.specs.Works.{AreTimed}
use Rattle.evo_first_code.proofs.Images.{library-timed}
use Rattle.evo_first_code.proofs.library.build_library.Goals as goal

pub returns-clause-timed : goal.returns-clause-timed
returns-clause-timed c =
    let built : c.object_of.result ≡ library_object c.args.library.now c.args.functions.now = search rules in
    subst (λ (o : Object). AreTimed o.functions) (sym built) (library-timed c.args.library.now c.args.functions.now)
