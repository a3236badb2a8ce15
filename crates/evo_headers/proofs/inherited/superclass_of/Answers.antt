use Rattle.evo_headers.specs.Sites.{site_scope}
use Rattle.evo_headers.proofs.Classes.{of_others}
use Rattle.evo_headers.proofs.inherited.superclass_of.Goals as goal

pub returns-in_default : goal.returns-in_default
returns-in_default c = of_others (site_scope c.args.site).home c.args.kind c.args.inherited.now c.in_default.not-Class
