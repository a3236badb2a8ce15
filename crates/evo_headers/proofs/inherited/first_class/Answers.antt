use Rattle.std.proofs.Common.{sym, ◌∙◌}
use Rattle.evo_headers.specs.Sites.{site_scope}
use Rattle.evo_headers.proofs.Classes.{a_class, no_class, none_written}
use Rattle.evo_headers.proofs.inherited.first_class.Goals as goal

pub returns-in-empty : goal.returns-in-empty
returns-in-empty c = none_written (site_scope c.args.site).home c.args.inherited.now c.in-empty.len_below

pub returns-in-Some : goal.returns-in-Some
returns-in-Some c = a_class (site_scope c.args.site).home c.args.inherited.now c.first-item.result c.in-Some.key c.in-len1-up.len_at_least c.first-item.is (sym c.in_ok-key-in-len1-up.ensures ∙ c.in-Some.is)

pub returns-in-None : goal.returns-in-None
returns-in-None c = no_class (site_scope c.args.site).home c.args.inherited.now c.first-item.result c.in-len1-up.len_at_least c.first-item.is (sym c.in_ok-key-in-len1-up.ensures ∙ c.in-None.is)
