use Rattle.evo_lex.proofs.ModuleNames.{no_space}
use Rattle.evo_driver.proofs.Filters.{lacks}
use Rattle.evo_driver.proofs.job.known_plain.Goals as goal

pub returns : goal.returns
returns c = record { utf8 = c.as_slice-bytes.ensures.utf8; lacks = lacks 32 c.args.library.now (no_space c.args.library.now c.as_slice-bytes.ensures.utf8 c.requires) }
