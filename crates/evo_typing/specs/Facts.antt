-- What the declarations that were accepted so far keep, and typing rests on.
use Rattle.evo_base.specs.declared.key.Key.{Key}
use Rattle.std.specs.Prelude.{List}
use Rattle.evo_resolved.specs.declared.resolved_type.RType.{RType}
use Rattle.evo_resolved.specs.declared.declaration.Signature.{Signature}
use Rattle.evo_solve.specs.Stands.{StandsFor}
use Rattle.evo_typing.specs.Known.{OneAnswer}
use Rattle.evo_typing.specs.Site.{Site, Stated}

pub record Facts (s : Site) : Type 0 where
  -- one declaration for each key
  pub one_declaration : (k : Key) → OneAnswer (Stated s.world k)
  -- a type of a signature stands for one type: the conformances that give an associated type agree
  pub one_type : (sig : Signature) (ts : List RType) (t : RType) → OneAnswer (StandsFor s.world s.declarations sig ts s.signature.requirements t)
