use Rattle.std.proofs.Common.{◌≡◌, Option, None, subst}
use Rattle.evo_heading.specs.Heading.{Heads}
use Rattle.evo_heading.specs.declared.lines.Heading.{Heading}
use Rattle.evo_parse.specs.Contract.{IsHeaded}
use Rattle.evo_parse.proofs.parser.named.Goals as goal

pub unreachable-requires : goal.unreachable-requires
unreachable-requires c =
    let none : Heads c.args.text.now None = subst (λ (o : Option Heading). Heads c.args.text.now o) c.in-None.is c.in_ok-found-in-Interface.ensures in
    let (name, release, is) = subst (IsHeaded c.args.text.now) c.in-Interface.is c.requires in
    none name release is
