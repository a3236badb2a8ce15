use Rattle.std.proofs.lemmas.Str.{IsUtf8-from_is_utf8}
use Rattle.evo_declarations.proofs.type_id.TypeId.base_text.Goals as goal

pub returns-clause-utf8 : goal.returns-clause-utf8
returns-clause-utf8 c = IsUtf8-from_is_utf8 c.args.self.base.now c.args.self.base_utf8
