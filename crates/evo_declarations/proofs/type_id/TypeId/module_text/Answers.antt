use Rattle.std.proofs.lemmas.Str.{IsUtf8-from_is_utf8}
use Rattle.evo_declarations.proofs.type_id.TypeId.module_text.Goals as goal

pub returns-clause-utf8 : goal.returns-clause-utf8
returns-clause-utf8 c = IsUtf8-from_is_utf8 c.args.self.«module».now c.args.self.module_utf8
