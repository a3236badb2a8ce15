use Rattle.std.proofs.Common.{◌∙◌, sym}
use Rattle.evo_declarations.proofs.LanguageTypes.{is_language, language_text}
use Rattle.evo_declarations.proofs.heads.language_type.Goals as goal

pub invariant_of-result : goal.invariant_of-result
invariant_of-result c = record { module_utf8 = is_language c.as_slice.result.now c.as_slice.ensures; base_utf8 = language_text c.args.name.now (sym c.is_language_type.ensures ∙ c.if-not-is_language_type.false) }
