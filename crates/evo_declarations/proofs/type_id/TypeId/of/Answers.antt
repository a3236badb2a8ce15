use Rattle.std.proofs.Common.{subst, sym}
use Rattle.std.specs.Str.{IsUtf8}
use Rattle.std.proofs.lemmas.Str.{is_utf8-from_IsUtf8}
use Rattle.evo_declarations.proofs.type_id.TypeId.of.Goals as goal

pub invariant_of-result : goal.invariant_of-result
invariant_of-result c = record { module_utf8 = is_utf8-from_IsUtf8 _ (subst IsUtf8 (sym c.as_slice.ensures.value) c.as_slice.ensures.utf8); base_utf8 = is_utf8-from_IsUtf8 _ (subst IsUtf8 (sym c.as_slice-2.ensures.value) c.as_slice-2.ensures.utf8) }
