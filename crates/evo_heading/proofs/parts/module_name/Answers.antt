use Rattle.std.proofs.Common.{[], ◌∷◌, false, sym}
use Rattle.std.specs.Prelude.{IsTrue}
use Rattle.evo_lex.specs.ModuleName.{IsModule}
use Rattle.evo_heading.proofs.Fronts.{not_stripped}
use Rattle.evo_heading.proofs.Names.{no_space_behind, no_text, no_module}
use Rattle.evo_heading.proofs.parts.module_name.Goals as goal

pub returns-in_default : goal.returns-in_default
returns-in_default c = no_space_behind c.args.text.now c.split_at.result.0.now c.split_at.result.1.now c.word_len.result c.word_len.ensures.value c.split_at.ensures.front c.split_at.ensures.back
    (λ more. not_stripped (32 ∷ []) c.split_at.result.1.now more c.in_default.ensures.cases)

pub returns-in_default-from_utf8 : goal.returns-in_default-from_utf8
returns-in_default-from_utf8 c = no_text c.args.text.now c.split_at.result.0.now c.split_at.result.1.now c.word_len.result c.word_len.ensures.value c.split_at.ensures.front c.split_at.ensures.back c.in_default-from_utf8.ensures.cases.0

pub returns-then-not-is_module : goal.returns-then-not-is_module
returns-then-not-is_module c =
    let none : IsModule c.split_at.result.0.now → ⊥ = rw (sym c.in-Ok.ensures.cases.0) (λ is. let yes : IsTrue false = c.if-not-is_module.ensures.1 is in absurd cc) in
    no_module c.args.text.now c.split_at.result.0.now c.split_at.result.1.now c.word_len.result c.word_len.ensures.value c.split_at.ensures.front c.split_at.ensures.back none
