-- The symbols of objects are those of keys.
use Rattle.std.proofs.Common.{◌≡◌, ℕ, List, [], ◌∷◌, ◌++◌, true, refl, sym, ◌∙◌, ap, append_assoc}
use Rattle.std.specs.Str.{bytes_eq}
use Rattle.evo_base.specs.declared.key.Mark.{Mark}
use Rattle.evo_base.specs.declared.key.Mark.TheVariants as mark
use Rattle.evo_code.specs.Symbols.{symbol_text, marks_text}
use Rattle.evo_first_code.specs.Objects.{copy_symbol}
use Rattle.evo_first_code.specs.Keys.{function_key, AreKeySymbols}
use Rattle.evo_first_code.proofs.Images.{equal}

with_marks : (library name : List ℕ) (marks : List Mark) → symbol_text (function_key library name marks) ≡ library ++ 46 ∷ (name ++ 40 ∷ 41 ∷ marks_text marks)
with_marks library name marks =
    let own : bytes_eq library library ≡ true = equal library library refl in
    rw own (append_assoc library (46 ∷ []) (name ++ 40 ∷ 41 ∷ marks_text marks))

copy : (library name : List ℕ) → symbol_text (function_key library name (mark.Copy ∷ [])) ≡ copy_symbol library name
copy library name =
    with_marks library name (mark.Copy ∷ [])
    ∙ sym (append_assoc library (46 ∷ (name ++ 40 ∷ 41 ∷ [])) (35 ∷ 99 ∷ 111 ∷ 112 ∷ 121 ∷ []) ∙ ap (λ (l : List ℕ). library ++ 46 ∷ l) (append_assoc name (40 ∷ 41 ∷ []) (35 ∷ 99 ∷ 111 ∷ 112 ∷ 121 ∷ [])))

pub key_symbols : AreKeySymbols
key_symbols = record { functions = λ library name. with_marks library name []; copies = copy; start = refl }
