-- The report on broken rules: a line for each.
use Rattle.std.specs.Prelude.{ℕ, List, [], ◌∷◌, ◌++◌, filter, flat_map, Bool, true, false, codes}
use Rattle.evo_base.specs.declared.key.Mark.{Mark}
use Rattle.evo_base.specs.declared.key.Mark.TheVariants as mark
use Rattle.evo_base.specs.declared.key.Key.{Key}
use Rattle.evo_code.specs.Symbols.{Text, symbol_text}
use Rattle.evo_breaks.specs.declared.rule.Rule.{Rule}
use Rattle.evo_breaks.specs.declared.rule.Rule.TheVariants as rule
use Rattle.evo_breaks.specs.declared.rule.Side.{Side}
use Rattle.evo_breaks.specs.declared.rule.Side.TheVariants as side
use Rattle.evo_breaks.specs.declared.rule.Break.{Break}

abbrev pub rule_name : Rule → Text
rule_name rule.DeclarationRemoved = codes "E1"
rule_name rule.KindChanged = codes "E2"
rule_name rule.AccessLowered = codes "E3"
rule_name rule.SignatureChanged = codes "E4"
rule_name rule.PropertyChanged = codes "E5"
rule_name rule.FrozenChanged = codes "E6"
rule_name rule.FrozenStorageChanged = codes "E7"
rule_name rule.FrozenCasesChanged = codes "E8"
rule_name rule.CaseChanged = codes "E9"
rule_name rule.ClassFinalityChanged = codes "E10"
rule_name rule.SuperclassLost = codes "E11"
rule_name rule.OpenOrFinalChanged = codes "E12"
rule_name rule.RequirementChanged = codes "E13"
rule_name rule.RequirementWithoutDefault = codes "E14"
rule_name rule.AssociatedTypeChanged = codes "E15"
rule_name rule.InheritedProtocolsChanged = codes "E16"
rule_name rule.ConformanceChanged = codes "E17"
rule_name rule.IntroducedLater = codes "E18"
rule_name rule.ModuleNameDiffers = codes "E19"

abbrev pub rule_text : Rule → Text
rule_text rule.DeclarationRemoved = codes "declaration removed"
rule_text rule.KindChanged = codes "kind changed"
rule_text rule.AccessLowered = codes "access lowered"
rule_text rule.SignatureChanged = codes "signature changed"
rule_text rule.PropertyChanged = codes "property changed"
rule_text rule.FrozenChanged = codes "frozen changed"
rule_text rule.FrozenStorageChanged = codes "frozen storage changed"
rule_text rule.FrozenCasesChanged = codes "frozen cases changed"
rule_text rule.CaseChanged = codes "case removed or changed"
rule_text rule.ClassFinalityChanged = codes "finality of the class changed"
rule_text rule.SuperclassLost = codes "superclass lost"
rule_text rule.OpenOrFinalChanged = codes "open or final changed"
rule_text rule.RequirementChanged = codes "requirement removed or changed"
rule_text rule.RequirementWithoutDefault = codes "requirement without default"
rule_text rule.AssociatedTypeChanged = codes "associated type changed"
rule_text rule.InheritedProtocolsChanged = codes "inherited protocols changed"
rule_text rule.ConformanceChanged = codes "conformance removed or changed"
rule_text rule.IntroducedLater = codes "introduced later"
rule_text rule.ModuleNameDiffers = codes "module name differs"

-- the part of a declaration that a key means is left away, and a conformance keeps its protocol
abbrev pub is_reported : Mark → Bool
is_reported (mark.Conformance p) = true
is_reported m = false

abbrev pub reported : Key → Key
reported k = record k { part = record { marks = filter is_reported k.part.marks } }

abbrev pub key_text : Key → Text
key_text k = symbol_text (reported k)

-- a module is its name
abbrev pub side_text : Text → Side → Text
side_text name side.Module = name
side_text name (side.Declared k) = key_text k

unfoldable pub line : Text → Text → Break → Text
line old new b = rule_name b.rule ++ (codes " old " ++ (side_text old b.old ++ (codes " new " ++ (side_text new b.new ++ (codes ": " ++ (rule_text b.rule ++ codes "\n"))))))

abbrev pub report_text : Text → Text → List Break → Text
report_text old new list = flat_map (line old new) list
