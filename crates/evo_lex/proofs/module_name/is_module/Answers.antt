use Rattle.std.proofs.Common.{◌≡◌, true, false, rules}
use Rattle.std.specs.Prelude.{codes}
use Rattle.std.specs.Str.{bytes_eq}
use Rattle.evo_base.specs.Keywords.{is_keyword}
use Rattle.evo_lex.specs.Identifier.{is_identifier}
use Rattle.evo_lex.specs.ModuleName.{is_taken}
use Rattle.evo_lex.proofs.ModuleNames.{module_iff, other_names_none, blank_names_none, keyword_names_none}
use Rattle.evo_lex.proofs.module_name.is_module.Goals as goal

pub returns-then-not-is_identifier : goal.returns-then-not-is_identifier
returns-then-not-is_identifier c = other_names_none c.args.name.now (search rules)

pub returns-then-eq : goal.returns-then-eq
returns-then-eq c = blank_names_none c.args.name.now (search rules)

pub returns-then-is_keyword : goal.returns-then-is_keyword
returns-then-is_keyword c = keyword_names_none c.args.name.now (search rules)

pub returns : goal.returns
returns c =
    let identifier : is_identifier c.args.name.now ≡ true = search rules in
    let blank : bytes_eq c.args.name.now (codes "_") ≡ false = search rules in
    let keyword : is_keyword c.args.name.now ≡ false = search rules in
    let taken : c.is_taken.result ≡ is_taken c.args.name.now = search rules in
    module_iff c.args.name.now c.is_taken.result identifier blank keyword taken
