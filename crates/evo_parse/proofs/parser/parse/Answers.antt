use Rattle.std.proofs.Common.{◌≡◌, List, sym, subst, rules}
use Rattle.evo_combinators.specs.Reader.{Fails}
use Rattle.evo_tree.specs.Pieces.{Piece, pieces}
use Rattle.evo_tree.specs.Modules.{Spells, nesting}
use Rattle.evo_parse.specs.Contract.{all_of}
use Rattle.evo_parse.proofs.Answers.{reader, faulty, spells, of_text}
use Rattle.evo_parse.proofs.parser.parse.Goals as goal

pub returns-in-Err-clause-fault : goal.returns-in-Err-clause-fault
returns-in-Err-clause-fault c =
    let form = c.args.form in
    let view : c.new-cursor.result ≡ pieces c.args.text.now c.args.tokens.now = search rules in
    let fails = subst (λ (ps : List Piece). Fails c.in-Err.error (all_of (reader form nesting ps))) view c.in-Err.ensures in
    faulty form c.args.text.now c.args.tokens.now c.in-Err.error c.in_ok-fault_of-in-Err.field-0 fails c.in_ok-fault_of-in-Err.ensures

pub of_text-requires : goal.of_text-requires
of_text-requires c =
    let text = c.args.text.now in
    let form = c.args.form in
    let view : c.new-cursor.result ≡ pieces text c.args.tokens.now = search rules in
    of_text text form _ (spells form text c.args.tokens.now c.new-cursor.result c.in_ok-name.name c.in_ok-name.release c.in_ok-imports.imports c.in_ok-imports.items c.in-Ok.parts c.requires.cut view c.in-Ok.ensures c.in_ok-name.ensures c.in_ok-imports.ensures.0 c.in_ok-imports.ensures.1)

pub returns-clause-spelled : goal.returns-clause-spelled
returns-clause-spelled c =
    let text = c.args.text.now in
    let form = c.args.form in
    let view : c.new-cursor.result ≡ pieces text c.args.tokens.now = search rules in
    subst (Spells text form) (sym c.of_text.ensures) (spells form text c.args.tokens.now c.new-cursor.result c.in_ok-name.name c.in_ok-name.release c.in_ok-imports.imports c.in_ok-imports.items c.in-Ok.parts c.requires.cut view c.in-Ok.ensures c.in_ok-name.ensures c.in_ok-imports.ensures.0 c.in_ok-imports.ensures.1)
