use Rattle.std.proofs.Common.{◌≡◌}
use Rattle.evo_base.specs.Keywords.{is_keyword}
use Rattle.evo_base.proofs.KeywordLemmas.{keyword_iff}
use Rattle.evo_base.proofs.keyword.is_keyword.Goals as goal

pub returns-clause-says : goal.returns-clause-says
unfolding is_keyword
returns-clause-says c =
    let same : c.is_one_of.result ≡ is_keyword c.args.word.now = c.is_one_of.ensures in
    keyword_iff c.args.word.now c.is_one_of.result same
