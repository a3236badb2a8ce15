use Rattle.std.proofs.Common.{◌≡◌, codes, rules}
use Rattle.std.specs.Fmt.{decimal}
use Rattle.evo_words.proofs.Lists.{six_words}
use Rattle.evo_words.proofs.words.job_of.Goals as goal

pub returns : goal.returns
returns c =
    let words = six_words c.args.words.now c.verb-item.result c.library-item.result c.old-item.result c.new-item.result c.client-item.result c.ticks-item.result
    c.in-len6.len_at_least c.in-len6.len_below c.verb-item.is c.library-item.is c.old-item.is c.new-item.is c.client-item.is c.ticks-item.is in
    let ticks : c.ticks-item.result ≡ decimal c.in-Some.ticks = search rules in
    let verb : c.verb-item.result ≡ codes "evolve" = search rules in
    let library : c.in_ok-copy.field-0 ≡ c.library-item.result = search rules in
    let old : c.in_ok-copy-2.field-0 ≡ c.old-item.result = search rules in
    let new : c.in_ok-copy-3.field-0 ≡ c.new-item.result = search rules in
    let client : c.in_ok-copy-4.field-0 ≡ c.client-item.result = search rules in
    record {
      words_are = rw (library, old, new, client, ← ticks, ← verb) words;
      library = rw library (search rules);
      old = rw old (search rules);
      new = rw new (search rules);
      client = rw client (search rules);
      ticks = search rules;
    }
