use Rattle.std.proofs.Common.{sym, ap, ◌∙◌, slice_get, rules}
use Rattle.std.specs.Option.{option_and_then}
use Rattle.evo_resolved.proofs.Indexing.{at_within, get_of}
use Rattle.evo_resolved.proofs.keyed.last_of.Goals as goal

pub index-requires : goal.index-requires
index-requires c = let h = at_within c.args.ix.now c.args.text.now c.in_ok-at.at c.in_ok-at.ensures.place c.requires in search rules

pub returns : goal.returns
returns c =
    let ix = c.args.ix.now in
    let get = get_of ix.newest.items c.in_ok-at.at c.index.result.now c.index.result.now (at_within ix c.args.text.now c.in_ok-at.at c.in_ok-at.ensures.place c.requires) c.index.ensures in
    sym (ap (option_and_then (slice_get ix.newest.items)) (sym c.in_ok-at.ensures.place) ∙ get)
