use Rattle.std.proofs.Common.{refl, rules}
use Rattle.evo_resolved.proofs.Indexing.{at_within, added_known, added_new}
use Rattle.evo_resolved.proofs.keyed.add.Goals as goal

pub index-before-requires : goal.index-before-requires
index-before-requires c = let h = at_within c.args.ix.now c.args.text.now c.in-Some.at c.in-Some.ensures.place c.requires in search rules

pub index_mut-requires : goal.index_mut-requires
index_mut-requires c = let h = at_within c.args.ix.now c.args.text.now c.in-Some.at c.in-Some.ensures.place c.requires in search rules

pub returns-in_ok-push-in-Some : goal.returns-in_ok-push-in-Some
returns-in_ok-push-in-Some c = added_known c.args.ix.now _ c.args.text.now c.in-Some.at c.args.number c.index-before.result.now c.in-Some.ensures.place c.requires refl refl c.index-before.ensures c.in_ok-push-in-Some.ensures.items

pub returns-in_ok-push-in-None-2 : goal.returns-in_ok-push-in-None-2
returns-in_ok-push-in-None-2 c = added_new c.args.ix.now _ c.args.text.now c.args.number c.in_ok-insert-in-None.field-0 c.in-None.ensures.place c.requires c.in_ok-insert-in-None.ensures.ok c.in_ok-push-in-None.ensures.items c.in_ok-push-in-None-2.ensures.items
