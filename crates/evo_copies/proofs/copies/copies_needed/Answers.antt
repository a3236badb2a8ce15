use Rattle.std.proofs.Common.{rules, ◌≡◌, [], subst, sym}
use Rattle.evo_first_form.specs.Calls.{calls_of}
use Rattle.evo_copies.specs.Reach.{reached, AreInlinable}
use Rattle.evo_copies.proofs.Facts.{reached-inlinable}
use Rattle.evo_copies.proofs.copies.copies_needed.Goals as goal

pub spread-requires-clause-inlinable : goal.spread-requires-clause-inlinable
spread-requires-clause-inlinable c =
    let is : c.reach_prints.new.copies ≡ reached c.args.view.now [] (calls_of c.args.prints.now) = search rules in
    subst (AreInlinable c.args.view.now) (sym is) (reached-inlinable c.args.view.now [] (calls_of c.args.prints.now) tt)
