use Rattle.std.proofs.Common.{rules, ◌≡◌, true, false, arith}
use Rattle.evo_copies.proofs.Facts.{read_all, read_one, read_keeps, read_enough}
use Rattle.evo_copies.proofs.copies.spread.Goals as goal

pub returns-then-not-branch : goal.returns-then-not-branch
returns-then-not-branch c =
    let not : c.in_ok-read_copy.field-0 ≡ false = search rules in
    let h = rw not at c.in_ok-read_copy.ensures in
    c.loop-place.invariant.leads c.read_copy.new.copies (read_all c.args.view.now c.loop-place.copies c.read_copy.new.copies c.loop-place.place h)

pub loop-place-preserved : goal.loop-place-preserved
loop-place-preserved c =
    let there : c.in_ok-read_copy.field-0 ≡ true = search rules in
    let h = rw there at c.in_ok-read_copy.ensures in
    let keeps = read_keeps c.args.view.now c.loop-place.copies c.read_copy.new.copies c.loop-place.place h c.loop-place.invariant.distinct c.loop-place.invariant.inlinable in
    record {
      leads = λ all more. c.loop-place.invariant.leads all (read_one c.args.view.now c.loop-place.copies c.read_copy.new.copies all c.loop-place.place h more);
      distinct = keeps.0;
      inlinable = keeps.1;
    }

pub returns : goal.returns
returns c =
    let end = c.len-place-end.ensures in
    c.loop-place.invariant.leads c.loop-place.copies (read_enough c.args.view.now c.loop-place.copies c.loop-place.place c.loop-place.invariant.distinct c.loop-place.invariant.inlinable (omega (arith, end, c.loop-place-test.false)))
