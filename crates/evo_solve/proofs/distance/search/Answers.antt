use Rattle.std.proofs.Common.{◌≡◌, ℕ, ◌<◌, Some, None, length, subst, arith}
use Rattle.evo_solve.specs.Search.{Rounded, StartAt, value}
use Rattle.evo_solve.proofs.Levels.{next_level, early_more, nowhere, chosen_from}
use Rattle.evo_solve.proofs.distance.search.Goals as goal

pub returns-in-Some-clause-chosen : goal.returns-in-Some-clause-chosen
returns-in-Some-clause-chosen c =
    let ps = c.args.protocols.now in
    let i = c.in-Some.start in
    let below = c.requires.protocol in
    let some : 0 < length ps = omega arith in
    let e = subst (λ l. (s : ℕ) × (d : ℕ) × StartAt c.args.starts.now i s × (value l s ≡ Some d) × ((j u : ℕ) → j < i → StartAt c.args.starts.now j u → value l u ≡ None)) c.deref.ensures.value c.in-Some.ensures in
    let v = c.rounds.invariant in
    chosen_from c.args.classes.now ps c.requires.range c.args._sought.class c.args._sought.protocol c.requires.protocol c.args.starts.now c.rounds.distances.items c.rounds.far i e.0 e.1 some v.starts v.level v.early e.2 e.3 e.4

pub returns-then-not-round-clause-chosen : goal.returns-then-not-round-clause-chosen
returns-then-not-round-clause-chosen c =
    let g = c.args.classes.now in
    let ps = c.args.protocols.now in
    let dist = c.rounds.distances.items in
    let below = c.requires.protocol in
    let some : 0 < length ps = omega arith in
    let none = subst (λ l. (i s : ℕ) → StartAt c.args.starts.now i s → value l s ≡ None) c.deref.ensures.value c.in_default.ensures in
    let same = c.if-not-round.ensures.changed in
    let r = subst (λ l. Rounded g ps c.rounds.far dist l (length dist)) same c.round.ensures.rounded in
    let v = c.rounds.invariant in
    nowhere g ps c.requires.range c.args._sought.class c.args._sought.protocol c.requires.protocol c.args.starts.now dist c.rounds.far some v.starts v.level r none

pub rounds-preserved : goal.rounds-preserved
rounds-preserved c =
    let g = c.args.classes.now in
    let ps = c.args.protocols.now in
    let dist = c.rounds.distances.items in
    let new = c.round.new.distances.items in
    let t = c.args._sought.class in
    let m = c.args._sought.protocol in
    let below = c.requires.protocol in
    let some : 0 < length ps = omega arith in
    let none = subst (λ l. (i s : ℕ) → StartAt c.args.starts.now i s → value l s ≡ None) c.deref.ensures.value c.in_default.ensures in
    let r = c.round.ensures.rounded in
    let size : length new ≡ length dist = r.size in
    let fewer = c.if-not-round.ensures.changed in
    let v = c.rounds.invariant in
    let room = v.room in
    record {
      level = next_level g ps c.requires.range t m c.requires.protocol c.rounds.far dist new v.level r;
      early = early_more g ps c.requires.range t m c.requires.protocol c.args.starts.now dist c.rounds.far some v.starts v.level none;
      room = omega arith;
      starts = λ i s at. let h = v.starts i s at in omega arith;
    }
