use Rattle.std.proofs.Common.{◌≤◌, ◌+◌, ℕ, take, length, subst, sym}
use Rattle.std.proofs.Math.Seq.{take-length}
use Rattle.std.specs.Io.KnownBytes.{Appends}
use Rattle.evo_base.proofs.Handing.{fits_behind, Appends-further, Appends-keeps}
use Rattle.evo_base.proofs.disk.hand_on.Goals as goal
use Rattle.evo_base.proofs.disk.hand_on.Goals.{in-Ok-write, in-Err-write}

pub loop-turn-preserved : goal.loop-turn-preserved
loop-turn-preserved g c =
    let before = c.loop-turn.invariant in
    let within : ℕ → Type 0 = λ n. n ≤ length c.args.piece.now in
    let handed : ℕ → Type 0 = λ n. Appends (g.W.Write.contents c.args.stream.now) (g.W.Write.contents c.write.new.self) (take n c.args.piece.now) in
    elim c.match-write.branch [
      | in-Ok-write w ↦
          let bytes = rw w.in-Ok-write.is at c.write.ensures.bytes in
          let bound = rw w.in-Ok-write.is at c.write.ensures.bound in
          let fits : c.loop-turn.at + w.in-Ok-write.n ≤ length c.args.piece.now = fits_behind c.loop-turn.at w.in-Ok-write.n c.args.piece.now before.within bound in
          record { within = subst within (sym w.at-is) fits; handed = subst handed (sym w.at-is) (Appends-further _ _ _ _ _ _ before.handed bytes) }
      | in-Err-write w ↦
          let bytes = rw w.in-Err-write.is at c.write.ensures.bytes in
          record { within = subst within (sym w.at-is) before.within; handed = subst handed (sym w.at-is) (Appends-keeps _ _ _ _ before.handed bytes) }
    ]

pub returns-in-Ok : goal.returns-in-Ok
returns-in-Ok g c = Appends-keeps _ _ _ _ (rw (c.if-at-piece.true, take-length) at c.loop-turn.invariant.handed) c.flush.ensures.bytes

pub returns-in-Err : goal.returns-in-Err
returns-in-Err g c = (c.loop-turn.at, Appends-keeps _ _ _ _ c.loop-turn.invariant.handed c.flush.ensures.bytes)

pub returns-in-Ok-eq0 : goal.returns-in-Ok-eq0
returns-in-Ok-eq0 g c =
    (c.loop-turn.at + c.in-Ok-eq0.field-0, Appends-further _ _ _ _ _ _ c.loop-turn.invariant.handed (rw c.in-Ok-eq0.is at c.write.ensures.bytes))

pub returns-in-Err-2 : goal.returns-in-Err-2
returns-in-Err-2 g c = (c.loop-turn.at, Appends-keeps _ _ _ _ c.loop-turn.invariant.handed (rw c.in-Err-2.is at c.write.ensures.bytes))

pub returns : goal.returns
returns g c = (c.loop-turn.at, c.loop-turn.invariant.handed)
