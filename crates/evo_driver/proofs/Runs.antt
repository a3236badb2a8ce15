-- The machine's run and the answer of the source's.
use Rattle.std.proofs.Common.{◌≡◌, ℕ, List, [], codes, refl}
use Rattle.evo_code.specs.declared.image.Image.{Image}
use Rattle.evo_execution.specs.declared.end.End.{End}
use Rattle.evo_execution.specs.declared.end.End.TheVariants.{Done, Budget}
use Rattle.evo_execution.specs.Execution.{Executes}
use Rattle.evo_first_code.specs.Meaning.{Ran, Ending, done, spent, stuck}
use Rattle.evo_first_code.specs.Works.{DoesResult, EndsResult}
use Rattle.evo_driver.specs.declared.status.Status.TheVariants as status
use Rattle.evo_driver.specs.declared.reply.Reply.{Reply}
use Rattle.evo_driver.specs.Top.{IsNoFault, Replies}
use Rattle.evo_driver.specs.Top.{EndsResult as RepliesTo}
use Rattle.evo_driver.specs.Answer.{Answer, EndsWith}

-- how the machine ends where the source ends so
abbrev pub EndIs : Ending → End → Type 0
EndIs done e = e ≡ Done
EndIs spent e = e ≡ Budget
EndIs stuck e = ⊥

pub record Executed (image : Image) (ticks : ℕ) (out : List ℕ) (ending : Ending) : Type 0 where
  pub end : End
  pub is : EndIs ending end
  pub run : Executes image ticks (record { out = out; ending = end })

executed-as : (image : Image) (ticks : ℕ) (out : List ℕ) (e : Ending) → EndsResult image ticks out e → Executed image ticks out e
executed-as image ticks out done h = record { end = Done; is = refl; run = h }
executed-as image ticks out spent h = record { end = Budget; is = refl; run = h }
executed-as image ticks out stuck h = absurd h

pub executed : (image : Image) (ticks : ℕ) (ran : Ran) → DoesResult image ticks ran → Executed image ticks ran.out ran.ending
executed image ticks ran h = executed-as image ticks ran.out ran.ending h

-- the answer of a run, with what it writes
pub record Answered (out : List ℕ) (ending : Ending) : Type 0 where
  pub answer : Answer
  pub ends : EndsWith out ending answer
  pub out_is : answer.out ≡ out

pub answered : (out : List ℕ) (e : Ending) (end : End) → EndIs e end → Answered out e
answered out done end h = record { answer = record { out = out; err = []; status = status.Done }; ends = refl; out_is = refl }
answered out spent end h = record { answer = record { out = out; err = codes "out of ticks\n"; status = status.OutOfTicks }; ends = refl; out_is = refl }
answered out stuck end h = absurd h

-- the answer of a run whose reply is to this end
pub replied : (out : List ℕ) (e : Ending) (end : End) (reply : Reply) → EndIs e end → RepliesTo end reply → (a : Answer) × EndsWith out e a × Replies a reply × (a.out ≡ out)
replied out done end reply h r =
    let r' : Replies (record { out = []; err = []; status = status.Done }) reply = rw h at r in
    (record { out = out; err = []; status = status.Done }, refl, record { text = r'.text; status_is = r'.status_is; bench = r'.bench }, refl)
replied out spent end reply h r =
    let r' : Replies (record { out = []; err = codes "out of ticks\n"; status = status.OutOfTicks }) reply = rw h at r in
    (record { out = out; err = codes "out of ticks\n"; status = status.OutOfTicks }, refl, record { text = r'.text; status_is = r'.status_is; bench = r'.bench }, refl)
replied out stuck end reply h r = absurd h

pub no_fault : (e : Ending) (end : End) → EndIs e end → IsNoFault end
no_fault done end h = rw h tt
no_fault spent end h = rw h tt
no_fault stuck end h = absurd h
