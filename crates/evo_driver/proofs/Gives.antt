-- What a job gives, by what it was given.
use Rattle.std.proofs.Common.{◌≡◌, ◌<◌, ◌≤◌, true, false, is_err, ◌-◌, ℕ, zero, suc, List, [], ◌++◌, length, arith, ◌∙◌, subst, Bool, Option, Some, None, Result, Ok, Err, refl, sym, ap}
use Rattle.std.specs.Prelude.{◌==◌}
use Rattle.std.proofs.lemmas.List.{append-nil, length-append}
use Rattle.evo_base.specs.Causes.{CountRose, HasCause}
use Rattle.evo_base.specs.Content.{Appends}
use Rattle.evo_base.specs.declared.files.Failed.{Failed}
use Rattle.evo_base.specs.States.{SinkState}
use Rattle.evo_driver.specs.declared.reply.ReplyError.{ReplyError}
use Rattle.evo_driver.specs.declared.reply.ReplyError.TheVariants as halt
use Rattle.evo_driver.specs.declared.reply.Reply.{Reply}
use Rattle.evo_driver.specs.declared.stop.Refusal.{Refusal}
use Rattle.evo_driver.specs.declared.stop.Refusal.TheVariants as refusal
use Rattle.evo_driver.specs.Answer.{Answer, refused_answer}
use Rattle.evo_driver.specs.Top.{GivesResult, WritesAll, Receives, Fails}
use Rattle.evo_runs.proofs.Sinks.{Appends-then}

pub Appends-none : (old : Option (List ℕ)) → Appends old old []
Appends-none None = refl
Appends-none (Some o) = let some : List ℕ → Option (List ℕ) = λ z. Some z in ap some (sym (append-nil o))

pub Receives-none : (old : SinkState) → Receives old old []
Receives-none old = record { written = Appends-none old.written; faultless = refl }

pub GivesResult-weaker : (means more : Answer → Type 0) (old new : SinkState) (r : Result Reply ReplyError) → ((a : Answer) → means a → more a) → GivesResult means old new r → GivesResult more old new r
GivesResult-weaker means more old new (Ok reply) so (a, m, replies, out) = (a, so a m, replies, out)
GivesResult-weaker means more old new (Err halt.NotWritten) so (a, m, fails) = (a, so a m, fails)
GivesResult-weaker means more old new (Err halt.Memory) so g = tt

-- a refusal writes nothing to `out`
pub nothing_out : (why : Refusal) (name : List ℕ) (old : SinkState) → Receives old old (refused_answer why name).out
nothing_out refusal.TooLong name old = Receives-none old
nothing_out (refusal.Source fault) name old = Receives-none old
nothing_out refusal.InterfaceTooLong name old = Receives-none old

-- writing what is left, after a piece that was written
pub WritesAll-then : (line rest : List ℕ) (old mid new : SinkState) (r : Result (Unit {0}) ReplyError)
    → Appends old.written mid.written line → mid.faults ≡ old.faults → ((n : ℕ) → length line ≤ n → old.takes n → mid.takes (n - length line))
    → WritesAll rest mid new r → WritesAll (line ++ rest) old new r
WritesAll-then line rest old mid new (Ok x) p same left q =
    record { written = Appends-then old.written mid.written new.written line rest p q.written; faultless = q.faultless ∙ same }
WritesAll-then line rest old mid new (Err halt.NotWritten) p same left q =
    let behind : length (line ++ rest) - length line ≡ length rest = omega (arith, length-append line rest) in
    record {
      some = omega (arith, length-append line rest, q.some);
      rose = rw (← same) q.rose;
      could = λ t. q.could (subst mid.takes behind (left (length (line ++ rest)) (omega (arith, length-append line rest)) t));
      last = q.last;
    }
WritesAll-then line rest old mid new (Err halt.Memory) p same left q = tt

-- a call that answered a fault
pub failed_call : (r : Result (Unit {0}) Failed) (before now : ℕ) (sure : Type 0) → is_err r ≡ true → HasCause before now sure r → CountRose before now × (sure → ⊥)
failed_call (Ok x) before now sure e h = absurd cc
failed_call (Err x) before now sure e h = h

-- a number that is not 0
pub not_zero : (n : ℕ) (b : Bool) → b ≡ (n == 0) → b ≡ false → 0 < n
not_zero zero b is false_too = absurd cc
not_zero (suc n) b is false_too = omega arith

-- a write of all that an answer has for a sink, which failed
pub failed_write : (old new : SinkState) (text bytes : List ℕ) (r : Result (Unit {0}) Failed) → text ≡ bytes → 0 < length text → is_err r ≡ true
    → HasCause old.faults new.faults (old.takes (length text)) r → new.failed ≡ is_err r → Fails old new bytes
failed_write old new text bytes r same some e cause last =
    let why = failed_call r old.faults new.faults (old.takes (length text)) e cause in
    subst (Fails old new) same (record { some = some; rose = why.0; could = why.1; last = last ∙ e })
