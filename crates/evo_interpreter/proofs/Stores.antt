-- Words that are put into an object.
use Rattle.std.proofs.Common.{◌≡◌, ℕ, zero, suc, ◌+◌, ◌<◌, List, [], ◌∷◌, length, map, get_or, true, false, Some, sym, ap, ◌∙◌, arith}
use Rattle.std.specs.Prelude.{slice_get, nat_le}
use Rattle.std.proofs.Math.ListN.{set}
use Rattle.std.proofs.lemmas.List.{map-set}
use Rattle.evo_execution.specs.declared.end.Stop.TheVariants as stop
use Rattle.evo_execution.specs.declared.end.MachineFault.TheVariants as fault
use Rattle.evo_execution.specs.Words.{Word, Answer, Got, Stops, and_then, provided, some_or}
use Rattle.evo_execution.specs.Execution.{Instance, object_at, with_object, written, written_at}
use Rattle.evo_execution.specs.Execution as defined
use Rattle.evo_interpreter.specs.declared.state.Object.{Object}
use Rattle.evo_interpreter.specs.declared.state.State.{State}
use Rattle.evo_interpreter.specs.States.{state_of, object_of}

object-there : (os : List Object) (n : ℕ) (o : Object) → n < length os → o ≡ get_or os n o → slice_get (map object_of os) n ≡ Some (object_of o)
object-there [] n o h e = absurd (omega arith)
object-there (x ∷ xs) zero o h e = ap (λ z. Some (object_of z)) (sym e)
object-there (x ∷ xs) (suc n) o h e = object-there xs n o (omega arith) e

-- what is done to the object, where these words of it are written
abbrev storing : defined.State → ℕ → ℕ → List Word → Instance → Answer defined.State
storing s n offset words i = and_then (written_at i.words offset words) (λ ws. Got (with_object s n (record i { words = ws })))

pub stored : (s : State) (n : ℕ) (o : Object) (offset : ℕ) (words new : List Word) → n < length s.objects.items → o ≡ get_or s.objects.items n o → true ≡ nat_le (offset + length words) (length o.words) → new ≡ written o.words offset words
    → and_then (object_at (state_of s) n) (storing (state_of s) n offset words) ≡ Got (record (state_of s) { objects = map object_of (set s.objects.items n (record o { words = new })) })
stored s n o offset words new h e fits same =
    ap (λ a. and_then (some_or fault.Range a) (storing (state_of s) n offset words)) (object-there s.objects.items n o h e)
    ∙ (ap (λ b. and_then (provided b fault.Range (written o.words offset words)) (λ ws. Got (with_object (state_of s) n (record { class = o.class; words = ws })))) (sym fits)
    ∙ (ap (λ (ws : List Word). Got (with_object (state_of s) n (record { class = o.class; words = ws }))) (sym same)
    ∙ ap (λ (os : List Instance). Got (record (state_of s) { objects = os })) (sym (map-set object_of s.objects.items n (record o { words = new })))))

pub not-stored : (s : State) (n : ℕ) (o : Object) (offset : ℕ) (words : List Word) → n < length s.objects.items → o ≡ get_or s.objects.items n o → false ≡ nat_le (offset + length words) (length o.words)
    → and_then (object_at (state_of s) n) (storing (state_of s) n offset words) ≡ Stops (stop.Fault fault.Range)
not-stored s n o offset words h e fits =
    ap (λ a. and_then (some_or fault.Range a) (storing (state_of s) n offset words)) (object-there s.objects.items n o h e)
    ∙ ap (λ b. and_then (provided b fault.Range (written o.words offset words)) (λ ws. Got (with_object (state_of s) n (record { class = o.class; words = ws })))) (sym fits)
