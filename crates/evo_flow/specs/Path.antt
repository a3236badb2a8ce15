-- The paths of a way, and what stands at fault on one.
use Rattle.std.specs.Prelude.{List, [], ◌∷◌, ◌++◌, Bool, true, false}
use Rattle.evo_tree.specs.declared.module.SourceFault.{SourceFault}
use Rattle.evo_flow.specs.declared.flow.Effect.{Effect}
use Rattle.evo_flow.specs.declared.flow.Effect.TheVariants as effect
use Rattle.evo_flow.specs.Way.{Step, Exit, next, breaks, continues, stopped, Way, skip, step, leaving, seq, either, loop, left}

-- the turn of a loop is over, and the next one begins
pub data Turns : Exit → Type 0 where
  at_end : Turns next
  by_continue : Turns continues

-- a path that does not go on behind what it leaves
pub data Off : Exit → Type 0 where
  by_break : Off breaks
  by_continue : Off continues
  no_further : Off stopped

-- a path that is no `break`
pub data Stays : Exit → Type 0 where
  at_end : Stays next
  by_continue : Stays continues
  no_further : Stays stopped

-- A path is the list of its steps, with the way it leaves by. It may be cut off anywhere between two steps.
pub data Path : Way → List Step → Exit → Type 0 where
  cut : {w : Way} → Path w [] stopped
  skipped : Path skip [] next
  stepped : {x : Step} → Path (step x) (x ∷ []) next
  leaves : {e : Exit} → Path (leaving e) [] e
  on : {v w : Way} {p q : List Step} {e : Exit} → Path v p next → Path w q e → Path (seq v w) (p ++ q) e
  off : {v w : Way} {p : List Step} {e : Exit} → Path v p e → Off e → Path (seq v w) p e
  one : {v w : Way} {p : List Step} {e : Exit} → Path v p e → Path (either v w) p e
  other : {v w : Way} {p : List Step} {e : Exit} → Path w p e → Path (either v w) p e
  turn : {w : Way} {p q : List Step} {e f : Exit} → Path w p e → Turns e → Path (loop w) q f → Path (loop w) (p ++ q) f
  ended : {w : Way} {p : List Step} → Path w p breaks → Path (loop w) p next
  halted : {w : Way} {p : List Step} → Path w p stopped → Path (loop w) p stopped
  left_off : {w : Way} {p : List Step} → Path w p breaks → Path (left w) p next
  kept : {w : Way} {p : List Step} {e : Exit} → Path w p e → Stays e → Path (left w) p e

-- whether the fact is done behind a step
abbrev pub after : Effect → Bool → Bool
after effect.Passes s = s
after effect.Sets s = true
after (effect.Needs f) s = s
after (effect.Once f) s = true

-- whether it is done behind a path
abbrev pub behind : (Step → Effect) → Bool → List Step → Bool
behind act s [] = s
behind act s (x ∷ p) = behind act (after (act x) s) p

-- a step is a fault: before the fact where it is needed, after it where it may come about once
pub data Bad : Effect → Bool → SourceFault → Type 0 where
  too_early : {f : SourceFault} → Bad (effect.Needs f) false f
  too_late : {f : SourceFault} → Bad (effect.Once f) true f

-- a fault on a path
pub data On (act : Step → Effect) : Bool → List Step → SourceFault → Type 0 where
  here : {s : Bool} {x : Step} {p : List Step} {f : SourceFault} → Bad (act x) s f → On act s (x ∷ p) f
  later : {s : Bool} {x : Step} {p : List Step} {f : SourceFault} → On act (after (act x) s) p f → On act s (x ∷ p) f
