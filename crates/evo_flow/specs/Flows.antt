-- What a way does to one fact, computed.
use Rattle.std.specs.Prelude.{List, [], ◌∷◌, Bool, true, false, ◌||◌, Option, Some, None, if◌then◌else◌}
use Rattle.evo_tree.specs.declared.module.SourceFault.{SourceFault}
use Rattle.evo_flow.specs.declared.flow.Effect.{Effect}
use Rattle.evo_flow.specs.declared.flow.Effect.TheVariants as effect
use Rattle.evo_flow.specs.declared.flow.Possible.{Possible}
use Rattle.evo_flow.specs.declared.flow.Out.{Out}
use Rattle.evo_flow.specs.declared.flow.Flow.{Flow}
use Rattle.evo_flow.specs.Way.{Step, Exit, next, breaks, continues, stopped, Way, skip, step, leaving, seq, either, loop, left}
use Rattle.evo_flow.specs.Path.{after}

abbrev pub first : {A : Type 0} → Option A → Option A → Option A
first (Some x) o = Some x
first None o = o

-- ---- states

abbrev pub nowhere : Possible
nowhere = record { undone = false; done = false }

abbrev pub only : Bool → Possible
only s = if s then record { undone = false; done = true } else record { undone = true; done = false }

abbrev pub union : Possible → Possible → Possible
union a b = record { undone = a.undone || b.undone; done = a.done || b.done }

abbrev pub has : Possible → Bool → Bool
has p false = p.undone
has p true = p.done

-- ---- from one state

abbrev pub no_out : Out
no_out = record { next = nowhere; breaks = nowhere; continues = nowhere; fault = None }

unfoldable pub join : Out → Out → Out
join a b = record { next = union a.next b.next; breaks = union a.breaks b.breaks; continues = union a.continues b.continues; fault = first a.fault b.fault }

abbrev pub when : Bool → Out → Out
when b o = if b then o else no_out

abbrev pub bad : Effect → Bool → Option SourceFault
bad (effect.Needs f) false = Some f
bad (effect.Once f) true = Some f
bad e s = None

abbrev pub step_out : Effect → Bool → Out
step_out e s = record { next = only (after e s); breaks = nowhere; continues = nowhere; fault = bad e s }

abbrev pub leaving_out : Exit → Bool → Out
leaving_out next s = record { next = only s; breaks = nowhere; continues = nowhere; fault = None }
leaving_out breaks s = record { next = nowhere; breaks = only s; continues = nowhere; fault = None }
leaving_out continues s = record { next = nowhere; breaks = nowhere; continues = only s; fault = None }
leaving_out stopped s = no_out

-- from each of the states
unfoldable pub via : Possible → Flow → Out
via p f = join (when p.undone f.undone) (when p.done f.done)

unfoldable pub then_out : Out → Flow → Out
then_out a g = join (record a { next = nowhere }) (via a.next g)

-- behind a turn the next one begins
abbrev pub heads : Bool → Out → Possible
heads s o = union (only s) (union o.next o.continues)

abbrev pub broken : Out → Out
broken o = record { next = o.breaks; breaks = nowhere; continues = nowhere; fault = o.fault }

unfoldable pub loop_out : Bool → Out → Flow → Out
loop_out s o f = broken (via (heads s o) f)

unfoldable pub left_out : Out → Out
left_out o = record { next = union o.next o.breaks; breaks = nowhere; continues = o.continues; fault = o.fault }

-- ---- from both states

abbrev pub skip_flow : Flow
skip_flow = record { undone = leaving_out next false; done = leaving_out next true }

unfoldable pub step_flow : Effect → Flow
step_flow e = record { undone = step_out e false; done = step_out e true }

unfoldable pub leaving_flow : Exit → Flow
leaving_flow e = record { undone = leaving_out e false; done = leaving_out e true }

unfoldable pub then_flow : Flow → Flow → Flow
then_flow f g = record { undone = then_out f.undone g; done = then_out f.done g }

unfoldable pub either_flow : Flow → Flow → Flow
either_flow f g = record { undone = join f.undone g.undone; done = join f.done g.done }

unfoldable pub loop_flow : Flow → Flow
loop_flow f = record { undone = loop_out false f.undone f; done = loop_out true f.done f }

unfoldable pub left_flow : Flow → Flow
left_flow f = record { undone = left_out f.undone; done = left_out f.done }

abbrev pub flow : (Step → Effect) → Way → Flow
flow act skip = skip_flow
flow act (step x) = step_flow (act x)
flow act (leaving e) = leaving_flow e
flow act (seq v w) = then_flow (flow act v) (flow act w)
flow act (either v w) = either_flow (flow act v) (flow act w)
flow act (loop w) = loop_flow (flow act w)
flow act (left w) = left_flow (flow act w)

-- ---- reading it

abbrev pub from : Flow → Bool → Out
from f false = f.undone
from f true = f.done

abbrev pub comes : Out → Exit → Bool → Bool
comes o next t = has o.next t
comes o breaks t = has o.breaks t
comes o continues t = has o.continues t
comes o stopped t = false

-- ---- many in turn, and one of many

abbrev pub run_flows : Flow → List Flow → Flow
run_flows f [] = f
run_flows f (g ∷ gs) = run_flows (then_flow f g) gs

abbrev pub one_of_flows : Flow → List Flow → Flow
one_of_flows f [] = f
one_of_flows f (g ∷ gs) = one_of_flows (either_flow f g) gs
