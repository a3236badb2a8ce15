-- Ways: what a statement may do, in the order in which it is done.
use Rattle.std.specs.Prelude.{List, [], ◌∷◌}
use Rattle.evo_base.specs.declared.place.Place.{Place}
use Rattle.evo_base.specs.declared.key.Key.{Key}

-- what a path does, at a place, that may have to do with a fact
pub data Step : Type 0 where
  -- `self` is used
  uses : Place → Step
  -- a stored property of the own type gets its value
  stores : Place → Key → Step
  -- `self` gets a value
  assigns : Place → Step
  -- `self.init` returns
  delegates : Place → Step
  -- `super.init` returns
  supers : Place → Step
  -- the body is left
  leaves : Place → Step

-- how a path leaves a way: it goes on behind it, leaves or repeats what is around it, or goes no further
pub data Exit : Type 0 where
  next : Exit
  breaks : Exit
  continues : Exit
  stopped : Exit

pub data Way : Type 0 where
  skip : Way
  step : Step → Way
  leaving : Exit → Way
  seq : Way → Way → Way
  either : Way → Way → Way
  -- again and again, until it is left by `break`
  loop : Way → Way
  -- `break` goes on behind it
  left : Way → Way

-- one behind the other
abbrev pub run_on : Way → List Way → Way
run_on w [] = w
run_on w (v ∷ vs) = run_on (seq w v) vs

abbrev pub in_turn : List Way → Way
in_turn ws = run_on skip ws

-- one of them, or the first
abbrev pub one_of : Way → List Way → Way
one_of w [] = w
one_of w (v ∷ vs) = one_of (either w v) vs

abbrev pub any_of : List Way → Way
any_of ws = one_of (leaving stopped) ws
