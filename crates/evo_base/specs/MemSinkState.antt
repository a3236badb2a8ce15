-- A sink in memory.
use Rattle.std.specs.Prelude.{ℕ, Some, ◌+◌, ◌-◌, ◌/◌, ◌^◌, ◌≤◌, min, List, ◌++◌, take, length, Bool, nat_lt, if◌then◌else◌, ◌||◌}
use Rattle.evo_base.specs.States.{SinkState}
use Rattle.evo_base.specs.FailurePlan.{PlanState, NoneAhead, fails_next, counted}

-- what was written, the room for all of it, the calls that are to fail, how many failed, and whether the last one did
pub record MemSinkState : Type 0 where
  pub bytes : List ℕ
  pub room : ℕ
  pub plan : PlanState
  pub faults : ℕ
  pub failed : Bool

-- the room that is left
abbrev pub left_of : MemSinkState → ℕ
left_of s = s.room - length s.bytes

-- a write of so many bytes fails
abbrev pub fails_at : MemSinkState → ℕ → Bool
fails_at s n = nat_lt (left_of s) n || fails_next s.plan

-- how many of its bytes a write keeps: what fits, or the first half where it is listed
abbrev pub kept_of : MemSinkState → ℕ → ℕ
kept_of s n = if nat_lt (left_of s) n then left_of s else if fails_next s.plan then n / 2 else n

-- the sink after a write
abbrev pub after_write : MemSinkState → List ℕ → MemSinkState
after_write s piece = record {
  bytes = s.bytes ++ take (kept_of s (length piece)) piece;
  room = s.room;
  plan = counted s.plan;
  faults = if fails_at s (length piece) then min (s.faults + 1) (2 ^ 64 - 1) else s.faults;
  failed = fails_at s (length piece);
}

-- no listed call lies ahead and so many bytes of room are left
pub record Takes (s : MemSinkState) (n : ℕ) : Type 0 where
  pub unlisted : NoneAhead s.plan
  pub fits : length s.bytes + n ≤ s.room

-- what contracts see of a sink in memory
abbrev pub sink_state : MemSinkState → SinkState
sink_state s = record { written = Some s.bytes; faults = s.faults; failed = s.failed; takes = Takes s }
