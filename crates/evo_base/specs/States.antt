-- What contracts see of files and of a sink: one record each.
use Rattle.std.specs.Prelude.{◌≡◌, ℕ, List, Bool, Option}

-- What each name holds, where this is told; how often a call failed, which never falls; whether the last call, a `get` or a `put`, failed;
-- that a `get` of the name does not fail; that a `put` of at most so many bytes to the name does not fail.
pub record FilesState : Type 1 where
  pub held : List ℕ → Option (List ℕ)
  pub faults : ℕ
  pub failed : Bool
  pub gets : List ℕ → Type 0
  pub puts : List ℕ → ℕ → Type 0

-- What was written, where this is told; how often a call failed, which never falls; whether the last call failed;
-- that writes of together at most so many bytes do not fail.
pub record SinkState : Type 1 where
  pub written : Option (List ℕ)
  pub faults : ℕ
  pub failed : Bool
  pub takes : ℕ → Type 0

-- each name holds what it held
abbrev pub HoldSame : FilesState → FilesState → Type 0
HoldSame old new = (name : List ℕ) → new.held name ≡ old.held name

-- what does not fail before does not fail after
abbrev pub StaySure : FilesState → FilesState → Type 0
StaySure old new = ((name : List ℕ) → old.gets name → new.gets name) × ((name : List ℕ) (n : ℕ) → old.puts name n → new.puts name n)
