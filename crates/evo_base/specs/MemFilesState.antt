-- Files in memory.
use Rattle.std.specs.Prelude.{◌≡◌, ◌≢◌, ℕ, ◌+◌, ◌-◌, ◌/◌, ◌^◌, ◌≤◌, ◌<◌, min, nat_le, Bool, false, not, ◌||◌, List, [], ◌∷◌, ◌++◌, length, take, slice_index_or, slice_set, MatchOption, Option, Some, None, IsSome, is_none, if◌then◌else◌}
use Rattle.std.specs.Option.{IsSomeAnd, option_map, option_map_or}
use Rattle.std.specs.Str.{bytes_eq}
use Rattle.evo_base.specs.States.{FilesState}
use Rattle.evo_base.specs.FailurePlan.{PlanState, NoneAhead, fails_next, counted}

-- a name with its bytes and the room for a later put
pub record StoredFile : Type 0 where
  pub name : List ℕ
  pub bytes : List ℕ
  pub room : ℕ

-- the names that are prepared, the calls that are to fail, how many calls failed, and whether the last one did
pub record MemFilesState : Type 0 where
  pub entries : List StoredFile
  pub plan : PlanState
  pub faults : ℕ
  pub failed : Bool

-- the entry of a name
abbrev pub entry_of : List ℕ → List StoredFile → Option StoredFile
entry_of name [] = None
entry_of name (e ∷ es) = if bytes_eq e.name name then Some e else entry_of name es

-- the place of a name's entry, counted from k
abbrev pub place_from : List ℕ → ℕ → List StoredFile → Option ℕ
place_from name k [] = None
place_from name k (e ∷ es) = if bytes_eq e.name name then Some k else place_from name (k + 1) es

-- the entries after a put of a name that is there
abbrev pub put_entry : List ℕ → List ℕ → List StoredFile → List StoredFile
put_entry name bytes [] = []
put_entry name bytes (e ∷ es) = if bytes_eq e.name name then record e { bytes = bytes } ∷ es else e ∷ put_entry name bytes es

-- the entries after a name is prepared
abbrev pub add_entry : StoredFile → List StoredFile → List StoredFile
add_entry new [] = new ∷ []
add_entry new (e ∷ es) = if bytes_eq e.name new.name then new ∷ es else e ∷ add_entry new es

-- a name's entry stands at this place
pub record IsPlace (name : List ℕ) (es : List StoredFile) (i : ℕ) : Type 0 where
  pub within : i < length es
  pub entry : (d : StoredFile) → entry_of name es ≡ Some (slice_index_or es i d)
  pub put : (d : StoredFile) (bytes : List ℕ) → slice_set es i (record (slice_index_or es i d) { bytes = bytes }) ≡ put_entry name bytes es
  pub add : (new : StoredFile) → new.name ≡ name → slice_set es i new ≡ add_entry new es

-- a name has no entry
pub record IsAbsent (name : List ℕ) (es : List StoredFile) : Type 0 where
  pub entry : entry_of name es ≡ None
  pub add : (new : StoredFile) → new.name ≡ name → es ++ new ∷ [] ≡ add_entry new es

-- a name's entry stands at this place, or the name has none
abbrev pub IsPlaceOf : List ℕ → List StoredFile → Option ℕ → Type 0
IsPlaceOf name es place = MatchOption place (IsAbsent name es) (λ i. IsPlace name es i)

-- the bytes of a name
abbrev pub bytes_of : List ℕ → List StoredFile → Option (List ℕ)
bytes_of name es = option_map (λ (e : StoredFile). e.bytes) (entry_of name es)

-- the bytes that the files hold under a name
abbrev pub held_of : MemFilesState → List ℕ → Option (List ℕ)
held_of f name = bytes_of name f.entries

-- the room of a name
abbrev pub room_of : List ℕ → List StoredFile → Option ℕ
room_of name es = option_map (λ (e : StoredFile). e.room) (entry_of name es)

-- the entries after these bytes were put to a name, and what that says of each name
pub record PutsTo (old new : List StoredFile) (name bytes : List ℕ) : Type 0 where
  pub entries : new ≡ put_entry name bytes old
  pub content : bytes_of name new ≡ option_map (λ (had : List ℕ). bytes) (bytes_of name old)
  pub others : (other : List ℕ) → other ≢ name → bytes_of other new ≡ bytes_of other old
  pub rooms : (other : List ℕ) → room_of other new ≡ room_of other old

-- a name is prepared, with room for so many bytes
abbrev pub has_room : List ℕ → ℕ → List StoredFile → Bool
has_room name n es = option_map_or (λ (room : ℕ). nat_le n room) (room_of name es) false

-- the state after one more call, which failed or did not
abbrev pub after_call : MemFilesState → Bool → MemFilesState
after_call f fails = record {
  entries = f.entries;
  plan = counted f.plan;
  faults = if fails then min (f.faults + 1) (2 ^ 64 - 1) else f.faults;
  failed = fails;
}

-- a get of this name fails: it is listed, or the name is not prepared
abbrev pub get_fails : MemFilesState → List ℕ → Bool
get_fails f name = fails_next f.plan || is_none (entry_of name f.entries)

-- the files after a get, of whatever answer
abbrev pub after_get : MemFilesState → List ℕ → MemFilesState
after_get f name = after_call f (get_fails f name)

-- a put of so many bytes to this name fails: there is no room for them, or it is listed
abbrev pub put_fails : MemFilesState → List ℕ → ℕ → Bool
put_fails f name n = not (has_room name n f.entries) || fails_next f.plan

-- how many of its bytes a put keeps where there is room: the first half where it is listed
abbrev pub put_kept : MemFilesState → ℕ → ℕ
put_kept f n = if fails_next f.plan then n / 2 else n

-- the entries after a put, which stay where there is no room for all of its bytes
abbrev pub entries_after_put : MemFilesState → List ℕ → List ℕ → List StoredFile
entries_after_put f name bytes = if has_room name (length bytes) f.entries then put_entry name (take (put_kept f (length bytes)) bytes) f.entries else f.entries

-- the files after a put
abbrev pub after_put : MemFilesState → List ℕ → List ℕ → MemFilesState
after_put f name bytes = record (after_call f (put_fails f name (length bytes))) { entries = entries_after_put f name bytes }

-- no listed call lies ahead and the name is prepared
pub record Gets (f : MemFilesState) (name : List ℕ) : Type 0 where
  pub unlisted : NoneAhead f.plan
  pub prepared : IsSome (room_of name f.entries)

-- no listed call lies ahead and the name is prepared with room for so many bytes
pub record Takes (f : MemFilesState) (name : List ℕ) (n : ℕ) : Type 0 where
  pub unlisted : NoneAhead f.plan
  pub room : IsSomeAnd (room_of name f.entries) (λ room. n ≤ room)

-- what contracts see of files in memory
abbrev pub files_state : MemFilesState → FilesState
files_state f = record { held = held_of f; faults = f.faults; failed = f.failed; gets = Gets f; puts = Takes f }
