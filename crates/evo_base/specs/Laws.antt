-- The laws that the files and the sink in memory keep: where there is room for so many bytes, there is room for fewer.
use Rattle.std.specs.Prelude.{ℕ, ◌≤◌, List, Option, Some, None}
use Rattle.std.specs.Option.{IsSomeAnd}
use Rattle.std.proofs.Common.{le_refl, le_trans, add-le-add}
use Rattle.evo_base.specs.MemFilesState as files
use Rattle.evo_base.specs.MemSinkState as sink

fewer : (room : Option ℕ) (m n : ℕ) → m ≤ n → IsSomeAnd room (λ r. n ≤ r) → IsSomeAnd room (λ r. m ≤ r)
fewer None m n le h = h
fewer (Some r) m n le h = le_trans le h

-- of the files
pub files_take_fewer : (f : files.MemFilesState) (name : List ℕ) (m n : ℕ) → m ≤ n → files.Takes f name n → files.Takes f name m
files_take_fewer f name m n le t = record { unlisted = t.unlisted; room = fewer (files.room_of name f.entries) m n le t.room }

-- of the sink
pub sink_takes_fewer : (s : sink.MemSinkState) (m n : ℕ) → m ≤ n → sink.Takes s n → sink.Takes s m
sink_takes_fewer s m n le t = record { unlisted = t.unlisted; fits = le_trans (add-le-add (le_refl _) le) t.fits }
