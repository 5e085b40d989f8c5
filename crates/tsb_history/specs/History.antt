-- What a history is to its users: a list of records, the newest first, and the room for further ones.
-- A record is what one input changed; the words below speak of the newest record, of those before
-- it, of the bytes that records take, and of the numbers that a record can hold.
use Rattle.std.specs.Prelude.{ℕ, suc, ◌+◌, ◌*◌, ◌<◌, Bool, true, false, ◌&&◌, if◌then◌else◌, Option, Some, None, List, [], ◌∷◌, length, All}
use Rattle.tsb_history.specs.declared.kinds.Kind.{Kind}
use Rattle.tsb_history.specs.declared.kinds.Kind.TheVariants.{Tick}

-- one input: its kind, and each changed cell with the value that it had before
pub record Change : Type 0 where
  pub kind : Kind
  pub entries : List (ℕ × ℕ)

-- how many bytes a record of n entries takes: six for each entry, one for the kind and two for their
-- number
abbrev pub record_size : ℕ → ℕ
record_size n = 6 * n + 3

-- how many bytes records take
abbrev pub size_of : List Change → ℕ
size_of [] = 0
size_of (r ∷ rs) = size_of rs + record_size (length r.entries)

-- the records, newest first, and for how many bytes of further records there is memory
pub record Recorded : Type 0 where
  pub records : List Change
  pub room : ℕ

-- the newest record, if there is one
abbrev pub newest : List Change → Option Change
newest [] = None
newest (r ∷ rs) = Some r

-- the newest record with the place of its first byte, which is behind those of all older ones
abbrev pub newest_at : List Change → Option (Change × ℕ)
newest_at [] = None
newest_at (r ∷ rs) = Some (r, size_of rs)

-- that place, if there is a record
abbrev pub newest_start : List Change → Option ℕ
newest_start [] = None
newest_start (r ∷ rs) = Some (size_of rs)

-- its kind
abbrev pub newest_kind : List Change → Option Kind
newest_kind [] = None
newest_kind (r ∷ rs) = Some r.kind

-- the records without the newest
abbrev pub older : List Change → List Change
older [] = []
older (r ∷ rs) = rs

-- a cell number of two bytes, with an old value of four
pub record FitsEntry (e : ℕ × ℕ) : Type 0 where
  pub cell : e.0 < 65536
  pub old : e.1 < 4294967296

-- at most 65,535 entries, each of which fits
pub record FitsRecord (r : Change) : Type 0 where
  pub few : length r.entries < 65536
  pub entries : All FitsEntry r.entries

-- whether an input was a tick
abbrev pub is_tick : Kind → Bool
is_tick Tick = true
is_tick k = false

-- whether a record has no entry
abbrev pub has_none : List (ℕ × ℕ) → Bool
has_none [] = true
has_none (e ∷ es) = false

-- whether it is that of a quiet tick, in which no cell changed
abbrev pub is_quiet : Change → Bool
is_quiet r = is_tick r.kind && has_none r.entries

-- how many of the newest records, one after the other, are those of quiet ticks
abbrev pub quiet_ticks : List Change → ℕ
quiet_ticks [] = 0
quiet_ticks (r ∷ rs) = if is_quiet r then suc (quiet_ticks rs) else 0
