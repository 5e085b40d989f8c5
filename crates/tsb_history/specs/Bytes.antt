-- How records are spelled in bytes, and how they are read again.
-- Spelling goes by lists, one piece after the other. Reading goes by places in the whole list of
-- bytes, from the end of a record to its start, so that nothing is cut or copied.
use Rattle.std.specs.Prelude.{◌≡◌, ℕ, zero, suc, ◌+◌, ◌-◌, ◌*◌, ◌/◌, ◌≤◌, ◌==◌, List, [], ◌∷◌, ◌++◌, length, All, slice_index, if◌then◌else◌}
use Rattle.std.specs.Int.{w16, w32, to_le_bytes}
use Rattle.tsb_history.specs.declared.kinds.Kind.{Kind}
use Rattle.tsb_history.specs.declared.kinds.Kind.TheVariants.{Tick, Pattern, Switch, Fault, Reset, Begin, Set, Verify, Commit, Abort, Clock, Omit}
use Rattle.tsb_history.specs.History.{Change, FitsRecord}

-- the byte of a kind
abbrev pub code_of : Kind → ℕ
code_of Tick = 0
code_of Pattern = 1
code_of Switch = 2
code_of Fault = 3
code_of Reset = 4
code_of Begin = 5
code_of Set = 6
code_of Verify = 7
code_of Commit = 8
code_of Abort = 9
code_of Clock = 10
code_of Omit = 11

-- the kind of a byte; no kind has a byte above 11
abbrev pub kind_of : ℕ → Kind
kind_of n =
    if n == 0 then Tick
    else if n == 1 then Pattern
    else if n == 2 then Switch
    else if n == 3 then Fault
    else if n == 4 then Reset
    else if n == 5 then Begin
    else if n == 6 then Set
    else if n == 7 then Verify
    else if n == 8 then Commit
    else if n == 9 then Abort
    else if n == 10 then Clock
    else Omit

-- an entry: the cell in two bytes and its old value in four, least first
abbrev pub entry_bytes : ℕ × ℕ → List ℕ
entry_bytes e = to_le_bytes w16 e.0 ++ to_le_bytes w32 e.1

-- six bytes for each entry, in the order of the cells
abbrev pub entries_bytes : List (ℕ × ℕ) → List ℕ
entries_bytes [] = []
entries_bytes (e ∷ es) = entry_bytes e ++ entries_bytes es

-- a record: the entries, the kind, and how many entries there are
abbrev pub record_bytes : Change → List ℕ
record_bytes r = entries_bytes r.entries ++ code_of r.kind ∷ to_le_bytes w16 (length r.entries)

-- the records one after the other, the newest last
abbrev pub bytes_of : List Change → List ℕ
bytes_of [] = []
bytes_of (r ∷ rs) = bytes_of rs ++ record_bytes r

-- the number in the two bytes at a place, and in four
abbrev pub two_at : List ℕ → ℕ → ℕ
two_at bs i = slice_index bs i + slice_index bs (i + 1) * 256

-- least byte first, as the old value of an entry is spelled
abbrev pub four_at : List ℕ → ℕ → ℕ
four_at bs i = slice_index bs i + slice_index bs (i + 1) * 256 + slice_index bs (i + 2) * 65536 + slice_index bs (i + 3) * 16777216

-- n entries from a place on
abbrev pub entries_at : ℕ → List ℕ → ℕ → List (ℕ × ℕ)
entries_at zero bs i = []
entries_at (suc n) bs i = (two_at bs i, four_at bs (i + 2)) ∷ entries_at n bs (i + 6)

-- how many entries, of six bytes each, are from a place to another
abbrev pub entries_within : ℕ → ℕ → ℕ
entries_within at end = (end - at) / 6

-- how many entries the record has that ends before a place, and where it begins
abbrev pub count_at : List ℕ → ℕ → ℕ
count_at bs end = two_at bs (end - 2)

-- six bytes for each entry, one for the kind and two for their number
abbrev pub start_at : List ℕ → ℕ → ℕ
start_at bs end = end - (6 * count_at bs end + 3)

-- that record
abbrev pub change_at : List ℕ → ℕ → Change
change_at bs end = record { kind = kind_of (slice_index bs (end - 3)); entries = entries_at (count_at bs end) bs (start_at bs end) }

-- the n records that end before a place, newest first
abbrev pub changes_at : ℕ → List ℕ → ℕ → List Change
changes_at zero bs end = []
changes_at (suc n) bs end = change_at bs end ∷ changes_at n bs (start_at bs end)

-- a whole record ends before a place
pub record IsRecordAt (bs : List ℕ) (end : ℕ) : Type 0 where
  pub whole : 6 * count_at bs end + 3 ≤ end

-- n records end before a place, and fill the bytes before it
abbrev pub IsLaid : ℕ → List ℕ → ℕ → Type 0
IsLaid zero bs end = end ≡ 0
IsLaid (suc n) bs end = IsRecordAt bs end × IsLaid n bs (start_at bs end)

-- n records fill the bytes, each fits its places, and the bytes are their spelling
pub record IsKept (n : ℕ) (bs : List ℕ) : Type 0 where
  pub laid : IsLaid n bs (length bs)
  pub fits : All FitsRecord (changes_at n bs (length bs))
  pub spelled : bs ≡ bytes_of (changes_at n bs (length bs))
