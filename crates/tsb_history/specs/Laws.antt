-- A law of the spelling: the bytes of a history tell its records, so that two histories whose bytes
-- are equal hold equal records, whatever their number.
use Rattle.std.specs.Prelude.{◌≡◌, List, All}
use Rattle.tsb_history.specs.History.{Change, FitsRecord}
use Rattle.tsb_history.specs.Bytes.{bytes_of}

-- records that fit their places and have equal bytes are equal
abbrev pub IsUnambiguous : Type 0
IsUnambiguous = (rs qs : List Change) → All FitsRecord rs → All FitsRecord qs → bytes_of rs ≡ bytes_of qs → rs ≡ qs
