-- The display lines in what a session answers, and how far one has come who takes it byte after byte.
use Rattle.std.specs.Prelude.{◌≡◌, ◌⊎◌, ℕ, suc, ◌==◌, ◌≤◌, Bool, true, false, List, [], ◌∷◌, ◌++◌, length, if◌then◌else◌, Option, Some, None, Result, Ok, Err}
use Rattle.std.specs.List.{filter_map, fold}
use Rattle.std.specs.Io.KnownBytes.{Consumes, IsAtEnd}
use Rattle.tsb_lines.specs.Lines.{kept, split, without_return}
use Rattle.tsb_field_display.specs.declared.error.ReplayError.{ReplayError}
use Rattle.tsb_field_display.specs.declared.error.ReplayError.TheVariants.{Memory, Read}
use Rattle.tsb_field_display.specs.declared.replay.Replay.{Replay}
use Rattle.tsb_field_display.specs.declared.shown.Shown.{Shown}
use Rattle.tsb_field_display.specs.declared.stream.DisplayStream.{DisplayStream}
use Rattle.tsb_field_display.specs.declared.stream.TheConstants.{KEPT}
use Rattle.tsb_field_display.specs.Reading.{shown_of}
use Rattle.tsb_field_display.specs.Remaining.{Keeps}

-- ## Display lines

-- what a line shows, without one carriage return at its end: nothing where it is no display line
abbrev pub shown_in : Bool → List ℕ → Option Shown
shown_in is_wide line = shown_of is_wide (without_return line)

-- what those lines show that are display lines, in their order: the lines stand between the line feeds
abbrev pub shown_lines : Bool → List ℕ → List Shown
shown_lines is_wide bytes = filter_map (shown_in is_wide) (split bytes)

-- a read has failed, or there were 2^64 - 1 of them, each of which brought a byte
abbrev pub HasNoEnd : Bool → List ℕ → Type 0
HasNoEnd failed bytes = (failed ≡ true) ⊎ (18446744073709551615 ≤ length bytes)

-- these bytes were read, up to the end, and the replay keeps their display lines; or reading them was ended by a fault: a
-- read fault where a read has failed, and no memory where none has
abbrev pub ReadSo : Bool → Result Replay ReplayError → Bool → Option (List ℕ) → List ℕ → Type 0
ReadSo is_wide (Ok replay) failed left bytes = (failed ≡ false) × IsAtEnd left × Keeps replay (shown_lines is_wide bytes)
ReadSo is_wide (Err Memory) failed left bytes = failed ≡ false
ReadSo is_wide (Err Read) failed left bytes = HasNoEnd failed bytes

-- the bytes that were read, and whether a read has failed
pub record ReplayRead (is_wide : Bool) (result : Result Replay ReplayError) (failed : Bool) (input left : Option (List ℕ)) : Type 0 where
  pub bytes : List ℕ
  pub taken : Consumes input left bytes
  pub so : ReadSo is_wide result failed left bytes

-- ## Byte after byte

-- what is known after some bytes: what the display lines that have ended show, and the bytes of the line that has not,
-- of a long one the first; and whether wide lines are read
pub record Stand : Type 0 where
  pub is_wide : Bool
  pub shown : List Shown
  pub held : List ℕ

-- before the first byte
abbrev pub start : Bool → Stand
start is_wide = record { is_wide = is_wide; shown = []; held = [] }

-- what lines show, and then what one more shows
abbrev pub with_shown : List Shown → Option Shown → List Shown
with_shown shown None = shown
with_shown shown (Some line) = shown ++ line ∷ []

-- the line that is held has ended
abbrev pub with_line : Stand → Stand
with_line s = record { is_wide = s.is_wide; shown = with_shown s.shown (shown_in s.is_wide s.held); held = [] }

-- a byte more of the line, of which as many are kept as a display line has with its return, and one by which a longer
-- line is known
abbrev pub with_held : Stand → ℕ → Stand
with_held s byte = record s { held = kept KEPT (s.held ++ byte ∷ []) }

-- a byte more: a line feed ends the line
abbrev pub with_byte : Stand → ℕ → Stand
with_byte s byte = if byte == 10 then with_line s else with_held s byte

-- these bytes more, one after the other
abbrev pub with_bytes : Stand → List ℕ → Stand
with_bytes s bytes = fold with_byte s bytes

-- a stream has come to this
pub record StandsAt (s : Stand) (stream : DisplayStream) : Type 0 where
  pub shown : Keeps stream.replay s.shown
  pub held : stream.line ≡ s.held
  pub wide : stream.is_wide ≡ s.is_wide

-- these bytes were read so far, by so many reads at least, none of which has failed, and a stream has taken them
pub record Going (is_wide failed : Bool) (input left : Option (List ℕ)) (stream : DisplayStream) (reads : ℕ) : Type 0 where
  pub well : failed ≡ false
  pub bytes : List ℕ
  pub taken : Consumes input left bytes
  pub stands : StandsAt (with_bytes (start is_wide) bytes) stream
  -- each of the reads brought a byte or more
  pub many : reads ≤ length bytes

-- one read more was taken: there may be more, or it was the end
pub record GoesOn (is_wide more failed : Bool) (input left : Option (List ℕ)) (stream : DisplayStream) (reads : ℕ) : Type 0 where
  pub going : Going is_wide failed input left stream reads
  pub end : more ≡ false → IsAtEnd left
  pub grows : more ≡ true → suc reads ≤ length going.bytes
