-- Lines that are written by mistake are not read as their events, or not read at all, computed.
use Rattle.std.proofs.Common.{◌≡◌, ℕ, ◌++◌, List, None, true, false, refl, codes}
use Rattle.tsb_lines.specs.Lines.{is_skipped}
use Rattle.tsb_event_text.specs.Columns.{usual_columns}
use Rattle.tsb_event_text.specs.Events.{event_row_text}
use Rattle.tsb_event_text.specs.Rows.{row_of}
use Rattle.tsb_event_text.specs.Times.{moment_of}

-- the line of an event, with a device in no quotes
abbrev plain_line : List ℕ → List ℕ
plain_line device = device ++ codes ",2026-11-22 07:00:00.1,82,3"

-- a comma of the device ends its field, so that its second part stands for the time
comma-moves : row_of usual_columns None (plain_line (codes "Main, 5th")) ≡ None
unfolding row_of moment_of
comma-moves = refl

-- a # that begins the device begins the line, which readers of logs then skip
hash-skips : is_skipped (plain_line (codes "#7")) ≡ true
hash-skips = refl

-- in quotes it does not
quotes-keep : is_skipped (event_row_text (codes "#7") (codes "2026-11-22 07:00:00.1") 82 3) ≡ false
quotes-keep = refl

-- the line of an event, with any device in quotes
abbrev quoted_line : List ℕ → List ℕ
quoted_line device = codes "\"" ++ device ++ codes "\",2026-11-22 07:00:00.1,82,3"

-- a quote of the device ends its field, and what follows is no comma
quote-ends : row_of usual_columns None (quoted_line (codes "a\"b")) ≡ None
unfolding row_of
quote-ends = refl
