-- What is held.
use Rattle.std.specs.Prelude.{ℕ, List}
use Rattle.tsb_event_text.specs.declared.rows.EventRow.{EventRow}
use Rattle.tsb_field_streams.specs.declared.held.Held.{Held}

-- the rows, in the order in which they are given out
abbrev pub held_rows : Held → List EventRow
held_rows held = held.rows.items

-- how many they may be
abbrev pub most_rows : Held → ℕ
most_rows held = held.most
