-- The place of a tick among rows: how many of them are not above it.
use Rattle.std.specs.Prelude.{ℕ, ◌-◌, ◌<◌, ◌≤◌, List, length, slice_index_or}
use Rattle.tsb_types.specs.Sets.{all_off}
use Rattle.tsb_log_text.specs.declared.log.LogRow.{LogRow}

-- what stands in for a row that is not there
abbrev pub no_row : LogRow
no_row = record { tick = 0; row = all_off }

-- the tick of row i, from 0
abbrev pub tick_at : List LogRow → ℕ → ℕ
tick_at rows i = (slice_index_or rows i no_row).tick

-- place rows are not above the tick, and no more: so it is where ticks rise
pub record IsPlace (rows : List LogRow) (tick place : ℕ) : Type 0 where
  pub within : place ≤ length rows
  pub below : 0 < place → tick_at rows (place - 1) ≤ tick
  pub above : place < length rows → tick < tick_at rows place
