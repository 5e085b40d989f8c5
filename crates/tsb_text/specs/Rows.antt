-- The rows that ticks take.
use Rattle.std.specs.Prelude.{ℕ, ◌==◌, if◌then◌else◌, List, [], ◌∷◌}
use Rattle.tsb_types.specs.Sets.{all_off}
use Rattle.tsb_types.specs.declared.row.Row.{Row}
use Rattle.tsb_log_text.specs.Logs.{row_at}
use Rattle.tsb_log_text.specs.declared.log.LogRow.{LogRow}
use Rattle.tsb_text.specs.declared.rows.Rows.{Rows}
use Rattle.tsb_text.specs.declared.rows.Rows.TheVariants.{OfLog, Held}

-- as the rows of a log: a row that is held is in force from tick 1 on
abbrev pub rows_in : Rows → List LogRow
rows_in (OfLog log place) = log.now
rows_in (Held row) = record { tick = 1; row = row } ∷ []

-- the row that is in force at a tick number: all inputs are off before the first tick
abbrev pub row_in_force : List LogRow → ℕ → Row
row_in_force rows tick = if tick == 0 then all_off else row_at rows tick
