-- Logs: which rows a text has, and which row is in force at a tick.
use Rattle.std.specs.Prelude.{◌≡◌, ℕ, ◌+◌, ◌<◌, nat_le, nat_lt, List, [], ◌∷◌, ◌++◌, if◌then◌else◌, length, Option, Some, None, Result, Ok, Err}
use Rattle.tsb_lines.specs.Lines.{lines_of, is_skipped}
use Rattle.tsb_types.specs.Sets.{all_off}
use Rattle.tsb_types.specs.declared.row.Row.{Row}
use Rattle.tsb_log_text.specs.Forms.{form_of, row_in}
use Rattle.tsb_log_text.specs.declared.form.RowForm.{RowForm}
use Rattle.tsb_log_text.specs.declared.log.LogRow.{LogRow}
use Rattle.tsb_log_text.specs.declared.error.LogError.{LogError}
use Rattle.tsb_log_text.specs.declared.error.LogError.TheVariants.{Memory, TooLarge, Malformed, TickOrder}

-- these rows, and then those of the rest
abbrev pub with_rows : List LogRow → Result (List LogRow) LogError → Result (List LogRow) LogError
with_rows rows (Ok more) = Ok (rows ++ more)
with_rows rows (Err e) = Err e

-- line n is this row, or none, and stands after a row of tick last: its tick has to be a later one
abbrev pub row_then : ℕ → ℕ → Option LogRow → (ℕ → Result (List LogRow) LogError) → Result (List LogRow) LogError
row_then n last None rest = Err (Malformed n)
row_then n last (Some r) rest = if nat_lt last r.tick then with_rows (r ∷ []) (rest r.tick) else Err (TickOrder n)

-- the rows of these lines in a form, the first of which is line n and stands after a row of tick last, or the first fault
unfoldable pub rows_from : RowForm → ℕ → ℕ → List (List ℕ) → Result (List LogRow) LogError
rows_from form n last [] = Ok []
rows_from form n last (line ∷ lines) =
    if is_skipped line then rows_from form (n + 1) last lines
    else row_then n last (row_in form line) (λ tick. rows_from form (n + 1) tick lines)

-- the rows of these lines in the form that they have; lines count from 1
abbrev pub rows_of : List (List ℕ) → Result (List LogRow) LogError
rows_of lines = rows_from (form_of lines) 1 0 lines

-- the rows of a text: at most 64 MiB of it
abbrev pub log_of : List ℕ → Result (List LogRow) LogError
log_of text = if nat_lt 67108864 (length text) then Err TooLarge else rows_of (lines_of text)

-- the first lines of a text are right, and have a row
pub record HasRow (text : List ℕ) : Type 0 where
  pub first : List (List ℕ)
  pub others : List (List ℕ)
  pub all : lines_of text ≡ first ++ others
  pub rows : List LogRow
  pub row : LogRow
  pub right : rows_from (form_of (lines_of text)) 1 0 first ≡ Ok (rows ++ row ∷ [])

-- what a reader returned is what reading gives. Memory may run out in place of all but too large a text.
abbrev pub Gives : Result (List LogRow) LogError → Result (List LogRow) LogError → Type 0
Gives (Err Memory) read = read ≡ Err TooLarge → ⊥
Gives (Err e) read = read ≡ Err e
Gives (Ok rows) read = read ≡ Ok rows

-- each tick is later than the one before it, and the first is later than last
abbrev pub Rises : ℕ → List LogRow → Type 0
Rises last [] = Unit {0}
Rises last (r ∷ rs) = (last < r.tick) × Rises r.tick rs

-- the row in force at a tick, where this one is before all of these
abbrev pub row_from : Row → List LogRow → ℕ → Row
row_from before [] tick = before
row_from before (r ∷ rs) tick = if nat_le r.tick tick then row_from r.row rs tick else before

-- the row in force at a tick: the one with the greatest tick not above it, and before the first one all inputs are off
abbrev pub row_at : List LogRow → ℕ → Row
row_at rows tick = row_from all_off rows tick
