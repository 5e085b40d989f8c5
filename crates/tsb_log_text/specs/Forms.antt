-- The two forms of a log, and the row that a line spells in each.
use Rattle.std.specs.List.{list_any}
use Rattle.std.specs.Prelude.{ℕ, ◌||◌, Bool, nat_le, List, [], ◌∷◌, if◌then◌else◌, Option, Some, None, is_some}
use Rattle.tsb_lines.specs.Lines.{is_skipped}
use Rattle.tsb_types.specs.declared.row.Row.{Row}
use Rattle.tsb_log_text.specs.Rows.{inputs_of, row_of}
use Rattle.tsb_log_text.specs.RowLists.{lists_of, row_of_lists}
use Rattle.tsb_log_text.specs.declared.form.RowForm.{RowForm}
use Rattle.tsb_log_text.specs.declared.form.RowForm.TheVariants.{Digits, Lists}
use Rattle.tsb_log_text.specs.declared.log.LogRow.{LogRow}

-- the row that a line spells in a form
abbrev pub row_in : RowForm → List ℕ → Option LogRow
row_in Digits line = row_of line
row_in Lists line = row_of_lists line

-- the form of a log with these lines: lists, where the first line that is not skipped is a row of lists
abbrev pub form_of : List (List ℕ) → RowForm
form_of [] = Digits
form_of (line ∷ lines) =
    if is_skipped line then form_of lines
    else if is_some (row_of_lists line) then Lists
    else Digits

-- the first row, or where there is none the second
abbrev pub row_or_other : Option Row → Option Row → Option Row
row_or_other None other = other
row_or_other (Some row) other = Some row

-- the inputs that a line spells in either form, without a tick; no line spells some in both
abbrev pub inputs_in : List ℕ → Option Row
inputs_in line = row_or_other (inputs_of line) (lists_of line)

-- an input is on for which rows in digits have none
abbrev pub is_beyond_digits : Row → Bool
is_beyond_digits row = nat_le 65536 row.vehicles.word || (nat_le 256 row.pedestrians.word || nat_le 16 row.preempts.word)

-- the form in which a log with these rows is written
abbrev pub form_for : List LogRow → RowForm
form_for rows = if list_any (λ r. is_beyond_digits r.row) rows then Lists else Digits
