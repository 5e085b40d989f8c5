-- What holds of logs, in words that do not retrace how they are read. Each law here is the contract of a function in
-- src/laws.rt.
use Rattle.std.specs.Prelude.{◌≡◌, ◌↔◌, ◌⊎◌, ℕ, ◌+◌, ◌<◌, ◌≤◌, ◌==◌, suc, false, not, List, [], ◌∷◌, ◌++◌, length, map, filter, slice_index, slice_index_or, Some, None, Ok, Err}
use Rattle.tsb_lines.specs.Lines.{lines_of, is_skipped}
use Rattle.tsb_types.specs.Sets.{names, all_off}
use Rattle.tsb_log_text.specs.Forms.{form_for, form_of, row_in}
use Rattle.tsb_log_text.specs.ListText.{AreListed, lists_text, text_in}
use Rattle.tsb_log_text.specs.LogText.{AreRows, log_text}
use Rattle.tsb_log_text.specs.RowLists.{row_of_lists}
use Rattle.tsb_log_text.specs.Rows.{list_in_digits, row_of}
use Rattle.tsb_log_text.specs.Logs.{log_of, row_at, rows_from, Rises}
use Rattle.tsb_log_text.specs.Places.{tick_at, no_row}
use Rattle.tsb_log_text.specs.declared.form.RowForm.{RowForm}
use Rattle.tsb_log_text.specs.declared.form.RowForm.TheVariants.{Digits}
use Rattle.tsb_log_text.specs.declared.log.LogRow.{LogRow}
use Rattle.tsb_log_text.specs.declared.error.LogError.TheVariants.{Malformed, TickOrder}

-- those of these lines that are not skipped
abbrev pub heeded : List (List ℕ) → List (List ℕ)
heeded lines = filter (λ line. not (is_skipped line)) lines

-- a text is a log of these rows exactly when it has at most 64 MiB, its lines that are not skipped spell these rows,
-- one after the other and in the form of the log, and their ticks rise
abbrev pub AreTheRows : Type 0
AreTheRows = (text : List ℕ) (rows : List LogRow) → (log_of text ≡ Ok rows) ↔
    ((length text ≤ 67108864) × (map (row_in (form_of (lines_of text))) (heeded (lines_of text)) ≡ map Some rows) × Rises 0 rows)

-- the last of these ticks, or where there is none this one
abbrev pub last_tick : ℕ → List LogRow → ℕ
last_tick tick [] = tick
last_tick tick (r ∷ rs) = last_tick r.tick rs

-- this line, which is not skipped, is the one of this number among lines that count from first on; before it stand
-- these rows, whose ticks rise from last on
pub record StandsBehind (form : RowForm) (first last : ℕ) (rows : List LogRow) (number : ℕ) (line : List ℕ) (lines : List (List ℕ)) : Type 0 where
  pub front : List (List ℕ)
  pub back : List (List ℕ)
  pub whole : lines ≡ front ++ line ∷ back
  pub place : number ≡ first + length front
  pub read : map (row_in form) (heeded front) ≡ map Some rows
  pub rises : Rises last rows
  pub heeded : is_skipped line ≡ false

-- a line that is malformed is no row, and all before it is well
abbrev pub AreMalformedThere : Type 0
AreMalformedThere = (text : List ℕ) (n : ℕ) → log_of text ≡ Err (Malformed n) →
    (rows : List LogRow) × (line : List ℕ) × StandsBehind (form_of (lines_of text)) 1 0 rows n line (lines_of text) × (row_in (form_of (lines_of text)) line ≡ None)

-- a line out of order is a row whose tick is not above the last one, and all before it is well
abbrev pub AreOutOfOrderThere : Type 0
AreOutOfOrderThere = (text : List ℕ) (n : ℕ) → log_of text ≡ Err (TickOrder n) →
    (rows : List LogRow) × (line : List ℕ) × (row : LogRow) × StandsBehind (form_of (lines_of text)) 1 0 rows n line (lines_of text) × (row_in (form_of (lines_of text)) line ≡ Some row) × (row.tick ≤ last_tick 0 rows)

-- the row in force at a tick is the one with the greatest tick not above it
abbrev pub AreInForce : Type 0
AreInForce = (rows : List LogRow) (tick i : ℕ) → Rises 0 rows → i < length rows → tick_at rows i ≤ tick →
    ((k : ℕ) → k < length rows → tick_at rows k ≤ tick → tick_at rows k ≤ tick_at rows i) → row_at rows tick ≡ (slice_index_or rows i no_row).row

-- where no row has a tick not above it, all inputs are off
abbrev pub AreOffBefore : Type 0
AreOffBefore = (rows : List LogRow) (tick : ℕ) → Rises 0 rows → ((k : ℕ) → k < length rows → tick < tick_at rows k) → row_at rows tick ≡ all_off

-- number k + 1 is on exactly when digit k, from 0, is 1
abbrev pub TellTheirInputs : Type 0
TellTheirInputs = (digits : List ℕ) (list k : ℕ) → list_in_digits digits ≡ Some list → k < length digits → names list (suc k) ≡ (slice_index digits k == 49)

-- ## The two forms

-- no line is a row in both
abbrev pub AreTwoForms : Type 0
AreTwoForms = (line : List ℕ) (one other : LogRow) → row_of line ≡ Some one → row_of_lists line ≡ Some other → ⊥

-- a log has one form: all its rows are by digits, or all by lists
abbrev pub HaveOneForm : Type 0
HaveOneForm = (text : List ℕ) (rows : List LogRow) → log_of text ≡ Ok rows →
    (map row_of (heeded (lines_of text)) ≡ map Some rows) ⊎ (map row_of_lists (heeded (lines_of text)) ≡ map Some rows)

-- a text whose rows are not of lists is read as version 1 has it: all its lines by digits
abbrev pub ReadsVersion1 : Type 0
ReadsVersion1 = (text : List ℕ) → length text ≤ 67108864 → form_of (lines_of text) ≡ Digits →
    log_of text ≡ rows_from Digits 1 0 (lines_of text)

-- rows that rise are read back from their text by digits, where these have one for each input that is on
abbrev pub AreReadByDigits : Type 0
AreReadByDigits = (rows : List LogRow) → AreRows rows → Rises 0 rows → length (log_text rows) ≤ 67108864 → log_of (log_text rows) ≡ Ok rows

-- all that there are from their text by lists
abbrev pub AreReadByLists : Type 0
AreReadByLists = (rows : List LogRow) → AreListed rows → Rises 0 rows → length (lists_text rows) ≤ 67108864 → log_of (lists_text rows) ≡ Ok rows

-- and all that there are from their text in the form in which they are written
abbrev pub AreReadInTheirForm : Type 0
AreReadInTheirForm = (rows : List LogRow) → AreListed rows → Rises 0 rows → length (text_in (form_for rows) rows) ≤ 67108864 → log_of (text_in (form_for rows) rows) ≡ Ok rows
