-- What reading a further line makes of the rows so far.
use Rattle.std.specs.Prelude.{◌≡◌, ℕ, ◌+◌, List, [], ◌∷◌, ◌++◌, Result, Ok, Err}
use Rattle.tsb_log_text.specs.Logs.{Gives, HasRow, log_of, rows_from, with_rows}
use Rattle.tsb_log_text.specs.declared.form.RowForm.{RowForm}
use Rattle.tsb_log_text.specs.declared.log.LogRow.{LogRow}
use Rattle.tsb_log_text.specs.declared.error.LogError.{LogError}
use Rattle.tsb_log_text.specs.declared.error.LogError.TheVariants.{Memory}

-- whatever lines follow, line n and they give the same after the old rows as they alone after the new rows. Memory runs
-- out only where the line is a row: they would give the same after the old rows and it.
abbrev pub Stepped : RowForm → Result ℕ LogError → List LogRow → ℕ → ℕ → List ℕ → List LogRow → Type 0
Stepped form (Ok tick) old last n line new =
    (lines : List (List ℕ)) → with_rows old (rows_from form n last (line ∷ lines)) ≡ with_rows new (rows_from form (n + 1) tick lines)
Stepped form (Err Memory) old last n line new = (r : LogRow) × ((lines : List (List ℕ)) →
    with_rows old (rows_from form n last (line ∷ lines)) ≡ with_rows (old ++ r ∷ []) (rows_from form (n + 1) r.tick lines))
Stepped form (Err e) old last n line new = (lines : List (List ℕ)) → rows_from form n last (line ∷ lines) ≡ Err e

-- the rows of a text are these; or why it has none, and memory ran out only at a row
abbrev pub ReadSo : Result (Unit {0}) LogError → List ℕ → List LogRow → Type 0
ReadSo (Ok u) text rows = log_of text ≡ Ok rows
ReadSo (Err Memory) text rows = Gives (Err Memory) (log_of text) × HasRow text
ReadSo (Err e) text rows = Gives (Err e) (log_of text)
