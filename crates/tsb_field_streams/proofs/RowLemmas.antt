-- The text of the rows that become known.
use Rattle.std.proofs.Common.{◌≡◌, [], ◌∷◌, ◌++◌, Some, None, option_to_list}
use Rattle.tsb_log_text.specs.declared.form.RowForm.{RowForm}
use Rattle.tsb_log_text.specs.declared.log.LogRow.{LogRow}
use Rattle.tsb_field_log.specs.declared.street.KnownRows.{KnownRows}
use Rattle.tsb_field_log.specs.Streets.{rows_in}
use Rattle.tsb_log_text.specs.ListText.{line_in, text_in}
use Rattle.tsb_log_text.proofs.WrittenLemmas.{append-in, none-in, row-in}

pub some_row : (form : RowForm) (row : LogRow) → text_in form (option_to_list (Some row)) ≡ line_in form row ++ 10 ∷ []
some_row form row = row-in form row

pub no_row : (form : RowForm) → text_in form (option_to_list None) ≡ []
no_row form = none-in form

pub two_rows : (form : RowForm) (rows : KnownRows) → text_in form (rows_in rows) ≡ text_in form (option_to_list rows.first) ++ text_in form (option_to_list rows.second)
two_rows form rows = append-in form (option_to_list rows.first) (option_to_list rows.second)
