use Rattle.std.proofs.Common.{◌∙◌, ◌++◌, List, ℕ, sym, ap, option_to_list}
use Rattle.std.proofs.lemmas.List.{append-nil}
use Rattle.std.specs.declared.option.Option.{Option}
use Rattle.tsb_log_text.specs.declared.log.LogRow.{LogRow}
use Rattle.tsb_log_text.specs.ListText.{text_in}
use Rattle.tsb_field_streams.proofs.RowLemmas.{no_row}
use Rattle.tsb_field_streams.proofs.rows.append.Goals as goal

pub returns-in-None-clause-items : goal.returns-in-None-clause-items
returns-in-None-clause-items c =
    sym (ap (λ (row : Option LogRow). c.args.text.now ++ text_in c.args.form (option_to_list row)) c.in-None.is
    ∙ ap (λ (v : List ℕ). c.args.text.now ++ v) (no_row c.args.form) ∙ append-nil c.args.text.now)
