use Rattle.std.proofs.Common.{◌∙◌, sym, ap, rules}
use Rattle.tsb_event_text.specs.Rows.{row_in}
use Rattle.tsb_event_text.proofs.FieldLemmas.{some-there, none-there}
use Rattle.tsb_event_text.proofs.RowLemmas.{row-with}
use Rattle.tsb_event_text.proofs.rows.row_in.Goals as goal

pub returns-then-not-has_fields : goal.returns-then-not-has_fields
returns-then-not-has_fields c =
    sym (ap (row_in c.args.columns _) (none-there c.args.mark c.args.line.now (search (rules, c.has_fields.ensures, c.if-not-has_fields.true))))

pub returns : goal.returns
returns c =
    let (fields, are) = some-there c.args.mark c.args.line.now (search (rules, c.has_fields.ensures, c.if-not-has_fields.false)) in
    c.row_with.ensures
    ∙ sym (row-with c.args.columns _ c.args.mark c.args.line.now fields _ _ _ _ are (sym (c.device_at.ensures fields are)) (sym (c.field_at.ensures fields are)) (sym (c.field_at-2.ensures fields are)) (sym (c.field_at-3.ensures fields are)))
