use Rattle.std.proofs.Common.{◌∙◌, Some, None, refl, sym, ap, rules}
use Rattle.tsb_event_text.specs.Columns.{columns_in}
use Rattle.tsb_event_text.proofs.FieldLemmas.{some-there, none-there}
use Rattle.tsb_event_text.proofs.RowLemmas.{columns-with}
use Rattle.tsb_event_text.proofs.columns.columns_in.Goals as goal

pub returns-then-not-has_fields : goal.returns-then-not-has_fields
returns-then-not-has_fields c =
    sym (ap (columns_in c.args.separator) (none-there c.args.mark c.args.line.now (search (rules, c.has_fields.ensures, c.if-not-has_fields.true))))

pub returns-in_default : goal.returns-in_default
returns-in_default c =
    let (fields, are) = some-there c.args.mark c.args.line.now (search (rules, c.has_fields.ensures, c.if-not-has_fields.false)) in
    sym (columns-with c.args.separator c.args.mark c.args.line.now fields _ None _ _ are refl (sym (c.in_default.ensures fields are)) refl refl)

pub returns : goal.returns
returns c =
    let (fields, are) = some-there c.args.mark c.args.line.now (search (rules, c.has_fields.ensures, c.if-not-has_fields.false)) in
    c.columns_at.ensures
    ∙ sym (columns-with c.args.separator c.args.mark c.args.line.now fields _ (Some c.in-Some.time) _ _ are (sym (c.place-2.ensures fields are)) (sym (c.in-Some.ensures fields are)) (sym (c.place-3.ensures fields are)) (sym (c.place-4.ensures fields are)))
