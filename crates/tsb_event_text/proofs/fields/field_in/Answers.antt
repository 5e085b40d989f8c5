use Rattle.std.proofs.Common.{◌∙◌, ap, sym, rules}
use Rattle.tsb_event_text.specs.Fields.{field_in}
use Rattle.tsb_event_text.proofs.FieldLemmas.{some-there, none-there}
use Rattle.tsb_event_text.proofs.fields.field_in.Goals as goal

pub returns-then-not-has_fields : goal.returns-then-not-has_fields
returns-then-not-has_fields c =
    sym (ap (λ fields. field_in fields c.args.place) (none-there c.args.mark c.args.line.now (search (rules, c.has_fields.ensures, c.if-not-has_fields.true))))

pub returns : goal.returns
returns c =
    let (fields, are) = some-there c.args.mark c.args.line.now (search (rules, c.has_fields.ensures, c.if-not-has_fields.false)) in
    c.field_at.ensures fields are ∙ sym (ap (λ fields. field_in fields c.args.place) are)
