use Rattle.std.proofs.Common.{◌∙◌, ap, sym, rules}
use Rattle.tsb_event_text.specs.Faults.{is_named_in, is_place}
use Rattle.tsb_event_text.proofs.FieldLemmas.{some-there, none-there}
use Rattle.tsb_event_text.proofs.faults.is_named_by.Goals as goal

pub returns-then-not-has_fields : goal.returns-then-not-has_fields
returns-then-not-has_fields c =
    sym (ap (is_named_in c.args.column) (none-there c.args.mark c.args.line.now (search (rules, c.has_fields.ensures, c.if-not-has_fields.true))))

pub returns : goal.returns
returns c =
    let (fields, are) = some-there c.args.mark c.args.line.now (search (rules, c.has_fields.ensures, c.if-not-has_fields.false)) in
    c.is_place.ensures ∙ ap is_place (c.place.ensures fields are) ∙ sym (ap (is_named_in c.args.column) are)
