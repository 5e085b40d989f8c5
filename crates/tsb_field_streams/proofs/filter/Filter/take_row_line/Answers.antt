use Rattle.std.proofs.Common.{rules, ◌≡◌, true, Some}
use Rattle.tsb_event_text.specs.Rows.{row_of}
use Rattle.tsb_field_streams.specs.Filtering.{may_be_plain, with_noted}
use Rattle.tsb_field_streams.proofs.FilterLemmas.{plain-takes}
use Rattle.tsb_field_streams.proofs.filter.Filter.take_row_line.Goals as goal

pub returns-in-Some-clause-takes : goal.returns-in-Some-clause-takes
returns-in-Some-clause-takes c = λ g s at.
    let plain : may_be_plain s.times ≡ true = search rules in
    let spelled : row_of c.args.columns g.device c.args.text.now ≡ Some c.in-Some.row = search rules in
    plain-takes g c.args.number s c.args.text.now c.args.columns c.in-Some.row c.take_formed.result c.take_formed.new.self plain spelled
    (c.take_formed.ensures.takes g (with_noted g s c.args.columns c.args.text.now) (c.note_device.ensures.stands g s at))
