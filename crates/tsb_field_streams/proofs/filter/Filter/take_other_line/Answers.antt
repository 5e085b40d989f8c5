use Rattle.std.proofs.Common.{rules, ◌≡◌, false, Some}
use Rattle.tsb_event_text.specs.Wide.{is_passed, wide_of}
use Rattle.tsb_field_streams.specs.Filtering.{with_noted, with_zone}
use Rattle.tsb_field_streams.proofs.FilterLemmas.{wide-takes}
use Rattle.tsb_field_streams.proofs.filter.Filter.take_other_line.Goals as goal

pub returns-in-Some-clause-takes : goal.returns-in-Some-clause-takes
returns-in-Some-clause-takes c = λ g s at.
    let passed : is_passed c.args.text.now ≡ false = search rules in
    let spelled : wide_of c.args.columns s.times g.zone g.device c.args.text.now ≡ Some c.in-Some.row = search rules in
    wide-takes g c.args.number s c.args.text.now c.args.columns c.in-Some.row c.take_wide.result c.take_wide.new.self passed spelled
    (c.take_wide.ensures.takes g (with_zone g (with_noted g s c.args.columns c.args.text.now) c.args.columns c.args.text.now (Some c.in-Some.row))
    (c.note_zone.ensures.stands g (with_noted g s c.args.columns c.args.text.now) (c.note_device.ensures.stands g s at)))
