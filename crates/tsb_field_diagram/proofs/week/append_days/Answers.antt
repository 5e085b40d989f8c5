use Rattle.tsb_field_diagram.proofs.CountLemmas.{place-more, place-end}
use Rattle.tsb_field_diagram.proofs.WeekLemmas.{day_at, days_at, days-more, days-none}
use Rattle.tsb_field_diagram.proofs.week.append_days.Goals as goal

pub loop-place-preserved : goal.loop-place-preserved
loop-place-preserved c =
    place-more day_at days_at days-more c.loop-place.place c.args.days.now _ c.loop-place-test.true
    c.loop-place.text.items _ _ c.in_ok-append_day.ensures c.loop-place.invariant

pub returns : goal.returns
returns c = place-end days_at days-none c.loop-place.place c.args.days.now c.loop-place-test.false c.loop-place.text.items _ c.loop-place.invariant
