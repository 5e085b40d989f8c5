use Rattle.tsb_field_diagram.specs.Week.{hour_text, hours_text}
use Rattle.tsb_field_diagram.proofs.CountLemmas.{count-more, count-end}
use Rattle.tsb_field_diagram.proofs.WeekLemmas.{hours_from, hours-more, hours-none}
use Rattle.tsb_field_diagram.proofs.week.append_hours.Goals as goal

pub loop-hour-preserved : goal.loop-hour-preserved
loop-hour-preserved c =
    count-more hour_text hours_from hours-more c.loop-hour.hour 25 c.loop-hour-test.true c.loop-hour.text.items _ _ c.in_ok-append_hour.ensures c.loop-hour.invariant

pub returns : goal.returns
unfolding hours_text
returns c = count-end hours_from hours-none c.loop-hour.hour 25 c.loop-hour-test.false c.loop-hour.text.items _ c.loop-hour.invariant
