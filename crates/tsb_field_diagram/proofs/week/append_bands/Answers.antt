use Rattle.tsb_field_diagram.specs.declared.week.WeekBand.{WeekBand}
use Rattle.tsb_field_diagram.specs.Week.{week_band}
use Rattle.tsb_field_diagram.proofs.WeekLemmas.{turn-band, turn-end}
use Rattle.tsb_field_diagram.proofs.week.append_bands.Goals as goal

abbrev no_band : WeekBand
no_band = record { minute = 0; action = 0; pattern = 0 }

pub loop-index-preserved : goal.loop-index-preserved
loop-index-preserved c =
    turn-band week_band c.args.bands.now c.loop-index.index no_band c.end_at.result c.loop-index-test.true c.end_at.ensures
    c.loop-index.text.items _ _ c.in_ok-append_band.ensures c.loop-index.invariant

pub returns : goal.returns
returns c = turn-end week_band c.args.bands.now c.loop-index.index c.loop-index-test.false c.loop-index.text.items _ c.loop-index.invariant
