-- Views that agree on the numbers 1 to 16, and on all vehicle detectors. Events name no others, so views that agree have
-- the same events.
use Rattle.std.specs.Prelude.{◌≡◌, ℕ}
use Rattle.tsb_step.specs.tsb_types.Clip.{Agree}
use Rattle.tsb_step.specs.tsb_detect.Laws.{AgreeOnDetectors}
use Rattle.tsb_step.specs.Events as events
use Rattle.tsb_step.specs.declared.log_form.Noted.{Noted}
use Rattle.tsb_step.specs.Events.{View, Found, Selected}

-- two views agree
pub record AgreeInAll (v w : View) : Type 0 where
  pub greens : Agree v.greens w.greens
  pub yellows : Agree v.yellows w.yellows
  pub red_clearances : Agree v.red_clearances w.red_clearances
  pub red_timings : Agree v.red_timings w.red_timings
  pub conflicts : Agree v.conflicts w.conflicts
  pub walks : Agree v.walks w.walks
  pub clearances : Agree v.clearances w.clearances
  pub vehicle_calls : Agree v.vehicle_calls w.vehicle_calls
  pub pedestrian_calls : Agree v.pedestrian_calls w.pedestrian_calls
  pub recalls : Agree v.recalls w.recalls
  pub pedestrian_recalls : Agree v.pedestrian_recalls w.pedestrian_recalls
  pub overlap_greens : Agree v.overlap_greens w.overlap_greens
  pub overlap_trails : Agree v.overlap_trails w.overlap_trails
  pub overlap_yellows : Agree v.overlap_yellows w.overlap_yellows
  pub overlap_arrows : Agree v.overlap_arrows w.overlap_arrows
  pub overlaps_off : Agree v.overlaps_off w.overlaps_off
  pub outputs : AgreeOnDetectors v.outputs w.outputs
  pub alarms : AgreeOnDetectors v.alarms w.alarms
  pub switches : Agree v.switches w.switches
  pub preempts : Agree v.preempts w.preempts
  pub tracks : Agree v.tracks w.tracks
  pub dwells : Agree v.dwells w.dwells
  pub exits : Agree v.exits w.exits
  pub is_preempted : v.is_preempted ≡ w.is_preempted
  pub stage_is_green : v.stage_is_green ≡ w.stage_is_green
  pub cycle : v.cycle ≡ w.cycle
  pub crosses : v.crosses ≡ w.crosses
  pub side : v.side ≡ w.side
  pub flashes : v.flashes ≡ w.flashes

-- what ticks find agrees
pub record AgreeInFound (f g : Found) : Type 0 where
  pub minimum : Agree f.minimum g.minimum
  pub gap : Agree f.gap g.gap
  pub maximum : Agree f.maximum g.maximum
  pub force_off : Agree f.force_off g.force_off
  pub noted : f.noted ≡ g.noted
  pub row : f.row ≡ g.row
  pub zero : f.zero ≡ g.zero
  pub yields : Agree f.yields g.yields
  pub served : f.served ≡ g.served

-- what is seen of the selected pattern agrees
pub record AgreeInSelected (s t : Selected) : Type 0 where
  pub pattern : s.pattern ≡ t.pattern
  pub cycle : s.cycle ≡ t.cycle
  pub offset : s.offset ≡ t.offset
  pub split : Agree s.split t.split

-- ## Laws

-- ticks that agree have the same events
abbrev pub TicksTellByNumbers : Type 0
TicksTellByNumbers = (tick : ℕ) (f g : Found) (was was_too now now_too : View) → AgreeInFound f g → AgreeInAll was was_too →
    AgreeInAll now now_too → events.tick_events tick f was now ≡ events.tick_events tick g was_too now_too

-- and the same for other inputs
abbrev pub OthersTellByNumbers : Type 0
OthersTellByNumbers = (tick : ℕ) (noted : Noted) (was was_too now now_too : View) (s s_too t t_too : Selected) → AgreeInAll was was_too → AgreeInAll now now_too →
    AgreeInSelected s s_too → AgreeInSelected t t_too →
    events.other_events tick noted was now s t ≡ events.other_events tick noted was_too now_too s_too t_too
