-- One-line mistakes, each with an example that tells it from the definition.
use Rattle.std.specs.Prelude.{◌≡◌, ℕ, nat_lt, nat_le, Bool, true, false, not, ◌&&◌, if◌then◌else◌, Some, None, is_none, refl, ◌||◌}
use Rattle.tsb_cells.specs.declared.timer.Timer.{Timer}
use Rattle.tsb_cells.specs.declared.timer.Timer.TheVariants.{Off, On}
use Rattle.tsb_cells.specs.Timer.{is_on, has_reached, is_below}
use Rattle.tsb_objects.specs.tsb_plan.Plan.{Plan}
use Rattle.tsb_objects.specs.tsb_plan.Parts.{detector_delay, detector_extend}
use Rattle.tsb_detect.specs.declared.alarm.Alarm.TheVariants.{MaxPresence}
use Rattle.tsb_detect.specs.Detector.{Detector, new_rises, is_minute, counted, exceeds, new_alarm, extending, sound_output, on_time}
use Rattle.tsb_detect.proofs.Examples.Examples.{plan, on_for, counting}

-- ## The count starts anew only without an alarm

abbrev pub rises_kept_by_alarm : ℕ → Bool → Detector → ℕ
rises_kept_by_alarm t x w = if is_minute t && not (exceeds (counted x w) 50) then 0 else counted x w

anew : new_rises 600 true (counting 50) ≡ 0
anew = refl

not_anew : rises_kept_by_alarm 600 true (counting 50) ≡ 51
not_anew = refl

-- ## A count that reaches the limit sets the erratic alarm

abbrev pub reaches : ℕ → ℕ → Bool
reaches count limit = nat_lt 0 limit && nat_le limit count

at_limit : exceeds 50 50 ≡ false
at_limit = refl

too_soon : reaches 50 50 ≡ true
too_soon = refl

-- ## After an alarm that ends as the input falls, no extend timer begins

abbrev pub extending_without_alarm : Detector → Timer
extending_without_alarm w = if w.input && (w.output && is_none w.alarm) then On 0 else w.extend

-- failed by presence, with the output on
abbrev pub stuck : Detector
stuck = record (on_for 700) { output = true; alarm = Some MaxPresence }

alarm_ends : new_alarm plan 1 800 false stuck ≡ None
unfolding plan
alarm_ends = refl

extends : extending stuck ≡ On 0
extends = refl

extends_not : extending_without_alarm stuck ≡ Off
extends_not = refl

-- ## An output that came on in a green stays on after it, before its delay

abbrev pub sound_output_kept : Plan → ℕ → Bool → Timer → Detector → Bool
sound_output_kept plan d x green w =
    if x then w.output || (is_on green || has_reached (on_time x w) (detector_delay plan d))
    else is_on green && is_below (extending w) (detector_extend plan d)

goes_off : sound_output plan 1 true Off (record (on_for 5) { output = true }) ≡ false
unfolding plan
goes_off = refl

stays_on : sound_output_kept plan 1 true Off (record (on_for 5) { output = true }) ≡ true
unfolding plan
stays_on = refl
