-- A trip stays until a reset, and the heads of a controller that has tripped flash or are dark.
use Rattle.std.proofs.Common.{◌≡◌, ◌==◌, Bool, true, false, not, ◌&&◌, ◌||◌, if◌then◌else◌, Option, Some, None, is_some, refl, ap}
use Rattle.std.proofs.lemmas.Bool.{true≢false, false≢true}
use Rattle.tsb_step.specs.tsb_types.declared.interval.Interval.{Interval}
use Rattle.tsb_step.specs.tsb_types.declared.interval.Interval.TheVariants as intervals
use Rattle.tsb_step.specs.tsb_types.declared.lamp.Aspect.TheVariants.{Dark, Red, Yellow, Green, FlashingRed}
use Rattle.tsb_step.specs.tsb_plan.declared.object.Object.TheVariants.{OverlapIncludedPhases, OverlapTrailGreen, OverlapType}
use Rattle.tsb_step.specs.tsb_plan.Parts.{is_minus_green_yellow}
use Rattle.tsb_step.specs.tsb_plan.Plan.{is_enabled}
use Rattle.tsb_step.specs.tsb_heads.Heads.{aspect_of}
use Rattle.tsb_step.specs.tsb_heads.Overlaps.{is_kept_green, is_on_yellow, has_green_modifier, has_yellow_modifier, is_on_last_yellow}
use Rattle.tsb_step.specs.tsb_heads.Displays.{ordered, flashed, flashing}
use Rattle.tsb_step.specs.tsb_overlap.declared.parts.OverlapInterval.{OverlapInterval}
use Rattle.tsb_step.specs.tsb_overlap.declared.parts.OverlapInterval.TheVariants as overlaps
use Rattle.tsb_step.specs.tsb_overlap.Overlap.{light}
use Rattle.tsb_step.specs.declared.inputs.Input.{Input}
use Rattle.tsb_step.specs.declared.inputs.Input.TheVariants as inputs
use Rattle.tsb_step.specs.State.{State, Tripped, interval, restarted}
use Rattle.tsb_step.specs.Signs.{display, shown}
use Rattle.tsb_step.specs.Step.{step}
use Rattle.tsb_step.specs.TimeLaws.{is_reset}
use Rattle.tsb_laws.specs.Trips.{AreInFlash}

-- ## The trip

pub trip_stays : (s : State) (i : Input) (t : Tripped) → s.trip ≡ Some t → is_reset i ≡ false → (step s i).trip ≡ Some t
unfolding step
trip_stays s (inputs.Tick row) t e r = rw e refl
trip_stays s (inputs.Fault lamp) t e r = rw e refl
trip_stays s inputs.Reset t e r = absurd (true≢false r)
trip_stays s i t e r = e

pub reset_ends : (s : State) → (step s inputs.Reset).trip ≡ None
unfolding step
reset_ends s = go s.trip refl
  where
    go : (o : Option Tripped) → s.trip ≡ o → (if is_some o then restarted s else s).trip ≡ None
    go None e = e
    go (Some t) e = refl

-- ## The heads

phase_flashes : (on : Bool) (i : Interval) → flashed (if on then aspect_of i else Dark) ≡ (if on then FlashingRed else Dark)
phase_flashes false i = refl
phase_flashes true intervals.Red = refl
phase_flashes true intervals.Green = refl
phase_flashes true intervals.Yellow = refl
phase_flashes true intervals.RedClear = refl

aspect_flashes : (a b : Bool) → flashed (if a then Green else (if b then Yellow else Red)) ≡ FlashingRed
aspect_flashes true b = refl
aspect_flashes false true = refl
aspect_flashes false false = refl

light_flashes : (i : OverlapInterval) → flashed (light i) ≡ FlashingRed
light_flashes overlaps.Red = refl
light_flashes overlaps.Green = refl
light_flashes overlaps.TrailGreen = refl
light_flashes overlaps.Flashing = refl
light_flashes overlaps.Yellow = refl
light_flashes overlaps.RedClear = refl

overlap_flashes : (arrow untrailed : Bool) (i : OverlapInterval) (empty minus a b c d : Bool) →
    flashed (if (arrow && not empty) || (not untrailed && not empty) then light i else
    (if empty then Dark else
    (if minus then (if a then Green else (if b then Yellow else Red)) else (if c then Green else (if d then Yellow else Red)))))
    ≡ (if empty then Dark else FlashingRed)
overlap_flashes true true i true minus a b c d = refl
overlap_flashes true false i true minus a b c d = refl
overlap_flashes false true i true minus a b c d = refl
overlap_flashes false false i true minus a b c d = refl
overlap_flashes true untrailed i false minus a b c d = light_flashes i
overlap_flashes false false i false minus a b c d = light_flashes i
overlap_flashes false true i false true a b c d = aspect_flashes a b
overlap_flashes false true i false false a b c d = aspect_flashes c d

flash : (b : Bool) (s : State) → b ≡ true → AreInFlash s.plan (if b then flashing (ordered s.plan (shown s)) else ordered s.plan (shown s))
flash false s h = absurd (false≢true h)
flash true s h = record {
  vehicle = λ p. phase_flashes (is_enabled s.plan p) (interval s p);
  pedestrian = λ p. refl;
  overlap = λ o. overlap_flashes (s.plan.value OverlapType o == 2) (s.plan.value OverlapTrailGreen o == 0) (s.overlaps o).interval
      (s.plan.value OverlapIncludedPhases o == 0) (is_minus_green_yellow s.plan o)
      (is_kept_green s.plan (shown s) o && not (has_green_modifier s.plan (shown s) o)) (is_on_last_yellow s.plan (shown s) o && not (has_yellow_modifier s.plan (shown s) o))
      (is_kept_green s.plan (shown s) o) (is_on_yellow s.plan (shown s) o);
}

pub heads_flash : (s : State) (t : Tripped) → s.trip ≡ Some t → AreInFlash s.plan (display s)
unfolding display
heads_flash s t e = flash (is_some s.trip) s (ap is_some e)
