-- Why greens end, by computing, and a mistake that leaves a cause out. The plan is that of Examples, and for force-offs
-- the built-in plan of eight phases.
use Rattle.std.specs.Prelude.{◌≡◌, ℕ, ◌==◌, true, Option, Some, None, if◌then◌else◌, refl}
use Rattle.tsb_cells.specs.declared.timer.Timer.TheVariants.{Off, On}
use Rattle.tsb_objects.specs.tsb_types.Lists.{run_from}
use Rattle.tsb_objects.specs.tsb_plan.Plan.{Plan}
use Rattle.tsb_objects.specs.tsb_plan.Quad.{quad}
use Rattle.tsb_phase.specs.declared.cause.Cause.{Cause}
use Rattle.tsb_phase.specs.declared.cause.Cause.TheVariants.{Gap, Maximum, ForceOff}
use Rattle.tsb_phase.specs.Causes.{by_force_off, cause}
use Rattle.tsb_phase.specs.DynamicMaximum.{maximum_in_use}
use Rattle.tsb_phase.specs.Green.{cars_waiting, reduction_timer, gap, initial, is_by_gap, is_gapped, has_maxed_out, forced_latch}
use Rattle.tsb_phase.specs.Pedestrian.{pedestrian_now}
use Rattle.tsb_phase.specs.Phase.{Phase, Given, held_of}
use Rattle.tsb_phase.specs.Ready.{is_ready, needs_forced}
use Rattle.tsb_phase.proofs.Examples.ClearanceExamples.{coordinated, green}
use Rattle.tsb_phase.proofs.Examples.Examples.{plan, waiting}
use Rattle.tsb_phase.proofs.Examples.GreenExamples.{driven_on, green_for}

gap_out : cause plan (waiting 0) 1 (green_for 80 (On 30) (On 12)) ≡ Some Gap
unfolding plan run_from cars_waiting reduction_timer gap initial maximum_in_use pedestrian_now is_ready
gap_out = refl

max_out : cause plan driven_on 1 (green_for 300 Off (On 200)) ≡ Some Maximum
unfolding plan run_from cars_waiting reduction_timer gap initial maximum_in_use pedestrian_now is_ready
max_out = refl

-- the gap is named first
gap_before_maximum : cause plan (waiting 0) 1 (green_for 300 (On 30) (On 200)) ≡ Some Gap
unfolding plan run_from cars_waiting reduction_timer gap initial maximum_in_use pedestrian_now is_ready
gap_before_maximum = refl

-- where both apply: told each on its own, one green would have two causes
gap_applies : is_by_gap plan (waiting 0) 1 (is_gapped plan (waiting 0) 1 (held_of (green_for 300 (On 30) (On 200)))) ≡ true
unfolding plan run_from cars_waiting reduction_timer gap initial maximum_in_use pedestrian_now is_ready
gap_applies = refl

maximum_applies : has_maxed_out plan (waiting 0) 1 (held_of (green_for 300 (On 30) (On 200))) None ≡ true
unfolding plan run_from cars_waiting reduction_timer gap initial maximum_in_use pedestrian_now is_ready
maximum_applies = refl

force_off : cause quad (record coordinated { forced = λ p. p == 2 }) 2 green ≡ Some ForceOff
unfolding quad reduction_timer gap initial maximum_in_use pedestrian_now is_ready run_from cars_waiting
force_off = refl

-- a coordinated phase that has gapped out goes on
no_cause : cause quad coordinated 2 green ≡ None
unfolding quad reduction_timer gap initial maximum_in_use pedestrian_now is_ready run_from cars_waiting
no_cause = refl

-- ## The maximum is left out

abbrev pub cause_without_maximum : Plan → Given → ℕ → Phase → Option Cause
cause_without_maximum plan given p w =
    if needs_forced given p then by_force_off (forced_latch plan given p (held_of w))
    else (if is_by_gap plan given p (is_gapped plan given p (held_of w)) then Some Gap else by_force_off (forced_latch plan given p (held_of w)))

has_no_cause : cause_without_maximum plan driven_on 1 (green_for 300 Off (On 200)) ≡ None
unfolding plan run_from cars_waiting reduction_timer gap initial maximum_in_use pedestrian_now is_ready
has_no_cause = refl
