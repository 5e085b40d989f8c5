-- What the definitions of the end of a green give, by computing: the gap's end, the maximum, the gapped latch, each at
-- its first tick. The plan is that of Examples.
use Rattle.std.specs.Prelude.{◌≡◌, ℕ, ◌==◌, true, false, refl}
use Rattle.tsb_cells.specs.declared.timer.Timer.{Timer}
use Rattle.tsb_cells.specs.declared.timer.Timer.TheVariants.{Off, On}
use Rattle.tsb_objects.specs.tsb_types.declared.interval.Interval.TheVariants.{Green}
use Rattle.tsb_objects.specs.tsb_types.Lists.{run_from}
use Rattle.tsb_objects.specs.tsb_plan.declared.object.Object.TheVariants.{PhaseMaxRecall, PhaseSimGapDisable, UnitMax2}
use Rattle.tsb_objects.specs.tsb_plan.Plan.{Plan, with_value}
use Rattle.tsb_phase.specs.Phase.{Phase, Given, at_power_up}
use Rattle.tsb_phase.specs.Green.{cars_waiting, reduction_timer, gap, initial, gapped_latch, is_gapped}
use Rattle.tsb_phase.specs.DynamicMaximum.{maximum_in_use}
use Rattle.tsb_phase.specs.Pedestrian.{pedestrian_now}
use Rattle.tsb_phase.specs.Ready.{is_ready}
use Rattle.tsb_phase.proofs.Examples.Examples.{plan, driven, waiting, held}

-- ## The end of the gap, and of the green

-- phase 1 in a green of so many ticks
abbrev pub green_for : ℕ → Timer → Timer → Phase
green_for n passage conflict = record at_power_up { interval = Green; timer = On n; passage = passage; conflict = conflict }

gap_not_expired : is_ready plan (waiting 0) 1 (green_for 80 (On 29) (On 12)) ≡ false
unfolding plan run_from cars_waiting reduction_timer gap initial maximum_in_use pedestrian_now is_ready
gap_not_expired = refl

gap_expired : is_ready plan (waiting 0) 1 (green_for 80 (On 30) (On 12)) ≡ true
unfolding plan run_from cars_waiting reduction_timer gap initial maximum_in_use pedestrian_now is_ready
gap_expired = refl

-- not before the initial time of 5 seconds
initial_not_passed : is_ready plan (waiting 0) 1 (green_for 49 (On 30) (On 12)) ≡ false
unfolding plan run_from cars_waiting reduction_timer gap initial maximum_in_use pedestrian_now is_ready
initial_not_passed = refl

initial_passed : is_ready plan (waiting 0) 1 (green_for 50 (On 30) (On 12)) ≡ true
unfolding plan run_from cars_waiting reduction_timer gap initial maximum_in_use pedestrian_now is_ready
initial_passed = refl

-- with an output on, the maximum of 20 seconds of conflict ends the green
abbrev pub driven_on : Given
driven_on = record (waiting 0) { output = λ p. p == 1 }

before_maximum : is_ready plan driven_on 1 (green_for 300 Off (On 199)) ≡ false
unfolding plan run_from cars_waiting reduction_timer gap initial maximum_in_use pedestrian_now is_ready
before_maximum = refl

at_maximum : is_ready plan driven_on 1 (green_for 300 Off (On 200)) ≡ true
unfolding plan run_from cars_waiting reduction_timer gap initial maximum_in_use pedestrian_now is_ready
at_maximum = refl

-- or phaseMaximum2, of 30 seconds, where that is in use
not_at_other_maximum : is_ready (with_value plan UnitMax2 1 1) driven_on 1 (green_for 300 Off (On 299)) ≡ false
unfolding plan run_from cars_waiting reduction_timer gap initial maximum_in_use pedestrian_now is_ready
not_at_other_maximum = refl

at_other_maximum : is_ready (with_value plan UnitMax2 1 1) driven_on 1 (green_for 300 Off (On 300)) ≡ true
unfolding plan run_from cars_waiting reduction_timer gap initial maximum_in_use pedestrian_now is_ready
at_other_maximum = refl

-- with maximum recall no gap ends it
recalled : is_ready (with_value plan PhaseMaxRecall 1 1) (waiting 0) 1 (green_for 80 (On 30) (On 12)) ≡ false
unfolding plan run_from cars_waiting reduction_timer gap initial maximum_in_use pedestrian_now is_ready
recalled = refl

-- ## The gapped latch, with simultaneous gap disabled

abbrev pub alone : Plan
alone = with_value plan PhaseSimGapDisable 1 1

latches : gapped_latch alone (waiting 0) 1 (held 80 (On 30) (On 12) Off) ≡ true
unfolding plan run_from cars_waiting reduction_timer gap initial
latches = refl

-- not before the initial time
latches_not_yet : gapped_latch alone (waiting 0) 1 (held 49 (On 30) (On 12) Off) ≡ false
unfolding plan run_from cars_waiting reduction_timer gap initial
latches_not_yet = refl

-- it stands while vehicles come again, until the conflict goes
latch_stands : is_gapped alone driven_on 1 (record (held 80 Off (On 12) Off) { gapped = true }) ≡ true
unfolding plan run_from cars_waiting reduction_timer gap initial
latch_stands = refl

latch_falls : is_gapped alone driven 1 (record (held 80 Off (On 12) Off) { gapped = true }) ≡ false
unfolding plan reduction_timer gap initial
latch_falls = refl

-- without it a phase that has gapped out can be driven on
no_latch : is_gapped plan driven_on 1 (held 80 Off (On 12) Off) ≡ false
unfolding plan run_from cars_waiting reduction_timer gap initial
no_latch = refl
