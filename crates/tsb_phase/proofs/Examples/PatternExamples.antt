-- What the options of coordination make of a green while a pattern runs, by computing: floating force-off, and the
-- maximum that acts. The plan is the built-in one of eight phases, in pattern 1, whose coordinated phases are 2 and 6.
-- Phase 3 has a split of 15 seconds, less a yellow change of 3 and a red clearance of 1, and a maximum of 20.
use Rattle.std.specs.Prelude.{◌≡◌, ◌==◌, true, false, [], ◌∷◌, Some, None, refl}
use Rattle.tsb_cells.specs.declared.timer.Timer.TheVariants.{Off, On}
use Rattle.tsb_objects.specs.tsb_types.Lists.{run_from}
use Rattle.tsb_objects.specs.tsb_plan.declared.object.Object.TheVariants.{CoordForceMode, CoordMaximumMode, PhaseMaximum2, PhaseDynamicMaxLimit, PhaseDynamicMaxStep, SplitTime, UnitMax2}
use Rattle.tsb_objects.specs.tsb_plan.Plan.{Plan, with_value, with_values}
use Rattle.tsb_objects.specs.tsb_plan.Quad.{quad}
use Rattle.tsb_objects.specs.tsb_plan.Running.{floating_time}
use Rattle.tsb_phase.specs.declared.cause.Cause.TheVariants.{Gap, Maximum, ForceOff}
use Rattle.tsb_phase.specs.Causes.{cause}
use Rattle.tsb_phase.specs.DynamicMaximum.{maximum_in_use}
use Rattle.tsb_phase.specs.Green.{cars_waiting, reduction_timer, gap, initial, acting_maximum, has_maxed_out, floats_off, forced_latch}
use Rattle.tsb_phase.specs.Next.{next}
use Rattle.tsb_phase.specs.Pedestrian.{pedestrian_now}
use Rattle.tsb_phase.specs.Phase.{Given, Moved, at_power_up, none_moved}
use Rattle.tsb_phase.specs.Ready.{is_ready}
use Rattle.tsb_phase.proofs.Examples.Examples.{nothing, held}
use Rattle.tsb_phase.proofs.Examples.GreenExamples.{green_for}

-- phase 3 is driven, and another waits for it to end
abbrev pub driven_in_pattern : Given
driven_in_pattern = record nothing { output = λ p. p == 3; conflict = λ p. p == 3; runs = Some 1 }

-- ## Floating force-off

unfoldable pub floating : Plan
floating = with_value quad CoordForceMode 1 2

split_less_clearance : floating_time floating (Some 1) 3 ≡ Some 110
unfolding quad floating
split_less_clearance = refl

not_forced_yet : forced_latch floating driven_in_pattern 3 (held 109 Off (On 20) Off) ≡ false
unfolding quad floating
not_forced_yet = refl

forced_by_its_green : forced_latch floating driven_in_pattern 3 (held 110 Off (On 20) Off) ≡ true
unfolding quad floating
forced_by_its_green = refl

-- so it ends, and its cause is the force-off
goes_on : is_ready floating driven_in_pattern 3 (green_for 109 Off (On 20)) ≡ false
unfolding quad floating run_from cars_waiting reduction_timer gap initial maximum_in_use pedestrian_now is_ready
goes_on = refl

ends : is_ready floating driven_in_pattern 3 (green_for 110 Off (On 20)) ≡ true
unfolding quad floating run_from cars_waiting reduction_timer gap initial maximum_in_use pedestrian_now is_ready
ends = refl

ends_by_force_off : cause floating driven_in_pattern 3 (green_for 110 Off (On 20)) ≡ Some ForceOff
unfolding quad floating run_from cars_waiting reduction_timer gap initial maximum_in_use
ends_by_force_off = refl

-- it has its latch then
latches : (next floating driven_in_pattern none_moved 3 (green_for 109 Off (On 20))).forced ≡ true
unfolding quad floating run_from cars_waiting reduction_timer gap initial pedestrian_now
latches = refl

-- where the green has lasted longer, a conflict that comes ends it
at_its_conflict : forced_latch floating driven_in_pattern 3 (held 400 Off Off Off) ≡ true
unfolding quad floating
at_its_conflict = refl

-- without a conflict, under a preempt, in free operation, and in force modes 0 and 1, it is not forced off
without_conflict : forced_latch floating (record driven_in_pattern { conflict = λ p. false }) 3 (held 400 Off Off Off) ≡ false
without_conflict = refl

under_preempt : forced_latch floating (record driven_in_pattern { service = Some 1 }) 3 (held 400 Off (On 300) Off) ≡ false
under_preempt = refl

in_free_operation : forced_latch floating (record driven_in_pattern { runs = None }) 3 (held 400 Off (On 300) Off) ≡ false
in_free_operation = refl

in_mode_0 : forced_latch quad driven_in_pattern 3 (held 400 Off (On 300) Off) ≡ false
unfolding quad
in_mode_0 = refl

in_mode_1 : forced_latch (with_value quad CoordForceMode 1 1) driven_in_pattern 3 (held 400 Off (On 300) Off) ≡ false
unfolding quad
in_mode_1 = refl

-- coordinated phases are not forced off so
not_of_coordinated : floats_off floating driven_in_pattern 2 (held 400 Off (On 300) Off) ≡ false
unfolding quad floating
not_of_coordinated = refl

-- where yellow change and red clearance are longer than the split, it is in each tick but the first
short_split : floating_time (with_value floating SplitTime 3 3) (Some 1) 3 ≡ Some 0
unfolding quad floating
short_split = refl

abbrev pub starts_three : Moved
starts_three = record none_moved { starts = λ p. p == 3 }

starts_unforced : (next (with_value floating SplitTime 3 3) driven_in_pattern starts_three 3 at_power_up).forced ≡ false
unfolding quad floating run_from cars_waiting reduction_timer gap initial pedestrian_now
starts_unforced = refl

-- ## The maximum that acts

-- phaseMaximum2 of phase 3 is 30 seconds
unfoldable pub by_first : Plan
by_first = with_values quad ((CoordMaximumMode, 1, 1) ∷ (PhaseMaximum2, 3, 30) ∷ [])

unfoldable pub by_second : Plan
by_second = with_values quad ((CoordMaximumMode, 1, 2) ∷ (PhaseMaximum2, 3, 30) ∷ [])

no_maximum : acting_maximum quad (Some 1) 3 None ≡ None
unfolding quad
no_maximum = refl

first_maximum : acting_maximum by_first (Some 1) 3 None ≡ Some 200
unfolding quad by_first
first_maximum = refl

pub second_maximum : acting_maximum by_second (Some 1) 3 None ≡ Some 300
unfolding quad by_second
second_maximum = refl

-- a coordinated phase has none
pub none_of_coordinated : acting_maximum by_first (Some 1) 2 None ≡ None
unfolding quad by_first
none_of_coordinated = refl

-- unitMax2 is not asked, and there is no dynamic maximum
abbrev pub grown : Plan
grown = with_values by_first ((UnitMax2, 1, 1) ∷ (PhaseDynamicMaxLimit, 3, 40) ∷ (PhaseDynamicMaxStep, 3, 50) ∷ [])

pub fixed_in_pattern : acting_maximum grown (Some 1) 3 (Some 350) ≡ Some 200
unfolding quad by_first
fixed_in_pattern = refl

dynamic_in_free_operation : acting_maximum grown None 3 (Some 350) ≡ Some 350
unfolding quad by_first maximum_in_use
dynamic_in_free_operation = refl

before_maximum : is_ready by_first driven_in_pattern 3 (green_for 300 Off (On 199)) ≡ false
unfolding quad by_first run_from cars_waiting reduction_timer gap initial maximum_in_use pedestrian_now is_ready
before_maximum = refl

at_maximum : is_ready by_first driven_in_pattern 3 (green_for 300 Off (On 200)) ≡ true
unfolding quad by_first run_from cars_waiting reduction_timer gap initial maximum_in_use pedestrian_now is_ready
at_maximum = refl

maxes_out : cause by_first driven_in_pattern 3 (green_for 300 Off (On 200)) ≡ Some Maximum
unfolding quad by_first run_from cars_waiting reduction_timer gap initial maximum_in_use
maxes_out = refl

-- it is named before the force-off, and after the gap
named_before_force_off : cause by_first (record driven_in_pattern { forced = λ p. p == 3 }) 3 (green_for 300 Off (On 200)) ≡ Some Maximum
unfolding quad by_first run_from cars_waiting reduction_timer gap initial maximum_in_use
named_before_force_off = refl

named_after_gap : cause by_first (record driven_in_pattern { output = λ p. false }) 3 (green_for 300 (On 20) (On 200)) ≡ Some Gap
unfolding quad by_first run_from cars_waiting reduction_timer gap initial maximum_in_use
named_after_gap = refl

-- it acts under a preempt that lets the phase be, where no force-off does
acts_under_preempt : has_maxed_out by_first (record driven_in_pattern { service = Some 1 }) 3 (held 300 Off (On 200) Off) None ≡ true
unfolding quad by_first
acts_under_preempt = refl
