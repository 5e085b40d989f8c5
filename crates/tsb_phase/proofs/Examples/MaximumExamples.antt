-- What the dynamic maximum gives, by computing: the first endings of phase 2 of the built-in plan of two phases. With
-- maximum recall each green ends by its maximum, which grows; with minimum recall each ends by a gap, and the maximum
-- falls.
use Rattle.std.specs.Prelude.{◌≡◌, ℕ, ◌==◌, true, false, [], ◌∷◌, Option, Some, None, refl}
use Rattle.tsb_cells.specs.declared.timer.Timer.TheVariants.{On}
use Rattle.tsb_objects.specs.tsb_types.declared.interval.Interval.TheVariants.{Green, Yellow}
use Rattle.tsb_objects.specs.tsb_types.Lists.{run_from}
use Rattle.tsb_objects.specs.tsb_plan.declared.object.Object.TheVariants.{PhaseMaxRecall, PhaseMinRecall, PhaseDynamicMaxLimit, PhaseDynamicMaxStep}
use Rattle.tsb_objects.specs.tsb_plan.Plan.{Plan, with_value, with_values}
use Rattle.tsb_objects.specs.tsb_plan.Two.{two}
use Rattle.tsb_phase.specs.declared.ending.Ending.{Ending}
use Rattle.tsb_phase.specs.declared.ending.Ending.TheVariants.{MaxOut, GapOut}
use Rattle.tsb_phase.specs.Phase.{Phase, Given, Moved, at_power_up, as_read, none_moved, held_of}
use Rattle.tsb_phase.specs.Green.{cars_waiting, reduction_timer, gap, initial, has_maxed_out}
use Rattle.tsb_phase.specs.DynamicMaximum.{maximum_in_use}
use Rattle.tsb_phase.specs.Pedestrian.{pedestrian_now}
use Rattle.tsb_phase.specs.Ready.{is_ready}
use Rattle.tsb_phase.specs.Next.{next}
use Rattle.tsb_phase.proofs.Examples.Examples.{nothing}

-- the maximum of 10 seconds may grow to 14, by 1.5 at a time
unfoldable pub growing : Plan
growing = with_values two ((PhaseDynamicMaxLimit, 2, 14) ∷ (PhaseDynamicMaxStep, 2, 15) ∷ [])

-- it may fall to 6 seconds, by 3 at a time
unfoldable pub falling : Plan
falling = with_values two (
    (PhaseMaxRecall, 2, 0) ∷ (PhaseMaxRecall, 4, 0) ∷ (PhaseMinRecall, 2, 1) ∷ (PhaseMinRecall, 4, 1) ∷
    (PhaseDynamicMaxLimit, 2, 6) ∷ (PhaseDynamicMaxStep, 2, 30) ∷ [])

-- phase 4 waits
abbrev pub four_waits : Given
four_waits = record nothing { conflict = λ p. p == 2; callable = λ p. p == 4 }

abbrev pub ends_two : Moved
ends_two = record none_moved { ends = λ p. p == 2 }

-- phase 2 in a green that began so many ticks ago, with a conflict from its start on
abbrev pub green_since : ℕ → Option ℕ → Option Ending → Phase
green_since n running last = record at_power_up {
  interval = Green;
  timer = On n;
  passage = On n;
  conflict = On n;
  reduction = On n;
  running_maximum = running;
  last_ending = last;
}

-- its yellow begins
abbrev pub yellow_with : Option ℕ → Option Ending → Phase
yellow_with running last =
    record at_power_up { interval = Yellow; timer = On 0; running_maximum = running; last_ending = last }

-- ## By maximum: the yellow of phase 2 begins in ticks 101, 361, 636

not_at_100 : is_ready growing four_waits 2 (as_read (green_since 98 None None)) ≡ false
unfolding two growing run_from cars_waiting reduction_timer gap initial maximum_in_use pedestrian_now is_ready
not_at_100 = refl

ready_at_101 : is_ready growing four_waits 2 (as_read (green_since 99 None None)) ≡ true
unfolding two growing run_from cars_waiting reduction_timer gap initial maximum_in_use pedestrian_now is_ready
ready_at_101 = refl

-- the first ending leaves the maximum
at_101 : next growing four_waits ends_two 2 (green_since 99 None None) ≡ yellow_with None (Some MaxOut)
unfolding two growing run_from cars_waiting reduction_timer gap initial
at_101 = refl

-- the second of its kind is a step
at_361 : next growing four_waits ends_two 2 (green_since 99 None (Some MaxOut)) ≡ yellow_with (Some 115) (Some MaxOut)
unfolding two growing run_from cars_waiting reduction_timer gap initial
at_361 = refl

-- the next green lasts 11.5 seconds
not_at_635 : is_ready growing four_waits 2 (as_read (green_since 113 (Some 115) (Some MaxOut))) ≡ false
unfolding two growing run_from cars_waiting reduction_timer gap initial maximum_in_use pedestrian_now is_ready
not_at_635 = refl

ready_at_636 : is_ready growing four_waits 2 (as_read (green_since 114 (Some 115) (Some MaxOut))) ≡ true
unfolding two growing run_from cars_waiting reduction_timer gap initial maximum_in_use pedestrian_now is_ready
ready_at_636 = refl

-- no step goes over the limit
at_limit : next growing four_waits ends_two 2 (green_since 129 (Some 130) (Some MaxOut))
    ≡ yellow_with (Some 140) (Some MaxOut)
unfolding two growing run_from cars_waiting reduction_timer gap initial
at_limit = refl

-- ## By gap: the yellow of phase 2 begins in ticks 51, 231, 411

ready_at_51 : is_ready falling four_waits 2 (as_read (green_since 49 None None)) ≡ true
unfolding two falling run_from cars_waiting reduction_timer gap initial maximum_in_use pedestrian_now is_ready
ready_at_51 = refl

at_51 : next falling four_waits ends_two 2 (green_since 49 None None) ≡ yellow_with None (Some GapOut)
unfolding two falling run_from cars_waiting reduction_timer gap initial
at_51 = refl

at_231 : next falling four_waits ends_two 2 (green_since 49 None (Some GapOut)) ≡ yellow_with (Some 70) (Some GapOut)
unfolding two falling run_from cars_waiting reduction_timer gap initial
at_231 = refl

-- no step goes under the limit
at_411 : next falling four_waits ends_two 2 (green_since 49 (Some 70) (Some GapOut)) ≡ yellow_with (Some 60) (Some GapOut)
unfolding two falling run_from cars_waiting reduction_timer gap initial
at_411 = refl

-- a green that a gap ends where its maximum has passed too ends by the gap
has_maxed_out_too : has_maxed_out falling four_waits 2 (held_of (as_read (green_since 149 None None))) None ≡ true
unfolding two falling maximum_in_use
has_maxed_out_too = refl

gap_beyond_maximum : next falling four_waits ends_two 2 (green_since 149 None None) ≡ yellow_with None (Some GapOut)
unfolding two falling run_from cars_waiting reduction_timer gap initial
gap_beyond_maximum = refl

-- ## Where a commit has changed the bounds, the running maximum is held within them

not_over_limit : maximum_in_use growing 2 (Some 200) ≡ 140
unfolding two growing maximum_in_use
not_over_limit = refl

not_under_maximum : maximum_in_use growing 2 (Some 20) ≡ 100
unfolding two growing maximum_in_use
not_under_maximum = refl

-- where the limit is the smaller
not_over_maximum : maximum_in_use falling 2 (Some 200) ≡ 100
unfolding two falling maximum_in_use
not_over_maximum = refl

not_under_limit : maximum_in_use falling 2 (Some 20) ≡ 60
unfolding two falling maximum_in_use
not_under_limit = refl

-- ## When an ending does not count

-- while a pattern runs
not_in_pattern : next growing (record four_waits { runs = Some 1 }) ends_two 2 (green_since 99 (Some 115) (Some GapOut))
    ≡ yellow_with (Some 115) (Some GapOut)
unfolding two growing run_from cars_waiting reduction_timer gap initial
not_in_pattern = refl

-- while a preempt is in service
not_in_preempt : next growing (record four_waits { service = Some 1 }) ends_two 2 (green_since 99 (Some 115) (Some GapOut))
    ≡ yellow_with (Some 115) (Some GapOut)
unfolding two growing run_from cars_waiting reduction_timer gap initial
not_in_preempt = refl

-- without limit or step neither value is kept
forgotten : next (with_value growing PhaseDynamicMaxStep 2 0) four_waits ends_two 2 (green_since 99 (Some 115) (Some MaxOut))
    ≡ yellow_with None None
unfolding two growing run_from cars_waiting reduction_timer gap initial
forgotten = refl
