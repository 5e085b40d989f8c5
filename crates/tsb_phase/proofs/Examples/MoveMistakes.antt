-- One-line mistakes that break the laws of moves, of the timers that are returned for greens and of phases that are
-- over, each with an example in which it shows.
use Rattle.std.specs.Prelude.{◌≡◌, ℕ, ◌+◌, Bool, true, false, refl}
use Rattle.tsb_cells.specs.declared.timer.Timer.{Timer}
use Rattle.tsb_cells.specs.declared.timer.Timer.TheVariants.{Off, On}
use Rattle.tsb_cells.specs.Timer.{has_reached, timer_cell, timer_at}
use Rattle.tsb_objects.specs.tsb_types.declared.interval.Interval.TheVariants.{Yellow}
use Rattle.tsb_objects.specs.tsb_types.Lists.{run_from}
use Rattle.tsb_objects.specs.tsb_plan.Plan.{Plan, yellow_change, red_clear}
use Rattle.tsb_objects.specs.tsb_plan.Quad.{quad}
use Rattle.tsb_phase.specs.Phase.{Phase, Given, at_power_up}
use Rattle.tsb_phase.specs.Green.{cars_waiting, reduction_timer, gap, initial}
use Rattle.tsb_phase.specs.Pedestrian.{pedestrian_now}
use Rattle.tsb_phase.specs.Ready.{is_over}
use Rattle.tsb_phase.specs.Next.{next, ticked}
use Rattle.tsb_phase.specs.Moves.{ended, moved_one_by_one}
use Rattle.tsb_phase.proofs.Examples.ClearanceExamples.{coordinated, green}
use Rattle.tsb_phase.proofs.Examples.PedestrianExamples.{ends_two}

-- ## Moves give the next: a green that ends and keeps its conflict timer

ends_by_moves : moved_one_by_one quad coordinated ends_two 2 green ≡ record at_power_up { interval = Yellow; timer = On 0 }
unfolding quad run_from cars_waiting reduction_timer gap initial pedestrian_now
ends_by_moves = refl

ends_without : (next quad coordinated ends_two 2 green).conflict ≡ Off
ends_without = refl

abbrev pub ended_in_conflict : Plan → Given → ℕ → Bool → Phase → Phase
ended_in_conflict plan given p gapped x = record (ended plan given p gapped x) { conflict = x.conflict }

would_run_on : (ended_in_conflict quad coordinated 2 true (ticked quad coordinated 2 green)).conflict ≡ On 301
would_run_on = refl

-- ## Greens are returned as on: a timer that is returned as for how long it has run

abbrev pub told_as_run : Timer → ℕ
told_as_run Off = 0
told_as_run (On n) = n

-- of a green that begins in tick 100
tells_101 : timer_cell 100 (On 0) ≡ 101
tells_101 = refl

reads_on : timer_at 100 101 ≡ On 0
reads_on = refl

would_tell_0 : told_as_run (On 0) ≡ 0
would_tell_0 = refl

would_read_off : timer_at 100 0 ≡ Off
would_read_off = refl

-- ## A phase that is over may be cleared: one that is over by its timer alone, in whatever interval

abbrev pub over_by_timer : Plan → ℕ → Phase → Bool
over_by_timer plan p w = has_reached w.timer (yellow_change plan p + red_clear plan p)

is_not_over_in_green : is_over quad 2 green ≡ false
unfolding is_over
is_not_over_in_green = refl

would_be_over_in_green : over_by_timer quad 2 green ≡ true
unfolding quad
would_be_over_in_green = refl
