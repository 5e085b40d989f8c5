-- What the laws of walks, clearances, least greens and quiet ticks would be worth with a mistake in the definitions: for each
-- mistake, by computing, what comes of it.
use Rattle.std.specs.Prelude.{◌≡◌, ℕ, ◌+◌, ◌==◌, Bool, true, false, ◌&&◌, if◌then◌else◌, refl}
use Rattle.tsb_types.specs.Sets.{all_off}
use Rattle.tsb_types.specs.declared.interval.Interval.TheVariants.{Yellow}
use Rattle.tsb_types.specs.declared.interval.PedestrianInterval.{PedestrianInterval}
use Rattle.tsb_types.specs.declared.interval.PedestrianInterval.TheVariants.{DontWalk, Walk}
use Rattle.tsb_types.specs.Intervals.{is_green, is_dont_walk}
use Rattle.tsb_cells.specs.declared.timer.Timer.{Timer}
use Rattle.tsb_cells.specs.declared.timer.Timer.TheVariants.{Off, On}
use Rattle.tsb_cells.specs.Timer.{advanced, timer_cell}
use Rattle.tsb_objects.specs.tsb_plan.Plan.{Plan}
use Rattle.tsb_objects.specs.tsb_plan.Quad.{quad}
use Rattle.tsb_phase.specs.Phase as phase
use Rattle.tsb_phase.specs.Phase.{Phase, Given, Moved, none_moved}
use Rattle.tsb_phase.specs.Next.{new_interval, pedestrian_at_start, new_pedestrian}
use Rattle.tsb_phase.specs.Pedestrian.{pedestrian_now}
use Rattle.tsb_phase.specs.Ready.{yellow_is_done, is_over}
use Rattle.tsb_step.proofs.Examples.Scenes.{opened, preempt, walking, short}
use Rattle.tsb_step.specs.Tick.{phases_given, phase_read, ready}

-- ## Pedestrians walk beside greens: a phase that keeps its pedestrian part when its green ends

abbrev part_kept : Plan → Given → Moved → ℕ → Phase → PedestrianInterval
part_kept plan given m p w = if m.starts p then pedestrian_at_start given p else pedestrian_now plan given p w

-- 2 is in a walk, and its ring ends it
abbrev ends_2 : Moved
ends_2 = record none_moved { ends = λ p. p == 2 }

goes_yellow : new_interval quad ends_2 2 (phase_read walking 2) ≡ Yellow
unfolding opened
goes_yellow = refl

walks_no_more : new_pedestrian quad (phases_given walking all_off) ends_2 2 (phase_read walking 2) ≡ DontWalk
unfolding opened
walks_no_more = refl

would_walk_on : part_kept quad (phases_given walking all_off) ends_2 2 (phase_read walking 2) ≡ Walk
unfolding opened
would_walk_on = refl

-- ## Greens clear in time: a phase that is over as its yellow ends, whatever its red clearance

abbrev over_after_yellow : Plan → ℕ → Phase → Bool
over_after_yellow plan p w = yellow_is_done plan p w

-- 2 has been Yellow for 29 ticks, of 30, and has to be in red clearance for 10
abbrev yellow_29 : Phase
yellow_29 = record phase.at_power_up { interval = Yellow; timer = On 29 }

is_not_over : is_over quad 2 (phase.as_read yellow_29) ≡ false
unfolding opened
is_not_over = refl

would_be_over : over_after_yellow quad 2 (phase.as_read yellow_29) ≡ true
unfolding opened
would_be_over = refl

-- ## Greens have lasted: a preempt that ends a green at once

abbrev ready_at_once : Plan → Given → ℕ → Phase → Bool
ready_at_once plan given p w = is_green w.interval && (given.must_end p && is_dont_walk (pedestrian_now plan given p w))

-- 2 has been Green for 9 ticks, and preempt 1, which wants 3 and 8, asks for 20
is_not_ready : ready short (preempt 1) 2 ≡ false
unfolding opened
is_not_ready = refl

would_be_ready : ready_at_once quad (phases_given short (preempt 1)) 2 (phase_read short 2) ≡ true
unfolding opened
would_be_ready = refl

-- ## Quiet ticks write nothing: a cell that has what its timer has, and not when it began

abbrev cell_as_it_runs : Timer → ℕ
cell_as_it_runs Off = 0
cell_as_it_runs (On n) = n + 1

would_be_written : cell_as_it_runs (advanced (On 5)) == cell_as_it_runs (On 5) ≡ false
would_be_written = refl

stays_as_it_is : timer_cell 61 (advanced (On 5)) == timer_cell 60 (On 5) ≡ true
stays_as_it_is = refl
