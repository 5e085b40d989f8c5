-- Mistakes in what phases wait for, each beside what the definitions make of the same state: by computing.
use Rattle.std.specs.Prelude.{◌≡◌, ℕ, Bool, true, false, if◌then◌else◌, [], ◌∷◌, Option, Some, None, option_map, refl}
use Rattle.tsb_types.specs.declared.interval.PedestrianInterval.TheVariants.{DontWalk}
use Rattle.tsb_types.specs.Intervals.{is_green}
use Rattle.tsb_types.specs.Lists.{or_else}
use Rattle.tsb_types.specs.Sets.{all_off}
use Rattle.tsb_phase.specs.Ready.{is_over, red_revert_passed}
use Rattle.tsb_heads.specs.declared.monitor.Trip.TheVariants.{GreenToRed}
use Rattle.tsb_ring.specs.Moves.{is_started}
use Rattle.tsb_ring.specs.Rings as rings
use Rattle.tsb_ring.specs.Rings.{Ring, Ring1, Ring2, other}
use Rattle.tsb_step.specs.declared.waits.Lack.{Lack}
use Rattle.tsb_step.specs.declared.waits.Wait.{Wait}
use Rattle.tsb_step.specs.declared.waits.Wait.TheVariants as waits
use Rattle.tsb_step.specs.State.{State, interval}
use Rattle.tsb_step.specs.Tick.{moves, ready, next}
use Rattle.tsb_step.specs.Waits.{committed_wait, first_wait, is_committed, is_over_next, lack, not_over, served, waits_for, until_over, in_the_way}
use Rattle.tsb_step.proofs.Examples.Scenes.{after, all_red, at_barrier, clearing, dwelling, green, preempt, red, these, walking}
use Rattle.tsb_step.proofs.Examples.WaitExamples.{opened, calling, crossing_alone, omitting, one_short, parted, reverting, reverts_beside, slow_other}

-- ## Flash: the rings' wait is given for a controller that has tripped

abbrev pub tripped_late : State
tripped_late = record at_barrier { trip = Some (record { cause = GreenToRed 4; tick = 50 }) }

would_be_due : committed_wait tripped_late 3 Ring1 ≡ Some waits.Due
unfolding opened
would_be_due = refl

stays_red : is_green (interval (after tripped_late all_off) 3) ≡ false
unfolding opened
stays_red = refl

-- ## Omitted: also where a preempt serves the phase

-- 8 is omitted, and preempt 1, which wants it, comes into service: it starts in the next tick
abbrev pub omitting_on_side_2 : State
omitting_on_side_2 = record omitting { rings = record rings.power_up { side = 2 } }

is_omitted : waits_for omitting_on_side_2 8 ≡ Some waits.Omitted
unfolding opened
is_omitted = refl

would_start_it : is_started (moves omitting_on_side_2 (preempt 1)) 8 ≡ true
unfolding opened
would_start_it = refl

-- ## Preempted: also where its service ends

-- the dwell ends, and ring 1, which is idle, starts 4
abbrev pub ending : State
ending = record (calling (4 ∷ []) (dwelling 100)) { phases = all_red }

is_preempted : waits_for ending 4 ≡ Some (waits.Preempted 1)
unfolding opened
is_preempted = refl

would_start_then : is_started (moves ending all_off) 4 ≡ true
unfolding opened
would_start_then = refl

-- ## Red revert: by the timer as the last tick left it

reverts_as_it_was : State → ℕ → Bool
reverts_as_it_was s p = red_revert_passed s.plan p (s.phases p)

abbrev pub reverting_19 : State
reverting_19 = record (calling (1 ∷ []) red) { phases = these (1 ∷ []) (reverting 19) all_red }

has_not_passed : reverts_as_it_was reverting_19 1 ≡ false
unfolding opened reverts_as_it_was
has_not_passed = refl

starts_at_20 : is_started (moves reverting_19 all_off) 1 ≡ true
unfolding opened
starts_at_20 = refl

-- ## Next: the commitment of the other ring

next_of_other : State → Ring → Option Wait
next_of_other s r = option_map waits.Next (s.rings.commitment (other r))

would_name_8 : next_of_other at_barrier Ring1 ≡ Some (waits.Next 8)
unfolding opened next_of_other
would_name_8 = refl

is_3 : at_barrier.rings.commitment Ring1 ≡ Some 3
is_3 = refl

-- ## Clears: by the timer as the last tick left it, though 3 starts in the next tick (`starts` of WaitExamples)

over_as_it_was : State → ℕ → Bool
over_as_it_was s p = is_over s.plan p (s.phases p)

is_not_over : over_as_it_was at_barrier 2 ≡ false
unfolding opened over_as_it_was
is_not_over = refl

-- ## Across: a crossing that looks at its own ring alone

without_across : State → ℕ → Ring → Option Wait
without_across s p r = first_wait (option_map (λ q. waits.Clears q (until_over s q)) (not_over s (served s r))) (Some waits.Due)

would_be_due_alone : without_across slow_other 3 Ring1 ≡ Some waits.Due
unfolding opened without_across
would_be_due_alone = refl

waits_for_6 : is_started (moves slow_other all_off) 3 ≡ false
unfolding opened
waits_for_6 = refl

-- ## Beside: a crossing that looks at the red revert of its own phase alone

would_be_due_beside : in_the_way reverts_beside 3 (served reverts_beside Ring2) ≡ None
unfolding opened
would_be_due_beside = refl

waits_for_8 : is_started (moves reverts_beside all_off) 3 ≡ false
unfolding opened
waits_for_8 = refl

-- ## Due: as soon as its ring is committed to it

due_at_once : State → ℕ → Option Wait
due_at_once s p = if is_committed s p then Some waits.Due else None

would_be_due_at_once : due_at_once slow_other 3 ≡ Some waits.Due
unfolding opened due_at_once
would_be_due_at_once = refl

-- ## Crossing: any phase in service is named

over_6 : State
over_6 = record crossing_alone { phases = these (6 ∷ []) (clearing 9) all_red }

first_served : State → Ring → Option ℕ
first_served s r = or_else (served s r) (served s (other r))

would_name_6 : first_served over_6 Ring1 ≡ Some 6
unfolding opened first_served over_6
would_name_6 = refl

is_over_6 : is_over_next over_6 6 ≡ true
unfolding opened over_6
is_over_6 = refl

-- ## Barrier: the first phase in service is named, though it lacks nothing

would_name_2 : first_served one_short Ring1 ≡ Some 2
unfolding opened first_served
would_name_2 = refl

lacks_nothing : lack one_short 2 ≡ None
unfolding opened
lacks_nothing = refl

-- ## Green: the green of the other ring, by which its own ring does not wait

abbrev pub one_short_for_1 : State
one_short_for_1 = calling (1 ∷ []) one_short

green_of_other : State → Ring → Option ℕ
green_of_other s r = served s (other r)

would_name_6_for_1 : green_of_other one_short_for_1 Ring1 ≡ Some 6
unfolding opened green_of_other
would_name_6_for_1 = refl

is_not_ready_6 : ready one_short_for_1 all_off 6 ≡ false
unfolding opened
is_not_ready_6 = refl

commits_all_the_same : (next one_short_for_1 all_off).rings.commitment Ring1 ≡ Some 1
unfolding opened
commits_all_the_same = refl

-- ## Lacks: a minimum that has lasted by the timer, in a walk that goes on

-- the lack of a green whose pedestrians are left out
lack_of_vehicles : State → ℕ → Option Lack
lack_of_vehicles s p = lack (record s { phases = λ q. record (s.phases q) { pedestrian = DontWalk } }) p

would_lack_nothing : lack_of_vehicles walking 2 ≡ None
unfolding opened lack_of_vehicles
would_lack_nothing = refl

is_not_ready_2 : ready (calling (1 ∷ []) walking) all_off 2 ≡ false
unfolding opened
is_not_ready_2 = refl

-- ## Conflict: also a phase of the other ring that is concurrent with it

beside_6 : State
beside_6 = record parted { phases = these (6 ∷ []) (green 59) all_red }

would_name_6_too : served beside_6 Ring2 ≡ Some 6
unfolding opened beside_6
would_name_6_too = refl

goes_with_6 : is_started (moves beside_6 all_off) 1 ≡ true
unfolding opened beside_6
goes_with_6 = refl
