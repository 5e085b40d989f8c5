-- What the definitions of walk and pedestrian clearance give, by computing, and how a preempt cuts them. Phase 2 of the
-- built-in plan of eight phases has a walk of 4 seconds and a clearance of 6; preempt 2 has a minimum green and a
-- minimum walk of 2 seconds and a clearance of 3, and does not have phase 2 in its list.
use Rattle.std.specs.Prelude.{◌≡◌, ℕ, ◌==◌, Bool, true, false, Some, [], ◌∷◌, List, map, refl}
use Rattle.tsb_cells.specs.declared.timer.Timer.{Timer}
use Rattle.tsb_cells.specs.declared.timer.Timer.TheVariants.{Off, On}
use Rattle.tsb_objects.specs.tsb_types.declared.interval.Interval.TheVariants.{Green, Yellow}
use Rattle.tsb_objects.specs.tsb_types.declared.interval.PedestrianInterval.{PedestrianInterval}
use Rattle.tsb_objects.specs.tsb_types.declared.interval.PedestrianInterval.TheVariants.{DontWalk, Walk, PedestrianClear}
use Rattle.tsb_objects.specs.tsb_plan.declared.object.Object.TheVariants.{PhasePedestrianClear, PhaseRestInWalk, PreemptEnterPedClear}
use Rattle.tsb_objects.specs.tsb_plan.Plan.{Plan, with_value}
use Rattle.tsb_objects.specs.tsb_plan.Quad.{quad}
use Rattle.tsb_phase.specs.Phase.{Phase, Given, Moved, at_power_up, none_moved}
use Rattle.tsb_phase.specs.Green.{reduction_timer, gap, initial}
use Rattle.tsb_phase.specs.DynamicMaximum.{maximum_in_use}
use Rattle.tsb_phase.specs.Pedestrian.{ended_by, pedestrian_now, walks_again}
use Rattle.tsb_phase.specs.Ready.{is_ready}
use Rattle.tsb_phase.specs.Next.{next}
use Rattle.tsb_phase.specs.Laws.{least_green}
use Rattle.tsb_phase.proofs.Examples.Examples.{nothing}

-- a green of so many ticks, with a pedestrian part of so many
abbrev pub in_part : ℕ → PedestrianInterval → Timer → Phase
in_part n part timer =
    record at_power_up { interval = Green; timer = On n; pedestrian = part; pedestrian_timer = timer; passage = On n }

-- phase 2 is ended by preempt 2
abbrev pub preempted : Given
preempted = record nothing { service = Some 2; must_end = λ p. p == 2 }

-- ## A start with a pedestrian call gives Walk

abbrev pub starts_two : Moved
starts_two = record none_moved { starts = λ p. p == 2 }

abbrev pub called_by_pedestrians : Given
called_by_pedestrians = record nothing { pedestrian_call = λ p. p == 2 }

walk_begins : next quad called_by_pedestrians starts_two 2 at_power_up ≡ in_part 0 Walk (On 0)
unfolding quad reduction_timer gap initial
walk_begins = refl

-- but not while a preempt is in service
no_walk : next quad (record called_by_pedestrians { service = Some 2 }) starts_two 2 at_power_up ≡ in_part 0 DontWalk Off
unfolding quad reduction_timer gap initial
no_walk = refl

-- a call that comes in the green begins no walk where the phase may not walk again
no_late_walk : next quad called_by_pedestrians none_moved 2 (in_part 50 DontWalk Off) ≡ in_part 51 DontWalk Off
unfolding quad reduction_timer gap initial pedestrian_now
no_late_walk = refl

-- ## The walk ends at 4 seconds, the clearance at 6

walks_on : next quad nothing none_moved 2 (in_part 38 Walk (On 38)) ≡ in_part 39 Walk (On 39)
unfolding quad reduction_timer gap initial pedestrian_now
walks_on = refl

walk_ends : next quad nothing none_moved 2 (in_part 39 Walk (On 39)) ≡ in_part 40 PedestrianClear (On 0)
unfolding quad reduction_timer gap initial pedestrian_now
walk_ends = refl

clears_on : next quad nothing none_moved 2 (in_part 98 PedestrianClear (On 58)) ≡ in_part 99 PedestrianClear (On 59)
unfolding quad reduction_timer gap initial pedestrian_now
clears_on = refl

clearance_ends : next quad nothing none_moved 2 (in_part 99 PedestrianClear (On 59)) ≡ in_part 100 DontWalk Off
unfolding quad reduction_timer gap initial pedestrian_now
clearance_ends = refl

-- a clearance of 0 is skipped
abbrev pub without_clearance : Plan
without_clearance = with_value quad PhasePedestrianClear 2 0

skipped : next without_clearance nothing none_moved 2 (in_part 39 Walk (On 39)) ≡ in_part 40 DontWalk Off
unfolding quad reduction_timer gap initial pedestrian_now
skipped = refl

-- ## Rest in walk

abbrev pub resting : Plan
resting = with_value quad PhaseRestInWalk 2 1

rests : pedestrian_now resting nothing 2 (in_part 500 Walk (On 500)) ≡ Walk
unfolding quad pedestrian_now
rests = refl

-- until there is a conflict
rests_no_more : pedestrian_now resting (record nothing { conflict = λ p. p == 2 }) 2 (in_part 500 Walk (On 500))
    ≡ PedestrianClear
unfolding quad pedestrian_now
rests_no_more = refl

-- or a preempt that ends the phase
preempt_ends_rest : pedestrian_now resting preempted 2 (in_part 500 Walk (On 500)) ≡ PedestrianClear
unfolding quad pedestrian_now
preempt_ends_rest = refl

-- but one that wants it served lets it rest
preempt_lets_rest : pedestrian_now resting (record nothing { service = Some 2 }) 2 (in_part 500 Walk (On 500)) ≡ Walk
unfolding quad pedestrian_now
preempt_lets_rest = refl

-- ## Pedestrian recycle

-- phase 2 is a coordinated phase of pattern 1 that may walk again in this tick, and has a pedestrian call
abbrev pub recycling : Given
recycling = record called_by_pedestrians { runs = Some 1; hold = λ p. p == 2; recycle = λ p. p == 2 }

-- a walk begins in the tick of the call, and its timer with it
walks_again_at_call : next quad recycling none_moved 2 (in_part 150 DontWalk Off) ≡ in_part 151 Walk (On 0)
unfolding quad reduction_timer gap initial pedestrian_now
walks_again_at_call = refl

-- it goes on as any other
goes_on : next quad recycling none_moved 2 (in_part 151 Walk (On 0)) ≡ in_part 152 Walk (On 1)
unfolding quad reduction_timer gap initial pedestrian_now
goes_on = refl

-- none begins without the order, without a call, or while a preempt is in service
abbrev pub unasked : Given
unasked = record recycling { recycle = λ p. false }

abbrev pub uncalled : Given
uncalled = record recycling { pedestrian_call = λ p. false }

abbrev pub in_service_of_1 : Given
in_service_of_1 = record recycling { service = Some 1 }

abbrev pub begins : Phase → Given → Bool
begins w given = walks_again given 2 w

needs_all_three : map (begins (in_part 150 DontWalk Off)) (recycling ∷ unasked ∷ uncalled ∷ in_service_of_1 ∷ [])
    ≡ true ∷ false ∷ false ∷ false ∷ []
needs_all_three = refl

unasked_stays : next quad unasked none_moved 2 (in_part 150 DontWalk Off) ≡ in_part 151 DontWalk Off
unfolding quad reduction_timer gap initial pedestrian_now
unasked_stays = refl

uncalled_stays : next quad uncalled none_moved 2 (in_part 150 DontWalk Off) ≡ in_part 151 DontWalk Off
unfolding quad reduction_timer gap initial pedestrian_now
uncalled_stays = refl

in_service_stays : next quad in_service_of_1 none_moved 2 (in_part 150 DontWalk Off) ≡ in_part 151 DontWalk Off
unfolding quad reduction_timer gap initial pedestrian_now
in_service_stays = refl

-- nor where it is forced off for a conflict; one begins where the latch falls with its conflict
abbrev pub forced_before : Phase
forced_before = record (in_part 150 DontWalk Off) { forced = true }

abbrev pub in_conflict : Given
in_conflict = record recycling { conflict = λ p. p == 2 }

force_off_stands : pedestrian_now quad in_conflict 2 forced_before ≡ DontWalk
unfolding pedestrian_now
force_off_stands = refl

conflict_alone : pedestrian_now quad in_conflict 2 (in_part 150 DontWalk Off) ≡ Walk
unfolding pedestrian_now
conflict_alone = refl

latch_falls : next quad recycling none_moved 2 forced_before ≡ in_part 151 Walk (On 0)
unfolding quad reduction_timer gap initial pedestrian_now
latch_falls = refl

-- after a clearance it begins a tick behind its end
not_in_that_tick : next quad recycling none_moved 2 (in_part 199 PedestrianClear (On 59)) ≡ in_part 200 DontWalk Off
unfolding quad reduction_timer gap initial pedestrian_now
not_in_that_tick = refl

a_tick_behind : next quad recycling none_moved 2 (in_part 200 DontWalk Off) ≡ in_part 201 Walk (On 0)
unfolding quad reduction_timer gap initial pedestrian_now
a_tick_behind = refl

-- it is found in the tick in which it begins, and of no other part: in DontWalk, Walk and clearance at its end, and of
-- no phase that is Yellow or Red
abbrev pub told_of : List Phase
told_of =
    in_part 150 DontWalk Off ∷ in_part 150 Walk (On 39) ∷ in_part 150 PedestrianClear (On 60)
    ∷ record at_power_up { interval = Yellow; timer = On 3 } ∷ at_power_up ∷ []

told_as_it_begins : map (walks_again recycling 2) told_of ≡ true ∷ false ∷ false ∷ false ∷ false ∷ []
told_as_it_begins = refl

-- its green does not end in that tick, also where it could without the walk
could_end : is_ready quad (record unasked { hold = λ p. false }) 2 (in_part 150 DontWalk Off) ≡ true
unfolding quad reduction_timer gap initial maximum_in_use pedestrian_now is_ready
could_end = refl

does_not_end : is_ready quad (record recycling { hold = λ p. false }) 2 (in_part 150 DontWalk Off) ≡ false
unfolding quad reduction_timer gap initial maximum_in_use pedestrian_now is_ready
does_not_end = refl

-- ## Under a preempt that ends the phase

-- the walk ends at 2 seconds
walk_not_cut : pedestrian_now quad preempted 2 (in_part 19 Walk (On 19)) ≡ Walk
unfolding quad pedestrian_now
walk_not_cut = refl

walk_is_cut : pedestrian_now quad preempted 2 (in_part 20 Walk (On 20)) ≡ PedestrianClear
unfolding quad pedestrian_now
walk_is_cut = refl

-- the clearance at 3; the green can end with it, in the same tick, and not before it
clearance_not_cut : next quad preempted none_moved 2 (in_part 68 PedestrianClear (On 28))
    ≡ in_part 69 PedestrianClear (On 29)
unfolding quad reduction_timer gap initial pedestrian_now
clearance_not_cut = refl

clearance_holds : is_ready quad preempted 2 (in_part 69 PedestrianClear (On 29)) ≡ false
unfolding quad reduction_timer gap initial maximum_in_use pedestrian_now is_ready
clearance_holds = refl

clearance_is_cut : pedestrian_now quad preempted 2 (in_part 70 PedestrianClear (On 30)) ≡ DontWalk
unfolding quad pedestrian_now
clearance_is_cut = refl

green_can_end : is_ready quad preempted 2 (in_part 70 PedestrianClear (On 30)) ≡ true
unfolding quad reduction_timer gap initial maximum_in_use pedestrian_now is_ready
green_can_end = refl

-- a preempt's clearance of 0 skips it, also where the phase has one
skipped_by_preempt : pedestrian_now (with_value quad PreemptEnterPedClear 2 0) preempted 2 (in_part 20 Walk (On 20))
    ≡ DontWalk
unfolding quad pedestrian_now
skipped_by_preempt = refl

abbrev pub ends_two : Moved
ends_two = record none_moved { ends = λ p. p == 2 }

green_ends : next quad preempted ends_two 2 (in_part 69 PedestrianClear (On 29))
    ≡ record at_power_up { interval = Yellow; timer = On 0 }
unfolding quad reduction_timer gap initial pedestrian_now
green_ends = refl

-- a preempt's minimum green of 2 seconds is enough
at_minimum : is_ready quad preempted 2 (in_part 19 DontWalk Off) ≡ false
unfolding quad reduction_timer gap initial maximum_in_use pedestrian_now is_ready
at_minimum = refl

beyond_minimum : is_ready quad preempted 2 (in_part 20 DontWalk Off) ≡ true
unfolding quad reduction_timer gap initial maximum_in_use pedestrian_now is_ready
beyond_minimum = refl

-- and the least time of its green: without the preempt it is the minimum green of 5 seconds
least_under_preempt : least_green quad 2 (ended_by preempted 2) ≡ 20
unfolding quad
least_under_preempt = refl

least_alone : least_green quad 2 (ended_by nothing 2) ≡ 50
unfolding quad
least_alone = refl
