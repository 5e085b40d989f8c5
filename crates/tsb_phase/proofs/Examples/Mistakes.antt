-- One-line mistakes, each with an example in which it differs from the definition.
use Rattle.std.specs.Prelude.{◌≡◌, ℕ, ◌==◌, Bool, true, false, not, ◌&&◌, ◌||◌, if◌then◌else◌, min, Option, Some, None, sum_by, refl, [], ◌∷◌}
use Rattle.tsb_cells.specs.declared.timer.Timer.{Timer}
use Rattle.tsb_cells.specs.declared.timer.Timer.TheVariants.{Off, On}
use Rattle.tsb_cells.specs.Timer.{started, has_reached}
use Rattle.tsb_objects.specs.tsb_types.declared.interval.PedestrianInterval.{PedestrianInterval}
use Rattle.tsb_objects.specs.tsb_types.declared.interval.PedestrianInterval.TheVariants.{DontWalk, Walk, PedestrianClear}
use Rattle.tsb_objects.specs.tsb_types.Flow.{gives_walk}
use Rattle.tsb_objects.specs.tsb_types.Intervals.{is_green, is_clearance}
use Rattle.tsb_objects.specs.tsb_types.Lists.{run_from}
use Rattle.tsb_objects.specs.tsb_plan.declared.object.Object.TheVariants.{PhaseMinimumGreen, PhasePassage, PhaseMaxRecall, PhaseSimGapDisable, PhaseRedRevert, PreemptMinimumGreen}
use Rattle.tsb_objects.specs.tsb_plan.Parts.{preempt_minimum_green}
use Rattle.tsb_objects.specs.tsb_plan.Plan.{Plan, phases, with_value, minimum_green, maximum, with_values}
use Rattle.tsb_objects.specs.tsb_plan.Quad.{quad}
use Rattle.tsb_objects.specs.tsb_plan.Two.{two}
use Rattle.tsb_phase.specs.declared.ending.Ending.{Ending}
use Rattle.tsb_phase.specs.declared.ending.Ending.TheVariants.{MaxOut}
use Rattle.tsb_phase.specs.Phase.{Phase, Given, GreenHeld, none_held, held_of, at_power_up}
use Rattle.tsb_phase.specs.Green.{conflict_timer, begins_reduction, cars_waiting, reduction_timer, gap, initial, initial_has_passed, gap_has_expired, gapped_latch, is_gapped, has_maxed_out, forced_latch}
use Rattle.tsb_phase.specs.DynamicMaximum.{maximum_in_use, effective_maximum, stepped, running_maximum_after}
use Rattle.tsb_phase.specs.Pedestrian.{pedestrian_now, pedestrian_timer_now, may_walk_again}
use Rattle.tsb_phase.specs.Ready.{has_timed_out, has_passed, red_revert_now, is_ready}
use Rattle.tsb_phase.specs.Next.{next, pedestrian_at_start}
use Rattle.tsb_phase.proofs.Examples.Examples.{plan, nothing, waiting, held, several}
use Rattle.tsb_phase.proofs.Examples.GreenExamples.{driven_on, green_for}
use Rattle.tsb_phase.proofs.Examples.PedestrianExamples.{called_by_pedestrians, in_part, recycling, in_conflict, forced_before}
use Rattle.tsb_phase.proofs.Examples.ClearanceExamples.{starts_one, in_red, at_instant, coordinated, green}
use Rattle.tsb_phase.proofs.Examples.MaximumExamples.{growing, green_since}

-- ## The reduction timer is On only in ticks in which it has one of its causes

abbrev pub momentary_reduction : Plan → Given → ℕ → GreenHeld → Timer
momentary_reduction plan given p held =
    if given.conflict p && begins_reduction plan given p held then started held.reduction else Off

-- four vehicles began it, and are served: by the definition it runs on (`reduction_runs_on`)
stops : momentary_reduction plan (waiting 0) 1 (held 200 (On 5) (On 12) (On 5)) ≡ Off
unfolding plan run_from cars_waiting
stops = refl

-- ## The vehicles before reduction are those of all callable phases

abbrev pub cars_of_callable : Plan → Given → ℕ
cars_of_callable plan given = sum_by (λ q. if given.callable q then given.count q else 0) (phases plan)

-- 6 is concurrent with 2, and both can go on: the definition leaves it out (`cars_of_3_alone`)
counts_concurrent : cars_of_callable quad several ≡ 7
unfolding quad run_from
counts_concurrent = refl

-- ## A preempt ends a green by the initial time alone

abbrev pub done_by_initial : Plan → Given → ℕ → Phase → Bool
done_by_initial plan given p w = has_reached w.timer (initial plan p (given.count p))

-- preempt 1 ends phase 1; the preempt's minimum green is 6 seconds, and 14 vehicles give the phase 20
abbrev pub preempting : Plan
preempting = with_value plan PreemptMinimumGreen 1 6

abbrev pub preempted : Given
preempted = record nothing { service = Some 1; must_end = λ p. p == 1; count = λ p. 14 }

cut_short : is_ready preempting preempted 1 (green_for 60 Off Off) ≡ true
unfolding plan initial pedestrian_now is_ready
cut_short = refl

not_cut_short : done_by_initial preempting preempted 1 (green_for 60 Off Off) ≡ false
unfolding plan initial
not_cut_short = refl

-- ## .. or by the minimum green, where vehicles have added to it

abbrev pub done_by_minimum : Plan → ℕ → ℕ → Phase → Bool
done_by_minimum plan p n w = has_reached w.timer (min (minimum_green plan p) (preempt_minimum_green plan n))

stays_green : is_ready preempting preempted 1 (green_for 59 Off Off) ≡ false
unfolding plan initial pedestrian_now is_ready
stays_green = refl

ends_too_soon : done_by_minimum preempting 1 1 (green_for 59 Off Off) ≡ true
unfolding plan
ends_too_soon = refl

-- ## The initial time of a start leaves out the vehicles of its tick

-- no minimum green and no passage time: with no vehicle it would have gapped out at once
abbrev pub at_once : Plan
at_once = with_values plan ((PhaseMinimumGreen, 1, 0) ∷ (PhasePassage, 1, 0) ∷ (PhaseSimGapDisable, 1, 1) ∷ [])

-- one vehicle came in this tick
abbrev pub one_came : Given
one_came = record (waiting 0) { count = λ p. if p == 1 then 1 else 0 }

abbrev pub one_left_out : Given
one_left_out = waiting 0

with_its_vehicle : (next at_once one_came starts_one 1 (in_red Off)).gapped ≡ false
unfolding plan run_from cars_waiting reduction_timer gap initial
with_its_vehicle = refl

without_its_vehicle : (next at_once one_left_out starts_one 1 (in_red Off)).gapped ≡ true
unfolding plan run_from cars_waiting reduction_timer gap initial
without_its_vehicle = refl

-- ## A start at its force-off instant is forced

-- by the definition it is not (`starts_unforced`)
forced_at_start : forced_latch quad at_instant 1 none_held ≡ true
forced_at_start = refl

-- ## A start under a preempt gives Walk

abbrev pub walk_under_preempt : Given → ℕ → PedestrianInterval
walk_under_preempt given p = if given.pedestrian_call p then Walk else DontWalk

waits : pedestrian_at_start (record called_by_pedestrians { service = Some 1 }) 2 ≡ DontWalk
waits = refl

walks : walk_under_preempt (record called_by_pedestrians { service = Some 1 }) 2 ≡ Walk
walks = refl

-- ## The gapped latch stays when a commit has enabled simultaneous gap

abbrev pub latch_of_itself : Plan → Given → ℕ → GreenHeld → Bool
latch_of_itself plan given p held =
    given.conflict p && (held.gapped || (initial_has_passed plan given p held && gap_has_expired plan given p held))

abbrev pub latched : GreenHeld
latched = record (held 80 Off (On 12) Off) { gapped = true }

latch_falls : gapped_latch plan driven_on 1 latched ≡ false
unfolding plan run_from cars_waiting reduction_timer gap initial
latch_falls = refl

latch_stands : latch_of_itself plan driven_on 1 latched ≡ true
unfolding plan run_from cars_waiting reduction_timer gap initial
latch_stands = refl

-- ## A gap ends a green with maximum recall

abbrev pub timed_out_by_any_gap : Plan → Given → ℕ → Phase → Bool
timed_out_by_any_gap plan given p w =
    is_gapped plan given p (held_of w) ||
    (has_maxed_out plan given p (held_of w) w.running_maximum || forced_latch plan given p (held_of w))

abbrev pub recalled : Plan
recalled = with_value plan PhaseMaxRecall 1 1

to_its_maximum : has_timed_out recalled (waiting 0) 1 (green_for 80 (On 30) (On 12)) ≡ false
unfolding plan run_from cars_waiting reduction_timer gap initial maximum_in_use
to_its_maximum = refl

to_its_gap : timed_out_by_any_gap recalled (waiting 0) 1 (green_for 80 (On 30) (On 12)) ≡ true
unfolding plan run_from cars_waiting reduction_timer gap initial maximum_in_use
to_its_gap = refl

-- ## The maximum ends a green while a pattern runs, without a maximum mode

abbrev pub maxed_out_in_pattern : Plan → Given → ℕ → GreenHeld → Bool
maxed_out_in_pattern plan given p held = has_reached (conflict_timer given p held) (maximum plan p)

no_maximum : has_maxed_out plan (record driven_on { runs = Some 1 }) 1 (held 300 Off (On 200) Off) None ≡ false
unfolding plan
no_maximum = refl

a_maximum : maxed_out_in_pattern plan (record driven_on { runs = Some 1 }) 1 (held 300 Off (On 200) Off) ≡ true
unfolding plan
a_maximum = refl

-- ## The red revert is that of the phase alone

abbrev pub own_revert_passed : Plan → ℕ → Phase → Bool
own_revert_passed plan p w = has_passed (red_revert_now plan p w) (plan.value PhaseRedRevert p)

-- the definition waits for the unit's (`before_revert`)
waits_for_itself : own_revert_passed quad 2 (in_red (On 19)) ≡ true
unfolding quad
waits_for_itself = refl

-- ## The first ending already changes the dynamic maximum

abbrev pub running_after_any : Plan → ℕ → Ending → Phase → Option ℕ
running_after_any plan p e x = Some (stepped plan p e (effective_maximum plan p x.running_maximum))

leaves_it : running_maximum_after growing 2 MaxOut (green_since 100 None None) ≡ None
unfolding two growing
leaves_it = refl

changes_it : running_after_any growing 2 MaxOut (green_since 100 None None) ≡ Some 115
unfolding two growing
changes_it = refl

-- ## A gap ends a coordinated phase

-- by the definition it waits for its force-off (`held_green`)
ends_by_gap : has_timed_out quad coordinated 2 green ≡ true
unfolding quad run_from cars_waiting reduction_timer gap initial maximum_in_use
ends_by_gap = refl

-- ## By pedestrian recycle a walk begins in any interval

abbrev pub may_walk_in_any : Given → ℕ → Phase → Bool
may_walk_in_any given p w =
    given.recycle p && (gives_walk (given.pedestrian_call p) given.service && not (w.forced && given.conflict p))

no_walk_in_red : may_walk_again recycling 2 at_power_up ≡ false
no_walk_in_red = refl

would_walk_in_red : may_walk_in_any recycling 2 at_power_up ≡ true
would_walk_in_red = refl

-- ## .. or though the phase is forced off, so that the green lasts for another walk while the conflict waits

abbrev pub may_walk_though_forced : Given → ℕ → Phase → Bool
may_walk_though_forced given p w =
    is_green w.interval && (given.recycle p && gives_walk (given.pedestrian_call p) given.service)

no_walk_once_forced : may_walk_again in_conflict 2 forced_before ≡ false
no_walk_once_forced = refl

would_walk_once_forced : may_walk_though_forced in_conflict 2 forced_before ≡ true
would_walk_once_forced = refl

-- ## .. or its timer runs on, which is Off in DontWalk: such a walk never ends

abbrev pub timer_of_any_walk : PedestrianInterval → PedestrianInterval → Timer → Timer
timer_of_any_walk was DontWalk read = Off
timer_of_any_walk was Walk read = read
timer_of_any_walk was PedestrianClear read = if is_clearance was then read else On 0

begins_anew : pedestrian_timer_now quad recycling 2 (in_part 150 DontWalk Off) ≡ On 0
unfolding pedestrian_now
begins_anew = refl

would_stay_off : timer_of_any_walk DontWalk (pedestrian_now quad recycling 2 (in_part 150 DontWalk Off)) Off ≡ Off
unfolding pedestrian_now
would_stay_off = refl
