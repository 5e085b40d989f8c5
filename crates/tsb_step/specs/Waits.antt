-- What each phase that is called and not Green waits for, of a state alone: the first that applies of a list that the
-- rings' definitions give. It says what keeps the phase from turning Green in the next tick; where that depends on what
-- the tick finds, it is what was so in the last one. The list, its order and its names are the profile's own.
--
-- Times are what is left, in tenths of a second.
use Rattle.std.specs.Prelude.{ℕ, ◌+◌, ◌-◌, ◌==◌, Bool, false, not, ◌&&◌, ◌||◌, if◌then◌else◌, min, Option, Some, None, is_some, is_none, option_map}
use Rattle.tsb_cells.specs.declared.timer.Timer.{Timer}
use Rattle.tsb_cells.specs.declared.timer.Timer.TheVariants.{Off, On}
use Rattle.tsb_cells.specs.Timer.{is_on, has_reached}
use Rattle.tsb_types.specs.declared.interval.Interval.{Interval}
use Rattle.tsb_types.specs.declared.interval.Interval.TheVariants.{Red, Green, Yellow, RedClear}
use Rattle.tsb_types.specs.declared.interval.PedestrianInterval.{PedestrianInterval}
use Rattle.tsb_types.specs.declared.interval.PedestrianInterval.TheVariants.{DontWalk, Walk, PedestrianClear}
use Rattle.tsb_types.specs.Clip.{clipped, within}
use Rattle.tsb_types.specs.Intervals.{in_service, is_green}
use Rattle.tsb_types.specs.Lists.{first, is, or_else, run_from}
use Rattle.tsb_objects.specs.tsb_plan.Parts.{preempt_minimum_green}
use Rattle.tsb_objects.specs.tsb_plan.Plan.{Plan, phases, is_concurrent, side_of, yellow_change, red_clear, red_revert}
use Rattle.tsb_calls.specs.Standing as standing
use Rattle.tsb_phase.specs.Green.{gap, initial}
use Rattle.tsb_phase.specs.Pedestrian.{ended_by, walk_time, clearance_time}
use Rattle.tsb_phase.specs.Phase as phase
use Rattle.tsb_phase.specs.Phase.{Phase}
use Rattle.tsb_phase.specs.Ready.{may_end, needs_forced}
use Rattle.tsb_preempt.specs.Preempts.{wanted_by, is_outside}
use Rattle.tsb_preempt.specs.Service.{Service, stage_phases}
use Rattle.tsb_overlap.specs.Overlap.{holds, trail_left}
use Rattle.tsb_ring.specs.Rings.{Ring, other, in_ring, own_ring}
use Rattle.tsb_step.specs.declared.waits.Lack.{Lack}
use Rattle.tsb_step.specs.declared.waits.Lack.TheVariants as lacks
use Rattle.tsb_step.specs.declared.waits.Wait.{Wait}
use Rattle.tsb_step.specs.declared.waits.Wait.TheVariants as waits
use Rattle.tsb_step.specs.Events.{calls_now}
use Rattle.tsb_step.specs.State.{State, interval, pedestrian_part}
use Rattle.tsb_step.specs.Tick.{runs, hold, omitted, over, reverted}

-- the first of two that applies
abbrev pub first_wait : Option Wait → Option Wait → Option Wait
first_wait None w = w
first_wait (Some v) w = Some v

-- ## Times that are left

-- of a time, by the timer that runs for it: all of it while the timer is Off, and 0 once it is reached
abbrev pub left : ℕ → Timer → ℕ
left time Off = time
left time (On n) = time - n

-- of the yellow change and red clearance of a phase in this interval; a Green or a Red one has none to clear
abbrev pub clearance_left_in : Plan → ℕ → Timer → Interval → ℕ
clearance_left_in plan p timer Red = 0
clearance_left_in plan p timer Green = 0
clearance_left_in plan p timer Yellow = left (yellow_change plan p) timer + red_clear plan p
clearance_left_in plan p timer RedClear = left (red_clear plan p) timer

-- until its clearance is done
abbrev pub until_over : State → ℕ → ℕ
until_over s p = clearance_left_in s.plan p (s.phases p).timer (interval s p)

-- of the red revert of a phase
abbrev pub red_revert_left : State → ℕ → ℕ
red_revert_left s p = left (red_revert s.plan p) (s.phases p).red_revert

-- ## What phase timing found in the last tick

-- the preempt in service
abbrev pub service_number : Option Service → Option ℕ
service_number None = None
service_number (Some x) = Some x.preempt

-- it is outside the phases of the stage in service
abbrev pub is_unwanted : State → ℕ → Bool
is_unwanted s p = is_outside (wanted_by s.plan s.preempts.service) p

-- what phase timing would be given again, if outputs, conflicts and orders stay: a green's passage timer is Off where
-- an output is on, its conflict timer is On where there is a conflict, and its forced latch stays where it was forced
-- off. No walk begins again in it: a walk that has not begun is not lacking
unfoldable pub phases_again : State → phase.Given
phases_again s = record {
  output = λ p. not (is_on (s.phases p).passage);
  conflict = λ p. is_on (s.phases p).conflict;
  callable = λ p. false;
  pedestrian_call = λ p. false;
  count = within 0 s.memories.count;
  runs = runs s;
  service = service_number s.preempts.service;
  hold = clipped (hold s);
  must_end = clipped (is_unwanted s);
  forced = λ p. (s.phases p).forced;
  recycle = λ p. false;
}

-- ## What a green lacks

-- the time that a green has to last, whatever ends it: the initial time, under a preempt that ends it at most the
-- preempt's minimum green
abbrev pub time_to_last : Plan → phase.Given → ℕ → Option ℕ → ℕ
time_to_last plan given p None = initial plan p (given.count p)
time_to_last plan given p (Some n) = min (initial plan p (given.count p)) (preempt_minimum_green plan n)

-- of its gap, the one in force, that is left
abbrev pub gap_left : Plan → ℕ → Phase → ℕ
gap_left plan p x = if is_on x.passage then left (gap plan p x.reduction) x.passage else gap plan p x.reduction

-- what is lacking of all but its pedestrians and its initial time: a preempt that ends it needs no other cause
abbrev pub cause_lack : Plan → phase.Given → ℕ → Phase → Option Lack
cause_lack plan given p x =
    if is_some (ended_by given p) || may_end plan given p x then None else
    (if needs_forced given p then Some lacks.ForceOff else Some (lacks.Gap (gap_left plan p x)))

-- and its initial time
abbrev pub green_lack : Plan → phase.Given → ℕ → Phase → Option Lack
green_lack plan given p x =
    if has_reached x.timer (time_to_last plan given p (ended_by given p)) then cause_lack plan given p x
    else Some (lacks.Initial (left (time_to_last plan given p (ended_by given p)) x.timer))

-- and its pedestrians, which come first
abbrev pub part_lack : Plan → phase.Given → ℕ → Phase → PedestrianInterval → Option Lack
part_lack plan given p x DontWalk = green_lack plan given p x
part_lack plan given p x Walk = Some (lacks.Walk (left (walk_time plan p (ended_by given p)) x.pedestrian_timer))
part_lack plan given p x PedestrianClear =
    Some (lacks.Clearance (left (clearance_time plan p (ended_by given p)) x.pedestrian_timer))

-- what the green of a phase lacked in the last tick; none where it could have ended
unfoldable pub lack : State → ℕ → Option Lack
lack s p = part_lack s.plan (phases_again s) p (s.phases p) (pedestrian_part s p)

-- ## The rings

-- the ring's phase in service
unfoldable pub served : State → Ring → Option ℕ
served s r = first (λ p. in_ring s.plan r p && in_service (interval s p)) (phases s.plan)

-- the overlaps that hold it in clearance in the next tick, while the preempt in service stays
abbrev pub holds_next : State → ℕ → ℕ → Bool
holds_next s p o = holds s.plan (is_some s.preempts.service) s.overlaps p o

-- the least of these
unfoldable pub holder : State → ℕ → Option ℕ
holder s p = first (holds_next s p) (run_from 1 s.plan.counts.overlaps)

-- its own clearance is done in the next tick
abbrev pub is_cleared_next : State → ℕ → Bool
is_cleared_next s p = clipped (over s) p

-- and no overlap holds it: so the rings take it
abbrev pub is_over_next : State → ℕ → Bool
is_over_next s p = is_cleared_next s p && is_none (holder s p)

-- how long overlap o holds its phases still, at most
abbrev pub held_left : State → ℕ → ℕ
held_left s o = trail_left s.plan (is_some s.preempts.service) o (s.overlaps o) (s.overlaps o).interval

-- of an overlap that holds q, if one does
abbrev pub held_wait : State → (ℕ → ℕ → Wait) → ℕ → Option ℕ → Wait
held_wait s wait q None = wait q (until_over s q)
held_wait s wait q (Some o) = waits.Trails q o (held_left s o)

-- the wait for a phase q that clears, by its own clearance, or by the overlap that holds it once that is done
abbrev pub clearing_wait : State → (ℕ → ℕ → Wait) → ℕ → Wait
clearing_wait s wait q =
    if is_cleared_next s q then held_wait s wait q (holder s q) else wait q (until_over s q)

-- its red revert has passed in the next tick, as the rings read it
abbrev pub is_reverted_next : State → ℕ → Bool
is_reverted_next s p = clipped (reverted s) p

-- a phase, if there is one, that is not over in the next tick
abbrev pub not_over : State → Option ℕ → Option ℕ
not_over s None = None
not_over s (Some q) = if is_over_next s q then None else Some q

-- a phase, if there is one, whose red revert has not passed in the next tick
abbrev pub not_reverted : State → Option ℕ → Option ℕ
not_reverted s None = None
not_reverted s (Some q) = if is_reverted_next s q then None else Some q

-- a phase, if there is one, that is not concurrent with p
abbrev pub not_concurrent : Plan → ℕ → Option ℕ → Option ℕ
not_concurrent plan p None = None
not_concurrent plan p (Some q) = if is_concurrent plan p q then None else Some q

-- a phase, if there is one, that was Green and lacked something
abbrev pub lacking : State → Option ℕ → Option ℕ
lacking s None = None
lacking s (Some q) = if is_green (interval s q) && is_some (lack s q) then Some q else None

-- ## A phase that its ring is committed to

-- the phase of the other ring that does not make way: one that is not over, in a crossing of the barrier any, and else
-- one that is not concurrent with p
abbrev pub in_the_way : State → ℕ → Option ℕ → Option ℕ
in_the_way s p o = if is_some s.rings.crossing then not_over s o else not_concurrent s.plan p (not_over s o)

-- in a crossing both rings start together: the phase of the other ring whose red revert has not passed
abbrev pub starts_beside : State → Option ℕ → Option ℕ
starts_beside s o = if is_some s.rings.crossing then not_reverted s o else None

-- its own red revert
abbrev pub revert_wait : State → ℕ → Option Wait
revert_wait s p = if is_reverted_next s p then None else Some (waits.RedRevert (red_revert_left s p))

-- the first that applies: a phase of its ring that is not over, its red revert, a phase of the other ring that does not
-- make way, the red revert of the phase that starts with it. Otherwise it starts
unfoldable pub committed_wait : State → ℕ → Ring → Option Wait
committed_wait s p r =
    first_wait (option_map (clearing_wait s waits.Clears) (not_over s (served s r)))
    (first_wait (revert_wait s p)
    (first_wait (option_map (clearing_wait s waits.Across) (in_the_way s p (served s (other r))))
    (first_wait (option_map (λ c. waits.Beside c (red_revert_left s c)) (starts_beside s (s.rings.commitment (other r))))
    (Some waits.Due))))

-- ## Any other

-- the pattern that runs omits it; a preempt in service serves it all the same
abbrev pub omit_wait : State → ℕ → Option Wait
omit_wait s p = if omitted s p && is_none s.preempts.service then Some waits.Omitted else None

-- the stage of this service does not have it
abbrev pub preempt_wait : Plan → ℕ → Option Service → Option Wait
preempt_wait plan p None = None
preempt_wait plan p (Some x) = if stage_phases plan x.preempt x.stage p then None else Some (waits.Preempted x.preempt)

-- a crossing is under way, and the phase that keeps it from being completed, of its own ring or else of the other
abbrev pub crossing_wait : State → Ring → Option Wait
crossing_wait s r =
    if is_some s.rings.crossing
    then Some (waits.Crossing (or_else (not_over s (served s r)) (not_over s (served s (other r)))))
    else None

-- a phase, if there is one, that is not Green
abbrev pub not_green : State → Option ℕ → Option ℕ
not_green s None = None
not_green s (Some q) = if is_green (interval s q) then None else Some q

-- the phase that keeps the barrier from being crossed: the one that the other ring starts first, or a Green phase that
-- lacked something, of its own ring or else of the other
abbrev pub keeper : State → Ring → Option ℕ
keeper s r =
    or_else (s.rings.commitment (other r)) (or_else (lacking s (served s r)) (lacking s (served s (other r))))

-- it is on another side than the one that is served
abbrev pub barrier_wait : State → ℕ → Ring → Option Wait
barrier_wait s p r = if side_of s.plan p == s.rings.side then None else Some (waits.Barrier (keeper s r))

-- a phase with what it lacks
abbrev pub green_with : ℕ → Option Lack → Option Wait
green_with q None = None
green_with q (Some l) = Some (waits.Green q l)

-- the phase of its ring, if that is Green and lacks something
abbrev pub green_wait : State → Option ℕ → Option Wait
green_wait s None = None
green_wait s (Some q) = if is_green (interval s q) then green_with q (lack s q) else None

-- the phase that the other ring serves, or starts next, if that is not concurrent with it
abbrev pub conflicting : State → ℕ → Ring → Option ℕ
conflicting s p r =
    or_else (not_concurrent s.plan p (served s (other r))) (not_concurrent s.plan p (s.rings.commitment (other r)))

-- the first that applies: the pattern, a preempt, another phase that its ring is committed to, a crossing; a phase of
-- its ring that clears, its red revert, the barrier, a green of its ring, a phase of the other ring; otherwise its turn
unfoldable pub free_wait : State → ℕ → Ring → Option Wait
free_wait s p r =
    first_wait (omit_wait s p)
    (first_wait (preempt_wait s.plan p s.preempts.service)
    (first_wait (option_map waits.Next (s.rings.commitment r))
    (first_wait (crossing_wait s r)
    (first_wait (option_map (clearing_wait s waits.Clears) (not_green s (served s r)))
    (first_wait (revert_wait s p)
    (first_wait (barrier_wait s p r)
    (first_wait (green_wait s (served s r))
    (first_wait (option_map waits.Conflict (conflicting s p r))
    (Some waits.Turn)))))))))

-- ## What a phase waits for

-- its ring is committed to it
abbrev pub is_committed : State → ℕ → Bool
is_committed s p = is p (s.rings.commitment (own_ring s.plan p))

-- whether it is called or not; a controller that has tripped serves none
unfoldable pub wait : State → ℕ → Option Wait
wait s p =
    if is_some s.trip then Some waits.Flash else
    (if is_committed s p then committed_wait s p (own_ring s.plan p) else free_wait s p (own_ring s.plan p))

-- the phase has a call, and is not Green
abbrev pub is_waiting : State → ℕ → Bool
is_waiting s p =
    not (is_green (interval s p)) &&
    (standing.vehicle_call s.plan (calls_now s) s.memories p || standing.pedestrian_call s.plan (calls_now s) s.memories p)

-- what each phase waits for that is called and not Green; none of any other
abbrev pub waits_for : State → ℕ → Option Wait
waits_for s p = if is_waiting s p then wait s p else None
