-- What layers say in a controller that has no options: each definition of theirs that reads an option, written anew
-- without one. An option is one of these objects, which version 1 of plan texts does not have: phaseDynamicMaxLimit,
-- phaseDynamicMaxStep, overlapType, overlapModifierPhases, coordForceMode, coordMaximumMode, patternPermissiveTime,
-- patternLeadLag, phasePedestrianRecycle, coordCorrectionMode, coordCorrectionLimit, overlapAcrossRings,
-- preemptChoosesAnew, coordReference, overlapArrowDelay, overlapArrowPedestrian, overlapTrailGreen, overlapTrailYellow and
-- overlapTrailRed. Nothing here reads one. What reads none of them is the layers' own, the rules of the schedule among
-- them. Each definition has the name of the one that it is in place of.
use Rattle.std.specs.Prelude.{ℕ, ◌+◌, ◌-◌, ◌%◌, ◌==◌, nat_lt, Bool, false, not, ◌&&◌, ◌||◌, if◌then◌else◌, min, Option, Some, None, is_some, is_none}
use Rattle.tsb_step.specs.tsb_cells.declared.timer.Timer.{Timer}
use Rattle.tsb_step.specs.tsb_cells.declared.timer.Timer.TheVariants.{Off}
use Rattle.tsb_step.specs.tsb_cells.Timer.{has_reached}
use Rattle.std.specs.Option.{option_map, option_or}
use Rattle.tsb_step.specs.tsb_types.declared.interval.PedestrianInterval.{PedestrianInterval}
use Rattle.tsb_step.specs.tsb_types.declared.interval.PedestrianInterval.TheVariants.{DontWalk, Walk, PedestrianClear}
use Rattle.tsb_step.specs.tsb_types.declared.lamp.Aspect.{Aspect}
use Rattle.tsb_step.specs.tsb_types.declared.lamp.Aspect.TheVariants.{Dark, Red, Yellow, Green}
use Rattle.tsb_step.specs.tsb_types.Flow.{gives_walk}
use Rattle.tsb_step.specs.tsb_types.Intervals.{is_green, is_yellow, is_red_clear, is_dont_walk}
use Rattle.tsb_step.specs.tsb_types.Lists.{first}
use Rattle.tsb_step.specs.tsb_plan.declared.object.Object.TheVariants.{OverlapIncludedPhases}
use Rattle.tsb_step.specs.tsb_plan.Parts.{cycle, offset, split_of, sequence_of, preempt_minimum_green, is_included}
use Rattle.tsb_step.specs.tsb_plan.Plan.{Plan, phases, maximum, is_concurrent}
use Rattle.tsb_step.specs.tsb_plan.Running.{running}
use Rattle.tsb_step.specs.tsb_rules.declared.rules.Rule.{Rule}
use Rattle.tsb_step.specs.tsb_rules.declared.rules.Rule.TheVariants.{K14, K15, K16, K17, K18, K19, K20}
use Rattle.tsb_step.specs.tsb_rules.PatternRules.{some_and, each_pattern, patterns_are_whole, splits_hold_phases, splits_fill_cycles, coordinated_agree}
use Rattle.tsb_step.specs.tsb_rules.Rules.{unless, or_rule, broken_by_rings, broken_by_phases, broken_by_schedule, included_phases_are_enabled, preempts_are_concurrent, preempts_dwell}
use Rattle.tsb_step.specs.tsb_heads.Heads.{Shown, Heads, vehicle_head, pedestrian_head}
use Rattle.tsb_step.specs.tsb_heads.Overlaps.{some_of, is_followed_in_ring, is_on_yellow}
use Rattle.tsb_step.specs.tsb_heads.declared.monitor.Trip.{Trip}
use Rattle.tsb_step.specs.tsb_heads.declared.monitor.Trip.TheVariants.{Conflict}
use Rattle.tsb_step.specs.tsb_heads.Monitoring.{has_right_of_way, green_to_red}
use Rattle.tsb_step.specs.tsb_calls.Memories as calls
use Rattle.tsb_step.specs.tsb_calls.Memories.{Memories, vehicle_memory, pedestrian_memory, counted}
use Rattle.tsb_step.specs.tsb_calls.Settled.{Done, vehicle_after, count_after, pedestrian_call}
use Rattle.tsb_step.specs.tsb_phase.Phase.{Phase, Given, Moved, GreenHeld, held_of, as_read}
use Rattle.tsb_step.specs.tsb_phase.Green.{conflict_timer, initial, initial_has_passed, is_gapped, is_by_gap}
use Rattle.tsb_step.specs.tsb_phase.Pedestrian.{ended_by, walk_has_ended, clearance_has_ended, after_walk, pedestrian_timer_in}
use Rattle.tsb_step.specs.tsb_phase.Ready.{needs_forced}
use Rattle.tsb_step.specs.tsb_phase.Next.{is_green_after, new_interval, new_timer, pedestrian_at_start, pedestrian_timer_at_start, new_passage, new_conflict, new_reduction, new_gapped, new_red_revert}

-- ## Rules

-- K20: the splits of the coordinated phases of each pattern end at one time
abbrev pub coordinated_phases_agree : Plan → Bool
coordinated_phases_agree plan =
    each_pattern plan (λ n. some_and (λ s. some_and (coordinated_agree plan false s) (split_of plan n)) (sequence_of plan n))

-- the first of K14 to K20
unfoldable pub broken_by_parts : Plan → Option Rule
broken_by_parts plan =
    unless (included_phases_are_enabled plan) K14
    (unless (preempts_are_concurrent plan) K15
    (unless (preempts_dwell plan) K16
    (unless (patterns_are_whole plan) K17
    (unless (splits_hold_phases plan) K18
    (unless (splits_fill_cycles plan) K19
    (unless (coordinated_phases_agree plan) K20
    None))))))

-- the first rule that the plan breaks, by number; K21 to K23 are of modifier phases, of the limits of dynamic maximums
-- and of permissive times, K28 and K29 of arrows and of overlaps that trail
unfoldable pub first_broken : Plan → Option Rule
first_broken plan =
    or_rule (broken_by_rings plan)
    (or_rule (broken_by_phases plan)
    (or_rule (broken_by_parts plan)
    (broken_by_schedule plan)))

-- ## The local counter

-- that of pattern n: t less the offset, within the cycle
abbrev pub counter : Plan → ℕ → ℕ → ℕ
counter plan n t = (t + cycle plan n - offset plan n) % cycle plan n

-- that of the pattern that runs; none in free operation
abbrev pub local_in : Plan → ℕ → Option ℕ → Option ℕ
local_in plan t None = None
local_in plan t (Some n) = Some (counter plan n t)

-- at tick t, of the pattern that is selected; none where that is not used
abbrev pub local : Plan → ℕ → Option ℕ → Option ℕ
local plan t selected = local_in plan t (running plan selected)

-- ## When a green may end

-- a green is forced off in the tick of its instant, and in each tick after while pattern and conflict last and no
-- preempt is in service; no length of it does that
abbrev pub forced_latch : Given → ℕ → GreenHeld → Bool
forced_latch given p held =
    is_some given.runs && (is_none given.service && (given.conflict p && (given.forced p || held.forced)))

-- a maximum ends greens in free operation alone, and is the plan's
unfoldable pub has_maxed_out : Plan → Given → ℕ → GreenHeld → Bool
has_maxed_out plan given p held = is_none given.runs && has_reached (conflict_timer given p held) (maximum plan p)

-- gapped without maximum recall, or max-out, or forced
abbrev pub has_timed_out : Plan → Given → ℕ → Phase → Bool
has_timed_out plan given p w =
    is_by_gap plan given p (is_gapped plan given p (held_of w)) ||
    (has_maxed_out plan given p (held_of w) || forced_latch given p (held_of w))

-- of a coordinated phase, while no preempt is in service, its force-off alone; otherwise the first of these
abbrev pub may_end : Plan → Given → ℕ → Phase → Bool
may_end plan given p w = if needs_forced given p then forced_latch given p (held_of w) else has_timed_out plan given p w

-- its green has lasted the initial time and it may end; or as long as the preempt that ends it asks
abbrev pub green_is_done : Plan → Given → ℕ → Phase → Option ℕ → Bool
green_is_done plan given p w None = initial_has_passed plan given p (held_of w) && may_end plan given p w
green_is_done plan given p w (Some n) =
    has_reached w.timer (min (initial plan p (given.count p)) (preempt_minimum_green plan n))

-- what becomes of a pedestrian part in this tick: Walk, clearance and then DontWalk, as long as the green lasts
abbrev pub pedestrian_after : Plan → Given → ℕ → Phase → PedestrianInterval → PedestrianInterval
pedestrian_after plan given p w DontWalk = DontWalk
pedestrian_after plan given p w Walk = if walk_has_ended plan given p w then after_walk plan given p else Walk
pedestrian_after plan given p w PedestrianClear = if clearance_has_ended plan given p w then DontWalk else PedestrianClear

-- its pedestrian part now
unfoldable pub pedestrian_now : Plan → Given → ℕ → Phase → PedestrianInterval
pedestrian_now plan given p w = pedestrian_after plan given p w w.pedestrian

-- it was Green, its pedestrian part is now DontWalk, and its green is done
unfoldable pub is_ready : Plan → Given → ℕ → Phase → Bool
is_ready plan given p w =
    is_green w.interval && (is_dont_walk (pedestrian_now plan given p w) && green_is_done plan given p w (ended_by given p))

-- ## A phase after a tick

-- the pedestrian part after the tick, which begins with the green
abbrev pub new_pedestrian : Plan → Given → Moved → ℕ → Phase → PedestrianInterval
new_pedestrian plan given moved p w =
    if moved.starts p then pedestrian_at_start given p
    else (if is_green_after moved p w then pedestrian_now plan given p w else DontWalk)

-- the timer of that part, Off where the phase is not Green
abbrev pub new_pedestrian_timer : Plan → Given → Moved → ℕ → Phase → Timer
new_pedestrian_timer plan given moved p w =
    if moved.starts p then pedestrian_timer_at_start given p
    else (if is_green_after moved p w then pedestrian_timer_in w.pedestrian (pedestrian_now plan given p w) w.pedestrian_timer
    else Off)

-- a start never has the forced latch
abbrev pub new_forced : Given → Moved → ℕ → Phase → Bool
new_forced given moved p w = is_green_after moved p w && (not (moved.starts p) && forced_latch given p (held_of w))

-- of the phase as the tick reads it; of a dynamic maximum it keeps what it had, which nothing here reads
abbrev pub next_from_read : Plan → Given → Moved → ℕ → Phase → Phase
next_from_read plan given moved p w = record {
  interval = new_interval plan moved p w;
  timer = new_timer plan moved p w;
  pedestrian = new_pedestrian plan given moved p w;
  pedestrian_timer = new_pedestrian_timer plan given moved p w;
  passage = new_passage plan given moved p w;
  conflict = new_conflict plan given moved p w;
  reduction = new_reduction plan given moved p w;
  gapped = new_gapped plan given moved p w;
  forced = new_forced given moved p w;
  red_revert = new_red_revert plan moved p w;
  running_maximum = w.running_maximum;
  last_ending = w.last_ending;
}

-- phase p after the tick
abbrev pub next : Plan → Given → Moved → ℕ → Phase → Phase
next plan given moved p was = next_from_read plan given moved p (as_read was)

-- ## Calls

-- a walk starts with its phase alone
abbrev pub walk_starts : Done → (ℕ → Bool) → ℕ → Bool
walk_starts done called p = done.starts p && gives_walk (called p) done.service

-- pedestrian memory falls when its phase's walk starts
abbrev pub memory_after : Done → (ℕ → Bool) → (ℕ → Bool) → ℕ → Bool
memory_after done called memory p = memory p && not (walk_starts done called p)

-- after a tick, of the memories that were
abbrev pub memories_after : Plan → calls.Given → Done → Memories → Memories
memories_after plan given done w = record {
  vehicle = vehicle_after done (vehicle_memory plan given w);
  pedestrian = memory_after done (pedestrian_call plan given w) (pedestrian_memory plan given w);
  count = count_after done (counted plan given w);
}

-- ## Overlaps

-- phase p keeps overlap o green: it is Green, or clears while its own ring is committed to an included phase
abbrev pub keeps_green : Plan → Shown → ℕ → ℕ → Bool
keeps_green plan s o p =
    is_green (s.interval p) || ((is_yellow (s.interval p) || is_red_clear (s.interval p)) && is_followed_in_ring plan s o p)

-- some included phase keeps it green
unfoldable pub is_kept_green : Plan → Shown → ℕ → Bool
is_kept_green plan s o = some_of plan (is_included plan o) (keeps_green plan s o)

-- green while an included phase keeps it green; else yellow when an included phase is Yellow; else red
abbrev pub normal_aspect : Plan → Shown → ℕ → Aspect
normal_aspect plan s o = if is_kept_green plan s o then Green else (if is_on_yellow plan s o then Yellow else Red)

-- the head of overlap o is dark where it includes no phase, and otherwise that of a normal overlap
abbrev pub overlap_head : Plan → Shown → ℕ → Aspect
overlap_head plan s o = if plan.value OverlapIncludedPhases o == 0 then Dark else normal_aspect plan s o

-- what the controller orders until it trips
abbrev pub ordered : Plan → Shown → Heads
ordered plan s = record {
  vehicle = vehicle_head plan s;
  pedestrian = pedestrian_head plan s;
  overlap = overlap_head plan s;
}

-- ## The monitor, which looks at heads of phases alone

-- p and a later q have right of way, and are not concurrent
abbrev pub are_in_conflict : Plan → Heads → ℕ → ℕ → Bool
are_in_conflict plan heads p q =
    nat_lt p q && (has_right_of_way heads p && (has_right_of_way heads q && not (is_concurrent plan p q)))

-- the least phase that p is in conflict with
unfoldable pub conflict_of : Plan → Heads → ℕ → Option ℕ
conflict_of plan heads p = first (are_in_conflict plan heads p) (phases plan)

-- the conflict whose lower phase is p; its other phase is the least that p is in conflict with
abbrev pub conflict_by : Plan → Heads → Option ℕ → Option Trip
conflict_by plan heads None = None
conflict_by plan heads (Some p) = option_map (λ q. Conflict p q) (conflict_of plan heads p)

-- the least pair in conflict
unfoldable pub conflict : Plan → Heads → Option Trip
conflict plan heads = conflict_by plan heads (first (λ p. is_some (conflict_of plan heads p)) (phases plan))

-- of the field before and after, it trips on a conflict in the field after, then on a phase whose head goes from green to
-- red
abbrev pub judge : Plan → Heads → Heads → Option Trip
judge plan before after = option_or (conflict plan after) (green_to_red plan before after)
