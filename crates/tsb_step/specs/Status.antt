-- What a state says of phases, overlaps, detectors, preempts, coordination, flash, desk and rings: the values that
-- NTCIP 1202 names as status objects, each found from a state alone. A controller that has tripped flashes: it serves
-- no phase and shows no walk. Where the standard is silent the choice is the profile's own; docs/work/DECISIONS.md has
-- these.
--
-- Times are in tenths of a second. What is left of a time is 0 once it is reached.
use Rattle.std.specs.Prelude.{ℕ, ◌+◌, ◌-◌, ◌/◌, ◌%◌, ◌==◌, nat_lt, Bool, true, false, not, ◌&&◌, ◌||◌, if◌then◌else◌, Option, Some, None, is_some, option_map}
use Rattle.std.specs.List.{list_any}
use Rattle.tsb_cells.specs.Timer.{is_on}
use Rattle.tsb_types.specs.declared.event.TheConstants.{FREE}
use Rattle.tsb_types.specs.declared.interval.Interval.{Interval}
use Rattle.tsb_types.specs.declared.interval.Interval.TheVariants.{Red, Green, Yellow, RedClear}
use Rattle.tsb_types.specs.declared.lamp.Aspect.{Aspect}
use Rattle.tsb_types.specs.declared.lamp.Aspect.TheVariants as aspects
use Rattle.tsb_types.specs.declared.stage.Stage.{Stage}
use Rattle.tsb_types.specs.declared.stage.Stage.TheVariants as stages
use Rattle.tsb_types.specs.Intervals.{in_service, is_green, is_yellow, is_red_clear, is_walk, is_clearance, is_dont_walk}
use Rattle.tsb_types.specs.Lists.{is, or_number, run_from}
use Rattle.tsb_objects.specs.tsb_plan.Parts.{cycle, is_arrow}
use Rattle.tsb_objects.specs.tsb_plan.Plan.{Plan, is_enabled, yellow_change, red_clear}
use Rattle.tsb_objects.specs.tsb_rules.Rules.{serves_pedestrians}
use Rattle.tsb_coord.specs.Coordinated.{force_off}
use Rattle.tsb_types.specs.declared.clock_time.TheConstants.{CLOCK_EPOCH}
use Rattle.tsb_coord.specs.Correction.{clocked}
use Rattle.tsb_phase.specs.Green.{gap, is_gapped, acting_maximum}
use Rattle.tsb_phase.specs.Pedestrian.{ended_by, walk_time, clearance_time}
use Rattle.tsb_phase.specs.Phase.{held_of}
use Rattle.tsb_preempt.specs.Service.{Service, has_entered}
use Rattle.tsb_ring.specs.Rings.{Ring, Ring1, Ring2}
use Rattle.tsb_transact.specs.declared.desk_state.DeskState.{DeskState}
use Rattle.tsb_step.specs.declared.status.RingPart.{RingPart}
use Rattle.tsb_step.specs.declared.status.RingPart.TheVariants as parts
use Rattle.tsb_step.specs.declared.status.PreemptState.{PreemptState}
use Rattle.tsb_step.specs.declared.status.PreemptState.TheVariants as preempt_states
use Rattle.tsb_step.specs.declared.status.FreeStatus.{FreeStatus}
use Rattle.tsb_step.specs.declared.status.FreeStatus.TheVariants.{NotFree, CommandFree, BadPlan}
use Rattle.tsb_step.specs.declared.status.FlashStatus.{FlashStatus}
use Rattle.tsb_step.specs.declared.status.FlashStatus.TheVariants.{NotFlash, Mmu}
use Rattle.tsb_step.specs.declared.waits.Wait.{Wait}
use Rattle.tsb_step.specs.Events.{view, shown_interval, shown_part, is_overlap}
use Rattle.tsb_step.specs.Signs.{display, local}
use Rattle.tsb_step.specs.State.{State, interval, pedestrian_part}
use Rattle.tsb_step.specs.Tick.{runs}
use Rattle.tsb_step.specs.Waits.{left, gap_left, phases_again, served, time_to_last, waits_for}

-- ## A ring

-- ringStatus, the phase in service and the commitment; and of that phase what is left of each time that runs
pub record RingStatus : Type 0 where
  pub part : RingPart
  -- the phase in service; the phase that the ring starts next
  pub phase : Option ℕ
  pub next : Option ℕ
  -- of a green: of its initial time; the gap in force, and what is left of it, all of it while an output is on; of its
  -- maximum, while one acts and there is a conflict
  pub initial_left : Option ℕ
  pub gap : Option ℕ
  pub gap_left : Option ℕ
  pub maximum_left : Option ℕ
  -- of its walk, of its pedestrian clearance
  pub walk_left : Option ℕ
  pub clearance_left : Option ℕ
  -- of its yellow change, of its red clearance
  pub yellow_left : Option ℕ
  pub red_clearance_left : Option ℕ
  -- of a green: until the local counter is at its force-off instant, 0 at the instant
  pub force_off_in : Option ℕ

-- the ring's phase in service; none in flash
abbrev pub serving : State → Ring → Option ℕ
serving s r = if is_some s.trip then None else served s r

-- a value of a phase, if there is one and it passes a test
abbrev pub where_is : (ℕ → Bool) → (ℕ → ℕ) → Option ℕ → Option ℕ
where_is test value None = None
where_is test value (Some p) = if test p then Some (value p) else None

-- and of a value that not each phase has
abbrev pub where_has : (ℕ → Bool) → (ℕ → Option ℕ) → Option ℕ → Option ℕ
where_has test value None = None
where_has test value (Some p) = if test p then value p else None

-- of its initial time, or the shorter one of a preempt that ends it
abbrev pub initial_left : State → ℕ → ℕ
initial_left s p = left (time_to_last s.plan (phases_again s) p (ended_by (phases_again s) p)) (s.phases p).timer

-- of its walk; 0 where it rests in walk
abbrev pub walk_left : State → ℕ → ℕ
walk_left s p = left (walk_time s.plan p (ended_by (phases_again s) p)) (s.phases p).pedestrian_timer

-- of its pedestrian clearance
abbrev pub clearance_left : State → ℕ → ℕ
clearance_left s p = left (clearance_time s.plan p (ended_by (phases_again s) p)) (s.phases p).pedestrian_timer

-- of the maximum that acts, since its conflict began; none where none acts
abbrev pub maximum_left : State → ℕ → Option ℕ
maximum_left s p =
    option_map (λ m. left m (s.phases p).conflict) (acting_maximum s.plan (runs s) p (s.phases p).running_maximum)

-- its gap has expired, or it has gapped out for as long as there is a conflict
abbrev pub has_gapped : State → ℕ → Bool
has_gapped s p = is_gapped s.plan (phases_again s) p (held_of (s.phases p))

-- its initial time, its walk or its pedestrian clearance is not over
abbrev pub times_minimum : State → ℕ → Bool
times_minimum s p =
    nat_lt 0 (initial_left s p) || (is_walk (pedestrian_part s p) && nat_lt 0 (walk_left s p)) || is_clearance (pedestrian_part s p)

-- the part of a green
abbrev pub green_part : State → ℕ → RingPart
green_part s p =
    if times_minimum s p then parts.MinimumGreen else
    (if not (has_gapped s p) then parts.Extension else
    (if is_on (s.phases p).conflict then parts.Maximum else parts.GreenRest))

-- the part of a phase in this interval
abbrev pub part_in : State → ℕ → Interval → RingPart
part_in s p Red = parts.RedRest
part_in s p Green = green_part s p
part_in s p Yellow = parts.YellowChange
part_in s p RedClear = parts.RedClearance

-- the part of a ring with this phase in service
abbrev pub part_of : State → Option ℕ → RingPart
part_of s None = parts.RedRest
part_of s (Some p) = part_in s p (interval s p)

-- from a place of the local counter until an instant, within the cycle: in its steps, which are ticks where it is in
-- step
abbrev pub until_instant : ℕ → ℕ → ℕ → ℕ
until_instant length now instant = (instant + length - now) % length

-- by the pattern that runs, its counter and the phase's force-off instant
abbrev pub force_off_from : Plan → Option ℕ → Option ℕ → Option ℕ → Option ℕ
force_off_from plan None now instant = None
force_off_from plan (Some n) None instant = None
force_off_from plan (Some n) (Some now) None = None
force_off_from plan (Some n) (Some now) (Some instant) = Some (until_instant (cycle plan n) now instant)

-- of a Green phase
abbrev pub force_off_of : State → Option ℕ → Option ℕ
force_off_of s None = None
force_off_of s (Some p) =
    if is_green (interval s p) then force_off_from s.plan (runs s) (local s) (force_off s.plan (runs s) p) else None

-- a ring with this phase in service
abbrev pub ring_with : State → Ring → Option ℕ → RingStatus
ring_with s r o = record {
  part = part_of s o;
  phase = o;
  next = s.rings.commitment r;
  initial_left = where_is (λ p. is_green (interval s p)) (initial_left s) o;
  gap = where_is (λ p. is_green (interval s p)) (λ p. gap s.plan p (s.phases p).reduction) o;
  gap_left = where_is (λ p. is_green (interval s p)) (λ p. gap_left s.plan p (s.phases p)) o;
  maximum_left = where_has (λ p. is_green (interval s p) && is_on (s.phases p).conflict) (maximum_left s) o;
  walk_left = where_is (λ p. is_walk (pedestrian_part s p)) (walk_left s) o;
  clearance_left = where_is (λ p. is_clearance (pedestrian_part s p)) (clearance_left s) o;
  yellow_left = where_is (λ p. is_yellow (interval s p)) (λ p. left (yellow_change s.plan p) (s.phases p).timer) o;
  red_clearance_left = where_is (λ p. is_red_clear (interval s p)) (λ p. left (red_clear s.plan p) (s.phases p).timer) o;
  force_off_in = force_off_of s o;
}

-- ## Everything

-- sets are of phases, overlaps, vehicle detectors and preempts by their numbers
pub record Status : Type 0 where
  -- the tick number
  pub now : ℕ
  -- phaseStatusGroup: Reds, Yellows, Greens, DontWalks, PedClears, Walks, VehCalls, PedCalls, PhaseOns, PhaseNexts
  pub reds : ℕ → Bool
  pub yellows : ℕ → Bool
  pub greens : ℕ → Bool
  pub dont_walks : ℕ → Bool
  pub pedestrian_clears : ℕ → Bool
  pub walks : ℕ → Bool
  pub vehicle_calls : ℕ → Bool
  pub pedestrian_calls : ℕ → Bool
  pub phase_ons : ℕ → Bool
  pub phase_nexts : ℕ → Bool
  -- overlapStatusGroup: Reds, Yellows, Greens; and the arrows that flash yellow, where the plan has an arrow
  pub overlap_reds : ℕ → Bool
  pub overlap_yellows : ℕ → Bool
  pub overlap_greens : ℕ → Bool
  pub overlap_arrows : Option (ℕ → Bool)
  -- vehicleDetectorStatusGroup: Active, Alarms
  pub active : ℕ → Bool
  pub alarms : ℕ → Bool
  -- preemptState
  pub preempt : ℕ → PreemptState
  -- coordPatternStatus; localFreeStatus; the local counter and coordSyncStatus, of the pattern that runs
  pub pattern : ℕ
  pub free : FreeStatus
  pub local : Option ℕ
  pub sync : Option ℕ
  -- globalTime, by the clock, where one is set
  pub time : Option ℕ
  -- unitFlashStatus
  pub flash : FlashStatus
  -- the desk: its owner, and how far its transaction is (NTCIP 1201, dbCreateTransaction)
  pub owner : Option ℕ
  pub desk : DeskState
  -- ringStatus
  pub ring : Ring → RingStatus
  -- what each phase waits for that is called and not Green
  pub wait : ℕ → Option Wait

-- of a moment: seconds since 1970-01-01 00:00 of the clock, which has no zone. Moments are counted from 1999-12-24
abbrev pub global_time : ℕ → ℕ
global_time m = CLOCK_EPOCH + m / 10

-- an enabled phase, red or in red clearance, and so also in flash
abbrev pub is_red : State → ℕ → Bool
is_red s p = is_enabled s.plan p && not (is_green (shown_interval s p) || is_yellow (shown_interval s p))

-- an enabled phase with a walk that neither walks nor clears
abbrev pub is_held : State → ℕ → Bool
is_held s p = serves_pedestrians s.plan p && is_dont_walk (shown_part s p)

-- a head that is dark shows nothing
abbrev pub is_red_head : Aspect → Bool
is_red_head aspects.Dark = false
is_red_head aspects.Red = true
is_red_head aspects.Yellow = false
is_red_head aspects.Green = false
is_red_head aspects.FlashingRed = true
is_red_head aspects.FlashingYellow = false

-- some overlap is an arrow
abbrev pub has_arrows : Plan → Bool
has_arrows plan = list_any (is_arrow plan) (run_from 1 plan.counts.overlaps)

-- some ring starts it next
abbrev pub is_next : State → ℕ → Bool
is_next s p = is p (s.rings.commitment Ring1) || is p (s.rings.commitment Ring2)

-- a stage in service; of the one in which service began, whether its phases were all Green
abbrev pub state_in : Bool → Stage → PreemptState
state_in entered stages.Track = if entered then preempt_states.TrackService else preempt_states.EntryStarted
state_in entered stages.Dwell = if entered then preempt_states.Dwell else preempt_states.EntryStarted
state_in entered stages.Exit = preempt_states.ExitStarted

-- a preempt that is not in service: spent by its maximum presence, or else with its input or its switch on or off
abbrev pub idle_state : Bool → Bool → PreemptState
idle_state spent called =
    if spent then preempt_states.MaxPresence
    else (if called then preempt_states.NotActiveWithCall else preempt_states.NotActive)

-- its input was on in the last tick, or its switch is on
abbrev pub is_called : State → ℕ → Bool
is_called s n = is_on (s.preempts.delay n) || s.preempts.switch n

-- preempt n, where this service goes on, if one does
abbrev pub preempt_state : State → Option Service → ℕ → PreemptState
preempt_state s None n = idle_state (s.preempts.spent n) (is_called s n)
preempt_state s (Some x) n =
    if x.preempt == n then state_in (has_entered s.plan (interval s) x) x.stage
    else idle_state (s.preempts.spent n) (is_called s n)

-- by the pattern that runs and the one that is selected
abbrev pub free_status : Option ℕ → Option ℕ → FreeStatus
free_status (Some n) selected = NotFree
free_status None None = CommandFree
free_status None (Some n) = BadPlan

-- the status
unfoldable pub status : State → Status
status s = record {
  now = s.now;
  reds = is_red s;
  yellows = (view s).yellows;
  greens = (view s).greens;
  dont_walks = is_held s;
  pedestrian_clears = (view s).clearances;
  walks = (view s).walks;
  vehicle_calls = (view s).vehicle_calls;
  pedestrian_calls = (view s).pedestrian_calls;
  phase_ons = λ p. in_service (shown_interval s p);
  phase_nexts = is_next s;
  overlap_reds = λ o. is_overlap o && is_red_head ((display s).overlap o);
  overlap_yellows = (view s).overlap_yellows;
  overlap_greens = (view s).overlap_greens;
  overlap_arrows = if has_arrows s.plan then Some (view s).overlap_arrows else None;
  active = λ d. (s.detectors d).output;
  alarms = (view s).alarms;
  preempt = preempt_state s s.preempts.service;
  pattern = or_number (runs s) FREE;
  free = free_status (runs s) s.pattern;
  local = local s;
  sync = option_map (λ n. clocked s.plan s.pattern s.correction s.now % cycle s.plan n) (runs s);
  time = option_map (λ m. global_time (m + s.now)) s.start_moment;
  flash = if is_some s.trip then Mmu else NotFlash;
  owner = s.desk.owner;
  desk = s.desk.state;
  ring = λ r. ring_with s r (serving s r);
  wait = waits_for s;
}
