-- The step of a controller that has no options, and its runs. A tick is joined as in Tick of tsb_step, of the parts
-- without options. Force-offs come at their instants alone, and the local counter is always in step. No phase walks again
-- within its green, and no maximum is dynamic. Each overlap is a normal one: none is an arrow, and none trails or holds a
-- phase. No ring gives up what it is committed to.
--
-- State, inputs, desk and refusals are those of the controller. What the state has of options is as it was at power-up,
-- and nothing here reads it: how the local counter comes into step, the running maximum and the last ending of each
-- phase, and the intervals of overlaps; nor the arrows that an input omits. Nor does anything here read `recycle` and
-- `walks`, which phase timing and calls are given.
use Rattle.std.specs.Prelude.{ℕ, ◌+◌, Bool, false, if◌then◌else◌, List, [], ◌∷◌, Option, Some, is_some, option_map}
use Rattle.tsb_step.specs.tsb_types.declared.lamp.Lamp.{Lamp}
use Rattle.tsb_step.specs.tsb_types.declared.flow.Moves.{Moves}
use Rattle.tsb_step.specs.tsb_types.declared.row.Row.{Row}
use Rattle.tsb_step.specs.tsb_types.Clip.{clipped, within}
use Rattle.tsb_step.specs.tsb_plan.Plan.{Plan}
use Rattle.tsb_step.specs.tsb_plan.Running.{running}
use Rattle.tsb_step.specs.tsb_rules.declared.rules.Rule.{Rule}
use Rattle.tsb_step.specs.tsb_calls.Memories as calls
use Rattle.tsb_step.specs.tsb_calls.Settled as settled
use Rattle.tsb_step.specs.tsb_phase.Phase as phase
use Rattle.tsb_step.specs.tsb_phase.Moves.{unforced}
use Rattle.tsb_step.specs.tsb_phase.Ready as timing
use Rattle.tsb_step.specs.tsb_ring.Rings as rings
use Rattle.tsb_step.specs.tsb_ring.Rings.{number}
use Rattle.tsb_step.specs.tsb_ring.Moves as ring_moves
use Rattle.tsb_step.specs.tsb_ring.Next as rings_next
use Rattle.tsb_step.specs.tsb_coord.Clock.{midnight_at, start_of}
use Rattle.tsb_step.specs.tsb_coord.Coordinated as coordination
use Rattle.tsb_step.specs.tsb_coord.Coordinated.{agree, force_off}
use Rattle.tsb_step.specs.tsb_coord.Correction.{clocked}
use Rattle.tsb_step.specs.tsb_preempt.Preempts as preempts
use Rattle.tsb_step.specs.tsb_heads.Heads.{Heads}
use Rattle.tsb_step.specs.tsb_heads.Displays.{flashing, laid_over}
use Rattle.tsb_step.specs.tsb_transact.Calls as desk
use Rattle.tsb_step.specs.tsb_transact.Desk.{Desk, with_edits}
use Rattle.tsb_step.specs.declared.inputs.Input.{Input}
use Rattle.tsb_step.specs.declared.inputs.Input.TheVariants.{Tick, Pattern, Switch, Fault, Reset, Begin, Set, Verify, Commit, Abort, Clock, Omit}
use Rattle.tsb_step.specs.State.{State, start, interval}
use Rattle.tsb_step.specs.Signs.{shown}
use Rattle.tsb_step.specs.Step.{with_switch, with_omitted, reset, with_desk, committed}
use Rattle.tsb_step.specs.Tick as tick
use Rattle.tsb_laws.specs.Options.{in_step_with}
use Rattle.tsb_laws.specs.PlainParts as plain

-- ## A tick

-- the local counter in tick t, of the state's pattern
abbrev pub local_at : State → ℕ → Option ℕ
local_at s t = plain.local s.plan (clocked s.plan s.pattern s.correction t) s.pattern

-- the phase is forced off in this tick: the local counter, which is in step, is at its force-off instant
abbrev pub forced : State → ℕ → Bool
forced s p = agree (local_at s (s.now + 1)) (force_off s.plan (running s.plan s.pattern) p)

-- what phase timing is given
unfoldable pub phases_given : State → Row → phase.Given
phases_given s row = record {
  output = clipped (calls.has_output s.plan (tick.calls_given s row));
  conflict = clipped (tick.conflict s row);
  callable = clipped (tick.callable s row);
  pedestrian_call = clipped (tick.pedestrian_call s row);
  count = within 0 (tick.set s row).count;
  runs = tick.runs s;
  service = tick.service s row;
  hold = clipped (tick.hold s);
  must_end = clipped (tick.must_end s row);
  forced = clipped (forced s);
  recycle = λ p. false;
}

-- it was Green and its green may end
abbrev pub ready : State → Row → ℕ → Bool
ready s row p = plain.is_ready s.plan (phases_given s row) p (tick.phase_read s p)

-- it was Green and has gapped out
abbrev pub gapped : State → Row → ℕ → Bool
gapped s row p = timing.is_gapped_now s.plan (phases_given s row) p (tick.phase_read s p)

-- what the rings decide from
unfoldable pub rings_given : State → Row → rings.Given
rings_given s row = record {
  interval = interval s;
  sequence = λ r. coordination.serving_order s.plan s.pattern (number r);
  callable = clipped (tick.callable s row);
  omitted = clipped (tick.omitted s);
  ready = clipped (ready s row);
  over = clipped (tick.over s);
  reverted = clipped (tick.reverted s);
  target = tick.target s row;
}

-- what each ring ends, clears, starts and commits to
unfoldable pub moves : State → Row → Moves
moves s row = ring_moves.moves s.plan s.rings (rings_given s row)

-- the same of each phase
abbrev pub moved : State → Row → phase.Moved
moved s row = record {
  ends = ring_moves.is_ended (moves s row);
  clears = ring_moves.is_cleared (moves s row);
  starts = ring_moves.is_started (moves s row);
}

-- the same as the calls are given it
abbrev pub done : State → Row → settled.Done
done s row = record {
  starts = ring_moves.is_started (moves s row);
  ends = ring_moves.is_ended (moves s row);
  gapped = clipped (gapped s row);
  walks = λ p. false;
  service = tick.service s row;
}

-- the new state of a controller that has not tripped, before the monitor judges it
abbrev pub next : State → Row → State
next s row = record {
  now = s.now + 1;
  plan = s.plan;
  desk = s.desk;
  pattern = s.pattern;
  correction = s.correction;
  start_moment = s.start_moment;
  detectors = tick.new_detectors s row;
  memories = plain.memories_after s.plan (tick.calls_given s row) (done s row) s.memories;
  phases = λ p. plain.next s.plan (phases_given s row) (moved s row) p (s.phases p);
  rings = rings_next.next s.plan s.rings (rings_given s row);
  preempts = preempts.next s.plan (tick.preempts_given s row) s.preempts;
  overlaps = s.overlaps;
  omitted = s.omitted;
  lamp = s.lamp;
  trip = s.trip;
}

-- ## What it shows, and the monitor

-- the display
unfoldable pub display : State → Heads
display s = if is_some s.trip then flashing (plain.ordered s.plan (shown s)) else plain.ordered s.plan (shown s)

-- the field of a controller that has not tripped
unfoldable pub field : State → Heads
field s = laid_over s.lamp (plain.ordered s.plan (shown s))

-- the local counter of the pattern that runs
abbrev pub local : State → Option ℕ
local s = local_at s s.now

-- the monitor compares the fields before and after
unfoldable pub watched : State → State → State
watched before after = record after {
  trip = option_map (λ cause. record { cause = cause; tick = after.now })
      (plain.judge after.plan (field before) (field after));
}

-- ## Each input

-- a tick; that of a controller that has tripped changes the tick number alone
abbrev pub ticked : Row → State → State
ticked row s = if is_some s.trip then record s { now = s.now + 1 } else watched s (next s row)

-- a selected pattern takes every forced latch back, and its local counter is in step
abbrev pub with_pattern : ℕ → State → State
with_pattern n s = record s {
  pattern = coordination.selects n;
  correction = in_step_with (coordination.selects n) (midnight_at s.start_moment s.now);
  phases = λ p. unforced (s.phases p);
}

-- the local counter is in step with the midnight at or before the moment that the clock is set to
abbrev pub with_clock : ℕ → State → State
with_clock m s = record s {
  correction = in_step_with s.pattern (midnight_at (Some (start_of m s.now)) s.now);
  start_moment = Some (start_of m s.now);
}

-- the lamp that a fault lights, or none
abbrev pub with_lamp : Option Lamp → State → State
with_lamp lamp s = if is_some s.trip then record s { lamp = lamp } else watched s (record s { lamp = lamp })

-- what the check finds against the plan with the edits
abbrev pub found : Plan → Desk → Option Rule
found plan d = plain.first_broken (with_edits plan d.edits)

-- the state after an input
unfoldable pub step : State → Input → State
step s (Tick row) = ticked row s
step s (Pattern n) = with_pattern n s
step s (Switch n on) = with_switch n on s
step s (Fault lamp) = with_lamp lamp s
step s Reset = reset s
step s (Begin station) = with_desk (desk.begun station) s
step s (Set station id v) = with_desk (desk.with_set id v s.desk) s
step s (Verify station) = with_desk (desk.after_check (found s.plan s.desk) s.desk) s
step s (Commit station) = committed s
step s (Abort station) = with_desk desk.after_abort s
step s (Clock m) = with_clock m s
step s (Omit list) = with_omitted list s

-- ## Runs

-- the state after a list of inputs, the newest first, from power-up with a plan
abbrev pub replay : Plan → List Input → State
replay plan [] = start plan
replay plan (i ∷ is) = step (replay plan is) i
