-- What each input makes of the controller, and why an input is refused.
use Rattle.std.specs.Prelude.{ℕ, ◌+◌, nat_lt, Bool, Option, Some, None, is_some, if◌then◌else◌}
use Rattle.tsb_machine.specs.tsb_history.declared.kinds.Kind.{Kind}
use Rattle.tsb_machine.specs.tsb_history.declared.kinds.Kind.TheVariants as kinds
use Rattle.tsb_types.specs.declared.lamp.Lamp.{Lamp}
use Rattle.tsb_types.specs.declared.limits.TheConstants.{TICKS}
use Rattle.tsb_types.specs.declared.refusal.Refusal.{Refusal}
use Rattle.tsb_types.specs.declared.refusal.Refusal.TheVariants.{TickLimit, TooManyEdits, OutOfRange}
use Rattle.tsb_types.specs.declared.row.Row.{Row}
use Rattle.tsb_types.specs.Sets.{names}
use Rattle.tsb_objects.specs.tsb_plan.declared.object.ObjectId.{ObjectId}
use Rattle.tsb_objects.specs.tsb_plan.Plan.{Plan}
use Rattle.tsb_objects.specs.tsb_rules.declared.rules.Rule.{Rule}
use Rattle.tsb_objects.specs.tsb_rules.Rules.{first_broken}
use Rattle.tsb_phase.specs.Moves.{unforced}
use Rattle.tsb_ring.specs.Rings as rings
use Rattle.tsb_coord.specs.Coordinated as coordination
use Rattle.tsb_coord.specs.Clock.{midnight_at, start_of}
use Rattle.tsb_coord.specs.Correction.{selected_correction}
use Rattle.tsb_preempt.specs.Preempts as preempts
use Rattle.tsb_transact.specs.Desk.{Desk, with_edits}
use Rattle.tsb_transact.specs.Commit as commit
use Rattle.tsb_transact.specs.Calls as desk
use Rattle.tsb_step.specs.declared.inputs.Input.{Input}
use Rattle.tsb_step.specs.declared.inputs.Input.TheVariants.{Tick, Pattern, Switch, Fault, Reset, Begin, Set, Verify, Commit, Abort, Clock, Omit}
use Rattle.tsb_step.specs.State.{State, interval, restarted}
use Rattle.tsb_step.specs.Tick as tick
use Rattle.tsb_step.specs.Signs.{commitment, local, unless_tripped}
use Rattle.tsb_step.specs.Tables.{place_refusal}

-- ## What each input does

-- a tick; that of a controller that has tripped changes the tick number alone
abbrev pub ticked : Row → State → State
ticked row s = if is_some s.trip then record s { now = s.now + 1 } else unless_tripped s (tick.next s row)

-- a selected pattern takes every forced latch back; its local counter goes on from that of the old one, or is in step
abbrev pub with_pattern : ℕ → State → State
with_pattern n s = record s {
  pattern = coordination.selects n;
  correction = selected_correction s.plan (coordination.selects n) s.now (midnight_at s.start_moment s.now) (local s);
  phases = λ p. unforced (s.phases p);
}

-- tick number `now` is at moment m. The pattern stays selected, and its local counter comes into step with the midnight at
-- or before m, as where it is selected
abbrev pub with_clock : ℕ → State → State
with_clock m s = record s {
  correction = selected_correction s.plan s.pattern s.now (midnight_at (Some (start_of m s.now)) s.now) (local s);
  start_moment = Some (start_of m s.now);
}

-- the arrows of this list flash no more from the next tick on, and others may
abbrev pub with_omitted : ℕ → State → State
with_omitted list s = record s { omitted = names list }

-- the switch of preempt n is set; while it is on, so is the input of the preempt
abbrev pub with_switch : ℕ → Bool → State → State
with_switch n on s = record s { preempts = preempts.with_switch n on s.preempts }

-- the lamp that a fault lights, or none; the monitor judges the field with it at once
abbrev pub with_lamp : Option Lamp → State → State
with_lamp lamp s = unless_tripped s (record s { lamp = lamp })

-- a controller that has tripped starts anew; any other stays as it is
abbrev pub reset : State → State
reset s = if is_some s.trip then restarted s else s

-- what begin, set, verify and abort do: they change the desk alone
abbrev pub with_desk : Desk → State → State
with_desk d s = record s { desk = d }

-- what the check finds against the plan with the edits: the first rule that it breaks
abbrev pub found : Plan → Desk → Option Rule
found plan d = first_broken (with_edits plan d.edits)

-- a commit of the structure makes the rings forget the phases that they started last
abbrev pub rings_after : State → rings.State
rings_after s = if commit.forgets_last_phases s.plan s.desk.edits then rings.forgotten s.rings else s.rings

-- a commit puts all edits into effect at once and closes the desk, whichever station makes it
abbrev pub committed : State → State
committed s = record s {
  plan = desk.committed_plan s.plan s.desk;
  desk = desk.after_commit;
  rings = rings_after s;
}

-- the state after an input
unfoldable pub step : State → Input → State
step s (Tick row) = ticked row s
step s (Pattern n) = with_pattern n s
step s (Switch n on) = with_switch n on s
step s (Fault lamp) = with_lamp lamp s
step s Reset = reset s
step s (Begin station) = with_desk (desk.begun station) s
step s (Set station id v) = with_desk (desk.with_set id v s.desk) s
step s (Verify station) = with_desk (desk.after_check (found s.plan s.desk) s.desk) s
step s (Commit station) = committed s
step s (Abort station) = with_desk desk.after_abort s
step s (Clock m) = with_clock m s
step s (Omit list) = with_omitted list s

-- ## Why an input is refused

-- E11: there is no tick after this one
abbrev pub last_tick : ℕ
last_tick = TICKS

-- E3: a list names overlaps 1 to 16
abbrev pub omit_refusal : ℕ → Option Refusal
omit_refusal list = if nat_lt list 65536 then None else Some OutOfRange

-- E6 where no station owns the desk, E5 where another does; E2 for the object or the index, E3 for the value; E8 for an
-- edit of a further object where there are 64
abbrev pub set_refusal : State → ℕ → ObjectId → ℕ → Option Refusal
set_refusal s station id v =
    desk.or_refusal (desk.stranger_refusal station s.desk.owner)
    (desk.or_refusal (place_refusal s.plan id v)
    (desk.refused_if (desk.has_no_room id s.desk.edits) TooManyEdits))

-- the rings serve: a phase is in service, or there is a commitment or a crossing
abbrev pub is_serving : State → Bool
is_serving s = commit.serves s.plan (interval s) (commitment s) s.rings.crossing

-- the refusal of an input, if it is refused for another cause than memory: the first that applies
unfoldable pub verdict : State → Input → Option Refusal
verdict s (Tick row) = if nat_lt s.now last_tick then None else Some TickLimit
verdict s (Pattern n) = coordination.refusal s.plan n
verdict s (Switch n on) = preempts.switch_refusal s.plan n on
verdict s (Fault lamp) = None
verdict s Reset = None
verdict s (Begin station) = desk.begin_refusal s.desk
verdict s (Set station id v) = set_refusal s station id v
verdict s (Verify station) = desk.verify_refusal station s.desk
verdict s (Commit station) = desk.commit_refusal s.plan station (is_serving s) (is_some s.preempts.service) s.desk
verdict s (Abort station) = desk.abort_refusal station s.desk
verdict s (Clock m) = None
verdict s (Omit list) = omit_refusal list

-- ## Kinds

-- what the record of an input keeps of it: its kind, with no number, value or station
abbrev pub kind_of : Input → Kind
kind_of (Tick row) = kinds.Tick
kind_of (Pattern n) = kinds.Pattern
kind_of (Switch n on) = kinds.Switch
kind_of (Fault lamp) = kinds.Fault
kind_of Reset = kinds.Reset
kind_of (Begin station) = kinds.Begin
kind_of (Set station id v) = kinds.Set
kind_of (Verify station) = kinds.Verify
kind_of (Commit station) = kinds.Commit
kind_of (Abort station) = kinds.Abort
kind_of (Clock m) = kinds.Clock
kind_of (Omit list) = kinds.Omit
