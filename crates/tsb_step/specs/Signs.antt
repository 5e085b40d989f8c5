-- What the controller shows: its display, the field with a lamp that a fault has lit, the local counter and the stage
-- of a preempt; when a display is safe; and the monitor, which judges the field.
use Rattle.std.specs.Prelude.{◌≡◌, ℕ, Bool, true, Option, is_some, option_map, if◌then◌else◌}
use Rattle.tsb_types.specs.declared.stage.Stage.{Stage}
use Rattle.tsb_heads.specs.Heads.{Shown, Heads}
use Rattle.tsb_objects.specs.tsb_plan.Parts.{is_anew}
use Rattle.tsb_heads.specs.Displays as heads
use Rattle.tsb_heads.specs.Monitoring as monitor
use Rattle.tsb_heads.specs.Overlaps.{some_lasts}
use Rattle.tsb_heads.specs.Reading.{commitment_of}
use Rattle.tsb_overlap.specs.Overlap.{light}
use Rattle.tsb_ring.specs.Rings.{Ring1, Ring2}
use Rattle.tsb_coord.specs.Correction.{local_now, is_in_step}
use Rattle.tsb_preempt.specs.Promises.{stage_of}
use Rattle.tsb_step.specs.State.{State, interval, pedestrian_part}

-- the commitment of ring 1 and of ring 2
abbrev pub commitment : State → ℕ → Option ℕ
commitment s = commitment_of (s.rings.commitment Ring1) (s.rings.commitment Ring2)

-- what displays are found from, beside the plan
abbrev pub shown : State → Shown
shown s = record {
  interval = interval s;
  pedestrian = pedestrian_part s;
  commitment = commitment s;
  light = λ o. light (s.overlaps o).interval;
  tripped = is_some s.trip;
}

-- the display: a function of the state alone
unfoldable pub display : State → Heads
display s = heads.display s.plan (shown s)

-- the display is safe in the plan in effect: any two phases with right of way are equal or concurrent
abbrev pub IsSafe : State → Type 0
IsSafe s = monitor.IsSafe s.plan (display s)

-- the local counter of the pattern that runs, which goes on also while the controller is tripped
abbrev pub local : State → Option ℕ
local s = local_now s.plan s.pattern s.correction s.now

-- the local counter is in step with the cycle and the offset: in free operation, and by correction mode 0, it always is
abbrev pub IsInStep : State → Type 0
IsInStep s = is_in_step s.plan s.pattern s.correction s.now ≡ true

-- the preempt in service and its stage
abbrev pub stage : State → Option (ℕ × Stage)
stage s = stage_of s.preempts.service

-- the preempt in service chooses anew
abbrev pub is_choosing : State → Bool
is_choosing s = is_anew s.plan (option_map (λ x. x.preempt) s.preempts.service)

-- an overlap lasts through a clearance by a commitment, so that none is given up
abbrev pub is_lasting : State → Bool
is_lasting s = some_lasts s.plan (shown s)

-- ## The monitor

-- the field of a controller that has not tripped
unfoldable pub field : State → Heads
field s = heads.field s.plan (shown s) s.lamp

-- the monitor compares the fields before and after, and trips the controller at the tick number in force
unfoldable pub watched : State → State → State
watched before after = record after {
  trip = option_map (λ cause. record { cause = cause; tick = after.now })
      (monitor.judge after.plan (field before) (field after));
}

-- a controller that has tripped is not judged again
abbrev pub unless_tripped : State → State → State
unless_tripped before after = if is_some before.trip then after else watched before after
