-- All rows of the bench side by side, and the state that is read in them; and laws of records over them, each the
-- contract of a function in src/laws.rt that does nothing.
use Rattle.std.specs.Prelude.{◌≡◌, ℕ, ◌-◌, ◌≤◌, List, [], ◌++◌, length}
use Rattle.tsb_cells.specs.Diff.{diff, apply_diff, part, shifted, AreWithin}
use Rattle.tsb_history.specs.History.{Change}
use Rattle.tsb_step.specs.tsb_plan.declared.object.TheConstants.{PLAN_CELLS}
use Rattle.tsb_step.specs.tsb_plan.PlanOf.{plan_in}
use Rattle.tsb_transact.specs.Cells as desk
use Rattle.tsb_transact.specs.Cells.{desk_in}
use Rattle.tsb_transact.specs.declared.TheConstants.{CELLS as DESK_CELLS}
use Rattle.tsb_detect.specs.declared.TheConstants.{CELLS as DETECTOR_CELLS}
use Rattle.tsb_calls.specs.declared.TheConstants.{CELLS as CALL_CELLS}
use Rattle.tsb_phase.specs.declared.TheConstants.{CELLS as PHASE_CELLS}
use Rattle.tsb_ring.specs.declared.TheConstants.{CELLS as RING_CELLS}
use Rattle.tsb_coord.specs.declared.TheConstants.{CELLS as PATTERN_CELLS}
use Rattle.tsb_preempt.specs.declared.TheConstants.{CELLS as PREEMPT_CELLS}
use Rattle.tsb_overlap.specs.declared.TheConstants.{CELLS as OVERLAP_CELLS}
use Rattle.tsb_step.specs.declared.TheConstants.{MONITOR_CELLS}
use Rattle.tsb_step.specs.declared.inputs.Input.{Input}
use Rattle.tsb_step.specs.Cells.{cells_of, clock_at}
use Rattle.tsb_step.specs.MonitorCells.{lamp_in, trip_in}
use Rattle.tsb_step.specs.MonitorLaws.{IsMonitorBy}
use Rattle.tsb_step.specs.Past.{record_of, undone, ticks_of}
use Rattle.tsb_step.specs.State.{State}
use Rattle.tsb_step.specs.Step.{kind_of}
use Rattle.tsb_step.specs.declared.first_cell.TheConstants.{DESK, MONITOR, ALL_CELLS}
use Rattle.tsb_controller.specs.Records.{changes, put_back, HasFew}
use Rattle.tsb_controller.specs.Rows.{Rows, AreBy, state_of}

-- the cells of the bench: those of the plan, of the desk, of the seven layers, and of the trip with the injected lamp
pub record All : Type 0 where
  pub plan : List ℕ
  pub desk : List ℕ
  pub layers : Rows
  pub monitor : List ℕ

-- all of these in one row, in this order
abbrev pub whole : All → List ℕ
whole a =
    a.plan ++ (a.desk ++ (a.layers.detectors ++ (a.layers.calls ++ (a.layers.phases ++ (a.layers.rings ++
    (a.layers.pattern ++ (a.layers.preempts ++ (a.layers.overlaps ++ a.monitor))))))))

-- each row has as many cells as it should
pub record AreFull (a : All) : Type 0 where
  pub plan : length a.plan ≡ PLAN_CELLS
  pub desk : length a.desk ≡ DESK_CELLS
  pub detectors : length a.layers.detectors ≡ DETECTOR_CELLS
  pub calls : length a.layers.calls ≡ CALL_CELLS
  pub phases : length a.layers.phases ≡ PHASE_CELLS
  pub rings : length a.layers.rings ≡ RING_CELLS
  pub pattern : length a.layers.pattern ≡ PATTERN_CELLS
  pub preempts : length a.layers.preempts ≡ PREEMPT_CELLS
  pub overlaps : length a.layers.overlaps ≡ OVERLAP_CELLS
  pub monitor : length a.monitor ≡ MONITOR_CELLS

-- the state in them at tick number `now`
abbrev pub all_in : ℕ → All → State
all_in now a = state_of now (record { plan = plan_in a.plan; desk = desk_in a.desk; lamp = lamp_in a.monitor; trip = trip_in a.monitor }) a.layers

-- rows that the bench can hold at tick number `now`; in a controller that has tripped timers are read at the tick of
-- the trip
pub record AreAllBy (now : ℕ) (a : All) : Type 0 where
  pub plan : length a.plan ≡ PLAN_CELLS
  pub desk : desk.IsBy a.desk
  pub layers : AreBy (clock_at now (trip_in a.monitor)) a.layers
  pub monitor : IsMonitorBy now a.monitor

-- the cells that differ, each by its number among all, with what it held before
abbrev pub all_changes : All → All → List (ℕ × ℕ)
all_changes old new =
    diff old.plan new.plan ++ (shifted DESK (diff old.desk new.desk) ++ (changes old.layers new.layers ++ shifted MONITOR (diff old.monitor new.monitor)))

-- the rows with what a record says put back
abbrev pub all_put_back : All → List (ℕ × ℕ) → All
all_put_back a es = record {
  plan = apply_diff a.plan (part 0 PLAN_CELLS es);
  desk = apply_diff a.desk (part DESK DESK_CELLS es);
  layers = put_back a.layers es;
  monitor = apply_diff a.monitor (part MONITOR MONITOR_CELLS es);
}

-- ## Laws

-- the cells of the state in rows are these rows
abbrev pub RowsAreTold : Type 0
RowsAreTold = (now : ℕ) (a : All) → AreAllBy now a → cells_of (all_in now a) ≡ whole a

-- so the record of an input is what differs in each
abbrev pub RecordsAreJoined : Type 0
RecordsAreJoined = (i : Input) (m n : ℕ) (old new : All) → AreAllBy m old → AreAllBy n new →
    record_of i (all_in m old) (all_in n new) ≡ record { kind = kind_of i; entries = all_changes old new }

-- and a record takes each row back by its own part
abbrev pub RecordsGoBack : Type 0
RecordsGoBack = (r : Change) (now : ℕ) (a : All) → AreAllBy now a → AreWithin ALL_CELLS r.entries →
    undone r (all_in now a) ≡ all_in (now - ticks_of r.kind) (all_put_back a r.entries)

-- so the record of an input gives back the state before it
abbrev pub RecordsGiveBack : Type 0
RecordsGiveBack = (i : Input) (m n : ℕ) (old new : All) → AreAllBy m old → AreAllBy n new → n - ticks_of (kind_of i) ≡ m →
    undone (record_of i (all_in m old) (all_in n new)) (all_in n new) ≡ all_in m old

-- and no record has more entries of any cells than there are of these, as the way back of the desk asks
abbrev pub RecordsAreFew : Type 0
RecordsAreFew = (i : Input) (before after : State) → HasFew (record_of i before after).entries

-- ## Laws of the cells that differ

-- put back into the rows after a change, they give the rows before it
abbrev pub RowsGoBack : Type 0
RowsGoBack = (m n : ℕ) (old new : All) → AreAllBy m old → AreAllBy n new → all_put_back new (all_changes old new) ≡ old

-- each has one of the numbers of cells
abbrev pub EntriesAreWithin : Type 0
EntriesAreWithin = (m n : ℕ) (old new : All) → AreAllBy m old → AreAllBy n new → AreWithin ALL_CELLS (all_changes old new)

-- and there are no more of them among any cells than there are of these
abbrev pub ChangesAreFew : Type 0
ChangesAreFew = (m n : ℕ) (old new : All) → AreAllBy m old → AreAllBy n new → HasFew (all_changes old new)

-- rows of the layers that can be at a tick can be at each later one
abbrev pub RowsStay : Type 0
RowsStay = (m n : ℕ) (r : Rows) → m ≤ n → AreBy m r → AreBy n r

-- where nothing changed nothing differs
abbrev pub NothingDiffers : Type 0
NothingDiffers = (a : All) → all_changes a a ≡ []

-- where plan and desk stayed, as in a tick
abbrev pub ChangesOfTheLayers : Type 0
ChangesOfTheLayers = (a b : All) → a.plan ≡ b.plan → a.desk ≡ b.desk →
    all_changes a b ≡ changes a.layers b.layers ++ shifted MONITOR (diff a.monitor b.monitor)

-- where only the desk changed, as where a station edits
abbrev pub ChangesOfTheDesk : Type 0
ChangesOfTheDesk = (a b : All) → a.plan ≡ b.plan → a.layers ≡ b.layers → a.monitor ≡ b.monitor →
    all_changes a b ≡ shifted DESK (diff a.desk b.desk)

-- where the monitor stayed, as in a commit
abbrev pub ChangesOfACommit : Type 0
ChangesOfACommit = (a b : All) → a.monitor ≡ b.monitor →
    all_changes a b ≡ diff a.plan b.plan ++ (shifted DESK (diff a.desk b.desk) ++ changes a.layers b.layers)
