-- What holds of the cells and the records of every run, as statements. All are proved, each as the contract of a
-- function that does nothing (src/way_back.rt).
use Rattle.std.specs.Prelude.{◌≡◌, ◌↔◌, ℕ, ◌≤◌, List, length, drop}
use Rattle.tsb_step.specs.tsb_types.declared.row.Row.{Row}
use Rattle.tsb_step.specs.tsb_plan.Plan.{Plan}
use Rattle.tsb_step.specs.tsb_objects.declared.checked.Checked.{Checked}
use Rattle.tsb_step.specs.tsb_objects.Checked.{checked_plan}
use Rattle.tsb_step.specs.tsb_machine.Laws.{GiveBack}
use Rattle.tsb_step.specs.tsb_machine.Past.{after}
use Rattle.tsb_controller.specs.Whole.{All, AreAllBy, all_in}
use Rattle.tsb_step.specs.declared.inputs.Input.{Input}
use Rattle.tsb_step.specs.declared.inputs.Input.TheVariants.{Tick}
use Rattle.tsb_step.specs.State.{State, start}
use Rattle.tsb_step.specs.Step.{step}
use Rattle.tsb_step.specs.Cells.{cells_of, state_in}
use Rattle.tsb_step.specs.Past.{record_of, controller, pasts, earlier}
use Rattle.tsb_step.specs.Play.{run, records_of}
use Rattle.tsb_step.specs.Runs.{replay}
use Rattle.tsb_laws.specs.AllRed.{IsInRange}
use Rattle.tsb_laws.specs.Runs.{IsHeld, IsRun}
use Rattle.tsb_laws.specs.Timers.{Place, IsPlace, timer_of, cell_of, waits, HasNone}

-- what is said of every run
abbrev pub OfRuns : (Plan → List Input → Type 0) → Type 0
OfRuns fact = (plan : Plan) (is : List Input) → IsRun plan is → fact plan is

-- ## Cells

-- The cells of a state, read at its tick number, are that state.
abbrev pub CellsTellTheState : Type 0
CellsTellTheState = OfRuns (λ plan is. state_in (replay plan is).now (cells_of (replay plan is)) ≡ replay plan is)

-- So two states with the same cells and the same tick number are one, whatever runs they come of.
abbrev pub EqualCellsAreEqualStates : Type 0
EqualCellsAreEqualStates = (plan other : Plan) (is js : List Input) → IsRun plan is → IsRun other js →
    (replay plan is).now ≡ (replay other js).now → cells_of (replay plan is) ≡ cells_of (replay other js) →
    replay plan is ≡ replay other js

-- rows that a bench can hold at the tick number of a state, in which this state is read
pub record HasRows (s : State) : Type 0 where
  pub rows : All
  pub by : AreAllBy s.now rows
  pub read : all_in s.now rows ≡ s

-- The program has rows for each state of each run: none is out of the range of its cells.
abbrev pub StatesHaveRows : Type 0
StatesHaveRows = OfRuns (λ plan is. HasRows (replay plan is))

-- A plan that is checked is one of those that all this is said of.
abbrev pub CheckedPlansAreHeld : Type 0
CheckedPlansAreHeld = (checked : Checked) → IsHeld (checked_plan checked)

-- And no value of it is over the greatest that its numbers of phases and sides allow, as the law that all red ends
-- asks.
abbrev pub CheckedPlansAreInRange : Type 0
CheckedPlansAreInRange = (checked : Checked) → IsInRange (checked_plan checked)

-- ## Records

-- The record of each input of a run gives the state before it back.
abbrev pub RecordsTakeBack : Type 0
RecordsTakeBack = OfRuns (λ plan is. GiveBack controller (start plan) is)

-- So the records of a run, taken back one by one, give its states.
abbrev pub PastsAreTheRun : Type 0
PastsAreTheRun = OfRuns (λ plan is. pasts (replay plan is) (records_of plan is) ≡ run plan is)

-- With the newest k taken back, state and records are those of the run without its newest k inputs.
abbrev pub EarlierAreShorterRuns : Type 0
EarlierAreShorterRuns = OfRuns (λ plan is. (k : ℕ) → k ≤ length is →
    earlier (after controller (start plan) is) k ≡ after controller (start plan) (drop k is))

-- ## Timers in records

-- In the record of a tick the cell of a timer has no entry exactly where the timer stayed Off or ran on.
abbrev pub WaitingTimersAreNotWritten : Type 0
WaitingTimersAreNotWritten = OfRuns (λ plan is. (row : Row) (place : Place) → IsPlace place →
    HasNone (record_of (Tick row) (replay plan is) (step (replay plan is) (Tick row))).entries (cell_of place)
    ↔ (timer_of place (step (replay plan is) (Tick row)) ≡ waits (replay plan is) (timer_of place (replay plan is))))
