-- What the laws of cells and records say of one run.
use Rattle.std.specs.Prelude.{◌≡◌, ◌↔◌, List}
use Rattle.tsb_step.specs.tsb_types.declared.row.Row.{Row}
use Rattle.tsb_step.specs.tsb_plan.Plan.{Plan}
use Rattle.tsb_step.specs.tsb_machine.Laws.{GiveBack}
use Rattle.tsb_step.specs.tsb_machine.declared.commands.MachineCommand.TheVariants.{Apply}
use Rattle.tsb_step.specs.declared.inputs.Input.{Input}
use Rattle.tsb_step.specs.declared.inputs.Input.TheVariants.{Tick}
use Rattle.tsb_step.specs.State.{State, start}
use Rattle.tsb_step.specs.Step.{step}
use Rattle.tsb_step.specs.Cells.{cells_of, state_in}
use Rattle.tsb_step.specs.Past.{record_of, controller}
use Rattle.tsb_step.specs.Play.{Cmd}
use Rattle.tsb_laws.specs.Runs.{IsTyped}
use Rattle.tsb_laws.specs.Timers.{Place, IsPlace, timer_of, cell_of, waits, HasNone}
use Rattle.tsb_laws.specs.WayBack.{HasRows}

-- the input of a command that has one is of the program's types
abbrev pub IsTypedCommand : Cmd → Type 0
IsTypedCommand (Apply i) = IsTyped i
IsTypedCommand c = Unit {0}

-- in the record of the next tick the cell of a timer has no entry exactly where the timer stayed Off or ran on
abbrev pub KeepsTimersUnwritten : State → Type 0
KeepsTimersUnwritten s = (row : Row) (place : Place) → IsPlace place →
    HasNone (record_of (Tick row) s (step s (Tick row))).entries (cell_of place) ↔ (timer_of place (step s (Tick row)) ≡ waits s (timer_of place s))

-- each by the name of its function, of the state s after the inputs `is` from power-up with `plan`
pub record KeepsRecords (plan : Plan) (is : List Input) (s : State) : Type 0 where
  pub cells_tell_the_state : state_in s.now (cells_of s) ≡ s
  pub cells_tell_the_state_rows : HasRows s
  pub pasts_are_the_run : GiveBack controller (start plan) is
  pub waiting_timers_are_not_written : KeepsTimersUnwritten s
