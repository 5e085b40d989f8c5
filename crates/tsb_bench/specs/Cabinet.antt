-- What the contracts of the cabinet say of it: its rows of cells, and what an input does to them.
use Rattle.std.specs.Prelude.{◌≡◌, ℕ, ◌+◌, ◌<◌, ◌≤◌, List, [], Bool, false, if◌then◌else◌, Option, Some, None}
use Rattle.tsb_cells.specs.Bank as bank
use Rattle.tsb_history.specs.declared.kinds.Kind.{Kind}
use Rattle.tsb_history.specs.declared.kinds.Kind.TheVariants as kinds
use Rattle.tsb_heads.specs.declared.monitor.Trip.{Trip}
use Rattle.tsb_transact.specs.Layer as desk
use Rattle.tsb_step.specs.declared.inputs.Input.{Input}
use Rattle.tsb_step.specs.declared.inputs.Input.TheVariants.{Tick}
use Rattle.tsb_step.specs.tsb_ring.Rings.{forgotten}
use Rattle.tsb_step.specs.State.{State, Tripped}
use Rattle.tsb_step.specs.Step.{step, verdict, kind_of, last_tick}
use Rattle.tsb_step.specs.declared.first_cell.TheConstants.{ALL_CELLS}
use Rattle.tsb_controller.specs.Layer as layers
use Rattle.tsb_controller.specs.Layer.{IsClosed}
use Rattle.tsb_controller.specs.Whole.{All, AreAllBy, all_in, all_changes}
use Rattle.tsb_bench.specs.declared.cabinet.Cabinet.{Cabinet}
use Rattle.tsb_bench.specs.declared.cabinet.TheConstants.{MOST_CELLS}

-- the cells of the plan, of the desk, of the layers, and of the monitor with the injected lamp
abbrev pub rows_of : Cabinet → All
rows_of c = record {
  plan = c.plan.plan.values;
  desk = desk.cells_of c.desk;
  layers = layers.rows_of c.controller;
  monitor = bank.cells_of c.monitor.bank;
}

-- between inputs no cell may be written
pub record IsShut (c : Cabinet) : Type 0 where
  pub desk : desk.is_open c.desk ≡ false
  pub controller : IsClosed c.controller
  pub monitor : bank.is_open c.monitor.bank ≡ false

-- the tick number after an input
abbrev pub next_tick : ℕ → Input → ℕ
next_tick now (Tick row) = now + 1
next_tick now i = now

-- at tick number `now` the input makes `new` of the rows `old`, as the one step does, and these are the entries of
-- its record
pub record IsDone (i : Input) (now : ℕ) (old new : All) (entries : List (ℕ × ℕ)) : Type 0 where
  pub state : all_in (next_tick now i) new ≡ step (all_in now old) i
  pub by : AreAllBy (next_tick now i) new
  pub entries_are : entries ≡ all_changes old new

-- at tick number `now` the input is a tick that is not refused, and changes nothing but the tick number
pub record Passes (i : Input) (now : ℕ) (a : All) : Type 0 where
  pub kind : kind_of i ≡ kinds.Tick
  pub next : next_tick now i ≡ now + 1
  pub allowed : verdict (all_in now a) i ≡ None
  pub done : IsDone i now a a []

-- from tick number `now` on, ticks up to the last that may be passed over, with the inputs that are kept, change
-- nothing
pub record MayPass (now : ℕ) (c : Cabinet) : Type 0 where
  pub within : c.passing.last ≤ last_tick
  pub quiet : (t : ℕ) → now ≤ t → t < c.passing.last → IsDone (Tick c.passing.row) t (rows_of c) (rows_of c) []

-- what a commit makes of the layers: where the structure changes, the rings forget the phases that they started last
abbrev pub forgotten_if : Bool → State → State
forgotten_if forgets s = if forgets then record s { rings = forgotten s.rings } else s

-- how many cells an input of this kind can change: a commit all of the plan, the desk and the layers, any other the
-- desk, or the layers with the monitor
abbrev pub most_cells : Kind → ℕ
most_cells kinds.Commit = ALL_CELLS
most_cells k = MOST_CELLS

-- why the controller has tripped once the monitor has judged it at tick number `now`
abbrev pub tripped_by : Option Trip → ℕ → Option Tripped → Option Tripped
tripped_by None now was = was
tripped_by (Some cause) now was = Some (record { cause = cause; tick = now })
