-- The whole controller with its history, and the way back through the records. The record of an input has what it
-- changed, each cell with its value before, so that it can be taken back. What the way back is, of any machine with
-- records, is in tsb_machine.
use Rattle.std.specs.Prelude.{◌≡◌, ℕ, ◌-◌, List, length}
use Rattle.tsb_cells.specs.Diff.{diff, apply_diff}
use Rattle.tsb_machine.specs.tsb_history.History.{Change}
use Rattle.tsb_machine.specs.tsb_history.declared.kinds.Kind.{Kind}
use Rattle.tsb_machine.specs.tsb_history.declared.kinds.Kind.TheVariants.{Tick}
use Rattle.tsb_objects.specs.tsb_plan.Plan.{Plan}
use Rattle.tsb_machine.specs.Machine.{Machine}
use Rattle.tsb_machine.specs.Past as past
use Rattle.tsb_machine.specs.Laws.{GivesBack, CountsTicks, TellsKinds}
use Rattle.tsb_step.specs.declared.inputs.Input.{Input}
use Rattle.tsb_step.specs.State.{State, start}
use Rattle.tsb_step.specs.Step.{step, verdict, kind_of}
use Rattle.tsb_step.specs.Cells.{cells_of, state_in}

-- the record of an input: its kind, and each cell that it changed with the value before
abbrev pub record_of : Input → State → State → Change
record_of i before after = record { kind = kind_of i; entries = diff (cells_of before) (cells_of after) }

-- by how much an input of this kind moves the tick number
abbrev pub ticks_of : Kind → ℕ
ticks_of Tick = 1
ticks_of k = 0

-- the state with a record taken back: each entry's old value is put into its cell
abbrev pub undone : Change → State → State
undone r s = state_in (s.now - ticks_of r.kind) (apply_diff (cells_of s) r.entries)

-- the controller, as a machine that keeps a record of each input
abbrev pub controller : Machine State Input Change
controller = record {
  step = step;
  now = λ s. s.now;
  verdict = verdict;
  record_of = record_of;
  undone = undone;
  kind_of = kind_of;
  kind = λ r. r.kind;
}

-- ## The way back

-- the whole controller: its state, and its records, newest first
abbrev pub Whole : Type 0
Whole = past.Whole State Change

-- the whole with its newest record taken back; with no record left the state stays
abbrev pub taken_back : State → List Change → Whole
taken_back s rs = past.taken_back controller s rs

-- the whole with its newest k records taken back
abbrev pub earlier : Whole → ℕ → Whole
earlier w k = past.earlier controller w k

-- the state and each earlier one, newest first
abbrev pub pasts : State → List Change → List State
pasts s rs = past.pasts controller s rs

-- the whole with the fewest records taken back that make the tick number t; with all, where no state has it
abbrev pub sought : ℕ → State → List Change → Whole
sought t s rs = past.sought controller t s rs

-- `new` is `old` with the fewest records taken back that make the tick number t
abbrev pub IsLeastBack : ℕ → Whole → Whole → Type 0
IsLeastBack t old new = past.IsLeastBack controller t old new

-- ## What the way back rests on

-- Where the state can be read from its cells, the record of each input takes the input back.
abbrev pub RecordsGiveBack : Type 0
RecordsGiveBack = (s : State) (i : Input) → state_in s.now (cells_of s) ≡ s →
    length (cells_of s) ≡ length (cells_of (step s i)) → GivesBack controller s i

-- The tick number begins at 0, and an input moves it on by one at most.
abbrev pub TicksAreCounted : Type 0
TicksAreCounted = (plan : Plan) → CountsTicks controller (start plan)

-- The record of an input is of its kind.
abbrev pub RecordsTellKinds : Type 0
RecordsTellKinds = TellsKinds controller
