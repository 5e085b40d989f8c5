-- What callers see of a bench: its tick number, its cells and its records; and what it keeps of every earlier state, by
-- which each record can be taken back.
use Rattle.std.specs.Prelude.{◌≡◌, ℕ, ◌+◌, ◌-◌, ◌≤◌, List, [], ◌∷◌}
use Rattle.tsb_cells.specs.Diff.{AreWithin}
use Rattle.tsb_history.specs.History.{Change, size_of}
use Rattle.tsb_plan.specs.Objects.{AreInRange}
use Rattle.tsb_transact.specs.Cells.{desk_in}
use Rattle.tsb_transact.specs.Desk as desk
use Rattle.tsb_step.specs.declared.first_cell.TheConstants.{ALL_CELLS}
use Rattle.tsb_controller.specs.Records.{HasFew}
use Rattle.tsb_controller.specs.Whole.{All, AreAllBy, all_in, all_put_back}
use Rattle.tsb_step.specs.Backed.{IsGoodInAll}
use Rattle.tsb_step.specs.Past.{Whole, ticks_of}
use Rattle.tsb_step.specs.State.{State}
use Rattle.tsb_step.specs.Step.{last_tick}

-- the tick number, the cells, the records, newest first, and the room: for how many bytes of further records there is
-- memory
pub record Held : Type 0 where
  pub tick : ℕ
  pub rows : All
  pub records : List Change
  pub room : ℕ

-- the state that a bench is in
abbrev pub state_of : Held → State
state_of h = all_in h.tick h.rows

-- the state with the records
abbrev pub whole : Held → Whole
whole h = record { state = state_of h; records = h.records }

-- how many bytes the history has, in its records and in its room
abbrev pub memory : Held → ℕ
memory h = size_of h.records + h.room

-- how many of the records are of ticks
abbrev pub ticks : List Change → ℕ
ticks [] = 0
ticks (r ∷ rs) = ticks_of r.kind + ticks rs

-- ## What holds of every bench

-- rows that a bench may have at tick number `now`: the layers and the monitor can hold them then, the values of the
-- plan and the edits of the desk are in range, and what holds after every run holds of the state in them
pub record IsHeld (now : ℕ) (a : All) : Type 0 where
  pub limit : now ≤ last_tick
  pub by : AreAllBy now a
  pub ranged : AreInRange a.plan
  pub desk : desk.IsSoundDesk (desk_in a.desk)
  pub good : IsGoodInAll (all_in now a)

-- a record that can be taken back at tick number `now`
pub record CanUndo (now : ℕ) (r : Change) : Type 0 where
  pub within : AreWithin ALL_CELLS r.entries
  pub few : HasFew r.entries
  pub tick : ticks_of r.kind ≤ now

-- the rows, and those with the newest record taken back, and so on to the oldest, at tick number 0
abbrev pub HasSoundPast : ℕ → All → List Change → Type 0
HasSoundPast now a [] = IsHeld now a × (now ≡ 0)
HasSoundPast now a (r ∷ rs) = IsHeld now a × CanUndo now r × HasSoundPast (now - ticks_of r.kind) (all_put_back a r.entries) rs
