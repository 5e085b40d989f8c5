-- A machine with its records, and the way back through them.
use Rattle.std.specs.Prelude.{◌≡◌, ◌≢◌, ℕ, zero, suc, ◌<◌, ◌≤◌, ◌==◌, List, [], ◌∷◌, length, if◌then◌else◌}
use Rattle.tsb_machine.specs.Machine.{Machine, replay, records_of}

-- the whole machine: its state, and its records, newest first
pub record Whole (State Change : Type 0) : Type 0 where
  pub state : State
  pub records : List Change

module _ {State Input Change : Type 0} (m : Machine State Input Change) where
  -- the whole with its newest record taken back; with no record left the state stays
  abbrev pub taken_back : State → List Change → Whole State Change
  taken_back s [] = record { state = s; records = [] }
  taken_back s (r ∷ rs) = record { state = m.undone r s; records = rs }

  -- with its newest k records taken back
  abbrev pub earlier : Whole State Change → ℕ → Whole State Change
  earlier w zero = w
  earlier w (suc k) = earlier (taken_back w.state w.records) k

  -- the state and each earlier one, newest first
  abbrev pub pasts : State → List Change → List State
  pasts s [] = s ∷ []
  pasts s (r ∷ rs) = s ∷ pasts (m.undone r s) rs

  -- the whole with the fewest records taken back that make the tick number t; with all, where no state has it
  abbrev pub sought : ℕ → State → List Change → Whole State Change
  sought t s [] = record { state = s; records = [] }
  sought t s (r ∷ rs) = if m.now s == t then record { state = s; records = r ∷ rs } else sought t (m.undone r s) rs

  -- `new` is `old` with the fewest records taken back that make the tick number t
  pub record IsLeastBack (t : ℕ) (old new : Whole State Change) : Type 0 where
    pub count : ℕ
    pub enough : count ≤ length old.records
    pub taken : new ≡ earlier old count
    pub reached : m.now new.state ≡ t
    pub least : (j : ℕ) → j < count → m.now (earlier old j).state ≢ t

  -- the whole after an input
  abbrev pub applied : Input → Whole State Change → Whole State Change
  applied i w = record { state = m.step w.state i; records = m.record_of i w.state (m.step w.state i) ∷ w.records }

-- the whole after a list of inputs, from the state at power-up
abbrev pub after : {State Input Change : Type 0} → Machine State Input Change → State → List Input → Whole State Change
after m start is = record { state = replay m start is; records = records_of m start is }
