-- When no tick brings another action of the schedule into force.
use Rattle.std.specs.Prelude.{◌≡◌, ℕ, ◌+◌, ◌/◌, Option, Some, None}
use Rattle.tsb_step.specs.State.{State}

-- the moment of a tick number and that of the next are in one minute, where a clock is set
abbrev pub StaysFrom : Option ℕ → ℕ → Type 0
StaysFrom None now = Unit {0}
StaysFrom (Some start) now = (start + now) / 600 ≡ (start + now + 1) / 600

-- so of the tick number of a state
abbrev pub StaysInMinute : State → Type 0
StaysInMinute s = StaysFrom s.start_moment s.now
