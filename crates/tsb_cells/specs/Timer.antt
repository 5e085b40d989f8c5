-- Timers in ticks, which are tenths of a second, and the cells that keep them: a cell says when its timer
-- began, so that a timer which runs on needs no write.
use Rattle.std.specs.Prelude.{ℕ, ◌+◌, ◌-◌, ◌<◌, ◌≤◌, ◌^◌, ◌==◌, Bool, true, false, if◌then◌else◌, nat_lt, nat_le}
use Rattle.tsb_cells.specs.declared.timer.Timer.{Timer}
use Rattle.tsb_cells.specs.declared.timer.Timer.TheVariants.{Off, On}

-- a timer as the next tick reads it
abbrev pub advanced : Timer → Timer
advanced Off = Off
advanced (On n) = On (n + 1)

-- one tick more fits 32 bits
abbrev pub CanAdvance : Timer → Type 0
CanAdvance Off = Unit {0}
CanAdvance (On n) = n + 1 < 2 ^ 32

-- a timer that runs on, or begins now
abbrev pub started : Timer → Timer
started Off = On 0
started (On n) = On n

-- whether it is on
abbrev pub is_on : Timer → Bool
is_on Off = false
is_on (On n) = true

-- whether it is on for at least `limit` ticks
abbrev pub has_reached : Timer → ℕ → Bool
has_reached Off limit = false
has_reached (On n) limit = nat_le limit n

-- whether it is on, and for less than `limit` ticks
abbrev pub is_below : Timer → ℕ → Bool
is_below Off limit = false
is_below (On n) limit = nat_lt n limit

-- the timer began at tick 0 or later
abbrev pub IsWithin : ℕ → Timer → Type 0
IsWithin now Off = Unit {0}
IsWithin now (On n) = n ≤ now

-- the cell of a timer at tick `now`: 0, or one more than the tick at which it began
abbrev pub timer_cell : ℕ → Timer → ℕ
timer_cell now Off = 0
timer_cell now (On n) = now - n + 1

-- the timer that a cell keeps, at tick `now`
abbrev pub timer_at : ℕ → ℕ → Timer
timer_at now cell = if cell == 0 then Off else On (now + 1 - cell)
