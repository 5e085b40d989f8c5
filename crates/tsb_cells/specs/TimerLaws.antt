-- That a timer which is written into a cell and read at the same tick is the same, for a `Layout` of a type
-- with timers to cite, and what holds of every cell of a timer: the statements of a law in src/laws.rt.
use Rattle.std.proofs.Common.{◌≡◌, ℕ, ◌+◌, ◌-◌, ◌≤◌, refl, arith}
use Rattle.std.proofs.lemmas.Bool.Decides.{nat_tests}
use Rattle.tsb_cells.specs.declared.timer.Timer.{Timer}
use Rattle.tsb_cells.specs.declared.timer.Timer.TheVariants.{Off, On}
use Rattle.tsb_cells.specs.Timer.{IsWithin, timer_cell, timer_at}

-- a timer that is written and read at one tick is the same
pub timer_at-timer_cell : (now : ℕ) (x : Timer) → IsWithin now x → timer_at now (timer_cell now x) ≡ x
timer_at-timer_cell now Off h = refl
timer_at-timer_cell now (On n) h = on now n h
  where
    on : (now n : ℕ) → n ≤ now → timer_at now (now - n + 1) ≡ On n
    on now n h = grind (arith, nat_tests)

-- a cell that is read and written at one tick is the same
abbrev pub TellTheirCells : Type 0
TellTheirCells = (now cell : ℕ) → cell ≤ now + 1 → timer_cell now (timer_at now cell) ≡ cell

-- a timer that began at tick 0 or later is what its cell is read as
abbrev pub AreReadAsTheyWere : Type 0
AreReadAsTheyWere = (now : ℕ) (x : Timer) → IsWithin now x → timer_at now (timer_cell now x) ≡ x

-- a timer's cell says that it began now or before, and what a cell is read as began at tick 0 or later
abbrev pub AreInTime : Type 0
AreInTime = (now : ℕ) (x : Timer) → timer_cell now x ≤ now + 1

-- whatever number the cell holds: it is never read as a timer that has run for more ticks than there were
abbrev pub BeganInTime : Type 0
BeganInTime = (now cell : ℕ) → IsWithin now (timer_at now cell)
