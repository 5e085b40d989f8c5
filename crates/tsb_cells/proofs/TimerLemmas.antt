-- Timers and their cells.
use Rattle.std.proofs.Common.{◌≡◌, ℕ, ◌+◌, ◌-◌, ◌≤◌, true, refl, subst, arith, inl, inr}
use Rattle.std.proofs.lemmas.Bool.Decides.{nat_tests, eqb_tells}
use Rattle.tsb_cells.specs.declared.timer.Timer.{Timer}
use Rattle.tsb_cells.specs.declared.timer.Timer.TheVariants.{Off, On}
pub use Rattle.tsb_cells.specs.TimerLaws.{timer_at-timer_cell}
use Rattle.tsb_cells.specs.Timer.{advanced, started, IsWithin, is_on, timer_cell, timer_at}

-- the next tick reads a cell as one tick more
pub timer_at-next : (now cell : ℕ) → cell ≤ now + 1 → timer_at (now + 1) cell ≡ advanced (timer_at now cell)
timer_at-next now cell h = grind (arith, nat_tests)

pub timer_cell-le : (now : ℕ) (x : Timer) → timer_cell now x ≤ now + 1
timer_cell-le now Off = omega arith
timer_cell-le now (On n) = omega arith

-- a cell that is read and written at one tick is the same
pub timer_cell-timer_at : (now cell : ℕ) → cell ≤ now + 1 → timer_cell now (timer_at now cell) ≡ cell
timer_cell-timer_at now cell h = grind (arith, nat_tests)

pub IsWithin-timer_at : (now cell : ℕ) → IsWithin now (timer_at now cell)
IsWithin-timer_at now cell =
    elim (eqb_tells cell 0) [
      | inl zero ↦ rw zero.0 tt
      | inr on ↦ let within : now + 1 - cell ≤ now = omega arith in rw on.0 within
    ]

pub IsWithin-started : (now : ℕ) (x : Timer) → IsWithin now x → IsWithin now (started x)
IsWithin-started now Off h = omega arith
IsWithin-started now (On n) h = h

-- a timer that runs has a cell, and one that is off has 0
pub timer_cell-on : (now : ℕ) (x : Timer) → is_on x ≡ true → 1 ≤ timer_cell now x
timer_cell-on now Off on = absurd cc
timer_cell-on now (On n) on = omega arith

pub timer_cell-off : (now : ℕ) (x : Timer) → x ≡ Off → timer_cell now x ≡ 0
timer_cell-off now x e = rw e refl

-- a timer that runs on, or stays off, keeps its cell
pub timer_cell-advanced : (now : ℕ) (x : Timer) → timer_cell (now + 1) (advanced x) ≡ timer_cell now x
timer_cell-advanced now Off = refl
timer_cell-advanced now (On n) = omega arith

pub IsWithin-advanced : (now : ℕ) (x : Timer) → IsWithin now x → IsWithin (now + 1) (advanced x)
IsWithin-advanced now Off h = tt
IsWithin-advanced now (On n) h = omega arith

-- ## What a cell is read as

pub timer_at-on : (now cell : ℕ) → 1 ≤ cell → timer_at now cell ≡ On (now + 1 - cell)
timer_at-on now cell from = grind (arith, nat_tests, from)

pub timer_at-off : (now cell : ℕ) → cell ≡ 0 → timer_at now cell ≡ Off
timer_at-off now cell e = rw e refl

pub timer_at-begins : (now : ℕ) → timer_at now (now + 1) ≡ On 0
timer_at-begins now = grind (arith, nat_tests)

-- as a tick reads it that is not the first
pub timer_at-this : (now cell : ℕ) → 1 ≤ now → cell ≤ now - 1 + 1 → timer_at now cell ≡ advanced (timer_at (now - 1) cell)
timer_at-this now cell begun within =
    let e : now - 1 + 1 ≡ now = omega (arith, begun) in
    subst (λ (n : ℕ). timer_at n cell ≡ advanced (timer_at (now - 1) cell)) e (timer_at-next (now - 1) cell within)
