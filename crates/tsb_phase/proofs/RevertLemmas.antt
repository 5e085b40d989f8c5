-- Red revert timers that are Off, or have run for the longest time that a phase has.
use Rattle.std.proofs.Common.{◌≡◌, ◌≢◌, ℕ, ◌+◌, ◌-◌, ◌≤◌, nat_le, true, refl, ap, ◌∙◌, inl, inr, arith}
use Rattle.std.proofs.lemmas.Bool.Decides.{nat_tests, eqb_tells}
use Rattle.tsb_cells.specs.declared.timer.Timer.{Timer}
use Rattle.tsb_cells.specs.Timer.{timer_at}
use Rattle.tsb_cells.proofs.TimerLemmas.{timer_at-on}
use Rattle.tsb_phase.specs.Ready.{has_passed}

-- such a timer keeps no phase from starting
pub past-passed : (now cell limit : ℕ) → cell ≤ now + 1 - limit → has_passed (timer_at now cell) limit ≡ true
past-passed now cell limit past =
    elim (eqb_tells cell 0) [
      | inl zero ↦ rw zero.0 refl
      | inr on ↦
          (let apart : cell ≢ 0 = on.1 in
          let from : 1 ≤ cell = omega (arith, apart) in
          ap (λ (x : Timer). has_passed x limit) (timer_at-on now cell from) ∙ ran (now + 1 - cell) limit (omega (arith, from, past)))
    ]
  where
    ran : (n l : ℕ) → l ≤ n → nat_le l n ≡ true
    ran n l h = grind (arith, nat_tests, h)
