-- What the laws of cells and of what a phase looks at refuse, by computing: timers that begin after the tick, a bound
-- on how long timers run, and a 17th phase. Beside each is what the definitions make of the same.
use Rattle.std.proofs.Common.{◌≡◌, ◌∙◌, ℕ, ◌+◌, ◌-◌, ◌==◌, nat_le, Bool, true, false, if◌then◌else◌, List, slice_index, sum_by, refl, sym, ap, arith, inl, inr}
use Rattle.std.proofs.lemmas.Bool.{cases_Bool, eqb-true, true≢false}
use Rattle.tsb_cells.specs.declared.timer.Timer.TheVariants.{Off, On}
use Rattle.tsb_objects.specs.tsb_types.Lists.{run_from}
use Rattle.tsb_objects.specs.tsb_types.Sets.{number_of_bits, is_phase}
use Rattle.tsb_objects.specs.tsb_plan.Plan.{Plan, cars_before_reduction}
use Rattle.tsb_phase.specs.Phase.{Phase, Given, at_power_up}
use Rattle.tsb_phase.specs.Cells.{phase_in, row_in, phases_cells, IsBy}
use Rattle.tsb_phase.specs.Laws.{IsInRange, AreInRange}
use Rattle.tsb_phase.proofs.StateLemmas.{states-read}
use Rattle.tsb_phase.specs.Green.{waits_for, cars_waiting, begun, reduction_timer}
use Rattle.tsb_phase.proofs.Examples.ClearanceExamples.{in_yellow}
use Rattle.tsb_phase.proofs.Examples.Examples.{plan, nothing, held}

-- one phase went Yellow in this tick, and all others are as at power-up
abbrev pub one_in_yellow : ℕ → ℕ → Phase
one_in_yellow n p = if p == n then in_yellow 0 else at_power_up

-- ## Rows are read

-- of tick 49
abbrev pub later : List ℕ
later = phases_cells 49 (one_in_yellow 1)

each_fits : (is : Bool) → IsInRange 49 (if is then in_yellow 0 else at_power_up)
each_fits true = record {
  timer = omega arith;
  pedestrian_timer = tt;
  passage = tt;
  conflict = tt;
  reduction = tt;
  red_revert = tt;
  running_maximum = omega arith;
  red = λ e. absurd cc;
  served = λ on. refl;
  dont_walk = λ e. refl;
  walks = λ e. absurd cc;
  no_walk = λ e. refl;
  not_gapped = λ e. refl;
  not_forced = λ e. refl;
  no_passage = λ e. refl;
  no_conflict = λ e. refl;
  no_reduction = λ e. refl;
}
each_fits false = record {
  timer = tt;
  pedestrian_timer = tt;
  passage = tt;
  conflict = tt;
  reduction = tt;
  red_revert = tt;
  running_maximum = omega arith;
  red = λ e. refl;
  served = λ on. absurd cc;
  dont_walk = λ e. refl;
  walks = λ e. absurd cc;
  no_walk = λ e. refl;
  not_gapped = λ e. refl;
  not_forced = λ e. refl;
  no_passage = λ e. refl;
  no_conflict = λ e. refl;
  no_reduction = λ e. refl;
}

others_fit : (p : ℕ) → is_phase p ≡ false → one_in_yellow 1 p ≡ at_power_up
others_fit p out =
    elim (cases_Bool (p == 1)) [
      | inl e ↦ absurd (true≢false (sym (ap is_phase (eqb-true p 1 e)) ∙ out))
      | inr e ↦ rw e refl
    ]

fit : AreInRange 49 (one_in_yellow 1)
fit = record { each = λ p from to. each_fits (p == 1); others = others_fit }

can_be : IsBy 49 later
can_be = (states-read 49 (one_in_yellow 1) fit).by

is_told : phases_cells 49 (phase_in 49 later) ≡ later
unfolding run_from number_of_bits phase_in row_in
is_told = refl

-- read at tick 40, when its timer has not begun
begins_50 : slice_index later 4 ≡ 50
unfolding run_from number_of_bits
begins_50 = refl

would_begin_41 : slice_index (phases_cells 40 (phase_in 40 later)) 4 ≡ 41
unfolding run_from number_of_bits phase_in row_in
would_begin_41 = refl

-- ## Rows stay by: a bound on how long the interval of phase 1 has lasted

abbrev pub is_recent : ℕ → List ℕ → Bool
is_recent now row = nat_le (now + 1 - slice_index row 4) 2550

is_recent_yet : is_recent 2599 later ≡ true
unfolding run_from number_of_bits
is_recent_yet = refl

would_not_stay : is_recent 2600 later ≡ false
unfolding run_from number_of_bits
would_not_stay = refl

-- ## States are read: a 17th phase, which is Yellow

is_read : phase_in 49 (phases_cells 49 (one_in_yellow 16)) 16 ≡ in_yellow 0
unfolding run_from number_of_bits phase_in row_in
is_read = refl

has_17 : one_in_yellow 17 17 ≡ in_yellow 0
has_17 = refl

would_lose_17 : phase_in 49 (phases_cells 49 (one_in_yellow 17)) 17 ≡ at_power_up
unfolding phase_in
would_lose_17 = refl

-- ## Looks only at its own: the vehicles of a 17th phase

abbrev pub cars_of_17 : Plan → Given → ℕ → ℕ
cars_of_17 plan given p = sum_by (λ q. if waits_for plan given p q then given.count q else 0) (run_from 1 17)

-- 4 of them, which is the number of cars before reduction
abbrev pub waiting_17 : Given
waiting_17 = record nothing { conflict = λ p. p == 1; callable = λ p. p == 17; count = λ p. if p == 17 then 4 else 0 }

is_unreduced : reduction_timer plan waiting_17 1 (held 200 (On 5) (On 7) Off) ≡ Off
unfolding plan run_from cars_waiting reduction_timer
is_unreduced = refl

would_be_reduced : begun (nat_le (cars_before_reduction plan 1) (cars_of_17 plan waiting_17 1)) Off ≡ On 0
unfolding plan run_from
would_be_reduced = refl
