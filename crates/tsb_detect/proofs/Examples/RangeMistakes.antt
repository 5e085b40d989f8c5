-- What the laws of cells and of what a tick looks at refuse, by computing: timers that begin after the tick, a bound on
-- how long timers run, and a 65th detector. Beside each is what the definitions make of the same.
use Rattle.std.proofs.Common.{◌≡◌, ℕ, ◌+◌, ◌-◌, ◌==◌, nat_le, Bool, true, false, List, slice_index, refl, arith}
use Rattle.tsb_cells.specs.declared.timer.Timer.{Timer}
use Rattle.tsb_cells.specs.declared.timer.Timer.TheVariants.{Off}
use Rattle.tsb_objects.specs.tsb_types.Lists.{run_from}
use Rattle.tsb_objects.specs.tsb_types.Sets.{number_of_bits}
use Rattle.tsb_objects.specs.tsb_plan.Plan.{Plan}
use Rattle.tsb_detect.specs.Detector.{Detector, at_power_up, all_after, next}
use Rattle.tsb_detect.specs.Cells.{row_in, detector_in, detectors_cells, IsBy}
use Rattle.tsb_detect.specs.Laws.{AreStatesBy}
use Rattle.tsb_detect.proofs.StateLemmas.{states-by}
use Rattle.tsb_detect.proofs.Examples.Examples.{plan}

-- ## Rows are read

-- what a controller that was switched on after tick 49 keeps of its detectors
abbrev pub later : List ℕ
later = detectors_cells 49 (λ d. at_power_up)

fits : AreStatesBy 49 (λ d. at_power_up)
fits = record {
  each = λ d from to. record {
    rises = omega arith;
    changed = refl;
    change = omega arith;
    on_time = refl;
    extend = tt;
    present = λ on. refl;
    idle = λ off. refl;
    failed = λ alarm. refl;
  };
  others = λ d out. refl;
}

can_be : IsBy 49 later
can_be = states-by 49 (λ d. at_power_up) fits

is_told : detectors_cells 49 (detector_in 49 later) ≡ later
unfolding run_from number_of_bits detector_in row_in
is_told = refl

-- read at tick 40, when its timers have not begun
begins_50 : slice_index later 76 ≡ 50
unfolding run_from number_of_bits
begins_50 = refl

would_begin_41 : slice_index (detectors_cells 40 (detector_in 40 later)) 76 ≡ 41
unfolding run_from number_of_bits detector_in row_in
would_begin_41 = refl

-- ## Rows stay by: a bound on how long the change timer of detector 1 has run

abbrev pub is_recent : ℕ → List ℕ → Bool
is_recent now row = nat_le (now + 1 - slice_index row 76) 600

is_recent_yet : is_recent 649 later ≡ true
unfolding run_from number_of_bits
is_recent_yet = refl

would_not_stay : is_recent 650 later ≡ false
unfolding run_from number_of_bits
would_not_stay = refl

-- ## States are read: a 65th detector, whose output is on

abbrev pub on_at : ℕ → ℕ → Detector
on_at n d = record at_power_up { output = d == n }

is_read : (detector_in 49 (detectors_cells 49 (on_at 64)) 64).output ≡ true
unfolding run_from number_of_bits detector_in row_in
is_read = refl

has_65 : (on_at 65 65).output ≡ true
has_65 = refl

would_lose_65 : (detector_in 49 (detectors_cells 49 (on_at 65)) 65).output ≡ false
unfolding run_from number_of_bits detector_in row_in
would_lose_65 = refl

-- ## Looks only at its own: a 65th detector is ticked too

abbrev pub all_ticked : Plan → ℕ → (ℕ → Bool) → (ℕ → Timer) → (ℕ → Detector) → ℕ → Detector
all_ticked plan t input green was d = next plan d t (input d) (green d) (was d)

-- its input is on
stays_off_65 : (all_after plan 100 (λ d. d == 65) (λ d. Off) (λ d. at_power_up) 65).input ≡ false
stays_off_65 = refl

would_come_on_65 : (all_ticked plan 100 (λ d. d == 65) (λ d. Off) (λ d. at_power_up) 65).input ≡ true
would_come_on_65 = refl
