-- What the laws refuse: for each a mistake in the definitions, and by computing what comes of it. Beside each stands what
-- the definitions as they are make of the same.
use Rattle.std.specs.Prelude.{◌≡◌, ℕ, ◌+◌, nat_le, false, List, [], ◌∷◌, Option, Some, None, refl}
use Rattle.tsb_step.specs.tsb_cells.declared.timer.Timer.{Timer}
use Rattle.tsb_step.specs.tsb_cells.declared.timer.Timer.TheVariants.{Off, On}
use Rattle.tsb_step.specs.tsb_cells.Timer.{advanced, timer_cell, timer_at}
use Rattle.tsb_step.specs.tsb_cells.Diff.{diff, apply_diff}
use Rattle.tsb_step.specs.tsb_coord.declared.correction.Correction.{Correction}
use Rattle.tsb_step.specs.tsb_coord.Cells.{pattern_cells}
use Rattle.tsb_step.specs.tsb_coord.Correction.{in_step}
use Rattle.tsb_step.specs.tsb_heads.declared.monitor.Trip.TheVariants.{Conflict}
use Rattle.tsb_step.specs.tsb_plan.declared.object.Object.TheVariants.{PhaseRedClear}
use Rattle.tsb_step.specs.tsb_plan.Objects.{greatest}
use Rattle.tsb_step.specs.tsb_plan.Plan.{Plan, with_value}
use Rattle.tsb_step.specs.tsb_plan.Two.{two}
use Rattle.tsb_step.specs.tsb_ring.Rings.{State, Ring1, Ring2, power_up}
use Rattle.tsb_step.specs.tsb_rules.Rules.{first_broken}
use Rattle.tsb_step.specs.tsb_types.Lists.{or_number}
use Rattle.tsb_step.specs.Cells.{clock_at}
use Rattle.tsb_step.proofs.Examples.Scenes.{opened}

-- ## Cells give the state: a clock that goes on while the controller is tripped

-- a timer that was On 12 as the controller tripped at tick 40, read at tick 50
reads_12 : timer_at (clock_at 50 (Some (record { cause = Conflict 2 4; tick = 40 }))) (timer_cell 40 (On 12)) ≡ On 12
reads_12 = refl

abbrev clock_goes_on : ℕ → ℕ
clock_goes_on now = now

would_read_22 : timer_at (clock_goes_on 50) (timer_cell 40 (On 12)) ≡ On 22
would_read_22 = refl

-- ## Equal cells are equal states: cells without the commitments

abbrev cells_without : State → List ℕ
cells_without s = or_number (s.last Ring1) 0 ∷ or_number (s.last Ring2) 0 ∷ s.side ∷ or_number s.crossing 0 ∷ []

abbrev committed : State
committed = record power_up { commitment = λ r. Some 3 }

would_be_equal : cells_without committed ≡ cells_without power_up
would_be_equal = refl

is_another : committed.commitment Ring1 ≡ Some 3
is_another = refl

was_none : power_up.commitment Ring1 ≡ None
was_none = refl

-- and cells of the pattern without how its local counter comes into step
abbrev is_coming : Correction
is_coming = record { since = 1; ahead = 700; midnight = 0 }

are_told : pattern_cells (Some 2) is_coming None ≡ 2 ∷ 1 ∷ 700 ∷ 0 ∷ 0 ∷ 0 ∷ []
are_told = refl

abbrev pattern_alone : Option ℕ → Correction → List ℕ
pattern_alone selected c = or_number selected 0 ∷ []

would_be_alike : pattern_alone (Some 2) is_coming ≡ pattern_alone (Some 2) in_step
would_be_alike = refl

-- ## Pasts are the run: a record with what cells hold after the input

gives_back : apply_diff (1 ∷ 5 ∷ []) (diff (1 ∷ 2 ∷ []) (1 ∷ 5 ∷ [])) ≡ 1 ∷ 2 ∷ []
gives_back = refl

would_stay : apply_diff (1 ∷ 5 ∷ []) (diff (1 ∷ 5 ∷ []) (1 ∷ 2 ∷ [])) ≡ 1 ∷ 5 ∷ []
would_stay = refl

-- ## Waiting timers are not written: a cell that counts

-- the cell of a timer that runs on from tick 10 to tick 11
stays_8 : diff (timer_cell 10 (On 3) ∷ []) (timer_cell 11 (advanced (On 3)) ∷ []) ≡ []
stays_8 = refl

abbrev counting_cell : Timer → ℕ
counting_cell Off = 0
counting_cell (On n) = n + 1

would_be_written : diff (counting_cell (On 3) ∷ []) (counting_cell (advanced (On 3)) ∷ []) ≡ (0, 4) ∷ []
would_be_written = refl

-- and, the other way round, a timer that begins anew and leaves its cell
is_written : diff (timer_cell 10 (On 3) ∷ []) (timer_cell 11 (On 0) ∷ []) ≡ (0, 8) ∷ []
is_written = refl

-- ## Checked plans are held: a plan is checked by its rules alone, whatever its values are

unfoldable over : Plan
over = with_value two PhaseRedClear 2 300

would_pass : first_broken over ≡ None
unfolding opened over two
would_pass = refl

is_too_great : nat_le (over.value PhaseRedClear 2) (greatest PhaseRedClear) ≡ false
unfolding opened over two
is_too_great = refl
