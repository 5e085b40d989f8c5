-- What the laws of cells and of what a tick looks at refuse, by computing: an overlap that two lists name, a bound on how
-- long timers run, a 17th overlap, and a 17th phase. Beside each is what the definitions make of the same.
use Rattle.std.specs.Prelude.{◌≡◌, ℕ, ◌+◌, ◌-◌, ◌==◌, nat_le, Bool, true, false, if◌then◌else◌, List, [], ◌∷◌, slice_index, Some, refl}
use Rattle.std.specs.List.{list_any}
use Rattle.tsb_cells.specs.declared.timer.Timer.TheVariants.{On}
use Rattle.tsb_objects.specs.tsb_types.declared.interval.Interval.TheVariants as intervals
use Rattle.tsb_objects.specs.tsb_types.Lists.{run_from}
use Rattle.tsb_objects.specs.tsb_types.Sets.{number_of_bits}
use Rattle.tsb_objects.specs.tsb_plan.declared.object.Object.TheVariants.{OverlapIncludedPhases}
use Rattle.tsb_objects.specs.tsb_plan.Plan.{Plan, phases, with_value}
use Rattle.tsb_objects.specs.tsb_plan.Quad.{quad}
use Rattle.tsb_overlap.specs.declared.parts.OverlapInterval.TheVariants.{Red, Green, Yellow}
use Rattle.tsb_overlap.specs.Overlap.{Overlap, standing, at_power_up, is_open_to}
use Rattle.tsb_overlap.specs.Cells.{interval_in, overlap_in, omitted_in, overlaps_cells}
use Rattle.tsb_overlap.proofs.Examples.Examples.{plan, with_phase}

-- ## The table of a row

-- at tick 49 overlap 1 is yellow of phase 2 since tick 29, and arrow 3 is omitted
abbrev pub shown_yellow : ℕ → Overlap
shown_yellow o = if o == 1 then (record { interval = Yellow; timer = On 20; phase = Some 2 }) else at_power_up

abbrev pub omits_3 : ℕ → Bool
omits_3 o = o == 3

abbrev pub yellow_row : List ℕ
yellow_row = overlaps_cells 49 shown_yellow omits_3

is_told : overlaps_cells 49 (overlap_in 49 yellow_row) (omitted_in yellow_row) ≡ yellow_row
unfolding overlap_in interval_in number_of_bits run_from
is_told = refl

is_read : overlap_in 49 yellow_row 1 ≡ shown_yellow 1
unfolding overlap_in interval_in number_of_bits run_from
is_read = refl

-- a row in which the lists of green and of yellow name overlap 1
abbrev pub in_two : List ℕ
in_two = 1 ∷ 0 ∷ 0 ∷ 1 ∷ 0 ∷ 0 ∷ 0 ∷ []

names_it_yellow : slice_index in_two 3 ≡ 1
names_it_yellow = refl

would_lose_it : slice_index (overlaps_cells 0 (overlap_in 0 in_two) (omitted_in in_two)) 3 ≡ 0
unfolding overlap_in interval_in number_of_bits run_from
would_lose_it = refl

-- ## Rows stay by: a bound on how long a timer has run

abbrev pub is_recent : ℕ → List ℕ → Bool
is_recent now row = nat_le (now + 1 - slice_index row 6) 2550

is_recent_yet : is_recent 2579 yellow_row ≡ true
unfolding number_of_bits run_from
is_recent_yet = refl

would_not_stay : is_recent 2580 yellow_row ≡ false
unfolding number_of_bits run_from
would_not_stay = refl

-- ## States are read: a 17th overlap

abbrev pub has_17th : ℕ → Overlap
has_17th o = if o == 17 then standing Green else at_power_up

is_green_17 : (has_17th 17).interval ≡ Green
is_green_17 = refl

would_be_red_17 : (overlap_in 0 (overlaps_cells 0 has_17th (λ o. false)) 17).interval ≡ Red
unfolding overlap_in interval_in number_of_bits run_from
would_be_red_17 = refl

-- ## Looks only at its own: the green of a 17th phase

-- overlap 1 includes 17, which a list of 16 phases cannot name, and it is Green
abbrev pub with_17th : Plan
with_17th = with_value plan OverlapIncludedPhases 1 65536

looks_away : list_any (is_open_to with_17th (with_phase 17 intervals.Green 50) 1) (phases with_17th) ≡ false
unfolding plan quad run_from
looks_away = refl

would_see_17 : list_any (is_open_to with_17th (with_phase 17 intervals.Green 50) 1) (run_from 1 17) ≡ true
unfolding plan quad run_from
would_see_17 = refl
