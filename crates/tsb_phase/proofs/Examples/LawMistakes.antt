-- One-line mistakes that break the laws of the gap, of the initial time and of clearance, each with an example in which
-- it shows. The plan is that of Examples: a passage time of 30, a minimum gap of 10, 70 to reduce; a minimum green of
-- 50, a maximum initial of 200. For clearance it is the built-in plan of eight phases: a yellow change of 30, a red
-- clearance of 10.
use Rattle.std.specs.Prelude.{◌≡◌, ℕ, ◌+◌, ◌-◌, ◌*◌, ◌/◌, ◌==◌, nat_lt, Bool, true, false, ◌&&◌, if◌then◌else◌, min, max, [], ◌∷◌, map, refl}
use Rattle.tsb_cells.specs.declared.timer.Timer.{Timer}
use Rattle.tsb_cells.specs.declared.timer.Timer.TheVariants.{Off, On}
use Rattle.tsb_cells.specs.Timer.{advanced, has_reached}
use Rattle.tsb_objects.specs.tsb_types.declared.interval.Interval.TheVariants.{Yellow, RedClear}
use Rattle.tsb_objects.specs.tsb_types.Intervals.{is_yellow}
use Rattle.tsb_objects.specs.tsb_plan.declared.object.Object.TheVariants.{PhaseMinimumGap}
use Rattle.tsb_objects.specs.tsb_plan.Quad.{quad}
use Rattle.tsb_objects.specs.tsb_plan.Plan.{Plan, with_value, yellow_change, has_variable_initial, minimum_green, maximum_initial, added_initial, passage, minimum_gap, time_to_reduce}
use Rattle.tsb_phase.specs.Green.{gap}
use Rattle.tsb_phase.specs.Phase.{Phase, Given, Moved, none_moved, at_power_up, as_read}
use Rattle.tsb_phase.specs.Ready.{yellow_is_done, is_over}
use Rattle.tsb_phase.specs.Next.{next}
use Rattle.tsb_phase.specs.ClearanceLaws.{after_ticks}
use Rattle.tsb_phase.proofs.Examples.Examples.{plan, at_once, nothing}

-- ## The reduction goes on after the time to reduce

abbrev pub gap_without_end : Plan → ℕ → Timer → ℕ
gap_without_end plan p Off = passage plan p
gap_without_end plan p (On r) =
    if time_to_reduce plan p == 0 then minimum_gap plan p
    else passage plan p - (passage plan p - minimum_gap plan p) * r / time_to_reduce plan p

falls_to_nothing : gap_without_end plan 1 (On 200) ≡ 0
unfolding plan
falls_to_nothing = refl

is_below_minimum : nat_lt (gap_without_end plan 1 (On 200)) (minimum_gap plan 1) ≡ true
unfolding plan
is_below_minimum = refl

-- ## Passage time and minimum gap are exchanged

abbrev pub gap_exchanged : Plan → ℕ → Timer → ℕ
gap_exchanged plan p Off = minimum_gap plan p
gap_exchanged plan p (On r) =
    if time_to_reduce plan p == 0 then passage plan p
    else minimum_gap plan p - (minimum_gap plan p - passage plan p) * min r (time_to_reduce plan p) / time_to_reduce plan p

grows : nat_lt (gap_exchanged at_once 1 Off) (gap_exchanged at_once 1 (On 0)) ≡ true
unfolding plan
grows = refl

-- ## The gap grows by what it should fall by

abbrev pub gap_added : Plan → ℕ → Timer → ℕ
gap_added plan p Off = passage plan p
gap_added plan p (On r) =
    if time_to_reduce plan p == 0 then minimum_gap plan p
    else passage plan p + (passage plan p - minimum_gap plan p) * min r (time_to_reduce plan p) / time_to_reduce plan p

is_above_passage : nat_lt (passage plan 1) (gap_added plan 1 (On 35)) ≡ true
unfolding plan
is_above_passage = refl

-- ## The share of a tick is rounded down, and not that of all ticks

abbrev pub gap_by_ticks : Plan → ℕ → Timer → ℕ
gap_by_ticks plan p Off = passage plan p
gap_by_ticks plan p (On r) =
    if time_to_reduce plan p == 0 then minimum_gap plan p
    else passage plan p - (passage plan p - minimum_gap plan p) / time_to_reduce plan p * min r (time_to_reduce plan p)

is_never_reduced : nat_lt (minimum_gap plan 1) (gap_by_ticks plan 1 (On 70)) ≡ true
unfolding plan
is_never_reduced = refl

-- ## A time to reduce of 0 is not told apart

abbrev pub gap_undivided : Plan → ℕ → Timer → ℕ
gap_undivided plan p Off = passage plan p
gap_undivided plan p (On r) =
    passage plan p - (passage plan p - minimum_gap plan p) * min r (time_to_reduce plan p) / time_to_reduce plan p

is_not_reduced_at_once : nat_lt (minimum_gap at_once 1) (gap_undivided at_once 1 (On 0)) ≡ true
unfolding plan
is_not_reduced_at_once = refl

-- ## A minimum gap over the passage time, which K9 refuses

abbrev pub wide : Plan
wide = with_value plan PhaseMinimumGap 1 40

is_below_wide_minimum : nat_lt (gap wide 1 Off) (minimum_gap wide 1) ≡ true
unfolding plan gap
is_below_wide_minimum = refl

-- ## The maximum initial is a least time

abbrev pub initial_exchanged : Plan → ℕ → ℕ → ℕ
initial_exchanged plan p cars =
    if has_variable_initial plan p
    then max (minimum_green plan p) (max (maximum_initial plan p) (added_initial plan p * cars))
    else minimum_green plan p

is_above_maximum : nat_lt (max (minimum_green plan 1) (maximum_initial plan 1)) (initial_exchanged plan 1 14) ≡ true
unfolding plan
is_above_maximum = refl

-- ## Variable initial takes the place of the minimum green

abbrev pub initial_alone : Plan → ℕ → ℕ → ℕ
initial_alone plan p cars =
    if has_variable_initial plan p then min (maximum_initial plan p) (added_initial plan p * cars)
    else minimum_green plan p

is_below_minimum_green : nat_lt (initial_alone plan 1 3) (minimum_green plan 1) ≡ true
unfolding plan
is_below_minimum_green = refl

-- ## Vehicles over the maximum initial are not counted at all

abbrev pub initial_dropped : Plan → ℕ → ℕ → ℕ
initial_dropped plan p cars =
    if has_variable_initial plan p then max (minimum_green plan p)
    (if nat_lt (maximum_initial plan p) (added_initial plan p * cars) then 0 else added_initial plan p * cars)
    else minimum_green plan p

falls_by_a_car : nat_lt (initial_dropped plan 1 14) (initial_dropped plan 1 13) ≡ true
unfolding plan
falls_by_a_car = refl

-- ## What the law of clearance gives

abbrev pub yellow_since : ℕ → Phase
yellow_since n = record at_power_up { interval = Yellow; timer = On n }

abbrev pub cleared_for : ℕ → Phase
cleared_for k = after_ticks quad (λ n. nothing) (λ n. none_moved) 2 (yellow_since 0) k

intervals_of_clearance : map (λ k. (cleared_for k).interval) (0 ∷ 29 ∷ 30 ∷ 39 ∷ [])
    ≡ Yellow ∷ Yellow ∷ RedClear ∷ RedClear ∷ []
unfolding quad
intervals_of_clearance = refl

over_in_tick_40 : map (λ k. is_over quad 2 (as_read (cleared_for k))) (29 ∷ 38 ∷ 39 ∷ []) ≡ false ∷ false ∷ true ∷ []
unfolding quad is_over
over_in_tick_40 = refl

-- ## A yellow is done once it is over its time

abbrev pub yellow_done_late : Plan → ℕ → Phase → Bool
yellow_done_late plan p w = is_yellow w.interval && has_reached w.timer (yellow_change plan p + 1)

is_done_in_tick_30 : yellow_is_done quad 2 (as_read (yellow_since 29)) ≡ true
unfolding quad
is_done_in_tick_30 = refl

is_not_done_in_tick_30 : yellow_done_late quad 2 (as_read (yellow_since 29)) ≡ false
unfolding quad
is_not_done_in_tick_30 = refl

-- ## One timer runs on from yellow change through red clearance

abbrev pub next_with_one_timer : Plan → Given → Moved → ℕ → Phase → Phase
next_with_one_timer plan given moved p was = record (next plan given moved p was) { timer = advanced was.timer }

is_not_over_in_tick_31 : is_over quad 2 (as_read (next quad nothing none_moved 2 (yellow_since 29))) ≡ false
unfolding quad is_over
is_not_over_in_tick_31 = refl

is_over_in_tick_31 : is_over quad 2 (as_read (next_with_one_timer quad nothing none_moved 2 (yellow_since 29))) ≡ true
unfolding quad is_over
is_over_in_tick_31 = refl
