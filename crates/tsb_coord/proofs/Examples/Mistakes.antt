-- One-line mistakes, each with an example that tells it from the definition.
use Rattle.std.specs.Prelude.{◌≡◌, ℕ, ◌+◌, ◌-◌, ◌%◌, ◌==◌, Bool, true, false, not, ◌&&◌, if◌then◌else◌, [], ◌∷◌, map, Option, Some, None, sum_by, refl}
use Rattle.tsb_objects.specs.tsb_types.declared.refusal.Refusal.{Refusal}
use Rattle.tsb_objects.specs.tsb_types.declared.refusal.Refusal.TheVariants.{NoSuchPattern}
use Rattle.tsb_objects.specs.tsb_types.Lists.{run_from, up_to}
use Rattle.tsb_objects.specs.tsb_plan.declared.object.Object.TheVariants.{PatternSplitNumber, SplitMode}
use Rattle.tsb_objects.specs.tsb_plan.Plan.{Plan, is_enabled, ring_of, side_of, yellow_change, red_clear, sequence, with_value}
use Rattle.tsb_objects.specs.tsb_plan.Parts.{is_omitted, split_time, cycle, offset}
use Rattle.tsb_objects.specs.tsb_plan.Running.{is_coordinated_now}
use Rattle.tsb_objects.specs.tsb_plan.Quad.{quad}
use Rattle.tsb_objects.specs.tsb_rules.PatternRules.{split_before, split_sum, side_sum, split_end}
use Rattle.tsb_coord.specs.Coordinated.{counter, end_of, instant_from, residue_of_difference, asks_hold, refusal, is_pattern}
use Rattle.tsb_coord.proofs.Examples.Examples.{four}
use Rattle.tsb_coord.proofs.Examples.PatternExamples.{lagging}

-- ## A difference below 0 counts as 0

abbrev pub instant_cut_off : Plan → ℕ → ℕ → ℕ → ℕ
instant_cut_off plan n c p = (end_of plan n p - end_of plan n c - yellow_change plan p - red_clear plan p) % cycle plan n

below : instant_from quad 1 2 1 ≡ 510
unfolding quad run_from split_sum side_sum split_end
below = refl

cut_off : instant_cut_off quad 1 2 1 ≡ 0
unfolding quad run_from split_sum side_sum split_end
cut_off = refl

-- ## The split of an omitted phase is left out of the ends after it

abbrev pub served_split : Plan → ℕ → ℕ → ℕ → ℕ
served_split plan table d q =
    if is_enabled plan q && (side_of plan q == d && not (is_omitted plan table q)) then split_time plan table q else 0

abbrev pub end_of_served : Plan → ℕ → ℕ → ℕ → ℕ
end_of_served plan s table p =
    sum_by (served_split plan table (side_of plan p)) (up_to p (sequence plan s (ring_of plan p)))
    + sum_by (side_sum plan table) (run_from 1 (side_of plan p - 1))

abbrev pub three_is_omitted : Plan
three_is_omitted = with_value quad SplitMode 3 5

counts : end_of three_is_omitted 1 4 ≡ 800
unfolding quad run_from split_sum side_sum split_end
counts = refl

counts_not : end_of_served three_is_omitted 1 1 4 ≡ 650
unfolding quad run_from split_sum side_sum
counts_not = refl

-- ## A split ends after the sums of its own ring's lower sides

abbrev pub end_in_ring : Plan → ℕ → ℕ → ℕ
end_in_ring plan table p =
    sum_by (split_before plan table (side_of plan p)) (up_to p (sequence plan 1 (ring_of plan p)))
    + sum_by (split_sum plan table (ring_of plan p)) (run_from 1 (side_of plan p - 1))

of_any_ring : end_of four 1 14 ≡ 700
unfolding four run_from split_sum side_sum split_end
of_any_ring = refl

of_its_ring : end_in_ring four 1 14 ≡ 250
unfolding four run_from split_sum
of_its_ring = refl

-- ## Splits end in the order of sequence 1, whatever the pattern's sequence

abbrev pub end_in_sequence_1 : Plan → ℕ → ℕ → ℕ
end_in_sequence_1 plan table p = split_end plan 1 table p

in_its_sequence : map (end_of lagging 1) (1 ∷ 2 ∷ []) ≡ 400 ∷ 250 ∷ []
unfolding lagging quad run_from split_sum side_sum split_end
in_its_sequence = refl

in_sequence_1 : map (end_in_sequence_1 lagging 1) (1 ∷ 2 ∷ []) ≡ 150 ∷ 400 ∷ []
unfolding lagging quad run_from split_sum side_sum split_end
in_sequence_1 = refl

-- ## A phase is forced off where its split ends, and not before its yellow change and red clearance

abbrev pub instant_at_end : Plan → ℕ → ℕ → ℕ → ℕ
instant_at_end plan n c p = residue_of_difference (cycle plan n) (end_of plan n p) (end_of plan n c)

in_time : instant_from quad 1 2 2 ≡ 760
unfolding quad run_from split_sum side_sum split_end
in_time = refl

too_late : instant_at_end quad 1 2 2 ≡ 0
unfolding quad run_from split_sum side_sum split_end
too_late = refl

-- ## The pattern that is selected holds its coordinated phases, whether it runs or not

abbrev pub holds_selected : Plan → Option ℕ → ℕ → Bool
holds_selected plan selected p = is_coordinated_now plan selected p

-- pattern 3 has a split table, and a cycle of 0
abbrev pub unused : Plan
unused = with_value quad PatternSplitNumber 3 1

holds_not : asks_hold unused (Some 3) 2 ≡ false
unfolding quad
holds_not = refl

holds_at_all_times : holds_selected unused (Some 3) 2 ≡ true
unfolding quad
holds_at_all_times = refl

-- ## The offset is added

abbrev pub counter_ahead : Plan → ℕ → ℕ → ℕ
counter_ahead plan n t = (t + offset plan n) % cycle plan n

behind : counter quad 2 760 ≡ 770
unfolding quad
behind = refl

ahead : counter_ahead quad 2 760 ≡ 750
unfolding quad
ahead = refl

-- ## The local counter runs from 1 to the cycle

abbrev pub counter_from_one : Plan → ℕ → ℕ → ℕ
counter_from_one plan n t = counter plan n (t - 1) + 1

from_zero : counter quad 1 800 ≡ 0
unfolding quad
from_zero = refl

from_one : counter_from_one quad 1 800 ≡ 800
unfolding quad
from_one = refl

-- ## Free operation is refused, as a pattern without a cycle

abbrev pub refusal_of_none : Plan → ℕ → Option Refusal
refusal_of_none plan n = if is_pattern plan n then None else Some NoSuchPattern

free : refusal quad 0 ≡ None
unfolding quad
free = refl

free_not : refusal_of_none quad 0 ≡ Some NoSuchPattern
unfolding quad
free_not = refl
