-- Splits of a used pattern, and what a green that ends late does to those that wait. Times are in tenths of a second.
use Rattle.std.specs.Prelude.{ℕ, ◌+◌, ◌-◌, nat_le, nat_lt, Bool, not, ◌&&◌, if◌then◌else◌, Option, Some, None, is_none}
use Rattle.tsb_types.specs.Lists.{first}
use Rattle.tsb_plan.specs.Parts.{is_used, permissive_time, split_of, split_time, forces_late}
use Rattle.tsb_plan.specs.Plan.{Plan, phases, minimum_green, yellow_change, red_clear}
use Rattle.tsb_plan.specs.Running.{is_coordinated_now, is_omitted_now, pattern_maximum}
use Rattle.tsb_objects.specs.Instants.{instant_from}
use Rattle.tsb_review.specs.Calls.{conflicts}

-- by the split table that is named, if one is
abbrev pub split_in : Plan → Option ℕ → ℕ → ℕ
split_in plan None p = 0
split_in plan (Some table) p = split_time plan table p

-- the split of p in pattern n
abbrev pub split_time_in : Plan → ℕ → ℕ → ℕ
split_time_in plan n p = split_in plan (split_of plan n) p

-- what its yellow change and red clearance leave of it
abbrev pub green_of_split : Plan → ℕ → ℕ → ℕ
green_of_split plan n p = split_time_in plan n p - (yellow_change plan p + red_clear plan p)

-- q waits for p in pattern n, and is not one of those that are held until their force-off: it conflicts with p, and is
-- neither coordinated nor omitted
abbrev pub is_forced_after : Plan → ℕ → ℕ → ℕ → Bool
is_forced_after plan n p q =
    conflicts plan p q && (not (is_coordinated_now plan (Some n) q) && not (is_omitted_now plan (Some n) q))

-- no maximum acts on q in pattern n, and its force-off instant is at most so long after the end of the split of p
abbrev pub is_behind : Plan → ℕ → ℕ → ℕ → ℕ → Bool
is_behind plan n p late q = is_none (pattern_maximum plan (Some n) q) && nat_le (instant_from plan n p q) late

-- in the used pattern n a phase q that begins so long after the end of the split of p begins at its force-off instant
-- or after it, and demand holds it until the next cycle: there is neither late force-off nor a maximum that acts
abbrev pub is_passed : Plan → ℕ → ℕ → ℕ → ℕ → Bool
is_passed plan n p late q =
    not (forces_late plan) && (is_used plan n && (is_forced_after plan n p q && is_behind plan n p late q))

-- the first such phase
abbrev pub passed_by : Plan → ℕ → ℕ → ℕ → Option ℕ
passed_by plan n p late = first (is_passed plan n p late) (phases plan)

-- in the used pattern n a phase q that begins at the end of the permissive time of p has less than its minimum green
-- before its force-off instant
abbrev pub is_left_short : Plan → ℕ → ℕ → ℕ → Bool
is_left_short plan n p q =
    is_used plan n && (is_forced_after plan n p q && nat_lt (instant_from plan n p q) (permissive_time plan n + minimum_green plan q))

-- the first such phase
abbrev pub left_short : Plan → ℕ → ℕ → Option ℕ
left_short plan n p = first (is_left_short plan n p) (phases plan)

-- the longest permissive time that leaves this phase its minimum green: 0 where there is none, or the pattern is not used
abbrev pub longest_before : Plan → ℕ → ℕ → Option ℕ → ℕ
longest_before plan n p None = 0
longest_before plan n p (Some q) = if is_used plan n then instant_from plan n p q - minimum_green plan q else 0

-- the longest that leaves it to the first phase that the present one can leave less
abbrev pub longest_permissive : Plan → ℕ → ℕ → ℕ
longest_permissive plan n p = longest_before plan n p (left_short plan n p)
