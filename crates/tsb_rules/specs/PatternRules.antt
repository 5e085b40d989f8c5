-- What the patterns of a plan must be (profile): rules K17 to K20 and K23, and when in the cycle a split ends. A used
-- pattern is one whose cycle is not 0. Times are in tenths of a second.
use Rattle.std.specs.Prelude.{ℕ, ◌+◌, ◌-◌, ◌==◌, nat_le, nat_lt, Bool, false, not, ◌&&◌, ◌||◌, if◌then◌else◌, List, [], Option, Some, None, sum_by}
use Rattle.std.specs.List.{list_all, list_any}
use Rattle.tsb_types.specs.Lists.{run_from, up_to}
use Rattle.tsb_plan.specs.Parts.{is_used, cycle, offset, permissive_time, leads_and_lags, split_of, sequence_of, split_time, is_omitted, is_coordinated}
use Rattle.tsb_plan.specs.Plan.{Plan, phases, is_enabled, ring_of, side_of, is_concurrent, minimum_green, yellow_change, red_clear, sequence}
use Rattle.tsb_rules.specs.SequenceRules.{each_phase, is_blank}

-- some, and it passes a test
abbrev pub some_and : (ℕ → Bool) → Option ℕ → Bool
some_and test None = false
some_and test (Some n) = test n

-- a test that each used one of the 16 patterns passes
abbrev pub each_pattern : Plan → (ℕ → Bool) → Bool
each_pattern plan test = list_all (λ n. not (is_used plan n) || test n) (run_from 1 16)

-- pattern n names a split table, 1 to 8
abbrev pub names_split : Plan → ℕ → Bool
names_split plan n = some_and (λ t. nat_le t 8) (split_of plan n)

-- pattern n names a sequence, 1 to 4, that is not all zeros
abbrev pub names_sequence : Plan → ℕ → Bool
names_sequence plan n = some_and (λ s. nat_le s 4 && not (is_blank plan s)) (sequence_of plan n)

-- pattern n has an offset below its cycle, a split table and a sequence
abbrev pub is_whole : Plan → ℕ → Bool
is_whole plan n = nat_lt (offset plan n) (cycle plan n) && (names_split plan n && names_sequence plan n)

-- K17: a used pattern has an offset below its cycle, a split of 1 to 8, and a sequence of 1 to 4 that is not all zeros
abbrev pub patterns_are_whole : Plan → Bool
patterns_are_whole plan = each_pattern plan (is_whole plan)

-- table t omits p, or gives it time for its minimum green, yellow change and red clearance
abbrev pub holds_phase : Plan → ℕ → ℕ → Bool
holds_phase plan t p = is_omitted plan t p || nat_le (minimum_green plan p + yellow_change plan p + red_clear plan p) (split_time plan t p)

-- table t holds each enabled phase that it does not omit
abbrev pub holds_phases : Plan → ℕ → Bool
holds_phases plan t = each_phase plan (holds_phase plan t)

-- K18: in a used pattern the split of each phase that is not omitted holds its minimum green, yellow change and red
-- clearance
abbrev pub splits_hold_phases : Plan → Bool
splits_hold_phases plan = each_pattern plan (λ n. some_and (holds_phases plan) (split_of plan n))

-- p is an enabled phase of ring r on side d
abbrev pub is_on : Plan → ℕ → ℕ → ℕ → Bool
is_on plan r d p = is_enabled plan p && (ring_of plan p == r && side_of plan p == d)

-- ring r has an enabled phase on side d
abbrev pub has_phases : Plan → ℕ → ℕ → Bool
has_phases plan r d = list_any (is_on plan r d) (phases plan)

-- what p adds to the sum of ring r's splits on side d, in tenths of a second; an omitted phase adds its split too
abbrev pub split_on : Plan → ℕ → ℕ → ℕ → ℕ → ℕ
split_on plan t r d p = if is_on plan r d p then split_time plan t p else 0

-- the sum of ring r's splits on side d: how long the ring is on that side in a cycle, in tenths of a second
unfoldable pub split_sum : Plan → ℕ → ℕ → ℕ → ℕ
split_sum plan t r d = sum_by (split_on plan t r d) (phases plan)

-- how long a cycle is on side d, in tenths of a second: the sum of ring 1's splits there, or of ring 2's where ring 1
-- has no phase there
unfoldable pub side_sum : Plan → ℕ → ℕ → ℕ
side_sum plan t d = if has_phases plan 1 d then split_sum plan t 1 d else split_sum plan t 2 d

-- where both rings have phases on side d, their splits there have one sum: both come to the barrier at one time
abbrev pub rings_agree : Plan → ℕ → ℕ → Bool
rings_agree plan t d = not (has_phases plan 1 d && has_phases plan 2 d) || split_sum plan t 1 d == split_sum plan t 2 d

-- by table t the rings agree on every side
abbrev pub rings_agree_on_sides : Plan → ℕ → Bool
rings_agree_on_sides plan t = list_all (rings_agree plan t) (run_from 1 plan.side_count)

-- the splits of table t fill the cycle of pattern n: the rings agree, and the sums of the sides add up to the cycle
abbrev pub fills : Plan → ℕ → ℕ → Bool
fills plan n t = rings_agree_on_sides plan t && sum_by (side_sum plan t) (run_from 1 plan.side_count) == cycle plan n

-- K19: in a used pattern the splits of a side have one sum in each ring that has phases there, and the sums of the
-- sides add up to the cycle
abbrev pub splits_fill_cycles : Plan → Bool
splits_fill_cycles plan = each_pattern plan (λ n. some_and (fills plan n) (split_of plan n))

-- what a listed phase q adds to the end of a split on side d, in tenths of a second: its split where it is enabled and
-- on that side
abbrev pub split_before : Plan → ℕ → ℕ → ℕ → ℕ
split_before plan t d q = if is_enabled plan q && side_of plan q == d then split_time plan t q else 0

-- what a sequence has for a ring; nothing for none
abbrev pub ring_sequence : Plan → ℕ → ℕ → List ℕ
ring_sequence plan s r = if nat_le 1 r && nat_le r 2 then sequence plan s r else []

-- when the split of p ends, in tenths of a second from the beginning of side 1's first split: the splits of its ring on
-- its side, from the sequence's first to its own, after the splits of all lower sides
unfoldable pub split_end : Plan → ℕ → ℕ → ℕ → ℕ
split_end plan s t p =
    sum_by (split_before plan t (side_of plan p)) (up_to p (ring_sequence plan s (ring_of plan p)))
    + sum_by (side_sum plan t) (run_from 1 (side_of plan p - 1))

-- p is enabled and table t does not omit it
abbrev pub may_coordinate : Plan → ℕ → ℕ → Bool
may_coordinate plan t p = is_enabled plan p && not (is_omitted plan t p)

-- p and q are on one side, and one phase or concurrent; and their splits end at one time, unless they may end apart
abbrev pub ends_with : Plan → Bool → ℕ → ℕ → ℕ → ℕ → Bool
ends_with plan apart s t p q =
    side_of plan p == side_of plan q &&
    ((p == q || is_concurrent plan p q) && (apart || split_end plan s t p == split_end plan s t q))

-- p ends with each coordinated phase of table t
abbrev pub agrees_with_all : Plan → Bool → ℕ → ℕ → ℕ → Bool
agrees_with_all plan apart s t p = list_all (λ q. not (is_coordinated plan t q) || ends_with plan apart s t p q) (phases plan)

-- p is a coordinated phase of ring r
abbrev pub is_coordinated_in : Plan → ℕ → ℕ → ℕ → Bool
is_coordinated_in plan t r p = is_coordinated plan t p && ring_of plan p == r

-- how many coordinated phases table t has in ring r
unfoldable pub coordinated_count : Plan → ℕ → ℕ → ℕ
coordinated_count plan t r = sum_by (λ p. if is_coordinated_in plan t r p then 1 else 0) (phases plan)

-- each ring that has phases on the side of p has exactly one coordinated phase
abbrev pub has_one_in_each_ring : Plan → ℕ → ℕ → Bool
has_one_in_each_ring plan t p = list_all (λ r. not (has_phases plan r (side_of plan p)) || coordinated_count plan t r == 1) (run_from 1 2)

-- p may coordinate, agrees with all coordinated phases, and each ring with phases on its side has exactly one
abbrev pub coordinates : Plan → Bool → ℕ → ℕ → ℕ → Bool
coordinates plan apart s t p = may_coordinate plan t p && (agrees_with_all plan apart s t p && has_one_in_each_ring plan t p)

-- table t has a coordinated phase
abbrev pub has_coordinated : Plan → ℕ → Bool
has_coordinated plan t = list_any (is_coordinated plan t) (phases plan)

-- each coordinated phase of table t coordinates, by sequence s
abbrev pub all_coordinate : Plan → Bool → ℕ → ℕ → Bool
all_coordinate plan apart s t = list_all (λ p. not (is_coordinated plan t p) || coordinates plan apart s t p) (phases plan)

-- table t has coordinated phases, and by sequence s each is as K20 says
abbrev pub coordinated_agree : Plan → Bool → ℕ → ℕ → Bool
coordinated_agree plan apart s t = has_coordinated plan t && all_coordinate plan apart s t

-- K20: a used pattern has coordinated phases. All are enabled, not omitted, on one side and pairwise concurrent; each
-- ring with phases on that side has exactly one; and their splits end at one time, but where the pattern leads and lags
abbrev pub coordinated_phases_agree : Plan → Bool
coordinated_phases_agree plan =
    each_pattern plan (λ n. some_and (λ s. some_and (coordinated_agree plan (leads_and_lags plan n) s) (split_of plan n)) (sequence_of plan n))

-- K23: the permissive time of a used pattern is below its cycle. Otherwise its coordinated phases would be forced off
-- in each tick
abbrev pub permissive_times_end : Plan → Bool
permissive_times_end plan = each_pattern plan (λ n. nat_lt (permissive_time plan n) (cycle plan n))
