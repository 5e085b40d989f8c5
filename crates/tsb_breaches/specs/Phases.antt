-- What of single phases, and of their concurrency lists, breaks a rule (profile): K1 to K5, K8 to K11 and K22. A phase
-- that is not enabled can break K3 and K5 alone.
use Rattle.std.specs.Prelude.{ℕ, ◌==◌, nat_le, nat_lt, Bool, not, ◌&&◌, ◌||◌}
use Rattle.tsb_plan.specs.declared.object.Object.{Object}
use Rattle.tsb_plan.specs.declared.object.Object.TheVariants.{PhaseConcurrency, PhaseMinimumGreen}
use Rattle.tsb_plan.specs.Plan.{Plan, is_enabled, has_pedestrian_recall, ring_of, side_of, is_concurrent, minimum_green, minimum_gap, passage, yellow_change, dynamic_maximum_limit}
use Rattle.tsb_rules.specs.Rules.{some_enabled, has_walk}

-- K1: no phase is enabled
abbrev pub has_no_phase : Plan → Bool
has_no_phase plan = not (some_enabled plan)

-- K2: p is enabled, and its ring is neither 1 nor 2
abbrev pub has_no_ring : Plan → ℕ → Bool
has_no_ring plan p = is_enabled plan p && not (ring_of plan p == 1 || ring_of plan p == 2)

-- K2: p is enabled, and is on none of the sides
abbrev pub has_no_side : Plan → ℕ → Bool
has_no_side plan p = is_enabled plan p && not (nat_le 1 (side_of plan p) && nat_le (side_of plan p) plan.side_count)

-- K3: p is not enabled, and its concurrency list is not empty
abbrev pub keeps_list : Plan → ℕ → Bool
keeps_list plan p = not (is_enabled plan p) && not (plan.value PhaseConcurrency p == 0)

-- p is enabled, and its concurrency list names q
abbrev pub goes_with : Plan → ℕ → ℕ → Bool
goes_with plan p q = is_enabled plan p && is_concurrent plan p q

-- K4: the concurrency list of p names q, which is not enabled
abbrev pub names_unused : Plan → ℕ → ℕ → Bool
names_unused plan p q = goes_with plan p q && not (is_enabled plan q)

-- K4: it names q, which is enabled and of the same ring
abbrev pub names_same_ring : Plan → ℕ → ℕ → Bool
names_same_ring plan p q = goes_with plan p q && (is_enabled plan q && ring_of plan p == ring_of plan q)

-- K4: it names q, which is enabled, of another ring and on another side
abbrev pub names_other_side : Plan → ℕ → ℕ → Bool
names_other_side plan p q =
    goes_with plan p q && (is_enabled plan q && (not (ring_of plan p == ring_of plan q) && not (side_of plan p == side_of plan q)))

-- K5: the concurrency list of p names q, and that of q does not name p
abbrev pub is_not_named_back : Plan → ℕ → ℕ → Bool
is_not_named_back plan p q = is_concurrent plan p q && not (is_concurrent plan q p)

-- K8: the yellow change of p is under 30 tenths of a second
abbrev pub has_short_yellow : Plan → ℕ → Bool
has_short_yellow plan p = is_enabled plan p && nat_lt (yellow_change plan p) 30

-- K9: the minimum gap of p is over its passage
abbrev pub has_long_gap : Plan → ℕ → Bool
has_long_gap plan p = is_enabled plan p && nat_lt (passage plan p) (minimum_gap plan p)

-- K10: the maximum green that object o gives p is under its minimum green; both are in seconds
abbrev pub is_under_minimum : Plan → Object → ℕ → Bool
is_under_minimum plan o p = is_enabled plan p && nat_lt (plan.value o p) (plan.value PhaseMinimumGreen p)

-- K11: p has a pedestrian recall and no walk
abbrev pub recalls_no_walk : Plan → ℕ → Bool
recalls_no_walk plan p = is_enabled plan p && (has_pedestrian_recall plan p && not (has_walk plan p))

-- K22: the dynamic maximum limit of p is not 0, and under its minimum green
abbrev pub has_low_limit : Plan → ℕ → Bool
has_low_limit plan p =
    is_enabled plan p && (not (dynamic_maximum_limit plan p == 0) && nat_lt (dynamic_maximum_limit plan p) (minimum_green plan p))
