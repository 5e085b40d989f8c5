-- Advices on pedestrians: A8 to A14. Times are in tenths of a second.
use Rattle.std.specs.Prelude.{ℕ, ◌+◌, ◌==◌, nat_lt, Bool, not, ◌&&◌, ◌||◌, Some, is_some}
use Rattle.tsb_plan.specs.Parts.{is_used, permissive_time}
use Rattle.tsb_plan.specs.Plan.{Plan, is_enabled, rests_in_walk, walk, pedestrian_clear, maximum, has_pedestrian_recall}
use Rattle.tsb_plan.specs.Running.{is_coordinated_now, is_omitted_now}
use Rattle.tsb_rules.specs.Rules.{has_walk, serves_pedestrians}
use Rattle.tsb_review.specs.Calls.{has_detector, has_button, recalls_pedestrians_in_pattern}
use Rattle.tsb_review.specs.Splits.{green_of_split, passed_by}

-- A8: p has a walk without a pedestrian clearance
abbrev pub has_no_clearance : Plan → ℕ → Bool
has_no_clearance plan p = serves_pedestrians plan p && pedestrian_clear plan p == 0

-- A9: the walk of p is under 4 seconds
abbrev pub has_short_walk : Plan → ℕ → Bool
has_short_walk plan p = serves_pedestrians plan p && nat_lt (walk plan p) 40

-- A10: p has a pedestrian clearance without a walk, which is never shown
abbrev pub has_no_walk : Plan → ℕ → Bool
has_no_walk plan p = is_enabled plan p && (not (has_walk plan p) && nat_lt 0 (pedestrian_clear plan p))

-- A11: p has a walk that no button and no pedestrian recall ever calls
abbrev pub has_idle_walk : Plan → ℕ → Bool
has_idle_walk plan p =
    serves_pedestrians plan p && not (has_button plan p || (has_pedestrian_recall plan p || recalls_pedestrians_in_pattern plan p))

-- walk and clearance of p
abbrev pub pedestrian_time : Plan → ℕ → ℕ
pedestrian_time plan p = walk plan p + pedestrian_clear plan p

-- A12: in the used pattern n walk and clearance of p are longer than the green that its split leaves
abbrev pub overruns_split : Plan → ℕ → ℕ → Bool
overruns_split plan n p =
    is_used plan n && (serves_pedestrians plan p && (not (is_omitted_now plan (Some n) p) && nat_lt (green_of_split plan n p) (pedestrian_time plan p)))

-- A13: walk and clearance of p, which has a vehicle detector, are longer than its maximum
abbrev pub overruns_maximum : Plan → ℕ → Bool
overruns_maximum plan p =
    serves_pedestrians plan p && (has_detector plan p && nat_lt (maximum plan p) (pedestrian_time plan p))

-- p is a coordinated phase of the used pattern n that rests in walk
abbrev pub rests_coordinated : Plan → ℕ → ℕ → Bool
rests_coordinated plan n p =
    is_used plan n && (serves_pedestrians plan p && (rests_in_walk plan p && is_coordinated_now plan (Some n) p))

-- how long after the end of the split of p, which rests in walk, its red clearance is over, where a conflict begins at
-- the end of its permissive time in pattern n
abbrev pub rest_end : Plan → ℕ → ℕ → ℕ
rest_end plan n p = permissive_time plan n + pedestrian_clear plan p

-- A14: a coordinated phase p of pattern n rests in walk; where a conflict begins at the end of its permissive time, a
-- phase that waits begins at its force-off instant or after it, and demand holds it until the next cycle
abbrev pub rests_too_long : Plan → ℕ → ℕ → Bool
rests_too_long plan n p = rests_coordinated plan n p && is_some (passed_by plan n p (rest_end plan n p))
