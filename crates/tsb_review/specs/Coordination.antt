-- Advices on coordination: A27 to A32, A42 to A47, and A54. Times are in tenths of a second.
use Rattle.std.specs.Prelude.{ℕ, ◌-◌, ◌==◌, nat_lt, Bool, true, false, not, ◌&&◌, ◌||◌, Option, Some, None, is_some}
use Rattle.std.specs.List.{list_any}
use Rattle.tsb_types.specs.Lists.{first, run_from}
use Rattle.tsb_plan.specs.declared.object.Object.TheVariants.{PatternCycleTime, PatternOffsetTime, PatternSplitNumber, PatternSequenceNumber, PatternPermissiveTime, PatternLeadLag, CoordMaximumMode, CoordCorrectionMode}
use Rattle.tsb_plan.specs.declared.plan.patterns.CorrectionMode.{CorrectionMode}
use Rattle.tsb_plan.specs.declared.plan.patterns.CorrectionMode.TheVariants.{AtOnce}
use Rattle.tsb_plan.specs.Parts.{is_used, permissive_time, leads_and_lags, forces_late, correction_mode, correction_limit}
use Rattle.tsb_plan.specs.Plan.{Plan, phases, is_enabled, minimum_green, recycles_walk}
use Rattle.tsb_plan.specs.Running.{is_coordinated_now, is_omitted_now, is_on_pedestrian_recall, pattern_maximum}
use Rattle.tsb_rules.specs.Rules.{has_walk, serves_pedestrians}
use Rattle.tsb_objects.specs.Instants.{end_of, may_recycle}
use Rattle.tsb_review.specs.Calls.{is_recalled, has_recall}
use Rattle.tsb_review.specs.Pedestrians.{overruns_split, pedestrian_time}
use Rattle.tsb_review.specs.Splits.{green_of_split, passed_by, left_short}

-- what the split of p in pattern n leaves over its minimum green, yellow change and red clearance
abbrev pub spare_time : Plan → ℕ → ℕ → ℕ
spare_time plan n p = green_of_split plan n p - minimum_green plan p

-- A27: in the used pattern n that is under 1 second
abbrev pub has_tight_split : Plan → ℕ → ℕ → Bool
has_tight_split plan n p =
    is_used plan n && (is_enabled plan p && (not (is_omitted_now plan (Some n) p) && nat_lt (spare_time plan n p) 10))

-- how long after the end of its split walk and clearance of p are over, where they begin with its split
abbrev pub overrun : Plan → ℕ → ℕ → ℕ
overrun plan n p = pedestrian_time plan p - green_of_split plan n p

-- A28: walk and clearance of p overrun its split in pattern n, and a phase that waits then begins at its force-off
-- instant or after it, and demand holds it until the next cycle
abbrev pub makes_late : Plan → ℕ → ℕ → Bool
makes_late plan n p = overruns_split plan n p && is_some (passed_by plan n p (overrun plan n p))

-- A29: the used pattern n omits p, whose recall has then no effect
abbrev pub recalls_omitted : Plan → ℕ → ℕ → Bool
recalls_omitted plan n p =
    is_used plan n && (is_enabled plan p && (is_omitted_now plan (Some n) p && has_recall plan p))

-- patterns m and n have the same permissive time, and lead and lag alike
abbrev pub yields_alike : Plan → ℕ → ℕ → Bool
yields_alike plan n m =
    plan.value PatternPermissiveTime m == plan.value PatternPermissiveTime n && plan.value PatternLeadLag m == plan.value PatternLeadLag n

-- pattern m comes before pattern n, and is used with the same cycle, offset, split table and sequence, with the same
-- permissive time, and leading and lagging alike
abbrev pub is_same_before : Plan → ℕ → ℕ → Bool
is_same_before plan n m =
    nat_lt m n && (plan.value PatternCycleTime m == plan.value PatternCycleTime n && (plan.value PatternOffsetTime m == plan.value PatternOffsetTime n &&
    (plan.value PatternSplitNumber m == plan.value PatternSplitNumber n && (plan.value PatternSequenceNumber m == plan.value PatternSequenceNumber n &&
    yields_alike plan n m))))

-- the first such pattern
abbrev pub first_same : Plan → ℕ → Option ℕ
first_same plan n = first (is_same_before plan n) (run_from 1 16)

-- A30: the used pattern n is the same as one before it
abbrev pub is_repeated : Plan → ℕ → Bool
is_repeated plan n = is_used plan n && is_some (first_same plan n)

-- p waits for a call in pattern n: it is neither coordinated, nor omitted, nor recalled
abbrev pub is_actuated : Plan → ℕ → ℕ → Bool
is_actuated plan n p =
    is_enabled plan p && (not (is_coordinated_now plan (Some n) p) && (not (is_omitted_now plan (Some n) p) && not (is_recalled plan (Some n) p)))

-- A32: the used pattern n has no permissive time and such a phase: a call of it that comes after the one tick in which
-- a coordinated phase yields waits for the next cycle
abbrev pub yields_once : Plan → ℕ → Bool
yields_once plan n = is_used plan n && (permissive_time plan n == 0 && list_any (is_actuated plan n) (phases plan))

-- there is a maximum, and it is under this time
abbrev pub is_under : Option ℕ → ℕ → Bool
is_under None time = false
is_under (Some maximum) time = nat_lt maximum time

-- A42: the maximum that acts on p in the used pattern n is under the green that its split leaves
abbrev pub has_short_maximum : Plan → ℕ → ℕ → Bool
has_short_maximum plan n p =
    is_used plan n && (is_enabled plan p && (not (is_omitted_now plan (Some n) p) &&
    is_under (pattern_maximum plan (Some n) p) (green_of_split plan n p)))

-- p is a coordinated phase of pattern n, which has a permissive time
abbrev pub is_permissive : Plan → ℕ → ℕ → Bool
is_permissive plan n p = is_enabled plan p && (is_coordinated_now plan (Some n) p && nat_lt 0 (permissive_time plan n))

-- A43: the permissive time of the coordinated phase p of the used pattern n can leave a phase that waits less than its
-- minimum green before its force-off instant
abbrev pub yields_too_long : Plan → ℕ → ℕ → Bool
yields_too_long plan n p = is_permissive plan n p && is_some (left_short plan n p)

-- q is a coordinated phase of pattern n, and its split ends at another time than that of p
abbrev pub ends_apart_from : Plan → ℕ → ℕ → ℕ → Bool
ends_apart_from plan n p q = is_coordinated_now plan (Some n) q && not (end_of plan n q == end_of plan n p)

-- p is a coordinated phase of pattern n, and the split of another one ends at another time
abbrev pub ends_apart : Plan → ℕ → ℕ → Bool
ends_apart plan n p = is_coordinated_now plan (Some n) p && list_any (ends_apart_from plan n p) (phases plan)

-- A44: the used pattern n leads and lags, and the splits of its coordinated phases end at one time
abbrev pub leads_for_nothing : Plan → ℕ → Bool
leads_for_nothing plan n = is_used plan n && (leads_and_lags plan n && not (list_any (ends_apart plan n) (phases plan)))

-- some used pattern has p as a coordinated phase
abbrev pub is_coordinated_by_pattern : Plan → ℕ → Bool
is_coordinated_by_pattern plan p = list_any (λ n. is_used plan n && is_coordinated_now plan (Some n) p) (run_from 1 16)

-- A45: p has pedestrian recycle, and no used pattern has it as a coordinated phase with a walk
abbrev pub recycles_nothing : Plan → ℕ → Bool
recycles_nothing plan p =
    is_enabled plan p && (recycles_walk plan p && not (has_walk plan p && is_coordinated_by_pattern plan p))

-- A46: the used pattern n has p as a coordinated phase with a walk and pedestrian recycle, and recalls its pedestrians:
-- after each clearance its walk begins again
abbrev pub walks_over_and_over : Plan → ℕ → ℕ → Bool
walks_over_and_over plan n p =
    is_used plan n && (serves_pedestrians plan p && (may_recycle plan (Some n) p && is_on_pedestrian_recall plan (Some n) p))

-- this mode brings local counters into step at once
abbrev pub is_at_once : CorrectionMode → Bool
is_at_once AtOnce = true
is_at_once mode = false

-- the plan has a mode by which local counters come into step, or a limit for it
abbrev pub gives_correction : Plan → Bool
gives_correction plan = nat_lt 0 (plan.value CoordCorrectionMode 1) || nat_lt 0 (correction_limit plan)

-- A47: it has one of them, and local counters come into step at once all the same: by the short way or add only without
-- a limit, or with a limit alone
abbrev pub corrects_nothing : Plan → Bool
corrects_nothing plan = gives_correction plan && is_at_once (correction_mode plan)

-- nothing but its instant ends a green that demand holds in a pattern: neither late force-off nor a maximum
abbrev pub ends_at_instants : Plan → Bool
ends_at_instants plan = not (forces_late plan) && plan.value CoordMaximumMode 1 == 0

-- A54: the used pattern n has a permissive time, and nothing but its instant ends a green: one that begins late by that
-- time, and misses its instant, is held for up to a cycle
abbrev pub permits_late_greens : Plan → ℕ → Bool
permits_late_greens plan n = is_used plan n && (nat_lt 0 (permissive_time plan n) && ends_at_instants plan)
