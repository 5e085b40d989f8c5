-- Advices on what is served: A1 to A7, and A55.
use Rattle.std.specs.Prelude.{ℕ, ◌==◌, nat_lt, Bool, not, ◌&&◌, ◌||◌, Option, Some, None, is_some, is_none}
use Rattle.std.specs.List.{list_all, list_any}
use Rattle.tsb_types.specs.Lists.{first, run_from}
use Rattle.tsb_plan.specs.Parts.{call_phase, is_used, detector_delay, detector_extend, no_activity, maximum_presence, erratic_counts, fail_time}
use Rattle.tsb_plan.specs.Plan.{Plan, phases, is_enabled, has_maximum_recall, has_soft_recall, ring_of, side_of, is_concurrent}
use Rattle.tsb_plan.specs.Running.{is_coordinated_now, is_omitted_now}
use Rattle.tsb_review.specs.Calls.{is_recalled, has_call, is_recalled_by_pattern, conflicts}

-- A1: p is enabled, and no detector, button, recall or split mode ever calls it
abbrev pub is_never_called : Plan → ℕ → Bool
is_never_called plan p = is_enabled plan p && not (has_call plan p || is_recalled_by_pattern plan p)

-- vehicle detector d has a delay, an extension or a diagnosis
abbrev pub has_settings : Plan → ℕ → Bool
has_settings plan d =
    nat_lt 0 (detector_delay plan d) || (nat_lt 0 (detector_extend plan d) || (nat_lt 0 (no_activity plan d) ||
    (nat_lt 0 (maximum_presence plan d) || (nat_lt 0 (erratic_counts plan d) || nat_lt 0 (fail_time plan d)))))

-- A2: vehicle detector d calls no phase, and has settings, of which nothing comes
abbrev pub is_set_for_nothing : Plan → ℕ → Bool
is_set_for_nothing plan d = is_none (call_phase plan d) && has_settings plan d

-- q is an enabled phase of the side of p and of the other ring, which may not be in service together with p
abbrev pub is_kept_apart : Plan → ℕ → ℕ → Bool
is_kept_apart plan p q =
    is_enabled plan q && (side_of plan p == side_of plan q && (not (ring_of plan p == ring_of plan q) && not (is_concurrent plan p q)))

-- A3: p and q, the lower number first, are enabled phases of one side and of two rings that are not concurrent: while one
-- rests in green, the other can wait without end
abbrev pub can_wait_for : Plan → ℕ → ℕ → Bool
can_wait_for plan p q = nat_lt p q && (is_enabled plan p && is_kept_apart plan p q)

-- q is kept apart from p, and pattern n does not omit it
abbrev pub is_served_apart : Plan → ℕ → ℕ → ℕ → Bool
is_served_apart plan n p q = is_kept_apart plan p q && not (is_omitted_now plan (Some n) q)

-- the first phase that pattern n serves apart from p
abbrev pub apart_from : Plan → ℕ → ℕ → Option ℕ
apart_from plan n p = first (is_served_apart plan n p) (phases plan)

-- A4: p is a coordinated phase of the used pattern n, which serves a phase of its side apart from it: p may never be served
abbrev pub may_lose_coordination : Plan → ℕ → ℕ → Bool
may_lose_coordination plan n p =
    is_used plan n && (is_enabled plan p && (is_coordinated_now plan (Some n) p && is_some (apart_from plan n p)))

-- p is an enabled phase of ring r
abbrev pub is_in_ring : Plan → ℕ → ℕ → Bool
is_in_ring plan r p = is_enabled plan p && ring_of plan p == r

-- A5: ring r has phases, and all have maximum recall: its times are fixed
abbrev pub has_fixed_times : Plan → ℕ → Bool
has_fixed_times plan r =
    list_any (is_in_ring plan r) (phases plan) && list_all (λ p. not (is_in_ring plan r p) || has_maximum_recall plan p) (phases plan)

-- A6: p has a soft recall, and another recall that calls it at all times
abbrev pub has_two_recalls : Plan → ℕ → Bool
has_two_recalls plan p = is_enabled plan p && (has_soft_recall plan p && is_recalled plan None p)

-- q is an enabled phase that is called at all times in free operation
abbrev pub is_always_called : Plan → ℕ → Bool
is_always_called plan q = is_enabled plan q && is_recalled plan None q

-- q conflicts with p, and is called at all times in free operation
abbrev pub is_rival : Plan → ℕ → ℕ → Bool
is_rival plan p q = conflicts plan p q && is_recalled plan None q

-- q is called at all times, and so is a phase that conflicts with it: one of the two always waits
abbrev pub has_rival : Plan → ℕ → Bool
has_rival plan q = is_always_called plan q && list_any (is_rival plan q) (phases plan)

-- the first phase that has a rival
abbrev pub rivalled : Plan → Option ℕ
rivalled plan = first (has_rival plan) (phases plan)

-- the first rival of the first phase that has one
abbrev pub rival_of : Plan → Option ℕ → Option ℕ
rival_of plan None = None
rival_of plan (Some q) = first (is_rival plan q) (phases plan)

-- A7: p has a soft recall and no other, and in free operation it never acts, as some phase always waits by its recall
abbrev pub never_recalls_softly : Plan → ℕ → Bool
never_recalls_softly plan p =
    is_enabled plan p && (has_soft_recall plan p && (not (is_recalled plan None p) && is_some (rivalled plan)))

-- there are used patterns, and each of them omits p
abbrev pub is_always_omitted : Plan → ℕ → Bool
is_always_omitted plan p =
    list_any (is_used plan) (run_from 1 16) && list_all (λ n. not (is_used plan n) || is_omitted_now plan (Some n) p) (run_from 1 16)

-- A55: p has a call of its own, and each used pattern omits it: then dual entry does not bring it in either
abbrev pub is_shut_out : Plan → ℕ → Bool
is_shut_out plan p = is_enabled plan p && (has_call plan p && is_always_omitted plan p)
