-- What of a used pattern breaks a rule (profile): K17 to K20 and K23. A pattern without a split table breaks K17, and has
-- no place at which it could break K18, K19 or K20; without a sequence no splits end. Times are in tenths of a second.
use Rattle.std.specs.Prelude.{ℕ, ◌+◌, ◌==◌, nat_le, nat_lt, Bool, not, ◌&&◌, Option, None, if◌then◌else◌, sum_by}
use Rattle.std.specs.List.{list_any}
use Rattle.tsb_types.specs.Lists.{run_from}
use Rattle.tsb_plan.specs.Parts.{is_used, cycle, offset, permissive_time, split_of, sequence_of, split_time, is_omitted, is_coordinated}
use Rattle.tsb_plan.specs.Plan.{Plan, phases, is_enabled, side_of, minimum_green, yellow_change, red_clear}
use Rattle.tsb_rules.specs.PatternRules.{some_and, names_split, rings_agree, side_sum, has_phases, split_end, coordinated_count, has_coordinated}
use Rattle.tsb_rules.specs.SequenceRules.{is_blank}
use Rattle.tsb_breaches.specs.Lists.{go_together}

-- K17: pattern n is used, and its offset is not below its cycle
abbrev pub has_late_offset : Plan → ℕ → Bool
has_late_offset plan n = is_used plan n && nat_le (cycle plan n) (offset plan n)

-- K17: it is used, and names no split table
abbrev pub has_no_split : Plan → ℕ → Bool
has_no_split plan n = is_used plan n && not (names_split plan n)

-- it names one of the 4 sequences
abbrev pub names_one : Plan → ℕ → Bool
names_one plan n = some_and (λ s. nat_le s 4) (sequence_of plan n)

-- K17: it is used, and names no sequence
abbrev pub has_no_sequence : Plan → ℕ → Bool
has_no_sequence plan n = is_used plan n && not (names_one plan n)

-- it names one that is all zeros
abbrev pub names_blank : Plan → ℕ → Bool
names_blank plan n = some_and (λ s. nat_le s 4 && is_blank plan s) (sequence_of plan n)

-- K17: it is used, and names a sequence that is all zeros
abbrev pub has_blank_sequence : Plan → ℕ → Bool
has_blank_sequence plan n = is_used plan n && names_blank plan n

-- the split table of pattern n, where it is used
abbrev pub table_of : Plan → ℕ → Option ℕ
table_of plan n = if is_used plan n then split_of plan n else None

-- what the split of p has to hold: its minimum green, yellow change and red clearance
abbrev pub least_split : Plan → ℕ → ℕ
least_split plan p = minimum_green plan p + yellow_change plan p + red_clear plan p

-- K18: table t does not omit p, which is enabled, and its split is shorter
abbrev pub is_too_short : Plan → ℕ → ℕ → Bool
is_too_short plan t p = is_enabled plan p && (not (is_omitted plan t p) && nat_lt (split_time plan t p) (least_split plan p))

-- K19: by table t the splits of the two rings on side d have two sums
abbrev pub has_two_sums : Plan → ℕ → ℕ → Bool
has_two_sums plan t d = not (rings_agree plan t d)

-- how long the sides are by table t, one after the other
abbrev pub sides_time : Plan → ℕ → ℕ
sides_time plan t = sum_by (side_sum plan t) (run_from 1 plan.side_count)

-- K19: that is not the cycle of pattern n
abbrev pub misses_cycle : Plan → ℕ → ℕ → Bool
misses_cycle plan n t = not (sides_time plan t == cycle plan n)

-- K20: table t coordinates no phase
abbrev pub coordinates_none : Plan → ℕ → Bool
coordinates_none plan t = not (has_coordinated plan t)

-- K20: p is a coordinated phase of table t, and not enabled
abbrev pub coordinates_unused : Plan → ℕ → ℕ → Bool
coordinates_unused plan t p = is_coordinated plan t p && not (is_enabled plan p)

-- K20: p is a coordinated phase of table t, which omits it
abbrev pub coordinates_omitted : Plan → ℕ → ℕ → Bool
coordinates_omitted plan t p = is_coordinated plan t p && is_omitted plan t p

-- p is an enabled one of the coordinated phases of table t
abbrev pub coordinates_used : Plan → ℕ → ℕ → Bool
coordinates_used plan t p = is_coordinated plan t p && is_enabled plan p

-- p and q are two of these, the lower number first
abbrev pub are_coordinated : Plan → ℕ → ℕ → ℕ → Bool
are_coordinated plan t p q = nat_lt p q && (coordinates_used plan t p && coordinates_used plan t q)

-- K20: two of these are on two sides
abbrev pub are_across : Plan → ℕ → ℕ → ℕ → Bool
are_across plan t p q = are_coordinated plan t p q && not (side_of plan p == side_of plan q)

-- K20: two of these are on one side, and not concurrent
abbrev pub are_apart : Plan → ℕ → ℕ → ℕ → Bool
are_apart plan t p q = are_coordinated plan t p q && (side_of plan p == side_of plan q && not (go_together plan p q))

-- two of these are on one side and concurrent
abbrev pub are_together : Plan → ℕ → ℕ → ℕ → Bool
are_together plan t p q = are_coordinated plan t p q && (side_of plan p == side_of plan q && go_together plan p q)

-- K20: two of these are, and by sequence s their splits end at two times, where they may not end apart
abbrev pub end_apart : Plan → Bool → ℕ → ℕ → ℕ → ℕ → Bool
end_apart plan apart t p q s =
    not apart && (are_together plan t p q && not (split_end plan s t p == split_end plan s t q))

-- ring r has phases on the side of p, a coordinated phase of table t
abbrev pub is_beside : Plan → ℕ → ℕ → ℕ → Bool
is_beside plan t r p = is_coordinated plan t p && has_phases plan r (side_of plan p)

-- K20: it is beside one, and has no coordinated phase or several
abbrev pub has_wrong_count : Plan → ℕ → ℕ → Bool
has_wrong_count plan t r = list_any (is_beside plan t r) (phases plan) && not (coordinated_count plan t r == 1)

-- K23: pattern n is used, and its permissive time is not below its cycle
abbrev pub permits_always : Plan → ℕ → Bool
permits_always plan n = is_used plan n && nat_le (cycle plan n) (permissive_time plan n)
