-- The numbers that the line of a breach shows, up to five, named `a` to `e`: those of its place first, and then what does
-- not fit there. Times are in tenths of a second, but for those of K10, which are as the plan has them.
use Rattle.std.specs.Prelude.{ℕ, ◌/◌, ◌%◌, Option, Some, None}
use Rattle.tsb_plan.specs.declared.object.Object.TheVariants.{PhaseConcurrency, PhaseMinimumGreen, PhaseMaximum1, PhaseMaximum2, PatternSplitNumber, PatternSequenceNumber, OverlapType}
use Rattle.tsb_types.specs.Lists.{or_number}
use Rattle.tsb_plan.specs.Parts.{call_phase, pedestrian_call_phase, cycle, offset, permissive_time, split_of, sequence_of, split_time, trail_yellow}
use Rattle.tsb_plan.specs.Schedule.{action_of, asked_by, day_plan_of, time_of}
use Rattle.tsb_plan.specs.Plan.{Plan, ring_of, side_of, yellow_change, minimum_gap, passage, minimum_green, dynamic_maximum_limit}
use Rattle.tsb_rules.specs.PatternRules.{split_sum, split_end, coordinated_count}
use Rattle.tsb_review.specs.declared.numbers.Numbers.{Numbers}
use Rattle.tsb_breaches.specs.declared.breach.Breach.{Breach}
use Rattle.tsb_breaches.specs.declared.fault.RuleFault.{RuleFault}
use Rattle.tsb_breaches.specs.declared.fault.RuleFault.TheVariants.{K2Ring, K2Side, K3, K4Ring, K4Side, K6Ring, K6Side, K6Gap, K7Ring, K7Side, K7Gap, K8, K9, K10Maximum1, K10Maximum2, K17Offset, K17Split, K17Sequence, K17Blank, K18, K19Cycle, K20Sides, K20Ends, K22, K23, K28Turns, K29Yellow}
use Rattle.tsb_review.specs.declared.place.Place.{Place}
use Rattle.tsb_review.specs.declared.place.Place.TheVariants as at
use Rattle.tsb_breaches.specs.Lists.{turns_of}
use Rattle.tsb_breaches.specs.Patterns.{least_split, sides_time}
use Rattle.tsb_breaches.specs.Sequences.{listed, listed_next, lower_behind}

-- five numbers
abbrev pub five : ℕ → ℕ → ℕ → ℕ → ℕ → Numbers
five a b c d e = record { a = a; b = b; c = c; d = d; e = e }

-- a number, 0 where there is none
abbrev pub number_of : Option ℕ → ℕ
number_of n = or_number n 0

-- what a split table gives, 0 where there is none
abbrev pub in_table : Option ℕ → (ℕ → ℕ) → ℕ
in_table None f = 0
in_table (Some t) f = f t

-- when the split of phase p ends in pattern n
abbrev pub end_in : Plan → ℕ → ℕ → ℕ
end_in plan n p = in_table (split_of plan n) (λ t. in_table (sequence_of plan n) (λ s. split_end plan s t p))

-- of a phase: its number, and what does not fit
abbrev pub of_phase : Plan → RuleFault → ℕ → Numbers
of_phase plan K2Ring p = five p (ring_of plan p) 0 0 0
of_phase plan K2Side p = five p (side_of plan p) 0 0 0
of_phase plan K3 p = five p (plan.value PhaseConcurrency p) 0 0 0
of_phase plan K8 p = five p (yellow_change plan p) 0 0 0
of_phase plan K9 p = five p (minimum_gap plan p) (passage plan p) 0 0
of_phase plan K10Maximum1 p = five p (plan.value PhaseMaximum1 p) (plan.value PhaseMinimumGreen p) 0 0
of_phase plan K10Maximum2 p = five p (plan.value PhaseMaximum2 p) (plan.value PhaseMinimumGreen p) 0 0
of_phase plan K22 p = five p (dynamic_maximum_limit plan p) (minimum_green plan p) 0 0
of_phase plan f p = five p 0 0 0 0

-- of a phase and one that its list names: both, and the ring or the sides
abbrev pub of_phases : Plan → RuleFault → ℕ → ℕ → Numbers
of_phases plan K4Ring p q = five p q (ring_of plan p) 0 0
of_phases plan K4Side p q = five p q (side_of plan p) (side_of plan q) 0
of_phases plan f p q = five p q 0 0 0

-- of a place in a sequence: sequence, ring and place, what is listed there or next, and its ring or a later phase
abbrev pub of_listing : Plan → RuleFault → ℕ → ℕ → ℕ → Numbers
of_listing plan K6Ring s r k = five s r k (listed plan s r k) (ring_of plan (listed plan s r k))
of_listing plan K7Ring s r k = five s r k (listed plan s r k) (ring_of plan (listed plan s r k))
of_listing plan K6Side s r k = five s r k (listed plan s r k) (number_of (lower_behind plan s r k))
of_listing plan K7Side s r k = five s r k (listed plan s r k) (number_of (lower_behind plan s r k))
of_listing plan K6Gap s r k = five s r k (listed_next plan s r k) 0
of_listing plan K7Gap s r k = five s r k (listed_next plan s r k) 0
of_listing plan f s r k = five s r k (listed plan s r k) 0

-- of a pattern: its number, and times or numbers
abbrev pub of_pattern : Plan → RuleFault → ℕ → Numbers
of_pattern plan K17Offset n = five n (offset plan n) (cycle plan n) 0 0
of_pattern plan K17Split n = five n (plan.value PatternSplitNumber n) 0 0 0
of_pattern plan K17Sequence n = five n (plan.value PatternSequenceNumber n) 0 0 0
of_pattern plan K17Blank n = five n (plan.value PatternSequenceNumber n) 0 0 0
of_pattern plan K19Cycle n = five n (in_table (split_of plan n) (sides_time plan)) (cycle plan n) 0 0
of_pattern plan K23 n = five n (permissive_time plan n) (cycle plan n) 0 0
of_pattern plan f n = five n 0 0 0 0

-- of a phase in a pattern: both, and its split and what that has to hold
abbrev pub of_pattern_phase : Plan → RuleFault → ℕ → ℕ → Numbers
of_pattern_phase plan K18 n p = five n p (in_table (split_of plan n) (λ t. split_time plan t p)) (least_split plan p) 0
of_pattern_phase plan f n p = five n p 0 0 0

-- of two phases in a pattern: all three, and their sides or the ends of their splits
abbrev pub of_pattern_phases : Plan → RuleFault → ℕ → ℕ → ℕ → Numbers
of_pattern_phases plan K20Sides n p q = five n p q (side_of plan p) (side_of plan q)
of_pattern_phases plan K20Ends n p q = five n p q (end_in plan n p) (end_in plan n q)
of_pattern_phases plan f n p q = five n p q 0 0

-- the splits of ring r on side d of pattern n
abbrev pub sum_in : Plan → ℕ → ℕ → ℕ → ℕ
sum_in plan n r d = in_table (split_of plan n) (λ t. split_sum plan t r d)

-- of a side in a pattern: both, and the sums of the two rings
abbrev pub of_pattern_side : Plan → ℕ → ℕ → Numbers
of_pattern_side plan n d = five n d (sum_in plan n 1 d) (sum_in plan n 2 d) 0

-- of a ring in a pattern: both, and how many coordinated phases it has
abbrev pub of_pattern_ring : Plan → ℕ → ℕ → Numbers
of_pattern_ring plan n r = five n r (in_table (split_of plan n) (λ t. coordinated_count plan t r)) 0 0

-- of an overlap: its number, and how many modifier phases it has, its trailing yellow, or its type
abbrev pub of_overlap : Plan → RuleFault → ℕ → Numbers
of_overlap plan K28Turns o = five o (turns_of plan o) 0 0 0
of_overlap plan K29Yellow o = five o (trail_yellow plan o) 0 0 0
of_overlap plan f o = five o (plan.value OverlapType o) 0 0 0

-- of two events of a day plan: all three, and the hour and minute of the first
abbrev pub of_events : Plan → ℕ → ℕ → ℕ → Numbers
of_events plan d j k = five d j k (time_of plan d j / 60) (time_of plan d j % 60)

-- of a way to break a rule, at a place
abbrev pub at_place : Plan → RuleFault → Place → Numbers
at_place plan f at.Unit = five 0 0 0 0 0
at_place plan f (at.Phase p) = of_phase plan f p
at_place plan f (at.Phases p q) = of_phases plan f p q
at_place plan f (at.Listing s r k) = of_listing plan f s r k
at_place plan f (at.SequencePhase s r p) = five s r p 0 0
at_place plan f (at.Detector d) = five d (number_of (call_phase plan d)) 0 0 0
at_place plan f (at.PedestrianDetector d) = five d (number_of (pedestrian_call_phase plan d)) 0 0 0
at_place plan f (at.Overlap o) = of_overlap plan f o
at_place plan f (at.OverlapPhase o p) = five o p 0 0 0
at_place plan f (at.Preempt m) = five m 0 0 0 0
at_place plan f (at.PreemptPhase m p) = five m p 0 0 0
at_place plan f (at.PreemptPhases m p q) = five m p q 0 0
at_place plan f (at.Pattern n) = of_pattern plan f n
at_place plan f (at.PatternPhase n p) = of_pattern_phase plan f n p
at_place plan f (at.PatternPhases n p q) = of_pattern_phases plan f n p q
at_place plan f (at.PatternSide n d) = of_pattern_side plan n d
at_place plan f (at.PatternRing n r) = of_pattern_ring plan n r
at_place plan f (at.Entry e) = five e (day_plan_of plan e) 0 0 0
at_place plan f (at.DayEvent d k) = five d k (action_of plan d k) 0 0
at_place plan f (at.DayEvents d j k) = of_events plan d j k
at_place plan f (at.Action a) = five a (asked_by plan a) 0 0 0
at_place plan f place = five 0 0 0 0 0

-- of a breach
abbrev pub numbers_of : Plan → Breach → Numbers
numbers_of plan b = at_place plan b.fault b.place
