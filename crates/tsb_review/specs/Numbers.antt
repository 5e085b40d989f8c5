-- The numbers that the line of a finding shows, up to five, named `a` to `e`. Times are in tenths of a second.
use Rattle.std.specs.Prelude.{ℕ, Option, Some, None}
use Rattle.tsb_types.specs.Lists.{or_number}
use Rattle.tsb_plan.specs.Parts.{call_phase, detector_delay, detector_extend, maximum_presence, cycle, permissive_time, minimum_duration, preempt_maximum_presence, correction_limit}
use Rattle.tsb_plan.specs.declared.object.Object.TheVariants.{CoordCorrectionMode}
use Rattle.tsb_plan.specs.Plan.{Plan, walk, pedestrian_clear, minimum_green, maximum, passage, minimum_gap, time_before_reduction, red_clear, red_revert}
use Rattle.tsb_plan.specs.Running.{pattern_maximum}
use Rattle.tsb_review.specs.declared.advice.Advice.{Advice}
use Rattle.tsb_review.specs.declared.advice.Advice.TheVariants.{A4, A7, A8, A9, A10, A11, A12, A13, A14, A16, A18, A19, A20, A21, A25, A26, A27, A28, A30, A32, A35, A39, A42, A43, A47, A48, A49, A54, A56, A57, A58, A60}
use Rattle.tsb_review.specs.declared.finding.Finding.{Finding}
use Rattle.tsb_review.specs.declared.numbers.Numbers.{Numbers}
use Rattle.tsb_review.specs.declared.place.Place.{Place}
use Rattle.tsb_review.specs.declared.place.Place.TheVariants as at
use Rattle.tsb_review.specs.Service.{apart_from, rivalled, rival_of}
use Rattle.tsb_review.specs.Pedestrians.{pedestrian_time, rest_end}
use Rattle.tsb_review.specs.Splits.{green_of_split, passed_by, left_short, longest_permissive}
use Rattle.tsb_review.specs.Clearance.{reverting}
use Rattle.tsb_review.specs.Coordination.{spare_time, overrun, first_same}
use Rattle.tsb_review.specs.Detection.{cycle_of, tripping}
use Rattle.tsb_review.specs.Entry.{entry_count}
use Rattle.tsb_review.specs.Overlaps.{split_at, split_from, turn_of}
use Rattle.tsb_review.specs.Schedules.{open_date, open_month, open_weekday, pattern_at}

-- four numbers, and no fifth
abbrev pub four : ℕ → ℕ → ℕ → ℕ → Numbers
four a b c d = record { a = a; b = b; c = c; d = d; e = 0 }

-- a number of a phase or of a pattern, or a time, 0 where there is none
abbrev pub number_of : Option ℕ → ℕ
number_of n = or_number n 0

-- the red revert of a phase, 0 where there is none
abbrev pub revert_of : Plan → Option ℕ → ℕ
revert_of plan None = 0
revert_of plan (Some p) = red_revert plan p

-- a month, a day of it and a weekday on which no entry of the schedule holds
abbrev pub open_in : Plan → ℕ → ℕ → Numbers
open_in plan m d = four m d (number_of (open_weekday plan m d)) 0

-- the first such month, its first such day, and the first such weekday
abbrev pub open_numbers : Plan → Numbers
open_numbers plan = open_in plan (number_of (open_month plan)) (number_of (open_date plan (number_of (open_month plan))))

-- of the whole plan: the first phase of which it is so, and its red revert; or the mode and the limit by which local
-- counters come into step
abbrev pub of_unit : Plan → Advice → Numbers
of_unit plan A16 = four (number_of (reverting plan)) (revert_of plan (reverting plan)) 0 0
of_unit plan A47 = four (plan.value CoordCorrectionMode 1) (correction_limit plan) 0 0
of_unit plan A60 = open_numbers plan
of_unit plan x = four 0 0 0 0

-- of a phase: its number, and then times or phases
abbrev pub of_phase : Plan → Advice → ℕ → Numbers
of_phase plan A7 p = four p (number_of (rivalled plan)) (number_of (rival_of plan (rivalled plan))) 0
of_phase plan A8 p = four p (walk plan p) 0 0
of_phase plan A9 p = four p (walk plan p) 0 0
of_phase plan A10 p = four p (pedestrian_clear plan p) 0 0
of_phase plan A11 p = four p (walk plan p) 0 0
of_phase plan A13 p = four p (pedestrian_time plan p) (maximum plan p) 0
of_phase plan A18 p = four p (minimum_gap plan p) (passage plan p) 0
of_phase plan A19 p = four p (passage plan p) 0 0
of_phase plan A20 p = four p (time_before_reduction plan p) (maximum plan p) 0
of_phase plan A21 p = four p (minimum_green plan p) 0 0
of_phase plan A57 p = four p (red_clear plan p) 0 0
of_phase plan A58 p = four p (passage plan p) 0 0
of_phase plan x p = four p 0 0 0

-- of a vehicle detector: its number, a time, and the phase that it calls; or a time, a cycle and its pattern
abbrev pub of_detector : Plan → Advice → ℕ → Numbers
of_detector plan A25 d = four d (detector_delay plan d) (number_of (call_phase plan d)) 0
of_detector plan A26 d = four d (detector_extend plan d) (number_of (call_phase plan d)) 0
of_detector plan A48 d = four d 0 (number_of (call_phase plan d)) 0
of_detector plan A49 d = four d (maximum_presence plan d) (cycle_of plan (tripping plan d)) (number_of (tripping plan d))
of_detector plan x d = four d 0 0 0

-- of a phase in a pattern: the phase, times or another phase, and the pattern; of A43 then the longest permissive time
abbrev pub of_split : Plan → Advice → ℕ → ℕ → Numbers
of_split plan A4 n p = four p 0 (number_of (apart_from plan n p)) n
of_split plan A12 n p = four p (pedestrian_time plan p) (green_of_split plan n p) n
of_split plan A14 n p = four p (pedestrian_clear plan p) (number_of (passed_by plan n p (rest_end plan n p))) n
of_split plan A27 n p = four p (spare_time plan n p) 0 n
of_split plan A28 n p = four p 0 (number_of (passed_by plan n p (overrun plan n p))) n
of_split plan A42 n p = four p (number_of (pattern_maximum plan (Some n) p)) (green_of_split plan n p) n
of_split plan A43 n p = record {
  a = p;
  b = permissive_time plan n;
  c = number_of (left_short plan n p);
  d = n;
  e = longest_permissive plan n p;
}
of_split plan x n p = four p 0 0 n

-- of a ring on a side: both, and how many of its phases there have dual entry
abbrev pub of_ring_side : Plan → ℕ → ℕ → Numbers
of_ring_side plan r s = four r s (entry_count plan r s) 0

-- of a pattern: its number, and another pattern or times
abbrev pub of_pattern : Plan → Advice → ℕ → Numbers
of_pattern plan A30 n = four n (number_of (first_same plan n)) 0 0
of_pattern plan A32 n = four n (cycle plan n) 0 0
of_pattern plan A54 n = four n (permissive_time plan n) 0 0
of_pattern plan x n = four n 0 0 0

-- of a preempt: its number, and times
abbrev pub of_preempt : Plan → Advice → ℕ → Numbers
of_preempt plan A35 m = four m (minimum_duration plan m) (preempt_maximum_presence plan m) 0
of_preempt plan x m = four m 0 0 0

-- of an overlap: its number, and two phases
abbrev pub of_overlap : Plan → Advice → ℕ → Numbers
of_overlap plan A39 o = four o (number_of (split_at plan o)) (number_of (split_from plan o (split_at plan o))) 0
of_overlap plan x o = four o 0 0 0

-- of a phase in an overlap: both, and the through phase beside which the overlap is a right turn
abbrev pub of_overlap_phase : Plan → Advice → ℕ → ℕ → Numbers
of_overlap_phase plan A56 o p = four o p (number_of (turn_of plan o)) 0
of_overlap_phase plan x o p = four o p 0 0

-- of an advice for a place
abbrev pub at_place : Plan → Advice → Place → Numbers
at_place plan x at.Unit = of_unit plan x
at_place plan x (at.Phase p) = of_phase plan x p
at_place plan x (at.Phases p q) = four p q 0 0
at_place plan x (at.Detector d) = of_detector plan x d
at_place plan x (at.Ring r) = four r 0 0 0
at_place plan x (at.RingSide r s) = of_ring_side plan r s
at_place plan x (at.Pattern n) = of_pattern plan x n
at_place plan x (at.PatternPhase n p) = of_split plan x n p
at_place plan x (at.Preempt m) = of_preempt plan x m
at_place plan x (at.PreemptPhase m p) = four m p 0 0
at_place plan x (at.Overlap o) = of_overlap plan x o
at_place plan x (at.OverlapPhase o p) = of_overlap_phase plan x o p
at_place plan x (at.DayEvent d k) = four d k (pattern_at plan d k) 0
at_place plan x place = four 0 0 0 0

-- of a finding
abbrev pub numbers_of : Plan → Finding → Numbers
numbers_of plan f = at_place plan f.advice f.place
