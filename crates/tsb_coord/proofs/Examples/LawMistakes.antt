-- One-line mistakes that break the laws of force-off, each with an example in which the local counter is elsewhere once
-- the phase has cleared. In pattern 1 of the built-in plan of eight phases the local counter is the tick number, within
-- 800; phases 2 and 6 are coordinated, and their splits end at 400, that of phase 4 at 800.
use Rattle.std.specs.Prelude.{◌≡◌, ℕ, ◌+◌, ◌-◌, ◌%◌, true, Some, refl}
use Rattle.tsb_objects.specs.tsb_types.Lists.{run_from}
use Rattle.tsb_objects.specs.tsb_plan.Plan.{Plan, yellow_change, red_clear}
use Rattle.tsb_objects.specs.tsb_plan.Parts.{cycle}
use Rattle.tsb_objects.specs.tsb_plan.Quad.{quad}
use Rattle.tsb_objects.specs.tsb_rules.PatternRules.{split_sum, side_sum, split_end}
use Rattle.tsb_coord.specs.Coordinated.{local, residue_of_difference, end_of, force_off, is_at_force_off, asks_force_off}
use Rattle.tsb_coord.specs.Laws.{clear_of}

-- ## What the laws give

asks_coordinated : asks_force_off quad 760 (Some 1) 2 ≡ true
unfolding quad run_from split_sum side_sum split_end force_off
asks_coordinated = refl

ends_at_zero : local quad (clear_of quad 760 2) (Some 1) ≡ Some 0
unfolding quad
ends_at_zero = refl

is_at_other : is_at_force_off quad 360 (Some 1) 4 ≡ true
unfolding quad run_from split_sum side_sum split_end force_off
is_at_other = refl

ends_with_split : local quad (clear_of quad 360 4) (Some 1) ≡ Some 400
unfolding quad
ends_with_split = refl

split_ends : residue_of_difference (cycle quad 1) (end_of quad 1 4) (end_of quad 1 2) ≡ 400
unfolding quad run_from split_sum side_sum split_end
split_ends = refl

-- ## Instants are counted from the end of the phase's own split: phase 4 clears at 0, and its split ends at 400

abbrev pub instant_from_own : Plan → ℕ → ℕ → ℕ
instant_from_own plan n p =
    residue_of_difference (cycle plan n) (end_of plan n p) (end_of plan n p + yellow_change plan p + red_clear plan p)

clears_at_zero : local quad (clear_of quad (instant_from_own quad 1 4) 4) (Some 1) ≡ Some 0
unfolding quad run_from split_sum side_sum split_end
clears_at_zero = refl

-- ## The red clearance is left out: phase 2 clears at 10

abbrev pub instant_without_clearance : Plan → ℕ → ℕ → ℕ → ℕ
instant_without_clearance plan n c p =
    residue_of_difference (cycle plan n) (end_of plan n p) (end_of plan n c + yellow_change plan p)

clears_late : local quad (clear_of quad (instant_without_clearance quad 1 2 2) 2) (Some 1) ≡ Some 10
unfolding quad run_from split_sum side_sum split_end
clears_late = refl

-- ## The yellow change is left out: phase 2 clears at 30

abbrev pub instant_without_yellow : Plan → ℕ → ℕ → ℕ → ℕ
instant_without_yellow plan n c p =
    residue_of_difference (cycle plan n) (end_of plan n p) (end_of plan n c + red_clear plan p)

clears_later : local quad (clear_of quad (instant_without_yellow quad 1 2 2) 2) (Some 1) ≡ Some 30
unfolding quad run_from split_sum side_sum split_end
clears_later = refl

-- ## Instants are counted from the begin of side 1: phase 2 clears at 400

abbrev pub instant_from_begin : Plan → ℕ → ℕ → ℕ
instant_from_begin plan n p = residue_of_difference (cycle plan n) (end_of plan n p) (yellow_change plan p + red_clear plan p)

clears_at_end : local quad (clear_of quad (instant_from_begin quad 1 2) 2) (Some 1) ≡ Some 400
unfolding quad run_from split_sum side_sum split_end
clears_at_end = refl

-- ## A difference below 0 counts as 0: phase 2 clears at 40

abbrev pub instant_cut_off : Plan → ℕ → ℕ → ℕ → ℕ
instant_cut_off plan n c p = (end_of plan n p - (end_of plan n c + yellow_change plan p + red_clear plan p)) % cycle plan n

clears_at_once : local quad (clear_of quad (instant_cut_off quad 1 2 2) 2) (Some 1) ≡ Some 40
unfolding quad run_from split_sum side_sum split_end
clears_at_once = refl
